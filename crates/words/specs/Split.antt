-- The words of a line stand between single spaces.
use Rattle.std.specs.Prelude.{ℕ, ◌+◌, List, take, drop}
use Rattle.lines.specs.Find.{find_of}

-- The first word: it ends at a space, or with the last byte.
abbrev pub first_word : List ℕ → List ℕ
first_word s = take (find_of 32 s) s

-- The words behind the first, without the space between.
abbrev pub behind_word : List ℕ → List ℕ
behind_word s = drop (find_of 32 s + 1) s
