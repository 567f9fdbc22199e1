-- The answer of a walk.
use Rattle.std.specs.Prelude.{ℕ, List, [], ◌∷◌, ◌++◌}
use Rattle.lines.specs.Ascii.{ascii}
use Rattle.lines.specs.Decimal.{word_of}

-- A word for each number.
unfoldable pub words_text : List ℕ → List ℕ
words_text [] = []
words_text (n ∷ s) = word_of n ++ words_text s

-- One word for each link.
unfoldable pub links_text : List ℕ → List ℕ
links_text s = ascii "ok" ++ words_text s
