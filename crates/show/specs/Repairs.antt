-- The answer of a repair.
use Rattle.std.specs.Prelude.{ℕ, List, [], ◌∷◌, ◌++◌}
use Rattle.lines.specs.Ascii.{ascii}
use Rattle.lines.specs.Decimal.{decimal, word_of}
use Rattle.show.specs.Walks.{words_text}

-- How many entries there are now, and how many of them were kept before and behind.
unfoldable pub counts_text : ℕ → ℕ → ℕ → List ℕ
counts_text n before behind = ascii "ok" ++ word_of n ++ word_of before ++ word_of behind

-- Every number of a slice, the first behind `;`.
unfoldable pub numbers_text : List ℕ → List ℕ
numbers_text [] = []
numbers_text (n ∷ s) = 59 ∷ decimal n ++ words_text s
