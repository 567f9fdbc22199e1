-- The answer of a list of integers (CR 7): `ok MAGNITUDE CODE;MAGNITUDE CODE;..`.
use Rattle.std.specs.Prelude.{ℕ, List, [], ◌∷◌, ◌++◌}
use Rattle.lines.specs.Ascii.{ascii}
use Rattle.lines.specs.Decimal.{decimal, word_of}

-- A magnitude and its code behind a separator.
unfoldable pub coded_text : ℕ → ℕ → ℕ → List ℕ
coded_text between magnitude code = between ∷ decimal magnitude ++ word_of code

-- One for each integer, the first behind a given separator and the others behind `;`, as far as both lists go.
unfoldable pub codeds_text : ℕ → List ℕ → List ℕ → List ℕ
codeds_text between [] codes = []
codeds_text between (m ∷ ms) [] = []
codeds_text between (m ∷ ms) (c ∷ cs) = coded_text between m c ++ codeds_text 59 ms cs

-- The answer: the magnitudes and codes of all.
unfoldable pub many_text : List ℕ → List ℕ → List ℕ
many_text magnitudes codes = ascii "ok" ++ codeds_text 32 magnitudes codes
