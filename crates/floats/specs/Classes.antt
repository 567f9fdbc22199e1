-- The bytes that a float is made of (document 01, module 1): "Float characters: digits, `e E . + - _`."
use Rattle.std.specs.Prelude.{ℕ, List, Bool, cond, not, ◌||◌, eqb}
use Rattle.text.specs.Classes.{float_char}
use Rattle.text.specs.Runs.{run2}

-- A sign.
abbrev pub sign : ℕ → Bool
sign c = eqb c 0x2b || eqb c 0x2d

-- A point.
abbrev pub point : ℕ → Bool
point c = eqb c 0x2e

-- The e before an exponent.
abbrev pub scale : ℕ → Bool
scale c = eqb c 0x65 || eqb c 0x45

-- A float goes on with a, before b: two points in a row belong to no float.
unfoldable pub float_goes : (a b : ℕ) → Bool
float_goes a b = cond (point a) (not (point b)) (float_char a)

-- How many float characters a part begins with, up to two points in a row.
abbrev pub float_run : List ℕ → ℕ
float_run s = run2 float_goes s
