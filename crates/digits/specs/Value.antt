-- When a digit run reads (document 01, demand 2), said plainly and without the order of the refusals: only digits below the base and underscores, and a
-- value that fits.
use Rattle.std.specs.Prelude.{ℕ, ◌+◌, ◌*◌, ◌≤◌, ◌<◌, List, [], ◌∷◌, cond, ◌⊎◌, ◌≡◌, length, get_or, take, eqb}
use Rattle.digits.specs.Digits.{hex_of, turn_of}
use Rattle.digits.specs.declared.up.Turned.{Turned}

-- One character's part in the value: an underscore leaves it, a digit is one place more.
abbrev pub digit_step : (base acc c : ℕ) → ℕ
digit_step base acc c = cond (eqb c 0x5f) acc (acc * base + hex_of c)

-- The value of a run behind digits whose value is `acc`.
unfoldable pub value_from : (base acc : ℕ) → List ℕ → ℕ
value_from base acc [] = acc
value_from base acc (c ∷ cs) = value_from base (digit_step base acc c) cs

-- The value of a run, its underscores left out.
abbrev pub value_of : (base : ℕ) → List ℕ → ℕ
value_of base run = value_from base 0 run

-- An underscore, or a digit below the base.
abbrev pub Fit : (base c : ℕ) → Type 0
Fit base c = (c ≡ 0x5f) ⊎ (hex_of c < base)

-- The digits read as `v`: only digits below the base and underscores, and a value that is `v` and within the limit.
pub record ReadsFrom (limit base acc : ℕ) (run : List ℕ) (v : ℕ) : Type 0 where
  pub only : (i : ℕ) → i < length run → Fit base (get_or run i 0)
  pub value : value_from base acc run ≡ v
  pub fits : v ≤ limit

-- The digits are refused at the character `i`: those before it read, and this one does not.
pub record StopsAt (limit base acc : ℕ) (run : List ℕ) (t : Turned ℕ) (i : ℕ) : Type 0 where
  pub inside : i < length run
  pub before : ReadsFrom limit base acc (take i run) (value_from base acc (take i run))
  pub turn : turn_of limit base (value_from base acc (take i run)) (get_or run i 0) ≡ t
