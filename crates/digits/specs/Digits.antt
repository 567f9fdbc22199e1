-- Digit runs (document 01, module 5): "For each digit: multiply (10 on overflow), judge the digit (9), add or, after a minus, subtract (10)."
-- The limit is the largest magnitude that the width holds, on the side of 0 where the number lies.
use Rattle.std.specs.Prelude.{ℕ, ◌+◌, ◌*◌, List, [], ◌∷◌, cond, ltb, leb, eqb}
unfoldable pub use Rattle.hexes.specs.Hex.{hex_of}
use Rattle.digits.specs.declared.up.Turned.{Turned}
use Rattle.digits.specs.declared.up.Turned.TheVariants as turned
use Rattle.digits.specs.declared.Run.{Run}
use Rattle.digits.specs.declared.Run.TheVariants.{Value, Empty, Underscore, NotDigit, Over}

-- One character: an underscore leaves the magnitude; a digit is multiplied in, judged, and added, in this order.
unfoldable pub turn_of : (limit base acc c : ℕ) → Turned ℕ
turn_of limit base acc c =
    cond (eqb c 0x5f) (turned.Next acc)
    (cond (ltb limit (acc * base)) turned.Over
    (cond (leb base (hex_of c)) turned.NotDigit
    (cond (ltb limit (acc * base + hex_of c)) turned.Over
    (turned.Next (acc * base + hex_of c)))))

-- What a run answers whose character at the place `at` does this, where the rest answers `rest` from the next magnitude on.
abbrev pub on_turn : (at : ℕ) → Turned ℕ → (ℕ → Run) → Run
on_turn at (turned.Next acc) rest = rest acc
on_turn at turned.Over rest = Over
on_turn at turned.NotDigit rest = NotDigit at

-- What the digits from the place `at` on answer, behind digits whose magnitude is `acc`.
unfoldable pub digits_from : (limit base acc at : ℕ) → List ℕ → Run
digits_from limit base acc at [] = Value acc
digits_from limit base acc at (c ∷ cs) =
    on_turn at (turn_of limit base acc c) (λ (next : ℕ). digits_from limit base next (at + 1) cs)

-- What the digits of a whole run answer.
abbrev pub digits_of : (limit base : ℕ) → List ℕ → Run
digits_of limit base run = digits_from limit base 0 0 run

-- What a run answers: nothing is no integer (7), and an underscore may not stand in front (8).
unfoldable pub run_of : (limit base : ℕ) → List ℕ → Run
run_of limit base [] = Empty
run_of limit base (c ∷ cs) = cond (eqb c 0x5f) Underscore (digits_of limit base (c ∷ cs))
