-- After a minus (document 01): "one signed and one unsigned accumulator". The signed one holds the negative of the magnitude.
use Rattle.std.specs.Prelude.{ℕ, ℤ, pos, neg_ℤ}
use Rattle.digits.specs.declared.up.Turned.{Turned}
use Rattle.digits.specs.declared.up.Turned.TheVariants.{Next, Over, NotDigit}

-- The magnitude's turn, as the negative number's.
abbrev pub down_of : Turned ℕ → Turned ℤ
down_of (Next n) = Next (neg_ℤ (pos n))
down_of Over = Over
down_of NotDigit = NotDigit
