-- Short integers, which a typed read takes without the general reader: one to nineteen decimal digits, behind them a quiet byte or the end, and a value that the width
-- holds.
-- That the general reader reads them as the same number is proved in proofs/ShortIntegers.antt.
use Rattle.std.specs.Prelude.{ℕ, min, List, Bool, true, false, cond, ◌&&◌, take, get_or, eqb, ltb, leb}
use Rattle.text.specs.Classes.{digit}
use Rattle.text.specs.Runs.{run}
use Rattle.digits.specs.Value.{value_of}
use Rattle.integers.specs.Width.{limit_at}
use Rattle.reading.specs.Owed.{quiet_byte}
use Rattle.plain_numbers.specs.declared.short.Digits.{Digits}
use Rattle.plain_numbers.specs.declared.short.Short.{Short}
use Rattle.plain_numbers.specs.declared.short.Short.TheVariants.{Value, Other}

-- Nineteen digits fit 64 bits.
abbrev pub most : ℕ
most = 19

-- The digits at the front, but no more than these, and their value.
unfoldable pub digits_of : List ℕ → Digits
digits_of s = record { len = min (run digit s) most; value = value_of 10 (take (min (run digit s) most) s) }

-- A short integer may end before it: a quiet byte, or 0, which also stands past the end.
unfoldable pub ends_short : ℕ → Bool
ends_short c = cond (eqb c 0) true (quiet_byte c)

-- So many digits of this value at the front of s, in the width of a number.
abbrev pub short_by : ℕ → List ℕ → Digits → Short
short_by code s d = cond (ltb 0 d.len && (ends_short (get_or s d.len 0) && leb d.value (limit_at code false))) (Value d.value d.len) Other

-- The short integer at the front of a part.
unfoldable pub short_of : ℕ → List ℕ → Short
short_of code s = short_by code s (digits_of s)
