-- Integers (document 01, module 5): "A suffix is skipped after a refusal, but not after 8 or 9. Without a suffix, the first of u8, u16, u32, u64 that fits;
-- after a minus, of i8 to i64; a refusal is the one at 64 bits. A typed read answers the value and the place behind it; with another suffix it is 27".
use Rattle.std.specs.Prelude.{Ok, Err, ℕ, ◌+◌, List, Bool, false, cond, not, length, take, drop, eqb}
use Rattle.text.specs.Refusals.{Told, placed_behind, eof, expected_integer, underscore_at_beginning, invalid_integer_digit, integer_out_of_bounds}
use Rattle.text.specs.Classes.{int_char}
use Rattle.text.specs.Runs.{run}
use Rattle.digits.specs.Digits.{run_of}
use Rattle.digits.specs.declared.Run.{Run}
use Rattle.digits.specs.declared.Run.TheVariants.{Value, Empty, Underscore, NotDigit, Over}
use Rattle.integers.specs.declared.ident.Found.{Found}
use Rattle.integers.specs.declared.front.Front.{Front}
use Rattle.integers.specs.declared.width.Width.{Width}
use Rattle.integers.specs.declared.integer.Value.{Value as Number}
use Rattle.integers.specs.declared.integer.Integer.{Integer}
use Rattle.integers.specs.declared.integer.Integer.TheVariants as integer
use Rattle.integers.specs.Width.{code_of, width_at, limit_at, widest, first_fit, suffix_of}
use Rattle.integers.specs.Front.{front_of}

-- The suffix's width, or without one the width that is asked for.
abbrev pub chosen_of : (found asked : ℕ) → ℕ
chosen_of found asked = cond (eqb found 0) asked found

-- What a run answers with its suffix, whose end is `end`: a suffix is skipped after a refusal, but not after 8 or 9.
abbrev pub behind_run : (found end : ℕ) → Run → Told (ℕ × ℕ × ℕ)
behind_run found end (Value v) = Ok (v, found, end)
behind_run found end Empty = Err (expected_integer end)
behind_run found end Underscore = Err (underscore_at_beginning 0)
behind_run found end (NotDigit at) = Err (invalid_integer_digit at)
behind_run found end Over = Err (integer_out_of_bounds end)

-- The run and the suffix behind it.
abbrev pub with_suffix : (asked : ℕ) (minus : Bool) (base : ℕ) → (part : List ℕ) → Found → Told (ℕ × ℕ × ℕ)
with_suffix asked minus base part f = behind_run f.code (length part + f.end) (run_of (limit_at (chosen_of f.code asked) minus) base part)

-- The integer characters at the front of a part, and what is behind them.
abbrev pub split_at : (asked : ℕ) (minus : Bool) (base n : ℕ) → List ℕ → Told (ℕ × ℕ × ℕ)
split_at asked minus base n t = with_suffix asked minus base (take n t) (suffix_of (drop n t))

-- Digits and suffix, read at the width `asked`.
unfoldable pub numeral_of : (asked : ℕ) (minus : Bool) (base : ℕ) → List ℕ → Told (ℕ × ℕ × ℕ)
numeral_of asked minus base t = split_at asked minus base (run int_char t) t

-- A suffix that names another width than the one asked for.
abbrev pub other_suffix : (found asked : ℕ) → Bool
other_suffix found asked = cond (eqb found 0) false (not (eqb found asked))

-- The number that was read: 0 has no minus.
abbrev pub number_read : (minus : Bool) (magnitude : ℕ) → Number
number_read minus m = record { minus = cond (eqb m 0) false minus; magnitude = m }

-- What a typed read answers, `at` bytes behind the front of the part.
abbrev pub typed_as : (asked : ℕ) (minus : Bool) (at : ℕ) → Told (ℕ × ℕ × ℕ) → Integer
typed_as asked minus at (Ok (v, found, end)) =
    cond (other_suffix found asked) integer.OtherSuffix (integer.Read (number_read minus v) (at + end))
typed_as asked minus at (Err r) = integer.Refused (placed_behind at r)

-- A typed read behind sign and prefix.
abbrev pub typed_behind : (asked : ℕ) → Front → List ℕ → Integer
typed_behind asked g t = typed_as asked g.minus g.end (numeral_of asked g.minus g.base t)

-- A typed read of what is no byte literal; 6 at the end of the text.
unfoldable pub typed_of : Width → List ℕ → Integer
typed_of width s =
    cond (eqb (length s) 0) (integer.Refused (eof 0)) (typed_behind (code_of width) (front_of s) (drop (front_of s).end s))

-- The suffix's width, or without one the first that fits.
abbrev pub width_for : (found : ℕ) (minus : Bool) (magnitude : ℕ) → Width
width_for found minus m = cond (eqb found 0) (first_fit minus m) (width_at found)

-- What a read of any width answers, `at` bytes behind the front of the part.
abbrev pub any_as : (minus : Bool) (at : ℕ) → Told (ℕ × ℕ × ℕ) → Told (Width × ℕ)
any_as minus at (Ok (v, found, end)) = Ok (width_for found minus v, at + end)
any_as minus at (Err r) = Err (placed_behind at r)

-- A read of any width behind sign and prefix: a refusal is the one at 64 bits.
abbrev pub any_behind : Front → List ℕ → Told (Width × ℕ)
any_behind g t = any_as g.minus g.end (numeral_of (widest g.minus) g.minus g.base t)

-- A read of any width.
unfoldable pub any_of : List ℕ → Told (Width × ℕ)
any_of s = cond (eqb (length s) 0) (Err (eof 0)) (any_behind (front_of s) (drop (front_of s).end s))
