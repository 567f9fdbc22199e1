-- Plain names at the front of a part, as the code asks for them. Assumes nothing.
use Prim.Native.Nat.{ℕ, ◌+◌, ◌-◌, ◌<◌, ◌≤◌}
use native.Mathlib.Omega.{arith}
use mathlib.Core.Bool.{false, true, cond, not, ◌&&◌}
use mathlib.Core.List.{List, [], ◌∷◌}
use mathlib.Core.Path.{◌≡◌, ap, sym, ◌∙◌}
use lib.Dec.{eqb}
use borrow.Author.Tests.{ne_eqb}
use lib.ListN.{get_or-eq_default, drop, get_or, length, take}
use Rattle.names.specs.Classify.{begins_float}
use Rattle.reading.specs.Owed.{quiet_byte}
use Rattle.text.proofs.Choices.{or_false}
use Rattle.text.proofs.Lists.{tail_part}
use Rattle.text.proofs.RunLaws.{run_more}
use Rattle.text.proofs.WordLaws.{starts_other}
use Rattle.text.proofs.ClassLaws.{below}
use Rattle.text.specs.Classes.{ascii_first, ascii_next, letter}
use Rattle.text.specs.Runs.{run}
use Rattle.text.specs.Words.{starts_with}
use Rattle.plain_names.specs.inner.PlainNames.{plain_name}
use Rattle.plain_names.proofs.NameRuns.{first_next}

-- below the letters no name begins
pub below_letters : (c : ℕ) → c < 0x41 → ascii_first c ≡ false
unfolding ascii_first letter
below_letters c h = rw (below 0x41 0x5a c h, below 0x61 0x7a c (omega arith), ne_eqb c 0x5f (λ e. omega arith))

-- where no first character of a name stands
pub not_first : (s : List ℕ) → ascii_first (get_or s 0 0) ≡ false → plain_name s ≡ 0
unfolding plain_name
not_first s isn = rw isn

-- the run behind the first byte, as a part
pub run_behind : (s : List ℕ) (n : ℕ) → 0 < length s → ascii_first (get_or s 0 0) ≡ true → n ≡ run ascii_next (take (length s - 1) (drop 1 s)) → run ascii_next s ≡ 1 + n
run_behind s n h is e = run_more ascii_next s 0 h (first_next (get_or s 0 0) is) ∙ sym (ap (λ (k : ℕ). 1 + k) (e ∙ ap (run ascii_next) (tail_part s 1)))

-- and where one does, by the run behind it
pub from_first : (s : List ℕ) (n : ℕ) → 0 < length s → ascii_first (get_or s 0 0) ≡ true → n ≡ run ascii_next (take (length s - 1) (drop 1 s))
    → plain_name s ≡ cond (quiet_byte (get_or s (1 + n) 0) && not (begins_float s)) (1 + n) 0
unfolding plain_name
from_first s n h is e = rw (is, run_behind s n h is e)

-- nothing quiet stands behind the end
pub none_behind : (s : List ℕ) (end : ℕ) → length s ≤ end → quiet_byte (get_or s end 0) ≡ false
unfolding quiet_byte
none_behind s end h = rw (get_or-eq_default s 0 {n = end} h)

-- ---- `inf` and `NaN`, by the first byte

pub float_i : (s : List ℕ) → get_or s 0 0 ≡ 0x69 → begins_float s ≡ starts_with (0x69 ∷ 0x6e ∷ 0x66 ∷ []) s
unfolding begins_float
float_i s e = rw (starts_other 0x4e (0x61 ∷ 0x4e ∷ []) s (rw e)) (or_false (starts_with (0x69 ∷ 0x6e ∷ 0x66 ∷ []) s))

pub float_n : (s : List ℕ) → get_or s 0 0 ≡ 0x4e → begins_float s ≡ starts_with (0x4e ∷ 0x61 ∷ 0x4e ∷ []) s
unfolding begins_float
float_n s e = rw (starts_other 0x69 (0x6e ∷ 0x66 ∷ []) s (rw e))

pub no_float : (s : List ℕ) → eqb (get_or s 0 0) 0x69 ≡ false → eqb (get_or s 0 0) 0x4e ≡ false → begins_float s ≡ false
unfolding begins_float
no_float s i n = rw (starts_other 0x69 (0x6e ∷ 0x66 ∷ []) s i, starts_other 0x4e (0x61 ∷ 0x4e ∷ []) s n)
