-- The number of an answer's refusal: what tells refusals apart. Assumes nothing.
use Rattle.std.proofs.Common.{Ok, Err}
use Prim.Native.Nat.{ℕ}
use Rattle.text.specs.Refusals.{Told}

-- 0 where there is none
abbrev pub number_in : {A : Type 0} → Told A → ℕ
number_in (Ok a) = 0
number_in (Err r) = r.number
