-- A choice between two answers of which the same holds. Assumes nothing.
use mathlib.Core.Bool.{Bool, true, false, cond}

pub both : {A : Type 0} (P : A → Type 0) (t : Bool) {x y : A} → P x → P y → P (cond t x y)
both P true a b = a
both P false a b = b
