use Prim.Native.Nat.{ℕ, ◌-◌, ◌^◌, ◌≤◌}
use native.Mathlib.Omega.{arith}
use mathlib.Core.Path.{◌≡◌, sym, ap, ap₂, ◌∙◌, subst}
use lib.Dec.{T, lit≤}
use lib.IntN.{pos}
use lib.Ieee.{binary64, in_float, of_int, mul}
use Rattle.quotients.proofs.Exact.{in-float, power_small, product}
use Rattle.quotients.proofs.quotient.power_of_ten.Goals as goal

-- a power that was counted casts exactly
cast : (n k : ℕ) → n ≡ 10 ^ k → k ≤ 15 → T (in_float binary64 (pos n))
cast n k e h = in-float n (subst (λ (x : ℕ). x ≤ 2 ^ 53) (sym e) (power_small k h))

pub int_to_float-result : goal.int_to_float-result
int_to_float-result c = cast c.pow-whole.result c.args.k c.pow-whole.ensures (omega arith)

pub returns : goal.returns
returns c =
    ap₂ (λ (a b : ℕ). mul binary64 (of_int binary64 (pos a)) (of_int binary64 (pos b))) c.pow-low.ensures c.pow-high.ensures
    ∙ product 15 (c.args.k - 15) (lit≤ tt) (omega (arith, c.requires))
    ∙ ap (λ (n : ℕ). of_int binary64 (pos (10 ^ n))) (omega arith)
