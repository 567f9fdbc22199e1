use Prim.Native.Nat.{ℕ, ◌-◌}
use native.Mathlib.Omega.{arith}
use mathlib.Core.Path.{◌≡◌, sym, ap, ◌∙◌}
use lib.ListN.{take, drop}
use Rattle.lines.proofs.Laws.{part_within}
use Rattle.lines.proofs.part.Goals as goal

pub returns-then-a-to : goal.returns-then-a-to
returns-then-a-to c = part_within _ _ c.args.e _ c.least-to.ensures

pub returns : goal.returns
returns c =
    let a : ℕ = c.args.a in
    let none : c.least-to.result - a ≡ 0 = omega arith in
    ap (λ (n : ℕ). take n (drop a c.args.s.now)) (sym none) ∙ part_within _ _ c.args.e _ c.least-to.ensures
