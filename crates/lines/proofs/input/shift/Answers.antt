use Prim.Native.Nat.{ℕ, ◌+◌, ◌-◌}
use native.Mathlib.Omega.{arith}
use mathlib.Core.List.{List}
use mathlib.Core.Path.{◌≡◌, refl, ap, ◌∙◌}
use lib.ListN.{get_or, take, drop, set}
use borrow.Author.Rules.{rules}
use Rattle.lines.specs.Over.{over}
use Rattle.lines.proofs.Laws.{shift_more}
use Rattle.lines.proofs.input.shift.Goals as goal

pub loop-i-init : goal.loop-i-init
unfolding over
loop-i-init c = (search rules, refl, refl)

pub loop-i-preserved : goal.loop-i-preserved
loop-i-preserved c =
    let d : List ℕ = c.args.buf.now in
    let from : ℕ = c.args.from in
    let i : ℕ = c.loop-i.i in (
      search rules,
      search rules,
      ap (λ (l : List ℕ). set l i (get_or l (from + i) 0)) c.loop-i.invariant.2 ∙ shift_more d from i (omega arith),
    )

pub returns : goal.returns
returns c =
    let d : List ℕ = c.args.buf.now in
    let all : c.loop-i.i ≡ c.args.to - c.args.from = omega arith in
    c.loop-i.invariant.2 ∙ ap (λ (k : ℕ). over (take k (drop c.args.from d)) d) all
