use Prim.Native.Nat.{◌-◌}
use native.Mathlib.Omega.{arith}
use mathlib.Core.Path.{◌≡◌, ◌∙◌, sym, ap}
use Rattle.places.specs.Lines.{line_start}
use Rattle.places.proofs.LineLaws.{start_zero, start_here, start_back}
use Rattle.places.proofs.line.line_start.Goals as goal

pub returns-then-peek-eq10 : goal.returns-then-peek-eq10
returns-then-peek-eq10 c = sym (start_here c.args.s.now c.loop-before.before (c.loop-before.before - 1) (omega arith) (sym c.peek.ensures ∙ c.if-peek-eq10.true)) ∙ c.loop-before.invariant

pub loop-before-preserved : goal.loop-before-preserved
loop-before-preserved c = sym (start_back c.args.s.now c.loop-before.before (c.loop-before.before - 1) (omega arith) (λ e. c.if-peek-eq10.false (c.peek.ensures ∙ e))) ∙ c.loop-before.invariant

pub returns : goal.returns
returns c =
    let z : c.loop-before.before ≡ 0 = omega arith in
    sym (ap (line_start c.args.s.now) z ∙ start_zero c.args.s.now) ∙ c.loop-before.invariant
