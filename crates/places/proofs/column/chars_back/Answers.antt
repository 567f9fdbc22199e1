use Prim.Native.Nat.{ℕ, ◌+◌, ◌-◌}
use native.Mathlib.Omega.{arith}
use mathlib.Core.Path.{◌≡◌, ◌∙◌, sym, ap}
use Rattle.places.specs.Columns.{chars_back, starts_char}
use Rattle.places.proofs.ColumnLaws.{back_zero, back_enough, back_here, back_char, back_tail}
use Rattle.places.proofs.column.chars_back.Goals as goal

pub returns-then-left-eq0 : goal.returns-then-left-eq0
returns-then-left-eq0 c = let z : c.loop-before.before - 1 + 1 ≡ c.loop-before.before = omega arith in z ∙ sym (back_enough c.args.s.now c.loop-before.before c.loop-before.left c.if-left-eq0.true) ∙ c.loop-before.invariant

pub returns-then-b-eq10 : goal.returns-then-b-eq10
returns-then-b-eq10 c = sym (back_here c.args.s.now c.loop-before.before (c.loop-before.before - 1) (omega arith) c.loop-before.left (sym c.peek-b.ensures ∙ c.if-b-eq10.true)) ∙ c.loop-before.invariant

pub loop-before-preserved-then-starts_char : goal.loop-before-preserved-then-starts_char
loop-before-preserved-then-starts_char c =
    sym (back_char c.args.s.now c.loop-before.before (c.loop-before.before - 1) (omega arith) c.loop-before.left (c.loop-before.left - 1) (omega arith) (λ e. c.if-b-eq10.false (c.peek-b.ensures ∙ e)) (ap starts_char (sym c.peek-b.ensures) ∙ sym c.starts_char.ensures ∙ c.if-starts_char.true)) ∙ c.loop-before.invariant

pub loop-before-preserved : goal.loop-before-preserved
loop-before-preserved c =
    sym (back_tail c.args.s.now c.loop-before.before (c.loop-before.before - 1) (omega arith) c.loop-before.left (c.loop-before.left - 1) (omega arith) (λ e. c.if-b-eq10.false (c.peek-b.ensures ∙ e)) (ap starts_char (sym c.peek-b.ensures) ∙ sym c.starts_char.ensures ∙ c.if-starts_char.false)) ∙ c.loop-before.invariant

pub returns : goal.returns
returns c =
    let z : c.loop-before.before ≡ 0 = omega arith in
    sym (ap (λ (k : ℕ). chars_back c.args.s.now k c.loop-before.left) z ∙ back_zero c.args.s.now c.loop-before.left) ∙ c.loop-before.invariant
