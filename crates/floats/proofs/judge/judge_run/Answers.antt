use native.Mathlib.Omega.{arith}
use mathlib.Core.Path.{◌∙◌, sym}
use Rattle.floats.proofs.Laws.{judged_fine, judged_misplaced, judged_unfit, strip_end, strip_more, well_end, well_more, well_out}
use Rattle.floats.proofs.judge.judge_run.Goals as goal

pub returns-then-is_misplaced : goal.returns-then-is_misplaced
returns-then-is_misplaced c = let e = well_out c.args.part.now c.loop-i.i c.loop-i.may c.loop-i-test.true (sym c.is_misplaced.ensures ∙ c.if-is_misplaced.true) in judged_misplaced c.args.part.now c.loop-i.i c.loop-i-test.true (omega (arith, c.loop-i.invariant.0))

pub loop-i-preserved : goal.loop-i-preserved
loop-i-preserved c = let e = well_more c.args.part.now c.loop-i.i c.loop-i.may c.loop-i-test.true (sym c.is_misplaced.ensures ∙ c.if-is_misplaced.false) in (rw c.may_follow-may.ensures (omega (arith, c.loop-i.invariant.0)), rw c.advance-st.ensures (sym (strip_more c.args.part.now c.loop-i.i c.loop-i.st c.loop-i-test.true) ∙ c.loop-i.invariant.1))

pub returns-then-is_final : goal.returns-then-is_final
returns-then-is_final c = let e = well_end c.args.part.now c.loop-i.i c.loop-i.may c.loop-i-test.false in judged_fine c.args.part.now (omega (arith, c.loop-i.invariant.0, c.loop-i-test.false)) (sym c.loop-i.invariant.1 ∙ strip_end c.args.part.now c.loop-i.i c.loop-i.st c.loop-i-test.false ∙ sym c.is_final.ensures ∙ c.if-is_final.true)

pub returns : goal.returns
returns c = let e = well_end c.args.part.now c.loop-i.i c.loop-i.may c.loop-i-test.false in judged_unfit c.args.part.now (omega (arith, c.loop-i.invariant.0, c.loop-i-test.false)) (sym c.loop-i.invariant.1 ∙ strip_end c.args.part.now c.loop-i.i c.loop-i.st c.loop-i-test.false ∙ sym c.is_final.ensures ∙ c.if-is_final.false)
