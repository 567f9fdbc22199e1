use Rattle.std.proofs.Common.{Err}
use native.Mathlib.Omega.{arith}
use mathlib.Core.Path.{◌∙◌, ap, sym}
use Rattle.attributes.proofs.StepLaws.{gap_fits, skip_by, skip_out}
use Rattle.comments.specs.declared.gap.Gap.TheVariants.{Clear, InLine, Refused as NoGap}
use Rattle.attributes.proofs.steps.skip_ws.Goals as goal

pub returns-then-s-at : goal.returns-then-s-at
returns-then-s-at c = skip_out c.args.s.now c.args.at c.if-s-at.true

pub overflow_add-next : goal.overflow_add-next
overflow_add-next c = omega (arith, gap_fits c.args.s.now c.args.at (Clear _) (sym c.in-Clear.is ∙ c.skip_gap-gap.ensures))

pub overflow_add-end : goal.overflow_add-end
overflow_add-end c = omega (arith, gap_fits c.args.s.now c.args.at (InLine _) (sym c.in-InLine.is ∙ c.skip_gap-gap.ensures))

pub placed_behind-requires : goal.placed_behind-requires
placed_behind-requires c = omega (arith, gap_fits c.args.s.now c.args.at (NoGap _) (sym c.in-Refused.is ∙ c.skip_gap-gap.ensures))

pub returns-in-Clear : goal.returns-in-Clear
returns-in-Clear c = skip_by c.args.s.now c.args.at (Clear _) (sym c.in-Clear.is ∙ c.skip_gap-gap.ensures)

pub returns-in-InLine : goal.returns-in-InLine
returns-in-InLine c = skip_by c.args.s.now c.args.at (InLine _) (sym c.in-InLine.is ∙ c.skip_gap-gap.ensures)

pub returns-in-Refused : goal.returns-in-Refused
returns-in-Refused c = ap Err c.placed_behind.ensures ∙ skip_by c.args.s.now c.args.at (NoGap _) (sym c.in-Refused.is ∙ c.skip_gap-gap.ensures)
