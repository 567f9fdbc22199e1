use native.Mathlib.Omega.{arith}
use mathlib.Core.Path.{◌∙◌, ap, sym}
use Rattle.settled.proofs.CodeLaws.{clear_within, settles_clear, settles_line, settles_refused}
use Rattle.settled.specs.Settled.{spoilt_for}
use Rattle.text.proofs.Lists.{tail_part}
use Rattle.settled.proofs.refused.settles.Goals as goal

pub slice_bounds-is_spoilt-count : goal.slice_bounds-is_spoilt-count
slice_bounds-is_spoilt-count c = omega (arith, clear_within c.args.s.now _ (sym c.skip_gap-gap.ensures ∙ c.in-Clear.is))

pub slice_bounds-is_spoilt-start : goal.slice_bounds-is_spoilt-start
slice_bounds-is_spoilt-start c = omega (arith, clear_within c.args.s.now _ (sym c.skip_gap-gap.ensures ∙ c.in-Clear.is))

pub returns-in-Clear : goal.returns-in-Clear
returns-in-Clear c = c.is_spoilt.ensures ∙ ap spoilt_for (tail_part c.args.s.now _) ∙ sym (settles_clear c.args.s.now _ (sym c.skip_gap-gap.ensures ∙ c.in-Clear.is))

pub returns-in-InLine : goal.returns-in-InLine
returns-in-InLine c = sym (settles_line c.args.s.now _ (sym c.skip_gap-gap.ensures ∙ c.in-InLine.is))

pub returns-in-Refused : goal.returns-in-Refused
returns-in-Refused c = c.is_behind_slash.ensures ∙ sym (settles_refused c.args.s.now _ (sym c.skip_gap-gap.ensures ∙ c.in-Refused.is))
