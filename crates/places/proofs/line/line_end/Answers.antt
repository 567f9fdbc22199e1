use mathlib.Core.Path.{◌∙◌, sym}
use Rattle.places.proofs.LineLaws.{end_zero, end_cr, end_other}
use Rattle.places.proofs.line.line_end.Goals as goal

pub returns-then-e-eq0 : goal.returns-then-e-eq0
returns-then-e-eq0 c = end_zero c.args.s.now c.args.place c.feed_from-e.result c.feed_from-e.ensures c.if-e-eq0.true

pub returns-then-peek-eq13 : goal.returns-then-peek-eq13
returns-then-peek-eq13 c = end_cr c.args.s.now c.args.place c.feed_from-e.result c.feed_from-e.ensures (sym c.peek.ensures ∙ c.if-peek-eq13.true)

pub returns : goal.returns
returns c = end_other c.args.s.now c.args.place c.feed_from-e.result c.feed_from-e.ensures (λ e. c.if-peek-eq13.false (c.peek.ensures ∙ e))
