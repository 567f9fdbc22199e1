use Rattle.pieces.proofs.OrderLaws.{buffer_over, buffer_holds}
use mathlib.Core.Path.{sym, ◌∙◌}
use Rattle.pieces.proofs.order.fits.Goals as goal

pub returns-then-not-in_order : goal.returns-then-not-in_order
returns-then-not-in_order c = simp (sym c.in_order.ensures ∙ c.if-not-in_order.true)

pub returns-then-buffer-a : goal.returns-then-buffer-a
returns-then-buffer-a c = simp (sym c.in_order.ensures ∙ c.if-not-in_order.false, buffer_over c.args.a.kept c.args.n c.args.buffer c.if-buffer-a.true)

pub returns : goal.returns
returns c = buffer_holds c.args.a.kept c.args.n c.args.buffer c.if-buffer-a.false ∙ sym (simp (sym c.in_order.ensures ∙ c.if-not-in_order.false))
