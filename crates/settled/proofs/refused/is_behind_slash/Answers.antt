use mathlib.Core.Bool.{not}
use mathlib.Core.Path.{◌∙◌, ap, sym}
use borrow.Author.Tests.{eq-eqb, ne_eqb}
use Rattle.settled.proofs.CodeLaws.{slash_by, slash_not}
use Rattle.settled.proofs.refused.is_behind_slash.Goals as goal

pub returns-then-refused-ne5 : goal.returns-then-refused-ne5
returns-then-refused-ne5 c = sym (slash_not c.args.s.now c.args.refused c.if-refused-ne5.true)

pub returns-then-peek-eq47 : goal.returns-then-peek-eq47
returns-then-peek-eq47 c = sym (slash_by c.args.s.now c.args.refused _ _ c.if-refused-ne5.false c.saturating_sub-last.ensures c.peek.ensures ∙ ap not (eq-eqb _ _ c.if-peek-eq47.true))

pub returns : goal.returns
returns c = sym (slash_by c.args.s.now c.args.refused _ _ c.if-refused-ne5.false c.saturating_sub-last.ensures c.peek.ensures ∙ ap not (ne_eqb _ _ c.if-peek-eq47.false))
