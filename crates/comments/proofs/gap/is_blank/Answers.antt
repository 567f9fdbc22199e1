use mathlib.Core.Path.{◌∙◌, sym}
use borrow.Author.Tests.{eq-eqb, ne_eqb}
use Rattle.text.proofs.Choices.{or_false, or_true}
use Rattle.text.specs.Classes.{blank1}
use Rattle.comments.proofs.gap.is_blank.Goals as goal

pub returns-then-b-eq32 : goal.returns-then-b-eq32
unfolding blank1
returns-then-b-eq32 c = simp (eq-eqb _ _ c.if-b-eq32.true, or_true)

pub returns : goal.returns
unfolding blank1
returns c = c.is_within.ensures ∙ sym (simp (ne_eqb _ _ c.if-b-eq32.false, or_false))
