use mathlib.Core.Path.{◌∙◌, ap, sym}
use Rattle.tokens.proofs.RonLaws.{gap_end, gap_token}
use Rattle.tokens.specs.Ron.{by_gap, ron_token}
use Rattle.tokens.proofs.following.next_token.Goals as goal

pub returns-then-g-s : goal.returns-then-g-s
unfolding ron_token
returns-then-g-s c = c.behind_gap.ensures ∙ sym (ap (by_gap _) (sym c.skip_gap-gap.ensures ∙ c.in-Clear.is) ∙ gap_token _ _ c.if-g-s.true)

pub returns-else-g-s : goal.returns-else-g-s
unfolding ron_token
returns-else-g-s c = sym (ap (by_gap _) (sym c.skip_gap-gap.ensures ∙ c.in-Clear.is) ∙ gap_end c.args.s.now _ c.if-g-s.false)

pub returns-in-InLine : goal.returns-in-InLine
unfolding ron_token
returns-in-InLine c = sym (ap (by_gap _) (sym c.skip_gap-gap.ensures ∙ c.in-InLine.is))

pub returns-in-Refused : goal.returns-in-Refused
unfolding ron_token
returns-in-Refused c = sym (ap (by_gap _) (sym c.skip_gap-gap.ensures ∙ c.in-Refused.is))
