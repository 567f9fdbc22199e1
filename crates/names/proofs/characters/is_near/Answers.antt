use mathlib.Core.Path.{◌∙◌, sym}
use Rattle.names.proofs.NearLaws.{near_below, near_wide}
use Rattle.names.proofs.characters.is_near.Goals as goal

pub returns-then-c-lt128 : goal.returns-then-c-lt128
returns-then-c-lt128 c = c.is_ascii_char.ensures ∙ sym (near_below c.args.class c.args.c c.if-c-lt128.true)

pub returns : goal.returns
returns c = c.is_usual.ensures ∙ sym (near_wide c.args.class c.args.c c.if-c-lt128.false)
