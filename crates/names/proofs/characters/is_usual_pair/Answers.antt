use mathlib.Core.Path.{◌∙◌, sym}
use Rattle.names.proofs.NearLaws.{pair_above, pair_below, pair_high, pair_is, pair_low}
use Rattle.names.proofs.characters.is_usual_pair.Goals as goal

pub returns-then-a-lt195 : goal.returns-then-a-lt195
returns-then-a-lt195 c = sym (pair_below c.args.a c.args.b c.if-a-lt195.true)

pub returns-then-a-gt210 : goal.returns-then-a-gt210
returns-then-a-gt210 c = sym (pair_above c.args.a c.args.b c.if-a-gt210.true)

pub returns-then-b-lt128 : goal.returns-then-b-lt128
returns-then-b-lt128 c = sym (pair_low c.args.a c.args.b c.if-b-lt128.true)

pub returns-then-b-gt191 : goal.returns-then-b-gt191
returns-then-b-gt191 c = sym (pair_high c.args.a c.args.b c.if-b-gt191.true)

pub returns : goal.returns
returns c = c.is_usual.ensures ∙ sym (pair_is c.args.a c.args.b c.if-a-lt195.false c.if-a-gt210.false c.if-b-lt128.false c.if-b-gt191.false)
