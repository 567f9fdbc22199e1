use mathlib.Core.Bool.{false, true}
use Rattle.attributes.proofs.ListLaws.{other_out}
use Rattle.attributes.specs.List.{other_char}
use Rattle.text.specs.Ahead.{next_ahead}
use Rattle.text.proofs.Lists.{on_part}
use Rattle.attributes.proofs.list.check_other_char.Goals as goal

pub returns-then-t-at : goal.returns-then-t-at
returns-then-t-at c = other_out c.args.t.now c.args.at c.if-t-at.true

pub returns-then-is_next_ahead : goal.returns-then-is_next_ahead
unfolding other_char
returns-then-is_next_ahead c = rw (on_part next_ahead c.args.t.now c.args.at _ true c.is_next_ahead.ensures c.if-is_next_ahead.true)

pub returns : goal.returns
unfolding other_char
returns c = rw (on_part next_ahead c.args.t.now c.args.at _ false c.is_next_ahead.ensures c.if-is_next_ahead.false)
