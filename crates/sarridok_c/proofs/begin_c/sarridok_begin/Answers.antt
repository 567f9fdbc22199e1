use Rattle.sarridok_c.proofs.ArrivedLaws.{begin_done, begin_none}
use Rattle.sarridok_c.proofs.begin_c.sarridok_begin.Goals as goal

pub returns-then-state-lt-NUMBERS : goal.returns-then-state-lt-NUMBERS
returns-then-state-lt-NUMBERS c = begin_none c.args.state.now c.if-state-lt-NUMBERS.true _ c.no_room.ensures _ c.refused.ensures

pub returns : goal.returns
returns c = begin_done c.args.state.now _ c.begin.ensures c.if-state-lt-NUMBERS.false _ c.store.ensures
