use lib.ListN.{length}
use Rattle.words.specs.Number.{decimal_of}
use Rattle.words.specs.Split.{first_word}
use Rattle.words.proofs.DecidedLaws.{said}
use Rattle.arrivals.proofs.AnyLaws.{any_bad, any_good}
use Rattle.arrivals.proofs.arrive_any.answer.Goals as goal

pub returns-in_default : goal.returns-in_default
returns-in_default c = any_bad c.args.words.now (length c.args.text.now) (length c.args.tape.now) (c.args.o.now, c.args.at) _ (said decimal_of _ (first_word c.args.words.now) _ _ c.decimal_of.ensures c.word.ensures c.in_default.is) c.bad.ensures

pub returns : goal.returns
returns c = any_good c.args.words.now (length c.args.text.now) (length c.args.tape.now) (c.args.o.now, c.args.at) _ c.in-Some.numbers (said decimal_of _ (first_word c.args.words.now) _ _ c.decimal_of.ensures c.word.ensures c.in-Some.is) _ c.behind.ensures c.over_state.ensures
