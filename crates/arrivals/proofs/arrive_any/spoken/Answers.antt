use mathlib.Core.Path.{sym, ◌∙◌}
use Rattle.arrivals.proofs.AnyLaws.{no_numbers, not_nine, nine_said}
use Rattle.arrivals.proofs.arrive_any.spoken.Goals as goal

pub returns-in_default : goal.returns-in_default
returns-in_default c = no_numbers c.args.word.now c.args.kept c.args.tape.now (sym c.numbers.ensures.value ∙ c.in_default.is)

pub returns-then-numbers-ne9 : goal.returns-then-numbers-ne9
returns-then-numbers-ne9 c = not_nine c.args.word.now c.args.kept c.args.tape.now c.in-Some.n (sym c.numbers.ensures.value ∙ c.in-Some.is) _ _ c.numbers.ensures.tape_after c.first-numbers.ensures c.if-numbers-ne9.true

pub returns : goal.returns
returns c = nine_said c.args.word.now c.args.kept c.args.tape.now c.in-Some.n (sym c.numbers.ensures.value ∙ c.in-Some.is) _ _ c.numbers.ensures.tape_after c.first-numbers.ensures c.if-numbers-ne9.false _ c.state_of.ensures
