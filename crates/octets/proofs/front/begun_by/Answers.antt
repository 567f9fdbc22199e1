use native.Mathlib.Omega.{arith}
use mathlib.Core.Path.{sym, ◌∙◌}
use Rattle.octets.proofs.BegunLaws.{begun_two, begun_low, begun_high, begun_of_three, begun_of_four, begun_one}
use Rattle.octets.proofs.front.begun_by.Goals as goal

pub returns-then-is_within : goal.returns-then-is_within
returns-then-is_within c = sym (begun_two c.args.a c.args.b c.args.c (sym c.is_within.ensures ∙ c.if-is_within.true))

pub returns-then-a-lt224 : goal.returns-then-a-lt224
returns-then-a-lt224 c = sym (begun_low c.args.a c.args.b c.args.c (sym c.is_within.ensures ∙ c.if-is_within.false) c.if-a-lt224.true)

pub returns-then-a-gt244 : goal.returns-then-a-gt244
returns-then-a-gt244 c = sym (begun_high c.args.a c.args.b c.args.c c.if-a-gt244.true)

pub returns-then-a-lt240 : goal.returns-then-a-lt240
returns-then-a-lt240 c = sym (begun_of_three c.args.a c.args.b c.args.c (omega arith) (sym c.is_second.ensures ∙ c.if-is_second.true))

pub returns-then-is_within-2 : goal.returns-then-is_within-2
returns-then-is_within-2 c = sym (begun_of_four c.args.a c.args.b c.args.c (omega arith) (sym c.is_second.ensures ∙ c.if-is_second.true) ∙ rw (sym c.is_within-then-is_second.ensures ∙ c.if-is_within-2.true))

pub returns-then-is_second : goal.returns-then-is_second
returns-then-is_second c = sym (begun_of_four c.args.a c.args.b c.args.c (omega arith) (sym c.is_second.ensures ∙ c.if-is_second.true) ∙ rw (sym c.is_within-then-is_second.ensures ∙ c.if-is_within-2.false))

pub returns : goal.returns
returns c = sym (begun_one c.args.a c.args.b c.args.c (omega arith) (sym c.is_second.ensures ∙ c.if-is_second.false))
