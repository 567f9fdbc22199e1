use mathlib.Core.Path.{ap}
use lib.IntN.{pos}
use lib.Ieee.{Float, binary64, of_int, div, neg}
use Rattle.quotients.specs.Quotient.{quotient_of}
use Rattle.quotients.proofs.quotient.quotient.Goals as goal

pub returns-then-minus : goal.returns-then-minus
unfolding quotient_of
returns-then-minus c = rw c.if-minus.true (ap (λ (x : Float). neg (div binary64 (of_int binary64 (pos c.args.m)) x)) c.power_of_ten.ensures)

pub returns : goal.returns
unfolding quotient_of
returns c = rw c.if-minus.false (ap (λ (x : Float). div binary64 (of_int binary64 (pos c.args.m)) x) c.power_of_ten.ensures)
