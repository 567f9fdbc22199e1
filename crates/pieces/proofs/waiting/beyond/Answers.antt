use native.Mathlib.Omega.{arith}
use mathlib.Core.Path.{sym}
use lib.Seq.{length-take-le}
use Rattle.settled.specs.Bytes.{stops_byte}
use Rattle.pieces.proofs.StopLaws.{behind_bounds}
use Rattle.pieces.proofs.WaitLaws.{beyond_here, beyond_idle, beyond_later, beyond_none, beyond_open, beyond_refused, token_fits}
use Rattle.pieces.proofs.waiting.beyond.Goals as goal

pub returns-then-end-from : goal.returns-then-end-from
returns-then-end-from c = beyond_idle c.args.part.now c.args.from c.behind_stops-end.result c.behind_stops-end.ensures c.requires.0 c.if-end-from.true

pub slice_bounds-next_token-end : goal.slice_bounds-next_token-end
slice_bounds-next_token-end c = sym (length-take-le c.behind_stops-end.result c.args.part.now (omega (arith, c.behind_stops-end.ensures, (behind_bounds stops_byte c.args.part.now c.args.from c.requires.0).1)))

pub overflow_add-reach : goal.overflow_add-reach
overflow_add-reach c = omega (arith, token_fits c.args.part.now c.args.from c.behind_stops-end.result c.next_token-found.result c.behind_stops-end.ensures c.next_token-found.ensures c.in-Token.g c.in-Token.l c.in-Token.is c.requires.0, c.requires.1)

pub returns-then-from-reach : goal.returns-then-from-reach
returns-then-from-reach c = beyond_later c.args.part.now c.args.from c.behind_stops-end.result c.next_token-found.result c.behind_stops-end.ensures c.next_token-found.ensures c.in-Token.g c.in-Token.l c.in-Token.is c.if-from-reach.true

pub returns-then-refusal-eq-EXPECTED_STRING_END : goal.returns-then-refusal-eq-EXPECTED_STRING_END
returns-then-refusal-eq-EXPECTED_STRING_END c = beyond_open c.args.part.now c.args.from c.behind_stops-end.result c.next_token-found.result c.behind_stops-end.ensures c.next_token-found.ensures c.in-Refused.refusal c.in-Refused.is c.if-refusal-eq-EXPECTED_STRING_END.true

pub returns-else-from-reach : goal.returns-else-from-reach
returns-else-from-reach c = beyond_here c.args.part.now c.args.from c.behind_stops-end.result c.next_token-found.result c.behind_stops-end.ensures c.next_token-found.ensures c.in-Token.g c.in-Token.l c.in-Token.is c.if-from-reach.false

pub returns-in-End : goal.returns-in-End
returns-in-End c = beyond_none c.args.part.now c.args.from c.behind_stops-end.result c.next_token-found.result c.behind_stops-end.ensures c.next_token-found.ensures c.in-End.is

pub returns-else-refusal-eq-EXPECTED_STRING_END : goal.returns-else-refusal-eq-EXPECTED_STRING_END
returns-else-refusal-eq-EXPECTED_STRING_END c = beyond_refused c.args.part.now c.args.from c.behind_stops-end.result c.next_token-found.result c.behind_stops-end.ensures c.next_token-found.ensures c.in-Refused.refusal c.in-Refused.is c.if-refusal-eq-EXPECTED_STRING_END.false
