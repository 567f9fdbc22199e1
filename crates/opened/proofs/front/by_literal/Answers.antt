use Rattle.opened.proofs.FrontLaws.{literal_read, literal_open, literal_none}
use Rattle.opened.proofs.front.by_literal.Goals as goal

pub returns-then-r-eq-EXPECTED_STRING_END : goal.returns-then-r-eq-EXPECTED_STRING_END
returns-then-r-eq-EXPECTED_STRING_END c = literal_open c.args.s.now _ _ c.in-Err.is c.if-r-eq-EXPECTED_STRING_END.true _ c.find_quote.ensures

pub returns-in-Ok : goal.returns-in-Ok
returns-in-Ok c = literal_read c.args.s.now _ _ c.in-Ok.is

pub returns-else-r-eq-EXPECTED_STRING_END : goal.returns-else-r-eq-EXPECTED_STRING_END
returns-else-r-eq-EXPECTED_STRING_END c = literal_none c.args.s.now _ _ c.in-Err.is c.if-r-eq-EXPECTED_STRING_END.false
