use Rattle.opened.proofs.BracketLaws.{closes_round, closes_square, closes_curly, closes_none}
use Rattle.opened.proofs.brackets.closes_other.Goals as goal

pub returns-then-kind-eq-CLOSE_PAREN : goal.returns-then-kind-eq-CLOSE_PAREN
returns-then-kind-eq-CLOSE_PAREN c = closes_round c.args.opening c.args.kind c.if-kind-eq-CLOSE_PAREN.true

pub returns-then-kind-eq-CLOSE_BRACKET : goal.returns-then-kind-eq-CLOSE_BRACKET
returns-then-kind-eq-CLOSE_BRACKET c = closes_square c.args.opening c.args.kind c.if-kind-eq-CLOSE_PAREN.false c.if-kind-eq-CLOSE_BRACKET.true

pub returns-then-kind-eq-CLOSE_BRACE : goal.returns-then-kind-eq-CLOSE_BRACE
returns-then-kind-eq-CLOSE_BRACE c = closes_curly c.args.opening c.args.kind c.if-kind-eq-CLOSE_PAREN.false c.if-kind-eq-CLOSE_BRACKET.false c.if-kind-eq-CLOSE_BRACE.true

pub returns : goal.returns
returns c = closes_none c.args.opening c.args.kind c.if-kind-eq-CLOSE_PAREN.false c.if-kind-eq-CLOSE_BRACKET.false c.if-kind-eq-CLOSE_BRACE.false
