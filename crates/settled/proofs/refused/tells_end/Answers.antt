use mathlib.Core.Path.{sym}
use Rattle.settled.proofs.CodeLaws.{ends_4, ends_6, ends_17, ends_not}
use Rattle.settled.proofs.refused.tells_end.Goals as goal

pub returns-then-refused-eq-UNCLOSED_BLOCK_COMMENT : goal.returns-then-refused-eq-UNCLOSED_BLOCK_COMMENT
returns-then-refused-eq-UNCLOSED_BLOCK_COMMENT c = sym (ends_4 c.args.refused c.if-refused-eq-UNCLOSED_BLOCK_COMMENT.true)

pub returns-then-refused-eq-EOF : goal.returns-then-refused-eq-EOF
returns-then-refused-eq-EOF c = sym (ends_6 c.args.refused c.if-refused-eq-EOF.true)

pub returns-then-refused-eq-EXPECTED_STRING_END : goal.returns-then-refused-eq-EXPECTED_STRING_END
returns-then-refused-eq-EXPECTED_STRING_END c = sym (ends_17 c.args.refused c.if-refused-eq-EXPECTED_STRING_END.true)

pub returns : goal.returns
returns c = sym (ends_not c.args.refused c.if-refused-eq-UNCLOSED_BLOCK_COMMENT.false c.if-refused-eq-EOF.false c.if-refused-eq-EXPECTED_STRING_END.false)
