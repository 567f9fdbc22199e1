use mathlib.Core.Path.{◌∙◌}
use Rattle.opened.proofs.BegunLaws.{read_comment, read_string, read_other}
use Rattle.opened.proofs.begun.read_begun.Goals as goal

pub returns-then-number-eq-UNCLOSED_BLOCK_COMMENT : goal.returns-then-number-eq-UNCLOSED_BLOCK_COMMENT
returns-then-number-eq-UNCLOSED_BLOCK_COMMENT c = c.begun_from.ensures ∙ read_comment c.args.text.now c.args.number _ c.reached.ensures c.if-number-eq-UNCLOSED_BLOCK_COMMENT.true

pub returns-then-number-eq-EXPECTED_STRING_END : goal.returns-then-number-eq-EXPECTED_STRING_END
returns-then-number-eq-EXPECTED_STRING_END c = c.begun_from-then-number-eq-EXPECTED_STRING_END.ensures ∙ read_string c.args.text.now c.args.number _ c.reached-then-number-eq-EXPECTED_STRING_END.ensures c.if-number-eq-UNCLOSED_BLOCK_COMMENT.false c.if-number-eq-EXPECTED_STRING_END.true

pub returns : goal.returns
returns c = read_other c.args.text.now c.args.number c.if-number-eq-UNCLOSED_BLOCK_COMMENT.false c.if-number-eq-EXPECTED_STRING_END.false
