use Rattle.std.proofs.Common.{Ok}
use mathlib.Core.Path.{◌∙◌, ap, sym}
use Rattle.cursor.proofs.CharLaws.{lost_kept, found_taken}
use Rattle.cursor.specs.declared.chars.Consumed.{Consumed}
use Rattle.cursor.proofs.ParserCursor.expect_char.Goals as goal

pub returns-then-got : goal.returns-then-got
returns-then-got c = ap (λ (x : Consumed). Ok x.cursor) c.consume_char-got.ensures ∙ sym (found_taken c.args.text.now c.args.self c.args.c c.args.refusal (ap (λ (x : Consumed). x.found) (sym c.consume_char-got.ensures) ∙ c.if-got.true))

pub returns : goal.returns
returns c = sym (lost_kept c.args.text.now c.args.self c.args.c c.args.refusal (ap (λ (x : Consumed). x.found) (sym c.consume_char-got.ensures) ∙ c.if-got.false))
