use Rattle.std.proofs.lemmas.Result.{err_from_is_err_and}
use Rattle.std.proofs.Common.{Ok, Err}
use Rattle.text.specs.Refusals.{Told}
use Rattle.cursor.specs.declared.ParserCursor.{ParserCursor}
use mathlib.Core.Path.{◌∙◌, ◌≡◌, ap, sym}
use Rattle.cursor.specs.inner.Chars.{expected_of}
use Rattle.strings.proofs.CursorLaws.{byte_closing, byte_closed}
use Rattle.strings.specs.Chars.{byte_ends}
use Rattle.strings.proofs.chars.byte_ends.Goals as goal

pub returns : goal.returns
returns c =
    let ends : (x : Told ParserCursor) → c.expect_char.result ≡ x → byte_closing c.args.byte x ≡ byte_ends c.args.s.now c.args.cursor.cursor c.args.byte = λ x e. ap (byte_closing c.args.byte) (sym e ∙ c.expect_char.ensures ∙ ap (expected_of c.args.s.now c.args.cursor 0x27) c.expected_byte_literal.ensures)
    ∙ byte_closed c.args.s.now c.args.cursor c.args.byte in
    ends (Ok _) c.in_ok-behind.was

pub returns-in_err-behind : goal.returns-in_err-behind
returns-in_err-behind c =
    let ends : (x : Told ParserCursor) → c.expect_char.result ≡ x → byte_closing c.args.byte x ≡ byte_ends c.args.s.now c.args.cursor.cursor c.args.byte = λ x e. ap (byte_closing c.args.byte) (sym e ∙ c.expect_char.ensures ∙ ap (expected_of c.args.s.now c.args.cursor 0x27) c.expected_byte_literal.ensures)
    ∙ byte_closed c.args.s.now c.args.cursor c.args.byte in
    let p = err_from_is_err_and c.from_residual.result c.from_residual.ensures.1 in
    p.1 ∙ ap Err p.2 ∙ ends (Err _) c.in_err-behind.was
