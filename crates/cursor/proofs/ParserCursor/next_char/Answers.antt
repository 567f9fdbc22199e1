use Prim.Native.Nat.{ℕ}
use Rattle.cursor.specs.declared.ParserCursor.{ParserCursor}
use Rattle.std.proofs.Common.{Ok, Err}
use mathlib.Core.Path.{◌∙◌, ap, sym}
use lib.ListN.{get_or}
use borrow.Author.Rules.{rules}
use Rattle.cursor.proofs.CharLaws.{next_ascii, next_end}
use Rattle.cursor.proofs.ParserCursor.next_char.Goals as goal

pub returns-then-text-at : goal.returns-then-text-at
returns-then-text-at c = ap Err c.eof.ensures ∙ sym (next_end c.args.text.now c.args.self c.if-text-at.true)

pub returns-then-first-lt128 : goal.returns-then-first-lt128
returns-then-first-lt128 c = ap (λ (y : ParserCursor). Ok (get_or c.args.text.now c.args.self.cursor 0, y)) c.advance_bytes.ensures ∙ sym (next_ascii c.args.text.now c.args.self (search rules) c.if-first-lt128.true)
