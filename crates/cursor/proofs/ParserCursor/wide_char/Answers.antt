use Rattle.cursor.specs.declared.ParserCursor.{ParserCursor}
use Rattle.std.proofs.Common.{Ok}
use Prim.Native.Nat.{ℕ}
use native.Mathlib.Omega.{arith}
use mathlib.Core.Path.{◌∙◌, ap, sym, ap₂}
use borrow.Author.Rules.{rules}
use Rattle.cursor.proofs.CharLaws.{next_here}
use Rattle.cursor.specs.Cursor.{moved_by}
use Rattle.text.proofs.Lists.{tail_part}
use Rattle.text.proofs.Utf8Agree.{part_char}
use Rattle.text.specs.Utf8.{code_of}
use Rattle.cursor.proofs.ParserCursor.wide_char.Goals as goal

pub advance_bytes-requires : goal.advance_bytes-requires
advance_bytes-requires c = omega (arith, (part_char c.args.text.now c.args.self.cursor _ c.char_len-bytes.ensures).1)

pub returns : goal.returns
returns c =
    let text = c.args.text.now in
    let own = c.args.self in
    ap₂ (λ (x : ℕ) (y : ParserCursor). Ok (x, y)) (c.code_point.ensures ∙ ap code_of (tail_part text own.cursor))
    (c.advance_bytes.ensures ∙ ap (λ (n : ℕ). moved_by n own) (sym (part_char text own.cursor _ c.char_len-bytes.ensures).0))
    ∙ sym (next_here text own (search rules))
