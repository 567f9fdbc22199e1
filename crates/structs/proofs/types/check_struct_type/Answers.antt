use native.Mathlib.Omega.{arith}
use mathlib.Core.Bool.{true}
use mathlib.Core.Path.{◌∙◌, ◌≡◌, ap}
use lib.Dec.{eqb}
use lib.ListN.{get_or}
use Rattle.cursor.proofs.CharLaws.{found_here, lost_here}
use Rattle.cursor.specs.Cursor.{cursor_at, moved_by}
use Rattle.cursor.specs.inner.Chars.{consumed_of}
use Rattle.cursor.specs.declared.ParserCursor.{ParserCursor}
use Rattle.strings.proofs.Wholes.{none_here}
use Rattle.structs.specs.Structs.{struct_type_of}
use Rattle.structs.proofs.types.check_struct_type.Goals as goal

pub in_parens-requires : goal.in_parens-requires
in_parens-requires c =
    let opened : (c.consume_char-opened.result.cursor ≡ moved_by 1 (cursor_at 0)) × (eqb (get_or c.args.s.now 0 0) 0x28 ≡ true) = let s = c.args.s.now in
    found_here s (cursor_at 0) 0x28 (omega arith) c.consume_char-opened.result (c.consume_char-opened.ensures ∙ ap (λ (k : ParserCursor). consumed_of s k 0x28) c.at.ensures) c.if-opened.true in
    (ap (λ (k : ParserCursor). k.cursor) (opened).0, none_here c.args.s.now 0 0x28 (omega arith) (opened).1)

pub returns-then-opened : goal.returns-then-opened
unfolding struct_type_of
returns-then-opened c =
    let opened : (c.consume_char-opened.result.cursor ≡ moved_by 1 (cursor_at 0)) × (eqb (get_or c.args.s.now 0 0) 0x28 ≡ true) = let s = c.args.s.now in
    found_here s (cursor_at 0) 0x28 (omega arith) c.consume_char-opened.result (c.consume_char-opened.ensures ∙ ap (λ (k : ParserCursor). consumed_of s k 0x28) c.at.ensures) c.if-opened.true in
    simp (c.in-NoParensMeanUnit.is, (opened).1) c.in_parens.ensures

pub returns-else-opened : goal.returns-else-opened
unfolding struct_type_of
returns-else-opened c = simp (c.in-NoParensMeanUnit.is, lost_here c.args.s.now (cursor_at 0) 0x28 (omega arith) c.consume_char-opened.result (c.consume_char-opened.ensures ∙ ap (λ (k : ParserCursor). consumed_of c.args.s.now k 0x28) c.at.ensures) c.if-opened.false)

pub returns-in-InsideNewtype : goal.returns-in-InsideNewtype
unfolding struct_type_of
returns-in-InsideNewtype c = simp c.in-InsideNewtype.is c.in_newtype.ensures
