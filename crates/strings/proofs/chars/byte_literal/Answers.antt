use Rattle.std.proofs.lemmas.Result.{err_from_is_err_and}
use Rattle.std.proofs.Common.{Ok, Err}
use Rattle.text.specs.Refusals.{Told, expected_byte_literal}
use Prim.Native.Nat.{◌+◌, ◌<◌, ◌≤◌, ℕ}
use native.Mathlib.Omega.{arith}
use mathlib.Core.Bool.{false, true}
use mathlib.Core.Path.{◌∙◌, ◌≡◌, ap, subst, sym}
use lib.Dec.{eqb}
use lib.ListN.{drop, get_or}
use borrow.Author.Tests.{not-false, not-true}
use Rattle.cursor.proofs.CharLaws.{found_here, lost_here}
use Rattle.cursor.specs.Cursor.{cursor_at, moved_by}
use Rattle.cursor.specs.declared.ParserCursor.{ParserCursor}
use Rattle.cursor.specs.inner.Chars.{consumed_of, next_of}
use Rattle.strings.proofs.CursorLaws.{Narrow, byte_marked, byte-next, byte_unnamed, byte_unquoted, byte_wide, byte_next, narrow, wide_inside}
use Rattle.strings.specs.Chars.{byte_of}
use Rattle.text.proofs.Utf8Agree.{part_char}
use Rattle.text.specs.Utf8.{char_len}
use Rattle.strings.proofs.chars.byte_literal.Goals as goal

pub returns-then-not-begun : goal.returns-then-not-begun
returns-then-not-begun c = c.no_byte.ensures ∙ byte_unnamed c.args.s.now (lost_here c.args.s.now (cursor_at 0) 0x62 (omega arith) c.consume_char-begun.result (c.consume_char-begun.ensures ∙ ap (λ (k : ParserCursor). consumed_of c.args.s.now k 0x62) c.at.ensures) (not-true _ c.if-not-begun.true))

pub returns-then-not-opened : goal.returns-then-not-opened
returns-then-not-opened c =
    let begun : (c.consume_char-begun.result.cursor ≡ moved_by 1 (cursor_at 0)) × (eqb (get_or c.args.s.now 0 0) 0x62 ≡ true) = let s = c.args.s.now in
    found_here s (cursor_at 0) 0x62 (omega arith) c.consume_char-begun.result (c.consume_char-begun.ensures ∙ ap (λ (k : ParserCursor). consumed_of s k 0x62) c.at.ensures) (not-false _ c.if-not-begun.false) in
    c.no_byte-then-not-opened.ensures ∙ byte_unquoted c.args.s.now (begun).1 (lost_here c.args.s.now (moved_by 1 (cursor_at 0)) 0x27 (omega arith) c.consume_char-opened.result (c.consume_char-opened.ensures ∙ ap (λ (k : ParserCursor). consumed_of c.args.s.now k 0x27) (begun).0) (not-true _ c.if-not-opened.true))

pub escaped_byte-requires : goal.escaped_byte-requires
escaped_byte-requires c =
    let begun : (c.consume_char-begun.result.cursor ≡ moved_by 1 (cursor_at 0)) × (eqb (get_or c.args.s.now 0 0) 0x62 ≡ true) = let s = c.args.s.now in
    found_here s (cursor_at 0) 0x62 (omega arith) c.consume_char-begun.result (c.consume_char-begun.ensures ∙ ap (λ (k : ParserCursor). consumed_of s k 0x62) c.at.ensures) (not-false _ c.if-not-begun.false) in
    let opened : (c.consume_char-opened.result.cursor ≡ moved_by 1 (moved_by 1 (cursor_at 0))) × (eqb (get_or c.args.s.now 1 0) 0x27 ≡ true) = let s = c.args.s.now in
    found_here s (moved_by 1 (cursor_at 0)) 0x27 (omega arith) c.consume_char-opened.result (c.consume_char-opened.ensures ∙ ap (λ (k : ParserCursor). consumed_of s k 0x27) (begun).0) (not-false _ c.if-not-opened.false) in
    let marked : (c.consume_char-mark.result.cursor ≡ moved_by 1 (moved_by 1 (moved_by 1 (cursor_at 0)))) × (eqb (get_or c.args.s.now 2 0) 0x5C ≡ true) = let s = c.args.s.now in
    found_here s (moved_by 1 (moved_by 1 (cursor_at 0))) 0x5C (omega arith) c.consume_char-mark.result (c.consume_char-mark.ensures ∙ ap (λ (k : ParserCursor). consumed_of s k 0x5C) (opened).0) c.if-mark.true in
    ap (λ (k : ParserCursor). k.cursor) (marked).0

pub returns-then-mark : goal.returns-then-mark
returns-then-mark c =
    let begun : (c.consume_char-begun.result.cursor ≡ moved_by 1 (cursor_at 0)) × (eqb (get_or c.args.s.now 0 0) 0x62 ≡ true) = let s = c.args.s.now in
    found_here s (cursor_at 0) 0x62 (omega arith) c.consume_char-begun.result (c.consume_char-begun.ensures ∙ ap (λ (k : ParserCursor). consumed_of s k 0x62) c.at.ensures) (not-false _ c.if-not-begun.false) in
    let opened : (c.consume_char-opened.result.cursor ≡ moved_by 1 (moved_by 1 (cursor_at 0))) × (eqb (get_or c.args.s.now 1 0) 0x27 ≡ true) = let s = c.args.s.now in
    found_here s (moved_by 1 (cursor_at 0)) 0x27 (omega arith) c.consume_char-opened.result (c.consume_char-opened.ensures ∙ ap (λ (k : ParserCursor). consumed_of s k 0x27) (begun).0) (not-false _ c.if-not-opened.false) in
    let marked : (c.consume_char-mark.result.cursor ≡ moved_by 1 (moved_by 1 (moved_by 1 (cursor_at 0)))) × (eqb (get_or c.args.s.now 2 0) 0x5C ≡ true) = let s = c.args.s.now in
    found_here s (moved_by 1 (moved_by 1 (cursor_at 0))) 0x5C (omega arith) c.consume_char-mark.result (c.consume_char-mark.ensures ∙ ap (λ (k : ParserCursor). consumed_of s k 0x5C) (opened).0) c.if-mark.true in
    c.escaped_byte.ensures ∙ byte_marked c.args.s.now (begun).1 (opened).1 (marked).1

pub overflow_add-at : goal.overflow_add-at
overflow_add-at c =
    let begun : (c.consume_char-begun.result.cursor ≡ moved_by 1 (cursor_at 0)) × (eqb (get_or c.args.s.now 0 0) 0x62 ≡ true) = let s = c.args.s.now in
    found_here s (cursor_at 0) 0x62 (omega arith) c.consume_char-begun.result (c.consume_char-begun.ensures ∙ ap (λ (k : ParserCursor). consumed_of s k 0x62) c.at.ensures) (not-false _ c.if-not-begun.false) in
    let opened : (c.consume_char-opened.result.cursor ≡ moved_by 1 (moved_by 1 (cursor_at 0))) × (eqb (get_or c.args.s.now 1 0) 0x27 ≡ true) = let s = c.args.s.now in
    found_here s (moved_by 1 (cursor_at 0)) 0x27 (omega arith) c.consume_char-opened.result (c.consume_char-opened.ensures ∙ ap (λ (k : ParserCursor). consumed_of s k 0x27) (begun).0) (not-false _ c.if-not-opened.false) in
    let place : c.consume_char-opened.result.cursor.cursor ≡ 2 = ap (λ (k : ParserCursor). k.cursor) (opened).0 in
    let peeked : c.peek.result ≡ get_or c.args.s.now 2 0 = c.peek.ensures ∙ ap (λ (n : ℕ). get_or c.args.s.now n 0) (place) in
    let wide : 0x80 ≤ get_or c.args.s.now 2 0 = omega (arith, c.if-peek-ge128.true, peeked) in
    omega (arith, (part_char c.args.s.now c.consume_char-opened.result.cursor.cursor _ c.char_len.ensures).1, place, wide_inside c.args.s.now (wide))

pub returns-then-peek-ge128 : goal.returns-then-peek-ge128
returns-then-peek-ge128 c =
    let begun : (c.consume_char-begun.result.cursor ≡ moved_by 1 (cursor_at 0)) × (eqb (get_or c.args.s.now 0 0) 0x62 ≡ true) = let s = c.args.s.now in
    found_here s (cursor_at 0) 0x62 (omega arith) c.consume_char-begun.result (c.consume_char-begun.ensures ∙ ap (λ (k : ParserCursor). consumed_of s k 0x62) c.at.ensures) (not-false _ c.if-not-begun.false) in
    let opened : (c.consume_char-opened.result.cursor ≡ moved_by 1 (moved_by 1 (cursor_at 0))) × (eqb (get_or c.args.s.now 1 0) 0x27 ≡ true) = let s = c.args.s.now in
    found_here s (moved_by 1 (cursor_at 0)) 0x27 (omega arith) c.consume_char-opened.result (c.consume_char-opened.ensures ∙ ap (λ (k : ParserCursor). consumed_of s k 0x27) (begun).0) (not-false _ c.if-not-opened.false) in
    let unmarked : eqb (get_or c.args.s.now 2 0) 0x5C ≡ false = let s = c.args.s.now in
    lost_here s (moved_by 1 (moved_by 1 (cursor_at 0))) 0x5C (omega arith) c.consume_char-mark.result (c.consume_char-mark.ensures ∙ ap (λ (k : ParserCursor). consumed_of s k 0x5C) (opened).0) c.if-mark.false in
    let place : c.consume_char-opened.result.cursor.cursor ≡ 2 = ap (λ (k : ParserCursor). k.cursor) (opened).0 in
    let peeked : c.peek.result ≡ get_or c.args.s.now 2 0 = c.peek.ensures ∙ ap (λ (n : ℕ). get_or c.args.s.now n 0) (place) in
    let wide : 0x80 ≤ get_or c.args.s.now 2 0 = omega (arith, c.if-peek-ge128.true, peeked) in
    let s = c.args.s.now in
    let at = c.consume_char-opened.result.cursor.cursor in
    c.no_byte-then-peek-ge128.ensures
    ∙ ap (λ (n : ℕ). Err (expected_byte_literal (at + n))) (sym (part_char s at _ c.char_len.ensures).0)
    ∙ ap (λ (n : ℕ). Err (expected_byte_literal (n + char_len (drop n s)))) (place)
    ∙ byte_wide s (begun).1 (opened).1 (unmarked) (wide)

pub overflow_cast-code : goal.overflow_cast-code
overflow_cast-code c =
    let begun : (c.consume_char-begun.result.cursor ≡ moved_by 1 (cursor_at 0)) × (eqb (get_or c.args.s.now 0 0) 0x62 ≡ true) = let s = c.args.s.now in
    found_here s (cursor_at 0) 0x62 (omega arith) c.consume_char-begun.result (c.consume_char-begun.ensures ∙ ap (λ (k : ParserCursor). consumed_of s k 0x62) c.at.ensures) (not-false _ c.if-not-begun.false) in
    let opened : (c.consume_char-opened.result.cursor ≡ moved_by 1 (moved_by 1 (cursor_at 0))) × (eqb (get_or c.args.s.now 1 0) 0x27 ≡ true) = let s = c.args.s.now in
    found_here s (moved_by 1 (cursor_at 0)) 0x27 (omega arith) c.consume_char-opened.result (c.consume_char-opened.ensures ∙ ap (λ (k : ParserCursor). consumed_of s k 0x27) (begun).0) (not-false _ c.if-not-opened.false) in
    let place : c.consume_char-opened.result.cursor.cursor ≡ 2 = ap (λ (k : ParserCursor). k.cursor) (opened).0 in
    let peeked : c.peek.result ≡ get_or c.args.s.now 2 0 = c.peek.ensures ∙ ap (λ (n : ℕ). get_or c.args.s.now n 0) (place) in
    let low : get_or c.args.s.now 2 0 < 0x80 = omega (arith, c.if-peek-ge128.false, peeked) in
    let read : c.next_char.result ≡ next_of c.args.s.now (moved_by 1 (moved_by 1 (cursor_at 0))) = c.next_char.ensures ∙ ap (next_of c.args.s.now) (opened).0 in
    let ascii : (x : Told (ℕ × ParserCursor)) → c.next_char.result ≡ x → Narrow x = λ x e. subst Narrow (sym (read) ∙ e) (narrow c.args.s.now (low)) in
    omega (arith, ascii (Ok (_, _)) c.in_ok-code.was)

pub returns : goal.returns
returns c =
    let begun : (c.consume_char-begun.result.cursor ≡ moved_by 1 (cursor_at 0)) × (eqb (get_or c.args.s.now 0 0) 0x62 ≡ true) = let s = c.args.s.now in
    found_here s (cursor_at 0) 0x62 (omega arith) c.consume_char-begun.result (c.consume_char-begun.ensures ∙ ap (λ (k : ParserCursor). consumed_of s k 0x62) c.at.ensures) (not-false _ c.if-not-begun.false) in
    let opened : (c.consume_char-opened.result.cursor ≡ moved_by 1 (moved_by 1 (cursor_at 0))) × (eqb (get_or c.args.s.now 1 0) 0x27 ≡ true) = let s = c.args.s.now in
    found_here s (moved_by 1 (cursor_at 0)) 0x27 (omega arith) c.consume_char-opened.result (c.consume_char-opened.ensures ∙ ap (λ (k : ParserCursor). consumed_of s k 0x27) (begun).0) (not-false _ c.if-not-opened.false) in
    let unmarked : eqb (get_or c.args.s.now 2 0) 0x5C ≡ false = let s = c.args.s.now in
    lost_here s (moved_by 1 (moved_by 1 (cursor_at 0))) 0x5C (omega arith) c.consume_char-mark.result (c.consume_char-mark.ensures ∙ ap (λ (k : ParserCursor). consumed_of s k 0x5C) (opened).0) c.if-mark.false in
    let place : c.consume_char-opened.result.cursor.cursor ≡ 2 = ap (λ (k : ParserCursor). k.cursor) (opened).0 in
    let peeked : c.peek.result ≡ get_or c.args.s.now 2 0 = c.peek.ensures ∙ ap (λ (n : ℕ). get_or c.args.s.now n 0) (place) in
    let low : get_or c.args.s.now 2 0 < 0x80 = omega (arith, c.if-peek-ge128.false, peeked) in
    let read : c.next_char.result ≡ next_of c.args.s.now (moved_by 1 (moved_by 1 (cursor_at 0))) = c.next_char.ensures ∙ ap (next_of c.args.s.now) (opened).0 in
    let after : (x : Told (ℕ × ParserCursor)) → c.next_char.result ≡ x → byte_next c.args.s.now x ≡ byte_of c.args.s.now = λ x e. let s = c.args.s.now in
    ap (byte_next s) (sym e ∙ read) ∙ byte-next s (begun).1 (opened).1 (unmarked) (low) in
    c.byte_ends.ensures ∙ after (Ok (_, _)) c.in_ok-code.was

pub returns-in_err-code : goal.returns-in_err-code
returns-in_err-code c =
    let begun : (c.consume_char-begun.result.cursor ≡ moved_by 1 (cursor_at 0)) × (eqb (get_or c.args.s.now 0 0) 0x62 ≡ true) = let s = c.args.s.now in
    found_here s (cursor_at 0) 0x62 (omega arith) c.consume_char-begun.result (c.consume_char-begun.ensures ∙ ap (λ (k : ParserCursor). consumed_of s k 0x62) c.at.ensures) (not-false _ c.if-not-begun.false) in
    let opened : (c.consume_char-opened.result.cursor ≡ moved_by 1 (moved_by 1 (cursor_at 0))) × (eqb (get_or c.args.s.now 1 0) 0x27 ≡ true) = let s = c.args.s.now in
    found_here s (moved_by 1 (cursor_at 0)) 0x27 (omega arith) c.consume_char-opened.result (c.consume_char-opened.ensures ∙ ap (λ (k : ParserCursor). consumed_of s k 0x27) (begun).0) (not-false _ c.if-not-opened.false) in
    let unmarked : eqb (get_or c.args.s.now 2 0) 0x5C ≡ false = let s = c.args.s.now in
    lost_here s (moved_by 1 (moved_by 1 (cursor_at 0))) 0x5C (omega arith) c.consume_char-mark.result (c.consume_char-mark.ensures ∙ ap (λ (k : ParserCursor). consumed_of s k 0x5C) (opened).0) c.if-mark.false in
    let place : c.consume_char-opened.result.cursor.cursor ≡ 2 = ap (λ (k : ParserCursor). k.cursor) (opened).0 in
    let peeked : c.peek.result ≡ get_or c.args.s.now 2 0 = c.peek.ensures ∙ ap (λ (n : ℕ). get_or c.args.s.now n 0) (place) in
    let low : get_or c.args.s.now 2 0 < 0x80 = omega (arith, c.if-peek-ge128.false, peeked) in
    let read : c.next_char.result ≡ next_of c.args.s.now (moved_by 1 (moved_by 1 (cursor_at 0))) = c.next_char.ensures ∙ ap (next_of c.args.s.now) (opened).0 in
    let after : (x : Told (ℕ × ParserCursor)) → c.next_char.result ≡ x → byte_next c.args.s.now x ≡ byte_of c.args.s.now = λ x e. let s = c.args.s.now in
    ap (byte_next s) (sym e ∙ read) ∙ byte-next s (begun).1 (opened).1 (unmarked) (low) in
    let p = err_from_is_err_and c.from_residual.result c.from_residual.ensures.1 in
    p.1 ∙ ap Err p.2 ∙ after (Err _) c.in_err-code.was
