use Rattle.std.proofs.lemmas.Result.{err_from_is_err_and}
use Rattle.std.proofs.Common.{Ok, Err, ℕ}
use Rattle.text.specs.Refusals.{Told, expected_char}
use lib.Dec.{eqb}
use lib.ListN.{get_or}
use mathlib.Core.Bool.{true}
use mathlib.Core.Path.{◌∙◌, ◌≡◌, ap, subst, sym}
use native.Mathlib.Omega.{arith}
use Rattle.cursor.proofs.CharLaws.{Expected, expected_here, found_here, lost_here}
use Rattle.cursor.specs.Cursor.{cursor_at, moved_by}
use Rattle.cursor.specs.declared.ParserCursor.{ParserCursor}
use Rattle.cursor.specs.inner.Chars.{consumed_of, expected_of, next_of}
use Rattle.strings.proofs.CursorLaws.{char_marked, char-next, char_none, char_next}
use Rattle.strings.specs.Chars.{char_of}
use Rattle.strings.proofs.chars.char_literal.Goals as goal

pub returns-in_err-inside : goal.returns-in_err-inside
returns-in_err-inside c =
    let opened : (x : Told ParserCursor) → c.expect_char.result ≡ x → Expected c.args.s.now (cursor_at 0) 0x27 (expected_char 0) x = λ x e. let s = c.args.s.now in
    let same = c.expect_char.ensures ∙ ap (λ (k : ParserCursor). expected_of s k 0x27 c.expected_char.result) c.at.ensures ∙ ap (expected_of s (cursor_at 0) 0x27) c.expected_char.ensures in
    subst (Expected s (cursor_at 0) 0x27 (expected_char 0)) (sym same ∙ e) (expected_here s (cursor_at 0) 0x27 (expected_char 0) (omega arith)) in
    let lost = opened (Err _) c.in_err-inside.was in
    let p = err_from_is_err_and c.from_residual.result c.from_residual.ensures.1 in
    p.1 ∙ ap Err p.2 ∙ ap Err lost.0 ∙ char_none c.args.s.now lost.1

pub escaped_char-requires : goal.escaped_char-requires
escaped_char-requires c =
    let opened : (x : Told ParserCursor) → c.expect_char.result ≡ x → Expected c.args.s.now (cursor_at 0) 0x27 (expected_char 0) x = λ x e. let s = c.args.s.now in
    let same = c.expect_char.ensures ∙ ap (λ (k : ParserCursor). expected_of s k 0x27 c.expected_char.result) c.at.ensures ∙ ap (expected_of s (cursor_at 0) 0x27) c.expected_char.ensures in
    subst (Expected s (cursor_at 0) 0x27 (expected_char 0)) (sym same ∙ e) (expected_here s (cursor_at 0) 0x27 (expected_char 0) (omega arith)) in
    let inside : (c.in_ok-inside.inside ≡ moved_by 1 (cursor_at 0)) × (eqb (get_or c.args.s.now 0 0) 0x27 ≡ true) = opened (Ok _) c.in_ok-inside.was in
    let marked : (c.consume_char-mark.result.cursor ≡ moved_by 1 (moved_by 1 (cursor_at 0))) × (eqb (get_or c.args.s.now 1 0) 0x5C ≡ true) = let s = c.args.s.now in
    found_here s (moved_by 1 (cursor_at 0)) 0x5C (omega arith) c.consume_char-mark.result (c.consume_char-mark.ensures ∙ ap (λ (k : ParserCursor). consumed_of s k 0x5C) (inside).0) c.if-mark.true in
    ap (λ (k : ParserCursor). k.cursor) (marked).0

pub returns-then-mark : goal.returns-then-mark
returns-then-mark c =
    let opened : (x : Told ParserCursor) → c.expect_char.result ≡ x → Expected c.args.s.now (cursor_at 0) 0x27 (expected_char 0) x = λ x e. let s = c.args.s.now in
    let same = c.expect_char.ensures ∙ ap (λ (k : ParserCursor). expected_of s k 0x27 c.expected_char.result) c.at.ensures ∙ ap (expected_of s (cursor_at 0) 0x27) c.expected_char.ensures in
    subst (Expected s (cursor_at 0) 0x27 (expected_char 0)) (sym same ∙ e) (expected_here s (cursor_at 0) 0x27 (expected_char 0) (omega arith)) in
    let inside : (c.in_ok-inside.inside ≡ moved_by 1 (cursor_at 0)) × (eqb (get_or c.args.s.now 0 0) 0x27 ≡ true) = opened (Ok _) c.in_ok-inside.was in
    let marked : (c.consume_char-mark.result.cursor ≡ moved_by 1 (moved_by 1 (cursor_at 0))) × (eqb (get_or c.args.s.now 1 0) 0x5C ≡ true) = let s = c.args.s.now in
    found_here s (moved_by 1 (cursor_at 0)) 0x5C (omega arith) c.consume_char-mark.result (c.consume_char-mark.ensures ∙ ap (λ (k : ParserCursor). consumed_of s k 0x5C) (inside).0) c.if-mark.true in
    c.escaped_char.ensures ∙ char_marked c.args.s.now (inside).1 (marked).1

pub returns : goal.returns
returns c =
    let opened : (x : Told ParserCursor) → c.expect_char.result ≡ x → Expected c.args.s.now (cursor_at 0) 0x27 (expected_char 0) x = λ x e. let s = c.args.s.now in
    let same = c.expect_char.ensures ∙ ap (λ (k : ParserCursor). expected_of s k 0x27 c.expected_char.result) c.at.ensures ∙ ap (expected_of s (cursor_at 0) 0x27) c.expected_char.ensures in
    subst (Expected s (cursor_at 0) 0x27 (expected_char 0)) (sym same ∙ e) (expected_here s (cursor_at 0) 0x27 (expected_char 0) (omega arith)) in
    let inside : (c.in_ok-inside.inside ≡ moved_by 1 (cursor_at 0)) × (eqb (get_or c.args.s.now 0 0) 0x27 ≡ true) = opened (Ok _) c.in_ok-inside.was in
    let after : (x : Told (ℕ × ParserCursor)) → c.next_char.result ≡ x → char_next c.args.s.now x ≡ char_of c.args.s.now = λ x e. let s = c.args.s.now in
    let front = inside in
    ap (char_next s) (sym e ∙ c.next_char.ensures ∙ ap (next_of s) front.0)
    ∙ char-next s front.1 (lost_here s (moved_by 1 (cursor_at 0)) 0x5C (omega arith) c.consume_char-mark.result (c.consume_char-mark.ensures ∙ ap (λ (k : ParserCursor). consumed_of s k 0x5C) front.0) c.if-mark.false) in
    c.char_ends.ensures ∙ after (Ok (_, _)) c.in_ok-code.was

pub returns-in_err-code : goal.returns-in_err-code
returns-in_err-code c =
    let opened : (x : Told ParserCursor) → c.expect_char.result ≡ x → Expected c.args.s.now (cursor_at 0) 0x27 (expected_char 0) x = λ x e. let s = c.args.s.now in
    let same = c.expect_char.ensures ∙ ap (λ (k : ParserCursor). expected_of s k 0x27 c.expected_char.result) c.at.ensures ∙ ap (expected_of s (cursor_at 0) 0x27) c.expected_char.ensures in
    subst (Expected s (cursor_at 0) 0x27 (expected_char 0)) (sym same ∙ e) (expected_here s (cursor_at 0) 0x27 (expected_char 0) (omega arith)) in
    let inside : (c.in_ok-inside.inside ≡ moved_by 1 (cursor_at 0)) × (eqb (get_or c.args.s.now 0 0) 0x27 ≡ true) = opened (Ok _) c.in_ok-inside.was in
    let after : (x : Told (ℕ × ParserCursor)) → c.next_char.result ≡ x → char_next c.args.s.now x ≡ char_of c.args.s.now = λ x e. let s = c.args.s.now in
    let front = inside in
    ap (char_next s) (sym e ∙ c.next_char.ensures ∙ ap (next_of s) front.0)
    ∙ char-next s front.1 (lost_here s (moved_by 1 (cursor_at 0)) 0x5C (omega arith) c.consume_char-mark.result (c.consume_char-mark.ensures ∙ ap (λ (k : ParserCursor). consumed_of s k 0x5C) front.0) c.if-mark.false) in
    let p = err_from_is_err_and c.from_residual-in_err-code.result c.from_residual-in_err-code.ensures.1 in
    p.1 ∙ ap Err p.2 ∙ after (Err _) c.in_err-code.was
