use Prim.Native.Nat.{◌+◌, ◌≤◌}
use native.Mathlib.Omega.{arith}
use mathlib.Core.Path.{◌∙◌, ◌≡◌, ap, sym}
use lib.ListN.{drop, length}
use Rattle.cursor.proofs.EscapePlaces.{escape_end, escape_within, reach}
use Rattle.cursor.specs.inner.Escape.{behind_escape, escaped_of}
use Rattle.cursor.specs.declared.escape.Escaped.TheVariants as escaped
use Rattle.escapes.specs.Escapes.{escape_of}
use Rattle.escapes.specs.declared.answers.EscapeAnswer.{EscapeAnswer}
use Rattle.escapes.specs.declared.answers.EscapeAnswer.TheVariants.{Ascii, Utf8, Refused as EscapeRefused}
use Rattle.text.proofs.Lists.{on_part}
use Rattle.cursor.proofs.ParserCursor.parse_escape.Goals as goal

pub returns-then-text-at : goal.returns-then-text-at
returns-then-text-at c = ap escaped.Refused c.eof.ensures ∙ sym (escape_end c.args.text.now c.args.self c.args.mode c.if-text-at.true)

pub advance_bytes-requires : goal.advance_bytes-requires
advance_bytes-requires c =
    let escape_is : (a : EscapeAnswer) → c.parse_escape-answer.result ≡ a → escape_of c.args.mode (drop (c.args.self).cursor (c.args.text.now)) ≡ a = λ a e. on_part (escape_of c.args.mode) (c.args.text.now) (c.args.self).cursor _ a c.parse_escape-answer.ensures e in
    let short : (a : EscapeAnswer) → c.parse_escape-answer.result ≡ a → (c.args.self).cursor + reach a ≤ length (c.args.text.now) = λ a e. escape_within _ (c.args.text.now) (c.args.self).cursor (omega (arith, c.if-text-at.false)) a (escape_is a e) in
    omega (arith, short (Ascii _ _) c.in-Ascii.is)

pub advance_bytes-requires-in-Utf8 : goal.advance_bytes-requires-in-Utf8
advance_bytes-requires-in-Utf8 c =
    let escape_is : (a : EscapeAnswer) → c.parse_escape-answer.result ≡ a → escape_of c.args.mode (drop (c.args.self).cursor (c.args.text.now)) ≡ a = λ a e. on_part (escape_of c.args.mode) (c.args.text.now) (c.args.self).cursor _ a c.parse_escape-answer.ensures e in
    let short : (a : EscapeAnswer) → c.parse_escape-answer.result ≡ a → (c.args.self).cursor + reach a ≤ length (c.args.text.now) = λ a e. escape_within _ (c.args.text.now) (c.args.self).cursor (omega (arith, c.if-text-at.false)) a (escape_is a e) in
    omega (arith, short (Utf8 _ _) c.in-Utf8.is)

pub placed_behind-requires : goal.placed_behind-requires
placed_behind-requires c =
    let escape_is : (a : EscapeAnswer) → c.parse_escape-answer.result ≡ a → escape_of c.args.mode (drop (c.args.self).cursor (c.args.text.now)) ≡ a = λ a e. on_part (escape_of c.args.mode) (c.args.text.now) (c.args.self).cursor _ a c.parse_escape-answer.ensures e in
    let short : (a : EscapeAnswer) → c.parse_escape-answer.result ≡ a → (c.args.self).cursor + reach a ≤ length (c.args.text.now) = λ a e. escape_within _ (c.args.text.now) (c.args.self).cursor (omega (arith, c.if-text-at.false)) a (escape_is a e) in
    omega (arith, short (EscapeRefused _) c.in-Refused.is)

pub returns-in-Ascii : goal.returns-in-Ascii
unfolding escaped_of
returns-in-Ascii c =
    let escape_is : (a : EscapeAnswer) → c.parse_escape-answer.result ≡ a → escape_of c.args.mode (drop (c.args.self).cursor (c.args.text.now)) ≡ a = λ a e. on_part (escape_of c.args.mode) (c.args.text.now) (c.args.self).cursor _ a c.parse_escape-answer.ensures e in
    let read : (a : EscapeAnswer) → c.parse_escape-answer.result ≡ a → behind_escape (c.args.self) a ≡ escaped_of (c.args.text.now) (c.args.self) c.args.mode = λ a e. ap (behind_escape (c.args.self)) (sym (escape_is a e)) in
    ap (escaped.Ascii c.in-Ascii.b) c.advance_bytes.ensures ∙ read (Ascii _ _) c.in-Ascii.is

pub returns-in-Utf8 : goal.returns-in-Utf8
unfolding escaped_of
returns-in-Utf8 c =
    let escape_is : (a : EscapeAnswer) → c.parse_escape-answer.result ≡ a → escape_of c.args.mode (drop (c.args.self).cursor (c.args.text.now)) ≡ a = λ a e. on_part (escape_of c.args.mode) (c.args.text.now) (c.args.self).cursor _ a c.parse_escape-answer.ensures e in
    let read : (a : EscapeAnswer) → c.parse_escape-answer.result ≡ a → behind_escape (c.args.self) a ≡ escaped_of (c.args.text.now) (c.args.self) c.args.mode = λ a e. ap (behind_escape (c.args.self)) (sym (escape_is a e)) in
    ap (escaped.Utf8 c.in-Utf8.c) c.advance_bytes-in-Utf8.ensures ∙ read (Utf8 _ _) c.in-Utf8.is

pub returns-in-Refused : goal.returns-in-Refused
unfolding escaped_of
returns-in-Refused c =
    let escape_is : (a : EscapeAnswer) → c.parse_escape-answer.result ≡ a → escape_of c.args.mode (drop (c.args.self).cursor (c.args.text.now)) ≡ a = λ a e. on_part (escape_of c.args.mode) (c.args.text.now) (c.args.self).cursor _ a c.parse_escape-answer.ensures e in
    let read : (a : EscapeAnswer) → c.parse_escape-answer.result ≡ a → behind_escape (c.args.self) a ≡ escaped_of (c.args.text.now) (c.args.self) c.args.mode = λ a e. ap (behind_escape (c.args.self)) (sym (escape_is a e)) in
    ap escaped.Refused c.placed_behind.ensures ∙ read (EscapeRefused _) c.in-Refused.is
