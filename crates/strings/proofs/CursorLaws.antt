-- Chars and byte literals read by a cursor: each step answers what their definitions do. Assumes nothing.
use Rattle.std.proofs.Common.{Ok, Err}
use Rattle.text.specs.Refusals.{Told, expected_byte_literal, expected_char, invalid_escape}
use Prim.Native.Nat.{◌+◌, ◌<◌, ◌≤◌, ℕ}
use native.Mathlib.Omega.{arith}
use mathlib.Core.Bool.{false, true}
use mathlib.Core.List.{List}
use mathlib.Core.Path.{◌∙◌, ◌≡◌, ap}
use lib.Dec.{eqb}
use lib.ListN.{get_or-eq_default, drop, get_or, length}
use borrow.Author.Tests.{eq-eqb, le-ltb, lt-ltb, ne_eqb}
use Rattle.cursor.proofs.CharLaws.{begins_at, next_ascii, next_end, next_here}
use Rattle.cursor.specs.Cursor.{cursor_at, moved_by}
use Rattle.cursor.specs.inner.Chars.{expected_of, next_of}
use Rattle.cursor.specs.inner.Escape.{behind_escape, escaped_of}
use Rattle.cursor.specs.declared.ParserCursor.{ParserCursor}
use Rattle.cursor.specs.declared.escape.Escaped.{Escaped}
use Rattle.cursor.specs.declared.escape.Escaped.TheVariants as escaped
use Rattle.escapes.specs.Escapes.{escape_of}
use Rattle.escapes.specs.declared.answers.EscapeAnswer.{EscapeAnswer}
use Rattle.escapes.specs.declared.answers.EscapeAnswer.TheVariants.{Ascii, Utf8, Refused}
use Rattle.escapes.specs.declared.answers.Mode.TheVariants.{Char, Bytes}
use Rattle.strings.proofs.Wholes.{none_here}
use Rattle.strings.specs.Chars.{by_byte_escape, by_char_escape, byte_ends, byte_of, char_ends, char_of}
use Rattle.text.proofs.Choices.{bool_cases, either, lt_or_le}
use Rattle.text.specs.declared.reason.EscapeReason.TheVariants.{UnicodeInByteLiteral}
use Rattle.text.specs.Utf8.{char_len}

-- ---- the closing quote

abbrev pub char_closing : ℕ → Told ParserCursor → Told (ℕ × ℕ)
char_closing code (Ok c) = Ok (c.cursor, code)
char_closing code (Err r) = Err r

abbrev pub byte_closing : ℕ → Told ParserCursor → Told (ℕ × ℕ)
byte_closing byte (Ok c) = Ok (c.cursor, byte)
byte_closing byte (Err r) = Err r

module _ (s : List ℕ) (c : ParserCursor) where
  pub char_closed : (code : ℕ) → char_closing code (expected_of s c 0x27 (expected_char c.cursor)) ≡ char_ends s c.cursor code
  unfolding expected_of char_ends
  char_closed code =
      rw (begins_at 0x27 s c.cursor (omega arith))
      (either (bool_cases (eqb (get_or s c.cursor 0) 0x27)) (λ e. rw e) (λ e. rw e))

  pub byte_closed : (byte : ℕ) → byte_closing byte (expected_of s c 0x27 (expected_byte_literal c.cursor)) ≡ byte_ends s c.cursor byte
  unfolding expected_of byte_ends
  byte_closed byte =
      rw (begins_at 0x27 s c.cursor (omega arith))
      (either (bool_cases (eqb (get_or s c.cursor 0) 0x27)) (λ e. rw e) (λ e. rw e))

-- ---- escapes

abbrev pub char_escaped : List ℕ → Escaped → Told (ℕ × ℕ)
char_escaped s (escaped.Ascii b c) = char_ends s c.cursor b
char_escaped s (escaped.Utf8 p c) = char_ends s c.cursor p
char_escaped s (escaped.Refused r) = Err r

abbrev pub byte_escaped : List ℕ → Escaped → Told (ℕ × ℕ)
byte_escaped s (escaped.Ascii b c) = byte_ends s c.cursor b
byte_escaped s (escaped.Utf8 p c) = Err (invalid_escape UnicodeInByteLiteral c.cursor)
byte_escaped s (escaped.Refused r) = Err r

module _ (s : List ℕ) (c : ParserCursor) where
  char_by : c.cursor ≡ 2 → (a : EscapeAnswer) → char_escaped s (behind_escape c a) ≡ by_char_escape s a
  char_by e (Ascii b n) = rw e
  char_by e (Utf8 p n) = rw e
  char_by e (Refused r) = rw e

  pub char-escaped : c.cursor ≡ 2 → char_escaped s (escaped_of s c Char) ≡ by_char_escape s (escape_of Char (drop 2 s))
  unfolding escaped_of
  char-escaped e = char_by e (escape_of Char (drop c.cursor s)) ∙ ap (λ (n : ℕ). by_char_escape s (escape_of Char (drop n s))) e

  byte_by : c.cursor ≡ 3 → (a : EscapeAnswer) → byte_escaped s (behind_escape c a) ≡ by_byte_escape s a
  byte_by e (Ascii b n) = rw e
  byte_by e (Utf8 p n) = rw e
  byte_by e (Refused r) = rw e

  pub byte-escaped : c.cursor ≡ 3 → byte_escaped s (escaped_of s c Bytes) ≡ by_byte_escape s (escape_of Bytes (drop 3 s))
  unfolding escaped_of
  byte-escaped e = byte_by e (escape_of Bytes (drop c.cursor s)) ∙ ap (λ (n : ℕ). by_byte_escape s (escape_of Bytes (drop n s))) e

-- ---- the whole char

abbrev pub char_next : List ℕ → Told (ℕ × ParserCursor) → Told (ℕ × ℕ)
char_next s (Ok (code, c)) = char_ends s c.cursor code
char_next s (Err r) = Err r

module _ (s : List ℕ) where
  pub char_none : eqb (get_or s 0 0) 0x27 ≡ false → Err (expected_char 0) ≡ char_of s
  unfolding char_of
  char_none q = rw q

  pub char_marked : eqb (get_or s 0 0) 0x27 ≡ true → eqb (get_or s 1 0) 0x5C ≡ true → by_char_escape s (escape_of Char (drop 2 s)) ≡ char_of s
  unfolding char_of
  char_marked q m = rw (q, ne_eqb (length s) 1 (λ e. omega (arith, e, none_here s 1 0x5C (omega arith) m)), m)

  -- no escape: the character, or the end of the text
  pub char-next : eqb (get_or s 0 0) 0x27 ≡ true → eqb (get_or s 1 0) 0x5C ≡ false → char_next s (next_of s (moved_by 1 (cursor_at 0))) ≡ char_of s
  unfolding char_of
  char-next q m =
      either (lt_or_le 1 (length s))
      (λ l. rw (next_here s (moved_by 1 (cursor_at 0)) l, q, ne_eqb (length s) 1 (λ e. omega (arith, e, l)), m))
      (λ l. rw (next_end s (moved_by 1 (cursor_at 0)) l, q, eq-eqb (length s) 1 (omega (arith, l, none_here s 0 0x27 (omega arith) q))))

-- ---- the whole byte literal

abbrev pub byte_next : List ℕ → Told (ℕ × ParserCursor) → Told (ℕ × ℕ)
byte_next s (Ok (code, c)) = byte_ends s c.cursor code
byte_next s (Err r) = Err r

abbrev pub Narrow : Told (ℕ × ParserCursor) → Type 0
Narrow (Ok (code, c)) = code < 0x80
Narrow (Err r) = Unit

module _ (s : List ℕ) where
  pub byte_unnamed : eqb (get_or s 0 0) 0x62 ≡ false → Err (expected_byte_literal 0) ≡ byte_of s
  unfolding byte_of
  byte_unnamed p = rw p

  pub byte_unquoted : eqb (get_or s 0 0) 0x62 ≡ true → eqb (get_or s 1 0) 0x27 ≡ false → Err (expected_byte_literal 0) ≡ byte_of s
  unfolding byte_of
  byte_unquoted p q = rw (p, q)

  pub byte_marked : eqb (get_or s 0 0) 0x62 ≡ true → eqb (get_or s 1 0) 0x27 ≡ true → eqb (get_or s 2 0) 0x5C ≡ true → by_byte_escape s (escape_of Bytes (drop 3 s)) ≡ byte_of s
  unfolding byte_of
  byte_marked p q m = rw (p, q, ne_eqb (length s) 2 (λ e. omega (arith, e, none_here s 2 0x5C (omega arith) m)), m)

  -- what is above ASCII stands within the text
  pub wide_inside : 0x80 ≤ get_or s 2 0 → 2 < length s
  wide_inside h =
      either (lt_or_le 2 (length s)) (λ l. l)
      (λ l. let z : get_or s 2 0 ≡ 0 = get_or-eq_default s 0 l in absurd (omega (arith, z, h)))

  pub byte_wide : eqb (get_or s 0 0) 0x62 ≡ true → eqb (get_or s 1 0) 0x27 ≡ true → eqb (get_or s 2 0) 0x5C ≡ false → 0x80 ≤ get_or s 2 0
      → Err (expected_byte_literal (2 + char_len (drop 2 s))) ≡ byte_of s
  unfolding byte_of
  byte_wide p q m h = rw (p, q, ne_eqb (length s) 2 (λ e. omega (arith, e, wide_inside h)), m, le-ltb (get_or s 2 0) 0x80 h)

  -- an ASCII character, or the end of the text
  pub byte-next : eqb (get_or s 0 0) 0x62 ≡ true → eqb (get_or s 1 0) 0x27 ≡ true → eqb (get_or s 2 0) 0x5C ≡ false → get_or s 2 0 < 0x80
      → byte_next s (next_of s (moved_by 1 (moved_by 1 (cursor_at 0)))) ≡ byte_of s
  unfolding byte_of
  byte-next p q m h =
      either (lt_or_le 2 (length s))
      (λ l. rw (next_ascii s (moved_by 1 (moved_by 1 (cursor_at 0))) l h, p, q, ne_eqb (length s) 2 (λ e. omega (arith, e, l)), m, lt-ltb (get_or s 2 0) 0x80 h))
      (λ l. rw (next_end s (moved_by 1 (moved_by 1 (cursor_at 0))) l, p, q, eq-eqb (length s) 2 (omega (arith, l, none_here s 1 0x27 (omega arith) q))))

  -- it fits a byte
  pub narrow : get_or s 2 0 < 0x80 → Narrow (next_of s (moved_by 1 (moved_by 1 (cursor_at 0))))
  narrow h =
      either (lt_or_le 2 (length s))
      (λ l. rw (next_ascii s (moved_by 1 (moved_by 1 (cursor_at 0))) l h) h)
      (λ l. rw (next_end s (moved_by 1 (moved_by 1 (cursor_at 0))) l) tt)
