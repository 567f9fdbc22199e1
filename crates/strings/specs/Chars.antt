-- Chars and byte literals (document 01, modules 3 and 4): "in a char only one [`\x`]; in byte literals any byte. `\u` in a byte literal is 13, behind its
-- `}`." 6: the text ends where a character is needed. 14: char expected. 15: byte literal expected.
use Rattle.std.specs.Prelude.{Ok, Err, ℕ, ◌+◌, List, cond, ◌&&◌, length, get_or, drop, eqb, ltb}
use Rattle.text.specs.Refusals.{Told, placed_behind, eof, invalid_escape, expected_char, expected_byte_literal}
use Rattle.text.specs.declared.reason.EscapeReason.TheVariants.{UnicodeInByteLiteral}
use Rattle.text.specs.Utf8.{char_len, code_of}
use Rattle.escapes.specs.declared.answers.Mode.TheVariants.{Char, Bytes}
use Rattle.escapes.specs.declared.answers.EscapeAnswer.{EscapeAnswer}
use Rattle.escapes.specs.declared.answers.EscapeAnswer.TheVariants.{Ascii, Utf8, Refused}
use Rattle.escapes.specs.Escapes.{escape_of}

-- Behind the character a closing quote has to stand.
unfoldable pub char_ends : List ℕ → ℕ → ℕ → Told (ℕ × ℕ)
char_ends s at code = cond (eqb (get_or s at 0) 0x27) (Ok (at + 1, code)) (Err (expected_char at))

-- An escape behind `'\`.
abbrev pub by_char_escape : List ℕ → EscapeAnswer → Told (ℕ × ℕ)
by_char_escape s (Ascii b n) = char_ends s (2 + n) b
by_char_escape s (Utf8 c n) = char_ends s (2 + n) c
by_char_escape s (Refused r) = Err (placed_behind 2 r)

-- The char at the front of s.
unfoldable pub char_of : List ℕ → Told (ℕ × ℕ)
char_of s =
    cond (eqb (get_or s 0 0) 0x27)
    (cond (eqb (length s) 1) (Err (eof 1))
    (cond (eqb (get_or s 1 0) 0x5C) (by_char_escape s (escape_of Char (drop 2 s)))
    (char_ends s (1 + char_len (drop 1 s)) (code_of (drop 1 s)))))
    (Err (expected_char 0))

-- Behind the byte a closing quote has to stand.
unfoldable pub byte_ends : List ℕ → ℕ → ℕ → Told (ℕ × ℕ)
byte_ends s at byte = cond (eqb (get_or s at 0) 0x27) (Ok (at + 1, byte)) (Err (expected_byte_literal at))

-- An escape behind `b'\`.
abbrev pub by_byte_escape : List ℕ → EscapeAnswer → Told (ℕ × ℕ)
by_byte_escape s (Ascii b n) = byte_ends s (3 + n) b
by_byte_escape s (Utf8 c n) = Err (invalid_escape UnicodeInByteLiteral (3 + n))
by_byte_escape s (Refused r) = Err (placed_behind 3 r)

-- The byte literal at the front of s.
unfoldable pub byte_of : List ℕ → Told (ℕ × ℕ)
byte_of s =
    cond (eqb (get_or s 0 0) 0x62 && eqb (get_or s 1 0) 0x27)
    (cond (eqb (length s) 2) (Err (eof 2))
    (cond (eqb (get_or s 2 0) 0x5C) (by_byte_escape s (escape_of Bytes (drop 3 s)))
    (cond (ltb (get_or s 2 0) 0x80) (byte_ends s 3 (get_or s 2 0)) (Err (expected_byte_literal (2 + char_len (drop 2 s)))))))
    (Err (expected_byte_literal 0))
