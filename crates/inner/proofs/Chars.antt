-- The refusals of chars and byte literals are inner. Assumes nothing.
use Rattle.std.proofs.Common.{Ok, Err}
use Rattle.text.specs.Refusals.{Told}
use Prim.Native.Nat.{ℕ, ◌+◌}
use mathlib.Core.Bool.{◌&&◌}
use mathlib.Core.List.{List}
use mathlib.Core.Path.{refl}
use lib.Dec.{eqb, ltb}
use lib.ListN.{drop, get_or, length}
use Rattle.text.specs.Utf8.{char_len, code_of}
use Rattle.escapes.specs.Escapes.{escape_of}
use Rattle.escapes.specs.declared.answers.Mode.TheVariants.{Char, Bytes}
use Rattle.escapes.specs.declared.answers.EscapeAnswer.{EscapeAnswer}
use Rattle.escapes.specs.declared.answers.EscapeAnswer.TheVariants.{Ascii, Utf8, Refused}
use Rattle.strings.specs.Chars.{char_ends, by_char_escape, char_of, byte_ends, by_byte_escape, byte_of}
use Rattle.inner.specs.Inner.{Inner, within}
use Rattle.inner.proofs.Both.{both}
use Rattle.inner.proofs.Escapes.{Inner-escape, escape_inner}

-- ---- chars

abbrev pub Inner-char : Told (ℕ × ℕ) → Type 0
Inner-char (Ok (n, code)) = Unit
Inner-char (Err r) = Inner r

char-ends : (s : List ℕ) (at code : ℕ) → Inner-char (char_ends s at code)
unfolding char_ends within
char-ends s at code = both Inner-char (eqb (get_or s at 0) 0x27) tt refl

by-char-escape : (s : List ℕ) (a : EscapeAnswer) → Inner-escape a → Inner-char (by_char_escape s a)
by-char-escape s (Ascii b n) h = char-ends s (2 + n) b
by-char-escape s (Utf8 c n) h = char-ends s (2 + n) c
by-char-escape s (Refused r) h = h

pub char_inner : (s : List ℕ) → Inner-char (char_of s)
unfolding char_of within
char_inner s =
    both Inner-char (eqb (get_or s 0 0) 0x27)
    (both Inner-char (eqb (length s) 1) refl
    (both Inner-char (eqb (get_or s 1 0) 0x5C) (by-char-escape s (escape_of Char (drop 2 s)) (escape_inner Char (drop 2 s)))
    (char-ends s (1 + char_len (drop 1 s)) (code_of (drop 1 s))))) refl

-- ---- byte literals

abbrev pub Inner-byte : Told (ℕ × ℕ) → Type 0
Inner-byte (Ok (n, value)) = Unit
Inner-byte (Err r) = Inner r

byte-ends : (s : List ℕ) (at byte : ℕ) → Inner-byte (byte_ends s at byte)
unfolding byte_ends within
byte-ends s at byte = both Inner-byte (eqb (get_or s at 0) 0x27) tt refl

by-byte-escape : (s : List ℕ) (a : EscapeAnswer) → Inner-escape a → Inner-byte (by_byte_escape s a)
unfolding within
by-byte-escape s (Ascii b n) h = byte-ends s (3 + n) b
by-byte-escape s (Utf8 c n) h = refl
by-byte-escape s (Refused r) h = h

pub byte_inner : (s : List ℕ) → Inner-byte (byte_of s)
unfolding byte_of within
byte_inner s =
    both Inner-byte (eqb (get_or s 0 0) 0x62 && eqb (get_or s 1 0) 0x27)
    (both Inner-byte (eqb (length s) 2) refl
    (both Inner-byte (eqb (get_or s 2 0) 0x5C) (by-byte-escape s (escape_of Bytes (drop 3 s)) (escape_inner Bytes (drop 3 s)))
    (both Inner-byte (ltb (get_or s 2 0) 0x80) (byte-ends s 3 (get_or s 2 0)) refl))) refl
