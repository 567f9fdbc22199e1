-- Classes of characters (document 01, module 1): "Whitespace: U+0009 to U+000D, U+0020, U+0085, U+200E, U+200F, U+2028, U+2029.
-- Integer characters: hex digits, `_`. Float characters: digits, `e E . + - _`. Name: first a letter or `_`, then letters, digits, `_`;
-- a raw name also takes `. + -`. Continuation whitespace: space, tab, LF, CR."
-- A class is a test of a code point; whitespace is also told from bytes, without decoding, since readers take any bytes.
use Rattle.std.specs.Prelude.{ℕ, List, [], ◌∷◌, Bool, false, cond, ◌&&◌, ◌||◌, ltb, eqb}
use Rattle.xid.specs.Xid.{xid_start, xid_continue}
unfoldable pub use Rattle.xid.specs.Xid.{within}

-- c is one of those listed.
abbrev pub one_of : List ℕ → ℕ → Bool
one_of [] c = false
one_of (a ∷ l) c = eqb c a || one_of l c

-- Whitespace.
unfoldable pub blank : ℕ → Bool
blank c = within 0x09 0x0d c || (one_of (0x20 ∷ 0x85 ∷ []) c || (within 0x200e 0x200f c || within 0x2028 0x2029 c))

-- U+0009 to U+000D and U+0020 are one byte.
unfoldable pub blank1 : ℕ → Bool
blank1 a = within 0x09 0x0d a || eqb a 0x20

-- U+0085 is C2 85.
unfoldable pub blank2 : ℕ → ℕ → Bool
blank2 a b = eqb a 0xc2 && eqb b 0x85

-- U+200E, U+200F, U+2028 and U+2029 are E2 80 8E, E2 80 8F, E2 80 A8 and E2 80 A9.
unfoldable pub blank3 : ℕ → ℕ → ℕ → Bool
blank3 a b c = eqb a 0xe2 && (eqb b 0x80 && (within 0x8e 0x8f c || within 0xa8 0xa9 c))

-- How many of three bytes in a row are a whitespace character: 0 where they begin with none. Behind the end of the text stands 0.
unfoldable pub blank_width : ℕ → ℕ → ℕ → ℕ
blank_width a b c = cond (blank1 a) 1 (cond (blank2 a b) 2 (cond (blank3 a b c) 3 0))

-- Digits.
unfoldable pub digit : ℕ → Bool
digit c = within 0x30 0x39 c

-- Letters: those up to U+007F.
unfoldable pub letter : ℕ → Bool
letter c = within 0x41 0x5a c || within 0x61 0x7a c

-- Hex digits.
unfoldable pub hex_digit : ℕ → Bool
hex_digit c = digit c || (within 0x41 0x46 c || within 0x61 0x66 c)

-- Integer characters: hex digits, `_`.
unfoldable pub int_char : ℕ → Bool
int_char c = hex_digit c || eqb c 0x5f

-- Float characters: digits, `e E . + - _`.
unfoldable pub float_char : ℕ → Bool
float_char c = digit c || one_of (0x65 ∷ 0x45 ∷ 0x2e ∷ 0x2b ∷ 0x2d ∷ 0x5f ∷ []) c

-- Characters of a name up to U+007F: first a letter or `_`, then letters, digits, `_`; a raw name's also `. + -`.
unfoldable pub ascii_first : ℕ → Bool
ascii_first c = letter c || eqb c 0x5f

unfoldable pub ascii_next : ℕ → Bool
ascii_next c = letter c || (digit c || eqb c 0x5f)

unfoldable pub ascii_raw : ℕ → Bool
ascii_raw c = one_of (0x2e ∷ 0x2b ∷ 0x2d ∷ []) c || ascii_next c

-- A name's first character: `_` or one of XID_Start (CR 5). That this is so up to U+007F too is proved (proofs/NameClasses.antt).
unfoldable pub ident_first : ℕ → Bool
ident_first c = cond (ltb c 0x80) (ascii_first c) (xid_start c)

-- A name's next characters: XID_Continue.
unfoldable pub ident_next : ℕ → Bool
ident_next c = cond (ltb c 0x80) (ascii_next c) (xid_continue c)

-- A raw name's characters: also `. + -`.
unfoldable pub ident_raw : ℕ → Bool
ident_raw c = cond (ltb c 0x80) (ascii_raw c) (xid_continue c)

-- Continuation whitespace: space, tab, LF, CR.
unfoldable pub continuation_blank : ℕ → Bool
continuation_blank c = one_of (0x20 ∷ 0x09 ∷ 0x0a ∷ 0x0d ∷ []) c
