-- Characters of a name, by code point and width (document 01, module 1): "Name: first a letter or `_`, then letters, digits, `_`; a raw name also takes `.
-- + -`."
use Rattle.std.specs.Prelude.{ℕ, zero, suc, ◌+◌, ◌*◌, ◌%◌, Bool, ◌&&◌, ◌||◌, List, [], ◌∷◌, get_or, ltb}
use Rattle.xid.specs.Xid.{usual}
use Rattle.text.specs.Classes.{ascii_first, ascii_next, ascii_raw, ident_first, ident_next, ident_raw, within}
unfoldable pub use Rattle.text.specs.Ahead.{char_if}
use Rattle.names.specs.declared.Class.{Class}
use Rattle.names.specs.declared.Class.TheVariants.{First, Next, Raw}

-- A code point is of the class.
abbrev pub ident_char : Class → ℕ → Bool
ident_char First = ident_first
ident_char Next = ident_next
ident_char Raw = ident_raw

-- Its part up to U+007F.
abbrev pub ascii_char : Class → ℕ → Bool
ascii_char First = ascii_first
ascii_char Next = ascii_next
ascii_char Raw = ascii_raw

-- A code point is of the class, and that is told without the table: up to U+007F, or a usual letter.
abbrev pub near : (ℕ → Bool) → ℕ → Bool
near p c = (ltb c 0x80 || usual c) && p c

-- Two bytes that are a usual letter: from U+00C0 on, and up to U+04BF.
unfoldable pub usual_pair : ℕ → ℕ → Bool
usual_pair a b = within 0xc3 0xd2 a && (within 0x80 0xbf b && usual (a % 32 * 64 + b % 64))

-- A character above U+007F stands at the front.
unfoldable pub wide_ahead : List ℕ → Bool
wide_ahead s = ltb 0x7f (get_or s 0 0)

-- What stands behind a character's first byte, given its width; nothing where that is 0.
abbrev pub by_char_width : ℕ → (ℕ → ℕ) → ℕ
by_char_width zero behind = 0
by_char_width (suc n) behind = behind n

-- How many bytes from the front are characters of the class, the first n being of one that was judged already.
unfoldable pub chars_from : (ℕ → Bool) → List ℕ → ℕ → ℕ
chars_from p [] n = 0
chars_from p (a ∷ s) (suc n) = suc (chars_from p s n)
chars_from p (a ∷ s) zero = by_char_width (char_if p (a ∷ s)) (λ n. suc (chars_from p s n))

-- How many bytes from the front are characters of the class.
unfoldable pub chars : (ℕ → Bool) → List ℕ → ℕ
chars p s = chars_from p s 0
