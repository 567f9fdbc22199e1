-- Tokens lie within their part, and a quiet byte stops them. Assumes nothing.
use Rattle.std.proofs.Common.{Ok, Err}
use Rattle.text.specs.Refusals.{Told}
use Rattle.strings.specs.declared.literal.Literal.{Literal}
use Rattle.tokens.specs.declared.lexeme.Lexeme.{Lexeme}
use Prim.Native.Nat.{ℕ, ◌+◌, ◌<◌, ◌≤◌}
use native.Mathlib.Omega.{arith}
use mathlib.Core.Bool.{true}
use mathlib.Core.List.{List, ◌++◌, ◌∷◌}
use mathlib.Core.Path.{◌≡◌, ap, refl, sym, ◌∙◌}
use lib.ListN.{get_or, length}
use Rattle.attributes.proofs.AttributeLaws.{Bounded-attribute, Within-attribute, attribute_bounded, attribute_closed}
use Rattle.attributes.specs.Attributes.{attribute_of}
use Rattle.integers.proofs.IntegerStops.{outside, told_outside}
use Rattle.integers.specs.Width.{code_of}
use Rattle.integers.specs.declared.width.Width.{Width}
use Rattle.integers.specs.declared.width.Width.TheVariants.{I8, I16, I32, I64, U8, U16, U32, U64}
use Rattle.names.proofs.NameStops.{name_stop, word_stopped}
use Rattle.names.proofs.WordLaws.{Bounded, bounded}
use Rattle.names.specs.Classify.{word_of}
use Rattle.names.specs.declared.Word.{Word}
use Rattle.names.specs.declared.Word.TheVariants as word
use Rattle.numbers.proofs.Bounded.{NumberBounded, number_bounded}
use Rattle.numbers.proofs.NumberStops.{number_stopped}
use Rattle.numbers.specs.Numbers.{number_of}
use Rattle.numbers.specs.declared.Number.TheVariants as number
use Rattle.reading.proofs.QuietLaws.{quiet_all}
use Rattle.reading.specs.Owed.{quiet_byte}
use Rattle.strings.proofs.Bounds.{Bounded-string, Bounded-char, Bounded-byte, string_bounded, byte_string_bounded, char_bounded, byte_bounded}
use Rattle.strings.proofs.Closes.{Within-string, Within-char, Within-byte, string_closed, byte_string_closed, char_closed, byte_closed}
use Rattle.strings.specs.Chars.{char_of, byte_of}
use Rattle.strings.specs.Strings.{string_of, byte_string_of}
use Rattle.text.proofs.Stops.{Stopped}
use Rattle.text.specs.Classes.{digit, ascii_next, ascii_raw, letter, within}
use Rattle.tokens.proofs.ShapeLaws.{Marked, shape_marked, shape_at, shape_same}
use Rattle.tokens.specs.Lexemes.{lexeme_of, number_lexeme}
use Rattle.tokens.specs.Token.{of_word, of_char, of_byte, of_string, of_byte_string, of_attribute, by_shape, token_of}
use Rattle.tokens.specs.declared.token.Token.TheVariants as token
use Rattle.tokens.specs.declared.shape.Shape.{Shape}
use Rattle.tokens.specs.declared.shape.Shape.TheVariants as shape
use Rattle.numbers.specs.declared.Number.{Number}

-- ---- bounds

-- a lexeme has a byte and no more than n, a kind of the paper, and a detail that the tape can hold; a refusal's place lies within the n bytes
abbrev pub Lexed : ℕ → Told Lexeme → Type 0
Lexed n (Ok l) = (0 < l.len) × (l.len ≤ n) × (1 ≤ l.kind) × (l.kind ≤ 16) × (l.detail < n + 0x110000)
Lexed n (Err r) = r.place ≤ n

width_le : (w : Width) → code_of w ≤ 8
width_le I8 = omega arith
width_le I16 = omega arith
width_le I32 = omega arith
width_le I64 = omega arith
width_le U8 = omega arith
width_le U16 = omega arith
width_le U32 = omega arith
width_le U64 = omega arith

of_number : (m : ℕ) (a : Number) → NumberBounded m a → Lexed m (number_lexeme a)
of_number m (number.Int w n) b = (b.0, b.1, omega arith, omega arith, omega (arith, width_le w))
of_number m (number.Float f) b = (b.0, b.1, omega arith, omega arith, omega (arith, b.2))
of_number m (number.Refused r) b = b

of-word : (s : List ℕ) (a : Word) → Bounded s a → Lexed (length s) (lexeme_of (of_word a))
of-word s (word.Plain n) b = (b.0, b.1, omega arith, omega arith, omega arith)
of-word s (word.Raw n) b = (b.0, b.1, omega arith, omega arith, omega arith)
of-word s (word.Float n suffix) b = (b.0, b.1, omega arith, omega arith, omega (arith, b.2))
of-word s (word.Refused r) b = b

of-char : (s : List ℕ) (a : Told (ℕ × ℕ)) → Bounded-char s a → Lexed (length s) (lexeme_of (of_char a))
of-char s (Ok (n, c)) b = (omega (arith, b.0), b.1, omega arith, omega arith, omega (arith, b.2.0))
of-char s (Err r) b = b

of-byte : (s : List ℕ) (a : Told (ℕ × ℕ)) → Bounded-byte s a → Lexed (length s) (lexeme_of (of_byte a))
of-byte s (Ok (n, c)) b = (omega (arith, b.0), b.1, omega arith, omega arith, omega arith)
of-byte s (Err r) b = b

of-string : (s : List ℕ) (a : Told Literal) → Bounded-string s a → Lexed (length s) (lexeme_of (of_string a))
of-string s (Ok l) b = (b.0, b.1, omega arith, omega arith, omega (arith, b.1, b.4))
of-string s (Err r) b = b

of-byte-string : (s : List ℕ) (a : Told Literal) → Bounded-string s a → Lexed (length s) (lexeme_of (of_byte_string a))
of-byte-string s (Ok l) b = (b.0, b.1, omega arith, omega arith, omega (arith, b.1, b.4))
of-byte-string s (Err r) b = b

of-attribute : (s : List ℕ) (a : Told (ℕ × ℕ)) → Bounded-attribute s a → Lexed (length s) (lexeme_of (of_attribute a))
of-attribute s (Ok (n, e)) b = (b.0, b.1, omega arith, omega arith, omega (arith, b.2))
of-attribute s (Err r) b = b

by_shape_bounded : (k : Shape) (s : List ℕ) → 0 < length s → Marked k → Lexed (length s) (lexeme_of (by_shape k s))
by_shape_bounded (shape.Mark kind) s h m = (omega arith, omega arith, omega (arith, m.0), omega (arith, m.1), omega arith)
by_shape_bounded shape.Attribute s h m = of-attribute s (attribute_of s) (attribute_bounded s)
by_shape_bounded shape.Str s h m = of-string s (string_of s) (string_bounded s)
by_shape_bounded shape.Char s h m = of-char s (char_of s) (char_bounded s)
by_shape_bounded shape.Byte s h m = of-byte s (byte_of s) (byte_bounded s)
by_shape_bounded shape.ByteStr s h m = of-byte-string s (byte_string_of s) (byte_string_bounded s)
by_shape_bounded shape.Number s h m = of_number (length s) (number_of s) (number_bounded s)
by_shape_bounded shape.Word s h m = of-word s (word_of s) (bounded s)

pub token_bounded : (s : List ℕ) → 0 < length s → Lexed (length s) (lexeme_of (token_of s))
unfolding token_of
token_bounded s h = by_shape_bounded (shape_at s) s h (shape_marked (get_or s 0 0) (get_or s 1 0) (get_or s 2 0))

-- ---- behind a quiet byte nothing changes a token

-- accepted, and taken from the first n bytes
abbrev pub Fits : ℕ → Told Lexeme → Type 0
Fits n (Ok l) = l.len ≤ n
Fits n (Err r) = ⊥

fits_attribute : (n : ℕ) (a : Told (ℕ × ℕ)) → Fits n (lexeme_of (of_attribute a)) → Within-attribute n a
fits_attribute n (Ok (l, e)) h = h
fits_attribute n (Err r) h = h

fits_string : (n : ℕ) (a : Told Literal) → Fits n (lexeme_of (of_string a)) → Within-string n a
fits_string n (Ok l) h = h
fits_string n (Err r) h = h

fits_byte_string : (n : ℕ) (a : Told Literal) → Fits n (lexeme_of (of_byte_string a)) → Within-string n a
fits_byte_string n (Ok l) h = h
fits_byte_string n (Err r) h = h

fits_char : (n : ℕ) (a : Told (ℕ × ℕ)) → Fits n (lexeme_of (of_char a)) → Within-char n a
fits_char n (Ok (l, c)) h = h
fits_char n (Err r) h = h

fits_byte : (n : ℕ) (a : Told (ℕ × ℕ)) → Fits n (lexeme_of (of_byte a)) → Within-byte n a
fits_byte n (Ok (l, c)) h = h
fits_byte n (Err r) h = h

quiet_stop : (c : ℕ) → quiet_byte c ≡ true → name_stop c ≡ true
unfolding name_stop ascii_raw ascii_next letter digit within
quiet_stop c q = quiet_all name_stop c refl q

number_same : (c : ℕ) → quiet_byte c ≡ true → Stopped c number_of
unfolding ascii_raw ascii_next letter digit within
number_same c q = number_stopped c (told_outside c (quiet_all outside c refl q))

module _ (c : ℕ) (q : quiet_byte c ≡ true) (u v v' : List ℕ) where
  by_shape_same : (k : Shape) → Fits (length u) (lexeme_of (by_shape k (u ++ c ∷ v))) → by_shape k (u ++ c ∷ v') ≡ by_shape k (u ++ c ∷ v)
  by_shape_same (shape.Mark kind) f = refl
  by_shape_same shape.Attribute f = ap of_attribute (attribute_closed u (c ∷ v) (c ∷ v') (fits_attribute (length u) (attribute_of (u ++ c ∷ v)) f))
  by_shape_same shape.Str f = ap of_string (string_closed u (c ∷ v) (c ∷ v') (fits_string (length u) (string_of (u ++ c ∷ v)) f))
  by_shape_same shape.Char f = ap of_char (char_closed u (c ∷ v) (c ∷ v') (fits_char (length u) (char_of (u ++ c ∷ v)) f))
  by_shape_same shape.Byte f = ap of_byte (byte_closed u (c ∷ v) (c ∷ v') (fits_byte (length u) (byte_of (u ++ c ∷ v)) f))
  by_shape_same shape.ByteStr f = ap of_byte_string (byte_string_closed u (c ∷ v) (c ∷ v') (fits_byte_string (length u) (byte_string_of (u ++ c ∷ v)) f))
  by_shape_same shape.Number f = ap token.Number ((number_same c q).same u v' v)
  by_shape_same shape.Word f = ap of_word ((word_stopped c (quiet_stop c q)).same u v' v)

  pub token_window : 0 < length u → Fits (length u) (lexeme_of (token_of (u ++ c ∷ v))) → token_of (u ++ c ∷ v') ≡ token_of (u ++ c ∷ v)
  unfolding token_of
  token_window h f =
      ap (λ (k : Shape). by_shape k (u ++ c ∷ v')) (sym (shape_same c (quiet_stop c q) u v v' h))
      ∙ by_shape_same (shape_at (u ++ c ∷ v)) f
