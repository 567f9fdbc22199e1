-- The bytes of a token that is read have the form of its kind and detail. Assumes nothing.
use Rattle.std.proofs.Common.{Ok, Err}
use Rattle.text.specs.Refusals.{Told}
use Rattle.strings.specs.declared.literal.Literal.{Literal}
use Rattle.tokens.specs.declared.lexeme.Lexeme.{Lexeme}
use Prim.Native.Nat.{ℕ}
use native.Mathlib.Omega.{arith}
use mathlib.Core.Bool.{true}
use mathlib.Core.List.{List, [], ◌∷◌}
use mathlib.Core.Path.{◌≡◌, refl, subst, sym}
use lib.Dec.{eqb, ltb}
use lib.ListN.{drop, get_or}
use borrow.Author.Tests.{eqb-true, ltb-true}
use Rattle.text.proofs.Choices.{cond_cases}
use Rattle.attributes.specs.Attributes.{attribute_of}
use Rattle.names.specs.Classify.{word_of}
use Rattle.names.specs.declared.Word.TheVariants as word
use Rattle.names.specs.declared.Word.{Word}
use Rattle.numbers.specs.Numbers.{number_of}
use Rattle.numbers.specs.declared.Number.TheVariants as number
use Rattle.numbers.specs.declared.Number.{Number}
use Rattle.strings.proofs.Bounds.{Bounded-string, byte_string_bounded, string_bounded}
use Rattle.strings.specs.Chars.{byte_of, char_of}
use Rattle.strings.specs.Strings.{byte_string_decoded, byte_string_of, string_decoded, string_of}
use Rattle.tokens.proofs.ShapeLaws.{shape_at}
use Rattle.tokens.specs.Lexemes.{lexeme_of, number_lexeme}
use Rattle.tokens.specs.Shapes.{behind_b, behind_r, mark_kind, shape_of, starts_number}
use Rattle.tokens.specs.Token.{by_shape, of_attribute, of_byte, of_byte_string, of_char, of_string, of_word, token_of}
use Rattle.tokens.specs.declared.shape.Shape.TheVariants as shape
use Rattle.tokens.specs.declared.shape.Shape.{Shape}
use Rattle.quoted.proofs.Exactly.{byte_exactly, byte_string_exactly, byte_string_length, char_exactly, string_exactly, string_length}
use Rattle.tiled.specs.Forms.{Form, Mark}
use Rattle.tiled.specs.Forms.Form.{mark, byte, char, string, byte_string}
use Rattle.tiled.specs.Forms.Mark.{round, round_end, square, square_end, curly, curly_end, comma, colon}
use Rattle.tiled.proofs.AttributeForms.{AttributeSays, attribute_says}
use Rattle.tiled.proofs.IntegerForms.{NumberSays, number_says}
use Rattle.tiled.proofs.NameForms.{WordSays, word_says}

-- ---- what a shape says of the first byte

abbrev Begins : ℕ → Shape → Type 0
Begins a (shape.Mark kind) = Mark a kind
Begins a shape.Attribute = a ≡ 0x23
Begins a shape.Str = Unit {0}
Begins a shape.Char = Unit {0}
Begins a shape.Byte = Unit {0}
Begins a shape.ByteStr = Unit {0}
Begins a shape.Number = Unit {0}
Begins a shape.Word = Unit {0}

-- a byte with a mark's kind is that mark
is_mark : (a b k : ℕ) → Mark b k → eqb a b ≡ true → Mark a k
is_mark a b k m e = subst (λ (x : ℕ). Mark x k) (sym (eqb-true a b e)) m

mark_of : (a : ℕ) → ltb 0 (mark_kind a) ≡ true → Mark a (mark_kind a)
unfolding mark_kind
mark_of a =
    cond_cases Of (eqb a 0x28) 1 _ (λ e h. is_mark a 0x28 1 round e) λ e.
    cond_cases Of (eqb a 0x29) 2 _ (λ e h. is_mark a 0x29 2 round_end e) λ e.
    cond_cases Of (eqb a 0x5b) 3 _ (λ e h. is_mark a 0x5b 3 square e) λ e.
    cond_cases Of (eqb a 0x5d) 4 _ (λ e h. is_mark a 0x5d 4 square_end e) λ e.
    cond_cases Of (eqb a 0x7b) 5 _ (λ e h. is_mark a 0x7b 5 curly e) λ e.
    cond_cases Of (eqb a 0x7d) 6 _ (λ e h. is_mark a 0x7d 6 curly_end e) λ e.
    cond_cases Of (eqb a 0x2c) 7 _ (λ e h. is_mark a 0x2c 7 comma e) λ e.
    cond_cases Of (eqb a 0x3a) 8 0 (λ e h. is_mark a 0x3a 8 colon e) λ e h. absurd (let z = ltb-true 0 0 h in omega arith)
  where
    Of : ℕ → Type 0
    Of k = ltb 0 k ≡ true → Mark a k

b_begins : (a b c : ℕ) → Begins a (behind_b b c)
unfolding behind_b
b_begins a b c =
    cond_cases (Begins a) (eqb b 0x27) _ _ (λ e. tt) λ e.
    cond_cases (Begins a) (eqb b 0x22) _ _ (λ e. tt) λ e.
    cond_cases (Begins a) (eqb b 0x72) _ _ (λ e. cond_cases (Begins a) (eqb c 0x22) _ _ (λ e. tt) λ e. cond_cases (Begins a) (eqb c 0x23) _ _ (λ e. tt) λ e. tt) λ e. tt

r_begins : (a b c : ℕ) → Begins a (behind_r b c)
unfolding behind_r
r_begins a b c =
    cond_cases (Begins a) (eqb b 0x22) _ _ (λ e. tt) λ e.
    cond_cases (Begins a) (eqb b 0x23) _ _ (λ e. cond_cases (Begins a) (eqb c 0x22) _ _ (λ e. tt) λ e. cond_cases (Begins a) (eqb c 0x23) _ _ (λ e. tt) λ e. tt) λ e. tt

shape_begins : (a b c : ℕ) → Begins a (shape_of a b c)
unfolding shape_of
shape_begins a b c =
    cond_cases (Begins a) (ltb 0 (mark_kind a)) _ _ (λ e. mark_of a e) λ e.
    cond_cases (Begins a) (eqb a 0x23) _ _ (λ e. eqb-true a 0x23 e) λ e.
    cond_cases (Begins a) (eqb a 0x22) _ _ (λ e. tt) λ e.
    cond_cases (Begins a) (eqb a 0x27) _ _ (λ e. tt) λ e.
    cond_cases (Begins a) (eqb a 0x62) _ _ (λ e. b_begins a b c) λ e.
    cond_cases (Begins a) (eqb a 0x72) _ _ (λ e. r_begins a b c) λ e.
    cond_cases (Begins a) (starts_number a) _ _ (λ e. tt) λ e. tt

-- ---- by the kind of a token

-- a lexeme at the front of s has its form
abbrev pub Says : List ℕ → Told Lexeme → Type 0
Says s (Ok l) = Form l.kind l.detail s (drop l.len s)
Says s (Err r) = Unit {0}

-- past the end stands no mark
no_mark : {a k : ℕ} → Mark a k → a ≡ 0 → ⊥
no_mark round e = omega arith
no_mark round_end e = omega arith
no_mark square e = omega arith
no_mark square_end e = omega arith
no_mark curly e = omega arith
no_mark curly_end e = omega arith
no_mark comma e = omega arith
no_mark colon e = omega arith

of_mark : (s : List ℕ) (k : ℕ) → Mark (get_or s 0 0) k → Form k 0 s (drop 1 s)
of_mark [] k m = absurd (no_mark m refl)
of_mark (a ∷ t) k m = mark m

of-attribute : (s : List ℕ) (a : Told (ℕ × ℕ)) → AttributeSays s a → Says s (lexeme_of (of_attribute a))
of-attribute s (Ok (n, x)) h = h
of-attribute s (Err r) h = tt

of_number : (s : List ℕ) (a : Number) → NumberSays s a → Says s (number_lexeme a)
of_number s (number.Int w n) h = h
of_number s (number.Float f) h = h
of_number s (number.Refused r) h = tt

of-word : (s : List ℕ) (a : Word) → WordSays s a → Says s (lexeme_of (of_word a))
of-word s (word.Plain n) h = h
of-word s (word.Raw n) h = h
of-word s (word.Float n d) h = h
of-word s (word.Refused r) h = tt

of-string : (s : List ℕ) (a : Told Literal) → string_of s ≡ a → Bounded-string s a → Says s (lexeme_of (of_string a))
of-string s (Ok l) e b =
    subst (λ (n : ℕ). Form 14 n s (drop l.len s)) (string_length s l e) (string ((string_exactly s (string_decoded s) (drop l.len s)).1 (l, e, refl, refl, b.1)))
of-string s (Err r) e b = tt

of-byte-string : (s : List ℕ) (a : Told Literal) → byte_string_of s ≡ a → Bounded-string s a → Says s (lexeme_of (of_byte_string a))
of-byte-string s (Ok l) e b =
    subst (λ (n : ℕ). Form 15 n s (drop l.len s)) (byte_string_length s l e) (byte_string ((byte_string_exactly s (byte_string_decoded s) (drop l.len s)).1 (l, e, refl, refl, b.1)))
of-byte-string s (Err r) e b = tt

of-char : (s : List ℕ) (a : Told (ℕ × ℕ)) → char_of s ≡ a → Says s (lexeme_of (of_char a))
of-char s (Ok (n, c)) e = char ((char_exactly s n c).0 e).1
of-char s (Err r) e = tt

of-byte : (s : List ℕ) (a : Told (ℕ × ℕ)) → byte_of s ≡ a → Says s (lexeme_of (of_byte a))
of-byte s (Ok (n, b)) e = byte ((byte_exactly s n b).0 e).1
of-byte s (Err r) e = tt

by-shape : (k : Shape) (s : List ℕ) → Begins (get_or s 0 0) k → Says s (lexeme_of (by_shape k s))
by-shape (shape.Mark kind) s m = of_mark s kind m
by-shape shape.Attribute s m = of-attribute s (attribute_of s) (attribute_says s m)
by-shape shape.Str s m = of-string s (string_of s) refl (string_bounded s)
by-shape shape.Char s m = of-char s (char_of s) refl
by-shape shape.Byte s m = of-byte s (byte_of s) refl
by-shape shape.ByteStr s m = of-byte-string s (byte_string_of s) refl (byte_string_bounded s)
by-shape shape.Number s m = of_number s (number_of s) (number_says s)
by-shape shape.Word s m = of-word s (word_of s) (word_says s)

-- the bytes of a token that is read have its form
pub token_says : (s : List ℕ) → Says s (lexeme_of (token_of s))
unfolding token_of
token_says s = by-shape (shape_at s) s (shape_begins (get_or s 0 0) (get_or s 1 0) (get_or s 2 0))
