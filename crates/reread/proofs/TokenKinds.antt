-- What a token is by its kind: 11 an integer, 14 a string, 15 a byte string; what its detail says is read again at its start. Assumes nothing.
use Rattle.std.proofs.Common.{Ok, Err}
use Rattle.text.specs.Refusals.{Told}
use Rattle.tokens.specs.declared.lexeme.Lexeme.{Lexeme}
use Prim.Native.Nat.{ℕ, ◌≤◌, ◌<◌}
use native.Mathlib.Omega.{arith}
use mathlib.Core.Bool.{Bool, true, false, ◌||◌}
use mathlib.Core.List.{List}
use mathlib.Core.Path.{◌≡◌, ap, refl, subst, ◌∙◌, sym}
use lib.Dec.{eqb}
use lib.ListN.{get_or, drop}
use borrow.Author.Tests.{le-ltb, lt-ltb, ne_eqb}
use Rattle.text.proofs.Choices.{bool_cases, either}
use Rattle.text.proofs.ClassLaws.{within_true}
use Rattle.text.specs.Classes.{within}
use Rattle.text.specs.Judged.{place_fits}
use Rattle.attributes.specs.Attributes.{attribute_of}
use Rattle.integers.specs.Width.{code_of}
use Rattle.integers.specs.declared.width.Width.TheVariants.{U8}
use Rattle.names.specs.Classify.{word_of}
use Rattle.names.specs.declared.Word.TheVariants as word
use Rattle.names.specs.declared.Word.{Word}
use Rattle.numbers.specs.Numbers.{number_of}
use Rattle.numbers.specs.declared.Number.TheVariants as number
use Rattle.numbers.specs.declared.Number.{Number}
use Rattle.strings.specs.Chars.{byte_of, char_of}
use Rattle.strings.specs.Strings.{byte_string_of, string_of}
use Rattle.strings.specs.declared.literal.Literal.{Literal}
use Rattle.entries.specs.Named.{literal_of}
use Rattle.rows.specs.declared.Entry.{Entry}
use Rattle.tokens.proofs.ShapeLaws.{Marked, shape_marked, shape_at}
use Rattle.tokens.specs.Lexemes.{lexeme, lexeme_of, number_lexeme}
use Rattle.tokens.specs.Shapes.{mark_kind, shape_of, starts_number}
use Rattle.tokens.specs.Token.{by_shape, of_attribute, of_byte, of_byte_string, of_char, of_string, of_word, token_of}
use Rattle.tokens.specs.declared.shape.Shape.TheVariants as shape
use Rattle.tokens.specs.declared.shape.Shape.{Shape}
use Rattle.reread.proofs.EntryTokens.{EntryToken, place-fits}
use Rattle.reread.proofs.IntegerTokens.{Again, number_again, byte_again}

-- ---- what is read again

-- the kind of a string and, with true, of a byte string
abbrev pub kind_of : Bool → ℕ
kind_of false = 14
kind_of true = 15

-- the string or byte string at the front of s reads, and decodes to n bytes
pub record Reads (bytes : Bool) (s : List ℕ) (n : ℕ) : Type 0 where
  pub this : Literal
  pub read : literal_of bytes s ≡ Ok this
  pub decoded : this.decoded ≡ n

-- a lexeme of kind 14 or 15 is the string at the front of s and its detail the decoded length; one of kind 11 is an integer and its detail the width
abbrev Says : List ℕ → Told Lexeme → Type 0
Says s (Ok l) = ((bytes : Bool) → l.kind ≡ kind_of bytes → Reads bytes s l.detail) × (l.kind ≡ 11 → Again s l.len l.detail)
Says s (Err r) = Unit

-- these kinds
abbrev pub reread : ℕ → Bool
reread kind = eqb kind 11 || (eqb kind 14 || eqb kind 15)

clash : {X : Type 0} → ◌≡◌ {A = Bool} true false → X
clash e = let z : ◌≡◌ {A = ℕ} 0 1 = cc in absurd (omega arith)

-- nothing is said of another
other : {s : List ℕ} {len detail : ℕ} (kind : ℕ) → reread kind ≡ false → ((bytes : Bool) → kind ≡ kind_of bytes → Reads bytes s detail) × (kind ≡ 11 → Again s len detail)
other {s} {len} {detail} kind f = (by, λ e. clash (sym (ap reread e) ∙ f))
  where
    by : (bytes : Bool) → kind ≡ kind_of bytes → Reads bytes s detail
    by false e = clash (sym (ap reread e) ∙ f)
    by true e = clash (sym (ap reread e) ∙ f)

-- ---- by the kind of a token

of-string : (s : List ℕ) (a : Told Literal) → string_of s ≡ a → Says s (lexeme_of (of_string a))
of-string s (Ok l) e = (by, λ k. absurd (omega arith))
  where
    by : (bytes : Bool) → 14 ≡ kind_of bytes → Reads bytes s l.decoded
    by false k = record { this = l; read = e; decoded = refl }
    by true k = absurd (omega arith)
of-string s (Err r) e = tt

of-byte-string : (s : List ℕ) (a : Told Literal) → byte_string_of s ≡ a → Says s (lexeme_of (of_byte_string a))
of-byte-string s (Ok l) e = (by, λ k. absurd (omega arith))
  where
    by : (bytes : Bool) → 15 ≡ kind_of bytes → Reads bytes s l.decoded
    by false k = absurd (omega arith)
    by true k = record { this = l; read = e; decoded = refl }
of-byte-string s (Err r) e = tt

-- an integer is no string
integer_says : (s : List ℕ) (len detail : ℕ) → Again s len detail → ((bytes : Bool) → 11 ≡ kind_of bytes → Reads bytes s detail) × (◌≡◌ {A = ℕ} 11 11 → Again s len detail)
integer_says s len detail a = (by, λ k. a)
  where
    by : (bytes : Bool) → 11 ≡ kind_of bytes → Reads bytes s detail
    by false k = absurd (omega arith)
    by true k = absurd (omega arith)

of_number : (s : List ℕ) (a : Number) → number_of s ≡ a → Says s (number_lexeme a)
of_number s (number.Int w n) e = integer_says s n (code_of w) (number_again s w n e)
of_number s (number.Float f) e = other 12 refl
of_number s (number.Refused r) e = tt

of-byte : (s : List ℕ) (a : Told (ℕ × ℕ)) → byte_of s ≡ a → Says s (lexeme_of (of_byte a))
of-byte s (Ok (n, c)) e = integer_says s n (code_of U8) (byte_again s n c e)
of-byte s (Err r) e = tt

of-word : (s : List ℕ) (a : Word) → Says s (lexeme_of (of_word a))
of-word s (word.Plain n) = other 9 refl
of-word s (word.Raw n) = other 10 refl
of-word s (word.Float n suffix) = other 12 refl
of-word s (word.Refused r) = tt

of-char : (s : List ℕ) (a : Told (ℕ × ℕ)) → Says s (lexeme_of (of_char a))
of-char s (Ok (n, c)) = other 13 refl
of-char s (Err r) = tt

of-attribute : (s : List ℕ) (a : Told (ℕ × ℕ)) → Says s (lexeme_of (of_attribute a))
of-attribute s (Ok (n, e)) = other 16 refl
of-attribute s (Err r) = tt

mark_other : (kind : ℕ) → kind ≤ 8 → reread kind ≡ false
mark_other kind h = rw (ne_eqb kind 11 (λ e. omega arith), ne_eqb kind 14 (λ e. omega arith), ne_eqb kind 15 (λ e. omega arith))

by-shape : (k : Shape) (s : List ℕ) → Marked k → Says s (lexeme_of (by_shape k s))
by-shape (shape.Mark kind) s m = other kind (mark_other kind m.1)
by-shape shape.Attribute s m = of-attribute s (attribute_of s)
by-shape shape.Str s m = of-string s (string_of s) refl
by-shape shape.Char s m = of-char s (char_of s)
by-shape shape.Byte s m = of-byte s (byte_of s) refl
by-shape shape.ByteStr s m = of-byte-string s (byte_string_of s) refl
by-shape shape.Number s m = of_number s (number_of s) refl
by-shape shape.Word s m = of-word s (word_of s)

token_says : (s : List ℕ) → Says s (lexeme_of (token_of s))
unfolding token_of
token_says s = by-shape (shape_at s) s (shape_marked (get_or s 0 0) (get_or s 1 0) (get_or s 2 0))

-- ---- the entry of such a token

module _ (text : List ℕ) (e : Entry) (t : EntryToken text e) where
  entry_says : Says (drop e.start text) (lexeme t.len e.kind e.detail)
  entry_says = subst (Says (drop e.start text)) t.lexeme_is (token_says (drop e.start text))

  pub entry_string : (bytes : Bool) → e.kind ≡ kind_of bytes → Reads bytes (drop e.start text) e.detail
  entry_string bytes k = entry_says.0 bytes k

  pub entry-integer : e.kind ≡ 11 → Again (drop e.start text) t.len e.detail
  entry-integer k = entry_says.1 k

-- ---- its first byte is no byte inside a character: with such a one only words begin

shape_high : (a b c : ℕ) → 0x80 ≤ a → shape_of a b c ≡ shape.Word
unfolding shape_of mark_kind starts_number
shape_high a b c h =
    let off : (x : ℕ) → x < 0x80 → eqb a x ≡ false = λ x l. ne_eqb a x (λ e. omega arith) in
    simp (
      off 0x28 (omega arith),
      off 0x29 (omega arith),
      off 0x5b (omega arith),
      off 0x5d (omega arith),
      off 0x7b (omega arith),
      off 0x7d (omega arith),
      off 0x2c (omega arith),
      off 0x3a (omega arith),
      off 0x23 (omega arith),
      off 0x22 (omega arith),
      off 0x27 (omega arith),
      off 0x62 (omega arith),
      off 0x72 (omega arith),
      off 0x2b (omega arith),
      off 0x2d (omega arith),
      off 0x2e (omega arith),
      le-ltb a 0x30 (omega arith),
      lt-ltb 0x39 a (omega arith),
    )

abbrev kind_in : Told Lexeme → ℕ
kind_in (Ok l) = l.kind
kind_in (Err r) = 0

word_other : (a : Word) → reread (kind_in (lexeme_of (of_word a))) ≡ false
word_other (word.Plain n) = refl
word_other (word.Raw n) = refl
word_other (word.Float n suffix) = refl
word_other (word.Refused r) = refl

begins : (s : List ℕ) (len kind detail : ℕ) → lexeme_of (token_of s) ≡ lexeme len kind detail → reread kind ≡ true → within 0x80 0xBF (get_or s 0 0) ≡ false
unfolding token_of
begins s len kind detail h r =
    either (bool_cases (within 0x80 0xBF (get_or s 0 0)))
    (λ p.
    let e : shape_at s ≡ shape.Word = shape_high (get_or s 0 0) (get_or s 1 0) (get_or s 2 0) (within_true 0x80 0xBF (get_or s 0 0) p).0 in
    let k : kind_in (lexeme_of (of_word (word_of s))) ≡ kind = ap (λ (x : Shape). kind_in (lexeme_of (by_shape x s))) (sym e) ∙ ap kind_in h in
    clash (sym r ∙ ap reread (sym k) ∙ word_other (word_of s)))
    (λ p. p)

-- so the entry's start is a place that fits
pub entry_fits : (text : List ℕ) (e : Entry) → EntryToken text e → reread e.kind ≡ true → place_fits text e.start ≡ true
entry_fits text e t r = place-fits text e.start (omega (arith, t.inside)) (begins (drop e.start text) t.len e.kind e.detail t.lexeme_is r)
