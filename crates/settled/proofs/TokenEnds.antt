-- Tokens before a stop byte, and tokens that their last byte closes. Assumes nothing.
use Rattle.std.proofs.Common.{Ok, Err}
use Rattle.text.specs.Refusals.{Told}
use Rattle.strings.specs.declared.literal.Literal.{Literal}
use Prim.Native.Nat.{ℕ, suc}
use native.Mathlib.Omega.{arith}
use mathlib.Core.Bool.{true, false}
use mathlib.Core.Logic.{◌⊎◌, inl, inr}
use mathlib.Core.List.{List, [], ◌++◌, ◌∷◌, append_assoc}
use mathlib.Core.Path.{◌≡◌, ap, refl, sym, subst, ◌∙◌}
use lib.Dec.{eqb}
use lib.ListN.{get_or, length, length-append}
use Rattle.attributes.proofs.AttributeLaws.{Within-attribute, attribute_closed}
use Rattle.attributes.specs.Attributes.{attribute_of}
use Rattle.integers.proofs.IntegerStops.{Outside}
use Rattle.integers.specs.Width.{code_of}
use Rattle.names.specs.Classify.{word_of}
use Rattle.names.specs.declared.Word.{Word}
use Rattle.names.specs.declared.Word.TheVariants as word
use Rattle.numbers.proofs.NumberStops.{number_stopped}
use Rattle.numbers.specs.Numbers.{number_of}
use Rattle.numbers.specs.declared.Number.{Number}
use Rattle.numbers.specs.declared.Number.TheVariants as number
use Rattle.strings.proofs.Closes.{Within-string, Within-char, Within-byte, string_closed, byte_string_closed, char_closed, byte_closed}
use Rattle.strings.specs.Chars.{char_of, byte_of}
use Rattle.strings.specs.Strings.{string_of, byte_string_of}
use Rattle.text.specs.Classes.{ascii_next, ascii_raw, digit, letter, within}
use Rattle.tokens.proofs.ShapeLaws.{shape_at}
use Rattle.tokens.proofs.TokenLaws.{Fits}
use Rattle.tokens.specs.Lexemes.{lexeme, lexeme_of, number_lexeme}
use Rattle.tokens.specs.Shapes.{behind_b, behind_r, shape_of}
use Rattle.tokens.specs.Token.{of_word, of_char, of_byte, of_string, of_byte_string, of_attribute, by_shape, token_of}
use Rattle.tokens.specs.declared.lexeme.Lexeme.{Lexeme}
use Rattle.tokens.specs.declared.shape.Shape.{Shape}
use Rattle.tokens.specs.declared.shape.Shape.TheVariants as shape
use Rattle.tokens.specs.declared.token.Token.TheVariants as token
use Rattle.settled.proofs.NumberEnds.{NumberBy, number_short}
use Rattle.settled.proofs.WordEnds.{EndsBy, not_byte, raw_out, stop_ascii, word_short, word_stopped}
use Rattle.settled.specs.Bytes.{stops_byte}

-- ---- what an accepted lexeme says of its reader

fits_attribute : (n : ℕ) (a : Told (ℕ × ℕ)) → Fits n (lexeme_of (of_attribute a)) → Within-attribute n a
fits_attribute n (Ok (l, e)) h = h
fits_attribute n (Err r) h = h

fits_string : (n : ℕ) (a : Told Literal) → Fits n (lexeme_of (of_string a)) → Within-string n a
fits_string n (Ok l) h = h
fits_string n (Err r) h = h

fits_byte_string : (n : ℕ) (a : Told Literal) → Fits n (lexeme_of (of_byte_string a)) → Within-string n a
fits_byte_string n (Ok l) h = h
fits_byte_string n (Err r) h = h

fits_char : (n : ℕ) (a : Told (ℕ × ℕ)) → Fits n (lexeme_of (of_char a)) → Within-char n a
fits_char n (Ok (l, c)) h = h
fits_char n (Err r) h = h

fits_byte : (n : ℕ) (a : Told (ℕ × ℕ)) → Fits n (lexeme_of (of_byte a)) → Within-byte n a
fits_byte n (Ok (l, c)) h = h
fits_byte n (Err r) h = h

same_len : (l k d l' k' d' : ℕ) → lexeme l k d ≡ lexeme l' k' d' → l ≡ l'
same_len l k d l' k' d' h =
    let e : ◌≡◌ {A = Lexeme} (record { len = l; kind = k; detail = d }) (record { len = l'; kind = k'; detail = d' }) = cc in
    ap (λ (x : Lexeme). x.len) e

not_lexeme : (d : Told Lexeme) (l k e : ℕ) → (Fits l d → ⊥) → d ≡ lexeme l k e → ⊥
not_lexeme d l k e f h = f (subst (Fits l) (sym h) (omega arith))

-- a number or word that ends before a byte does not end with it
number_not : (n k d : ℕ) (a : Number) → NumberBy n a → number_lexeme a ≡ lexeme (suc n) k d → ⊥
number_not n k d (number.Int w l) b h = let q = same_len l 11 (code_of w) (suc n) k d h in omega arith
number_not n k d (number.Float f) b h = let q = same_len f.len 12 f.suffix (suc n) k d h in omega arith
number_not n k d (number.Refused r) b h = not_lexeme (Err r) (suc n) k d (λ x. x) h

word_not : (c : ℕ) (is : stops_byte c ≡ true) (n k d : ℕ) (a : Word) → EndsBy c is n a → lexeme_of (of_word a) ≡ lexeme (suc n) k d → ⊥
word_not c is n k d (word.Plain l) b h = let q = same_len l 9 0 (suc n) k d h in omega arith
word_not c is n k d (word.Raw l) b h = let q = same_len l 10 0 (suc n) k d h in omega arith
word_not c is n k d (word.Float l suffix) b h = let q = same_len l 12 suffix (suc n) k d h in omega arith
word_not c is n k d (word.Refused r) b h = not_lexeme (Err r) (suc n) k d (λ x. x) h

module _ (c : ℕ) (is : stops_byte c ≡ true) where
  pub out : Outside c
  out = record { raw = raw_out c is; low = stop_ascii c is }

  -- ---- the shape
  no_hash : eqb c 0x23 ≡ false
  unfolding stops_byte ascii_raw ascii_next letter digit within
  no_hash = not_byte c is 0x23 refl

  no_b : eqb c 0x62 ≡ false
  unfolding stops_byte ascii_raw ascii_next letter digit within
  no_b = not_byte c is 0x62 refl

  no_r : eqb c 0x72 ≡ false
  unfolding stops_byte ascii_raw ascii_next letter digit within
  no_r = not_byte c is 0x72 refl

  b_same : (x y : ℕ) → behind_b c x ≡ behind_b c y
  unfolding behind_b
  b_same x y = rw no_r

  r_same : (x y : ℕ) → behind_r c x ≡ behind_r c y
  unfolding behind_r
  r_same x y = rw no_hash

  second_same : (a x y : ℕ) → shape_of a c x ≡ shape_of a c y
  unfolding shape_of
  second_same a x y = rw (b_same x y, r_same x y)

  first_same : (x y x' y' : ℕ) → shape_of c x y ≡ shape_of c x' y'
  unfolding shape_of
  first_same x y x' y' = rw (no_b, no_r)

  pub shape_same : (u v v' : List ℕ) → shape_at (u ++ c ∷ v) ≡ shape_at (u ++ c ∷ v')
  shape_same [] v v' = first_same (get_or v 0 0) (get_or v 1 0) (get_or v' 0 0) (get_or v' 1 0)
  shape_same (a ∷ []) v v' = second_same a (get_or v 0 0) (get_or v' 0 0)
  shape_same (a ∷ b ∷ []) v v' = refl
  shape_same (a ∷ b ∷ d ∷ u) v v' = refl

  -- ---- a token before the byte
  module _ (u v v' : List ℕ) where
    before : (k : Shape) → Fits (length u) (lexeme_of (by_shape k (u ++ c ∷ v))) → by_shape k (u ++ c ∷ v') ≡ by_shape k (u ++ c ∷ v)
    before (shape.Mark kind) f = refl
    before shape.Attribute f = ap of_attribute (attribute_closed u (c ∷ v) (c ∷ v') (fits_attribute (length u) (attribute_of (u ++ c ∷ v)) f))
    before shape.Str f = ap of_string (string_closed u (c ∷ v) (c ∷ v') (fits_string (length u) (string_of (u ++ c ∷ v)) f))
    before shape.Char f = ap of_char (char_closed u (c ∷ v) (c ∷ v') (fits_char (length u) (char_of (u ++ c ∷ v)) f))
    before shape.Byte f = ap of_byte (byte_closed u (c ∷ v) (c ∷ v') (fits_byte (length u) (byte_of (u ++ c ∷ v)) f))
    before shape.ByteStr f = ap of_byte_string (byte_string_closed u (c ∷ v) (c ∷ v') (fits_byte_string (length u) (byte_string_of (u ++ c ∷ v)) f))
    before shape.Number f = ap token.Number ((number_stopped c out).same u v' v)
    before shape.Word f = ap of_word ((word_stopped c is).same u v' v)

    pub token_before : Fits (length u) (lexeme_of (token_of (u ++ c ∷ v))) → token_of (u ++ c ∷ v') ≡ token_of (u ++ c ∷ v)
    unfolding token_of
    token_before f = ap (λ (k : Shape). by_shape k (u ++ c ∷ v')) (sym (shape_same u v v')) ∙ before (shape_at (u ++ c ∷ v)) f

    -- ---- a token that ends with it
    abbrev one : List ℕ
    one = u ++ c ∷ []

    on_one : {A : Type 0} (f : List ℕ → A) → f (one ++ v') ≡ f (one ++ v) → f (u ++ c ∷ v') ≡ f (u ++ c ∷ v)
    on_one f e = ap f (sym (append_assoc u (c ∷ []) v')) ∙ e ∙ ap f (append_assoc u (c ∷ []) v)

    fits_one : {A : Type 0} (f : List ℕ → A) (P : ℕ → A → Type 0) → P (suc (length u)) (f (u ++ c ∷ v)) → P (length one) (f (one ++ v))
    fits_one f P h =
        let l : suc (length u) ≡ length one = omega (arith, length-append u (c ∷ [])) in
        subst (λ (n : ℕ). P n (f (one ++ v))) l (subst (λ (s : List ℕ). P (suc (length u)) (f s)) (sym (append_assoc u (c ∷ []) v)) h)

    closes : (kind detail : ℕ) (k : Shape) → lexeme_of (by_shape k (u ++ c ∷ v)) ≡ lexeme (suc (length u)) kind detail → by_shape k (u ++ c ∷ v') ≡ by_shape k (u ++ c ∷ v)
    closes kind detail k h = go k h (subst (Fits (suc (length u))) (sym h) (omega arith))
      where
        go : (k : Shape) → lexeme_of (by_shape k (u ++ c ∷ v)) ≡ lexeme (suc (length u)) kind detail → Fits (suc (length u)) (lexeme_of (by_shape k (u ++ c ∷ v)))
            → by_shape k (u ++ c ∷ v') ≡ by_shape k (u ++ c ∷ v)
        go (shape.Mark kind) e f = refl
        go shape.Attribute e f = ap of_attribute (on_one attribute_of (attribute_closed one v v' (fits_one attribute_of Within-attribute (fits_attribute (suc (length u)) (attribute_of (u ++ c ∷ v)) f))))
        go shape.Str e f = ap of_string (on_one string_of (string_closed one v v' (fits_one string_of Within-string (fits_string (suc (length u)) (string_of (u ++ c ∷ v)) f))))
        go shape.Char e f = ap of_char (on_one char_of (char_closed one v v' (fits_one char_of Within-char (fits_char (suc (length u)) (char_of (u ++ c ∷ v)) f))))
        go shape.Byte e f = ap of_byte (on_one byte_of (byte_closed one v v' (fits_one byte_of Within-byte (fits_byte (suc (length u)) (byte_of (u ++ c ∷ v)) f))))
        go shape.ByteStr e f = ap of_byte_string (on_one byte_string_of (byte_string_closed one v v' (fits_one byte_string_of Within-string (fits_byte_string (suc (length u)) (byte_string_of (u ++ c ∷ v)) f))))
        go shape.Number e f = absurd (number_not (length u) kind detail (number_of (u ++ c ∷ v)) (number_short c out u v) e)
        go shape.Word e f = absurd (word_not c is (length u) kind detail (word_of (u ++ c ∷ v)) (word_short c is u v) e)

    pub token_closed : (kind detail : ℕ) → lexeme_of (token_of (u ++ c ∷ v)) ≡ lexeme (suc (length u)) kind detail → token_of (u ++ c ∷ v') ≡ token_of (u ++ c ∷ v)
    unfolding token_of
    token_closed kind detail h = ap (λ (k : Shape). by_shape k (u ++ c ∷ v')) (sym (shape_same u v v')) ∙ closes kind detail (shape_at (u ++ c ∷ v)) h

    -- ---- a refused name or number stays refused
    pub word_stays : (k : Shape) → (k ≡ shape.Number) ⊎ (k ≡ shape.Word) → by_shape k (u ++ c ∷ v') ≡ by_shape k (u ++ c ∷ v)
    word_stays k (inl e) = rw e (ap token.Number ((number_stopped c out).same u v' v))
    word_stays k (inr e) = rw e (ap of_word ((word_stopped c is).same u v' v))
