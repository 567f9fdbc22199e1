-- A character that has come whole and with which no token starts is refused with 5 at its place, whatever follows. Assumes nothing.
use Prim.Native.Nat.{ℕ, ◌<◌}
use native.Mathlib.Omega.{arith}
use mathlib.Core.Bool.{Bool, true, false, cond, ◌&&◌}
use mathlib.Core.List.{List, [], ◌++◌, ◌∷◌}
use mathlib.Core.Path.{◌≡◌, ap, refl, ◌∙◌}
use lib.Dec.{eqb, ltb}
use lib.ListN.{get_or}
use borrow.Author.Tests.{eqb-true, ltb-true, ne_eqb}
use Rattle.names.specs.Classify.{missing, word_of}
use Rattle.names.specs.Identifiers.{name_len, plain_of, skip_identifier_of}
use Rattle.names.specs.Starts.{begins_raw, begins_string}
use Rattle.names.specs.declared.Word.TheVariants as word
use Rattle.text.proofs.AheadLaws.{char_ascii}
use Rattle.text.proofs.Choices.{and_true}
use Rattle.text.proofs.Utf8Agree.{char_len_le}
use Rattle.text.proofs.WordLaws.{starts_other}
use Rattle.text.specs.Ahead.{char_if}
use Rattle.text.specs.Classes.{ascii_first, ident_first, letter, within}
use Rattle.text.specs.Refusals.{unexpected_char}
use Rattle.text.specs.Utf8.{char_len}
use Rattle.text.specs.Words.{starts_with}
use Rattle.tokens.specs.Shapes.{shape_of}
use Rattle.tokens.specs.Token.{by_shape, of_word, token_of}
use Rattle.tokens.specs.declared.shape.Shape.{Shape}
use Rattle.tokens.specs.declared.shape.Shape.TheVariants as shape
use Rattle.tokens.specs.declared.token.Token.TheVariants as token
use Rattle.settled.proofs.CharEnds.{if_more}
use Rattle.settled.specs.Settled.{is_word, shape_in, starts_nothing}

-- what the test says
pub record Nothing (p : List ℕ) : Type 0 where
  pub come : 0 < char_len p
  pub word : shape_in p ≡ shape.Word
  pub none : char_if ident_first p ≡ 0

word_is : (k : Shape) → is_word k ≡ true → k ≡ shape.Word
word_is (shape.Mark kind) e = let z : ◌≡◌ {A = ℕ} 0 1 = cc in absurd (omega arith)
word_is shape.Attribute e = let z : ◌≡◌ {A = ℕ} 0 1 = cc in absurd (omega arith)
word_is shape.Str e = let z : ◌≡◌ {A = ℕ} 0 1 = cc in absurd (omega arith)
word_is shape.Char e = let z : ◌≡◌ {A = ℕ} 0 1 = cc in absurd (omega arith)
word_is shape.Byte e = let z : ◌≡◌ {A = ℕ} 0 1 = cc in absurd (omega arith)
word_is shape.ByteStr e = let z : ◌≡◌ {A = ℕ} 0 1 = cc in absurd (omega arith)
word_is shape.Number e = let z : ◌≡◌ {A = ℕ} 0 1 = cc in absurd (omega arith)
word_is shape.Word e = refl

pub nothing : (p : List ℕ) → starts_nothing p ≡ true → Nothing p
unfolding starts_nothing
nothing p h =
    let x = and_true (ltb 0 (char_len p)) (is_word (shape_in p) && eqb (char_if ident_first p) 0) h in
    let y = and_true (is_word (shape_in p)) (eqb (char_if ident_first p) 0) x.1 in
    record { come = ltb-true 0 (char_len p) x.0; word = word_is (shape_in p) y.0; none = eqb-true (char_if ident_first p) 0 y.1 }

-- ---- the first byte is no letter

module _ (a : ℕ) (t : List ℕ) (none : char_if ident_first (a ∷ t) ≡ 0) where
  no_first : (l : ℕ) → l < 0x80 → ident_first l ≡ true → eqb a l ≡ false
  no_first l low is = ne_eqb a l (λ e.
      let one : char_if ident_first (l ∷ t) ≡ 1 = char_ascii ident_first (l ∷ t) (omega arith) low ∙ ap (λ (b : Bool). cond b 1 0) is in
      omega (arith, one, ap (λ (x : ℕ). char_if ident_first (x ∷ t)) e, none))

  no_b : eqb a 0x62 ≡ false
  unfolding ident_first ascii_first letter within
  no_b = no_first 0x62 (omega arith) refl

  no_r : eqb a 0x72 ≡ false
  unfolding ident_first ascii_first letter within
  no_r = no_first 0x72 (omega arith) refl

  -- ---- so the shape is told by it alone, and no string and no raw name begins there
  pub shape_first : (b c b' c' : ℕ) → shape_of a b c ≡ shape_of a b' c'
  unfolding shape_of
  shape_first b c b' c' = rw (no_b, no_r)

  raw_none : begins_raw (a ∷ t) ≡ false
  unfolding begins_raw
  raw_none = starts_other 0x72 (0x23 ∷ []) (a ∷ t) no_r

  string_none : begins_string (a ∷ t) ≡ false
  unfolding begins_string
  string_none =
      let b : (ws : List ℕ) → starts_with (0x62 ∷ ws) (a ∷ t) ≡ false = λ ws. starts_other 0x62 ws (a ∷ t) no_b in
      let r : (ws : List ℕ) → starts_with (0x72 ∷ ws) (a ∷ t) ≡ false = λ ws. starts_other 0x72 ws (a ∷ t) no_r in
      simp (b, r)

  word_none : word_of (a ∷ t) ≡ word.Refused (unexpected_char 0)
  unfolding word_of skip_identifier_of plain_of name_len missing
  word_none = rw (string_none, raw_none, none) (rw raw_none)

-- ---- whatever follows

pub nothing_stays : (p v : List ℕ) → Nothing p → token_of (p ++ v) ≡ token.Refused (unexpected_char 0)
unfolding token_of
nothing_stays [] v h = absurd (omega (arith, h.come, char_len_le []))
nothing_stays (a ∷ t) v h =
    let none : char_if ident_first (a ∷ t ++ v) ≡ 0 = if_more (a ∷ t) v h.come ident_first ∙ h.none in
    ap (λ (k : Shape). by_shape k (a ∷ t ++ v)) (shape_first a t h.none (get_or (t ++ v) 0 0) (get_or (t ++ v) 1 0) (get_or t 0 0) (get_or t 1 0) ∙ h.word)
    ∙ ap of_word (word_none a (t ++ v) none)
