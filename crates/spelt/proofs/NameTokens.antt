-- A name with a blank behind it is read as the token of its bytes. Assumes nothing.
use Prim.Native.Nat.{ℕ, ◌≤◌, ◌<◌}
use native.Mathlib.Omega.{arith}
use mathlib.Core.Bool.{Bool, true, false, cond, true≢false, ◌&&◌}
use mathlib.Core.List.{List, [], ◌∷◌, ◌++◌, append_assoc}
use mathlib.Core.Logic.{inl}
use mathlib.Core.Path.{◌≡◌, refl, ap, subst, sym, ◌∙◌}
use lib.Dec.{eqb, leb}
use lib.ListN.{get_or, length, length-append}
use lib.Seq.{get_or_at}
use borrow.Author.Tests.{eqb-true, le-ltb, lt-ltb, ne_eqb}
use Rattle.xid.specs.Xid.{xid_continue}
use Rattle.text.proofs.BlankLaws.{blank_of_char}
use Rattle.text.proofs.CharFronts.{code_ascii}
use Rattle.text.proofs.Choices.{and_false, bool_cases, cond_same, either, lt_or_le}
use Rattle.text.proofs.NameClasses.{ident-next}
use Rattle.text.proofs.Utf8Agree.{char_encode, char_pos, decode_encode}
use Rattle.text.proofs.WordLaws.{starts_three, starts_two}
use Rattle.text.specs.Classes.{ascii_next, blank_width, digit, ident_next, letter, within}
use Rattle.text.specs.Utf8.{Scalar, code_of, encode, encoded_len}
use Rattle.text.specs.Words.{starts_with}
use Rattle.comments.proofs.GapLaws.{comment_other, gap_ends, item_comment}
use Rattle.comments.specs.Gaps.{gap_of}
use Rattle.comments.specs.declared.gap.Gap.TheVariants.{Clear}
use Rattle.comments.specs.declared.gap.Item.TheVariants.{Other}
use Rattle.names.proofs.Agree.{name_agrees}
use Rattle.names.specs.Classify.{by_identifier, named, word_of}
use Rattle.names.specs.Identifiers.{name_len, plain_of, skip_identifier_of}
use Rattle.names.specs.Names.{Ends, Run, starts_name}
use Rattle.names.specs.Starts.{begins_raw, begins_string}
use Rattle.names.specs.declared.Identifier.TheVariants.{Name}
use Rattle.names.specs.declared.Word.{Word as Read-word}
use Rattle.names.specs.declared.Word.TheVariants.{Plain}
use Rattle.reading.specs.Tokens.{token}
use Rattle.tokens.proofs.RonLaws.{is_token}
use Rattle.tokens.specs.Lexemes.{lexeme, lexeme_of}
use Rattle.tokens.specs.Ron.{ron_token}
use Rattle.tokens.specs.Shapes.{behind_b, behind_r, mark_kind, shape_of, starts_number}
use Rattle.tokens.specs.Token.{by_shape, of_word, token_of}
use Rattle.tokens.specs.declared.shape.Shape.{Shape}
use Rattle.tokens.specs.declared.shape.Shape.TheVariants.{Word}
use Rattle.tiled.specs.Forms.{FloatName}
use Rattle.spelt.proofs.FloatNames.{name_plain}
use Rattle.spelt.proofs.NameBytes.{NameByte, bytes_to, first_low, other_byte, start_no_blank}

-- ---- the blank ends a name

blank_ends : (s : List ℕ) → Ends xid_continue (0x20 ∷ s)
unfolding ident_next ascii_next letter digit within
blank_ends s c t sc e q =
    let is : c ≡ 0x20 = sym (decode_encode c t sc) ∙ sym (ap code_of q) ∙ code_ascii (0x20 ∷ s) (omega arith) in
    true≢false (sym e ∙ ap xid_continue is ∙ sym (ident-next 0x20))

-- ---- a first byte that begins neither mark nor number nor string

module _ (a : ℕ) (low : 0x41 ≤ a) (is : NameByte a) where
  not_byte : (w : ℕ) → ascii_next w ≡ false → w < 0x80 → (w ≡ 0x20 → ⊥) → eqb a w ≡ false
  not_byte w i l n = other_byte a w (inl is) i l n

  no_mark : mark_kind a ≡ 0
  unfolding mark_kind ascii_next letter digit within
  no_mark =
      rw (
        ne_eqb a 0x28 (λ e. omega arith),
        ne_eqb a 0x29 (λ e. omega arith),
        not_byte 0x5b refl (omega arith) (λ e. omega arith),
        not_byte 0x5d refl (omega arith) (λ e. omega arith),
        not_byte 0x7b refl (omega arith) (λ e. omega arith),
        not_byte 0x7d refl (omega arith) (λ e. omega arith),
        ne_eqb a 0x2c (λ e. omega arith),
        ne_eqb a 0x3a (λ e. omega arith),
      )

  no_number : starts_number a ≡ false
  unfolding starts_number
  no_number = rw (ne_eqb a 0x2b (λ e. omega arith), ne_eqb a 0x2d (λ e. omega arith), ne_eqb a 0x2e (λ e. omega arith), le-ltb a 0x30 (omega arith), lt-ltb 0x39 a (omega arith))

  a_word : (b c : ℕ) → behind_b b c ≡ Word → behind_r b c ≡ Word → shape_of a b c ≡ Word
  unfolding shape_of
  a_word b c eb er =
      rw (no_mark, ne_eqb a 0x23 (λ e. omega arith), ne_eqb a 0x22 (λ e. omega arith), ne_eqb a 0x27 (λ e. omega arith), eb, er, no_number)
      (rw (cond_same (eqb a 0x72) Word) (cond_same (eqb a 0x62) Word))

-- ---- a name of n bytes

module _ (c : ℕ) (w s : List ℕ) (sc : Scalar c) (starts : starts_name c ≡ true) (x : Run xid_continue w) where
  abbrev u : List ℕ
  u = encode c ++ w

  abbrev t : List ℕ
  t = (encode c ++ w) ++ 0x20 ∷ s

  some : 0 < length u
  some = omega (arith, length-append (encode c) w, char_pos (char_encode c sc))

  split : t ≡ encode c ++ (w ++ 0x20 ∷ s)
  split = append_assoc (encode c) w (0x20 ∷ s)

  len_is : name_len t ≡ length u
  len_is =
      (name_agrees t (length u) some).1
      (record { first = c; next = w; rest = 0x20 ∷ s; split = refl; size = refl; scalar = sc; starts = starts; goes-on = x; ends = blank_ends s })

  low : 0x41 ≤ get_or t 0 0
  low = subst (λ (l : List ℕ). 0x41 ≤ get_or l 0 0) (sym split) (first_low c (w ++ 0x20 ∷ s) starts)

  no_gap : gap_of t ≡ Clear 0
  unfolding gap_of
  no_gap =
      let l : 0 < length t = omega (arith, length-append u (0x20 ∷ s)) in
      let z : 0 ≡ blank_width (get_or t 0 0) (get_or t 1 0) (get_or t 2 0) =
      sym (ap (λ (l : List ℕ). blank_width (get_or l 0 0) (get_or l 1 0) (get_or l 2 0)) split ∙ blank_of_char c (w ++ 0x20 ∷ s) sc ∙ ap (λ (b : Bool). cond b (encoded_len c) 0) (start_no_blank c starts)) in
      gap_ends t 0 Other l (item_comment t 0 z (omega arith) ∙ comment_other t l (λ e. omega (arith, low)))

  -- ---- no quote and no `#` stands in the name or behind it
  apart : (b i : ℕ) → ascii_next b ≡ false → b < 0x80 → (b ≡ 0x20 → ⊥) → i ≤ length u → eqb (get_or t i 0) b ≡ false
  apart b i e l n h = other_byte (get_or t i 0) b (bytes_to c w s starts x i h) e l n

  no_tick : eqb (get_or t 1 0) 0x27 ≡ false
  unfolding ascii_next letter digit within
  no_tick = apart 0x27 1 refl (omega arith) (λ e. omega arith) some

  no_quote : eqb (get_or t 1 0) 0x22 ≡ false
  unfolding ascii_next letter digit within
  no_quote = apart 0x22 1 refl (omega arith) (λ e. omega arith) some

  no_hash : eqb (get_or t 1 0) 0x23 ≡ false
  unfolding ascii_next letter digit within
  no_hash = apart 0x23 1 refl (omega arith) (λ e. omega arith) some

  -- nor behind a second byte that is no blank
  third : (b : ℕ) → ascii_next b ≡ false → b < 0x80 → (b ≡ 0x20 → ⊥) → eqb (get_or t 1 0) 0x72 ≡ true → eqb (get_or t 2 0) b ≡ false
  third b e l n r =
      either (lt_or_le 2 (length u)) (λ h. apart b 2 e l n (omega arith)) λ h.
      either (lt_or_le 1 (length u)) (λ k. apart b 2 e l n (omega arith))
      (λ k. absurd (omega (arith, eqb-true (get_or t 1 0) 0x72 r, get_or_at u 0x20 s 0 1 (omega (arith, some)))))

  no_byte_string : behind_b (get_or t 1 0) (get_or t 2 0) ≡ Word
  unfolding behind_b ascii_next letter digit within
  no_byte_string =
      rw (no_tick, no_quote)
      (either (bool_cases (eqb (get_or t 1 0) 0x72))
      (λ r. rw (r, third 0x22 refl (omega arith) (λ e. omega arith) r, third 0x23 refl (omega arith) (λ e. omega arith) r))
      (λ r. rw r))

  no_raw_string : behind_r (get_or t 1 0) (get_or t 2 0) ≡ Word
  unfolding behind_r
  no_raw_string = rw (no_quote, no_hash)

  first_byte : NameByte (get_or t 0 0)
  first_byte = either (bytes_to c w s starts x 0 (omega arith)) (λ b. b) (λ e. absurd (omega (arith, low)))

  word_shape : shape_of (get_or t 0 0) (get_or t 1 0) (get_or t 2 0) ≡ Word
  word_shape = a_word (get_or t 0 0) low first_byte (get_or t 1 0) (get_or t 2 0) no_byte_string no_raw_string

  -- ---- so it is a name
  no_two : (a b : ℕ) → eqb (get_or t 1 0) b ≡ false → starts_with (a ∷ b ∷ []) t ≡ false
  no_two a b e = starts_two a b t ∙ rw (e, and_false (eqb (get_or t 0 0) a)) (and_false (leb 2 (length t)))

  no_three : (a b d : ℕ) → (eqb (get_or t 1 0) b && eqb (get_or t 2 0) d) ≡ false → starts_with (a ∷ b ∷ d ∷ []) t ≡ false
  no_three a b d e = starts_three a b d t ∙ rw (e, and_false (eqb (get_or t 0 0) a)) (and_false (leb 3 (length t)))

  behind-r : (b : ℕ) → ascii_next b ≡ false → b < 0x80 → (b ≡ 0x20 → ⊥) → (eqb (get_or t 1 0) 0x72 && eqb (get_or t 2 0) b) ≡ false
  behind-r b e l n = either (bool_cases (eqb (get_or t 1 0) 0x72)) (λ r. rw (r, third b e l n r)) (λ r. rw r)

  no_string : begins_string t ≡ false
  unfolding begins_string ascii_next letter digit within
  no_string =
      rw (no_two 0x62 0x22 no_quote, no_two 0x62 0x27 no_tick)
      (rw (no_three 0x62 0x72 0x23 (behind-r 0x23 refl (omega arith) (λ e. omega arith)), no_three 0x62 0x72 0x22 (behind-r 0x22 refl (omega arith) (λ e. omega arith)))
      (rw (no_two 0x72 0x22 no_quote, no_three 0x72 0x23 0x22 (rw no_hash), no_three 0x72 0x23 0x23 (rw no_hash))))

  no_raw : begins_raw t ≡ false
  unfolding begins_raw
  no_raw = no_two 0x72 0x23 no_hash

  name_is : skip_identifier_of t ≡ Name (length u)
  unfolding skip_identifier_of plain_of
  name_is = rw (no_string, no_raw, len_is, ne_eqb (length u) 0 (λ e. omega (arith, some)))

  -- ---- and none of the words that are floats
  module _ (fine : (d : ℕ) → FloatName d u → ⊥) where
    not_float : named t (length u) ≡ Plain (length u)
    not_float = name_plain u (0x20 ∷ s) fine

    word_is : word_of t ≡ Plain (length u)
    unfolding word_of
    word_is = ap (by_identifier t) name_is ∙ not_float

    lexeme_is : lexeme_of (token_of t) ≡ lexeme (length u) 9 0
    unfolding token_of
    lexeme_is = ap (λ (k : Shape). lexeme_of (by_shape k t)) word_shape ∙ ap (λ (k : Read-word). lexeme_of (of_word k)) word_is

    pub name_token : ron_token ((encode c ++ w) ++ 0x20 ∷ s) ≡ token (record { gap = 0; len = length (encode c ++ w); kind = 9; detail = 0 })
    name_token =
        is_token t (record { gap = 0; len = length u; kind = 9; detail = 0 })
        record { gap_is = no_gap; inside = omega (arith, length-append u (0x20 ∷ s)); lexeme_is = lexeme_is }
