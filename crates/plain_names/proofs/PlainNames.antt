-- A plain name is the token that the token reader reads there. Assumes nothing.
use Prim.Native.Nat.{ℕ, ◌+◌, ◌<◌, ◌≤◌}
use native.Mathlib.Omega.{arith}
use mathlib.Core.Bool.{Bool, true, false, cond, not, ◌&&◌}
use mathlib.Core.List.{List, [], ◌∷◌}
use mathlib.Core.Path.{◌≡◌, ap, refl, sym, subst, ◌∙◌}
use lib.Dec.{eqb, leb, ltb}
use lib.ListN.{get_or, length, drop}
use lib.Seq.{get_or-drop}
use borrow.Author.Tests.{ltb-true, lt-ltb, le-ltb, ne_eqb, not-true}
use Rattle.text.proofs.Choices.{and_false, and_true, either, lt_or_le, chosen, cond_same}
use Rattle.text.proofs.ClassLaws.{above, below, first_ascii}
use Rattle.text.proofs.RunLaws.{run_le, run_more, run_holds}
use Rattle.text.proofs.WordLaws.{starts_three, starts_two}
use Rattle.text.specs.Classes.{ascii_first, ascii_next, blank1, digit, ident_first, letter, within}
use Rattle.text.specs.Runs.{run}
use Rattle.text.specs.Words.{starts_with}
use Rattle.comments.proofs.GapFronts.{clear_front, clear_byte}
use Rattle.comments.specs.Gaps.{gap_of}
use Rattle.comments.specs.declared.gap.Gap.TheVariants.{Clear}
use Rattle.text.proofs.AheadLaws.{char_ascii}
use Rattle.names.specs.Characters.{char_if}
use Rattle.names.specs.Classify.{begins_float, by_identifier, named, word_of}
use Rattle.names.specs.Identifiers.{name_len, plain_of, skip_identifier_of}
use Rattle.names.specs.Starts.{begins_raw, begins_string}
use Rattle.names.specs.declared.Identifier.TheVariants.{Name}
use Rattle.names.specs.declared.Word.{Word as Named}
use Rattle.names.specs.declared.Word.TheVariants.{Plain}
use Rattle.reading.proofs.QuietLaws.{quiet_all}
use Rattle.reading.specs.Owed.{quiet_byte}
use Rattle.reading.specs.Tokens.{token}
use Rattle.tokens.proofs.RonLaws.{is_token}
use Rattle.tokens.proofs.ShapeLaws.{shape_at}
use Rattle.tokens.specs.Lexemes.{lexeme, lexeme_of}
use Rattle.tokens.specs.Ron.{ron_token}
use Rattle.tokens.specs.Shapes.{behind_b, behind_r, mark_kind, shape_of, starts_number}
use Rattle.tokens.specs.Token.{by_shape, of_word, token_of}
use Rattle.tokens.specs.declared.shape.Shape.{Shape}
use Rattle.tokens.specs.declared.shape.Shape.TheVariants.{ByteStr, Word}
use Rattle.plain_names.specs.inner.PlainNames.{plain_name}
use Rattle.plain_names.proofs.NameRuns.{below_80, chars_run, first_next, unequal}

-- ---- the first byte of a name begins no gap, no mark and no number

low : (a : ℕ) → ascii_first a ≡ true → 0x41 ≤ a
unfolding ascii_first letter
low a is =
    either (lt_or_le a 0x41)
    (λ h. let e : ascii_first a ≡ false = rw (below 0x41 0x5a a (omega arith), below 0x61 0x7a a (omega arith), ne_eqb a 0x5f (λ e. omega arith)) in
    let z : ◌≡◌ {A = Bool} true false = sym is ∙ e in
    let y : ◌≡◌ {A = ℕ} 0 1 = cc in
    absurd (omega arith))
    (λ h. h)

module _ (a : ℕ) (is : ascii_first a ≡ true) where
  under_80 : a < 0x80
  under_80 = below_80 a (first_next a is)

  first_clear : clear_byte a ≡ true
  unfolding blank1
  first_clear =
      let l = low a is in
      rw (lt-ltb a 0x80 under_80, above 0x09 0x0d a (omega arith), ne_eqb a 0x20 (λ e. omega arith), ne_eqb a 0x2f (λ e. omega arith))

  no_mark : mark_kind a ≡ 0
  unfolding mark_kind ascii_first letter within
  no_mark =
      simp (
        unequal ascii_first a 0x28 is refl,
        unequal ascii_first a 0x29 is refl,
        unequal ascii_first a 0x5b is refl,
        unequal ascii_first a 0x5d is refl,
        unequal ascii_first a 0x7b is refl,
        unequal ascii_first a 0x7d is refl,
        unequal ascii_first a 0x2c is refl,
        unequal ascii_first a 0x3a is refl,
      )

  no_number : starts_number a ≡ false
  unfolding starts_number
  no_number =
      let l = low a is in
      simp (ne_eqb a 0x2b (λ e. omega arith), ne_eqb a 0x2d (λ e. omega arith), ne_eqb a 0x2e (λ e. omega arith), le-ltb a 0x30 (omega arith), lt-ltb 0x39 a (omega arith))

  -- so it begins a word where no string or byte literal stands behind a `b` or `r`
  a_word : (b c : ℕ) → behind_b b c ≡ Word → behind_r b c ≡ Word → shape_of a b c ≡ Word
  unfolding shape_of
  a_word b c eb er =
      let l = low a is in
      rw (no_mark, ne_eqb a 0x23 (λ e. omega arith), ne_eqb a 0x22 (λ e. omega arith), ne_eqb a 0x27 (λ e. omega arith), eb, er, no_number)
      (rw (cond_same (eqb a 0x72) Word) (cond_same (eqb a 0x62) Word))

gap_first : (s : List ℕ) → 0 < length s → ascii_first (get_or s 0 0) ≡ true → gap_of s ≡ Clear 0
gap_first s h is = clear_front s h (first_clear (get_or s 0 0) is)

-- ---- what the definition says

pub record Found (s : List ℕ) : Type 0 where
  pub some : 0 < run ascii_next s
  pub len_is : plain_name s ≡ run ascii_next s
  pub first : ascii_first (get_or s 0 0) ≡ true
  pub quiet : quiet_byte (get_or s (run ascii_next s) 0) ≡ true
  pub no_float : begins_float s ≡ false

pub found : (s : List ℕ) → 0 < plain_name s → Found s
unfolding plain_name
found s h =
    let first : Bool = ascii_first (get_or s 0 0) in
    let quiet : Bool = quiet_byte (get_or s (run ascii_next s) 0) in
    let float : Bool = begins_float s in
    let all = chosen (first && (quiet && not float)) (run ascii_next s) h in
    let here = and_true first (quiet && not float) all.0 in
    let behind = and_true quiet (not float) here.1 in
    record {
      some = subst (λ (n : ℕ). 0 < n) all.1 h;
      len_is = all.1;
      first = here.0;
      quiet = behind.0;
      no_float = not-true float behind.1;
    }

module _ (s : List ℕ) (f : Found s) where
  -- ---- no quote and no `#` stands in the name or behind it
  abbrev len : ℕ
  len = run ascii_next s

  apart : (w k : ℕ) → ascii_next w ≡ false → quiet_byte w ≡ false → k ≤ len → eqb (get_or s k 0) w ≡ false
  apart w k i q h =
      either (lt_or_le k len)
      (λ l. unequal ascii_next (get_or s k 0) w (run_holds ascii_next s k l) i)
      (λ l. let e : k ≡ len = omega arith in unequal quiet_byte (get_or s k 0) w (ap (λ (j : ℕ). quiet_byte (get_or s j 0)) e ∙ f.quiet) q)

  no_tick : eqb (get_or s 1 0) 0x27 ≡ false
  unfolding ascii_next letter digit within quiet_byte
  no_tick = apart 0x27 1 refl refl f.some

  no_quote : eqb (get_or s 1 0) 0x22 ≡ false
  unfolding ascii_next letter digit within quiet_byte
  no_quote = apart 0x22 1 refl refl f.some

  no_hash : eqb (get_or s 1 0) 0x23 ≡ false
  unfolding ascii_next letter digit within quiet_byte
  no_hash = apart 0x23 1 refl refl f.some

  -- nor behind a second byte `r`
  behind-r : (w : ℕ) → ascii_next w ≡ false → quiet_byte w ≡ false → (eqb (get_or s 1 0) 0x72 && eqb (get_or s 2 0) w) ≡ false
  unfolding quiet_byte
  behind-r w i q =
      either (lt_or_le 1 len)
      (λ l. rw (apart w 2 i q l) (and_false (eqb (get_or s 1 0) 0x72)))
      (λ l. let e : 1 ≡ len = omega (arith, f.some) in rw (unequal quiet_byte (get_or s 1 0) 0x72 (ap (λ (j : ℕ). quiet_byte (get_or s j 0)) e ∙ f.quiet) refl))

  no_r_quote : (eqb (get_or s 1 0) 0x72 && eqb (get_or s 2 0) 0x22) ≡ false
  unfolding ascii_next letter digit within quiet_byte
  no_r_quote = behind-r 0x22 refl refl

  no_r_hash : (eqb (get_or s 1 0) 0x72 && eqb (get_or s 2 0) 0x23) ≡ false
  unfolding ascii_next letter digit within quiet_byte
  no_r_hash = behind-r 0x23 refl refl

  -- ---- so it is no string and no raw name
  b_word : behind_b (get_or s 1 0) (get_or s 2 0) ≡ Word
  unfolding behind_b
  b_word = rw (no_tick, no_quote) (go (eqb (get_or s 1 0) 0x72) (eqb (get_or s 2 0) 0x22) (eqb (get_or s 2 0) 0x23) no_r_quote no_r_hash)
    where
      go : (r q h : Bool) → (r && q) ≡ false → (r && h) ≡ false → cond r (cond q ByteStr (cond h ByteStr Word)) Word ≡ Word
      go true q h e d = rw (e, d)
      go false q h e d = refl

  r_word : behind_r (get_or s 1 0) (get_or s 2 0) ≡ Word
  unfolding behind_r
  r_word = rw (no_quote, no_hash)

  shape_is : shape_at s ≡ Word
  shape_is = a_word (get_or s 0 0) f.first (get_or s 1 0) (get_or s 2 0) b_word r_word

  no_two : (a b : ℕ) → eqb (get_or s 1 0) b ≡ false → starts_with (a ∷ b ∷ []) s ≡ false
  no_two a b e = starts_two a b s ∙ rw (e, and_false (eqb (get_or s 0 0) a)) (and_false (leb 2 (length s)))

  no_three : (a b c : ℕ) → (eqb (get_or s 1 0) b && eqb (get_or s 2 0) c) ≡ false → starts_with (a ∷ b ∷ c ∷ []) s ≡ false
  no_three a b c e = starts_three a b c s ∙ rw (e, and_false (eqb (get_or s 0 0) a)) (and_false (leb 3 (length s)))

  no_string : begins_string s ≡ false
  unfolding begins_string
  no_string =
      rw (no_two 0x62 0x22 no_quote, no_two 0x62 0x27 no_tick, no_three 0x62 0x72 0x23 no_r_hash, no_three 0x62 0x72 0x22 no_r_quote)
      (rw (no_two 0x72 0x22 no_quote, no_three 0x72 0x23 0x22 (rw no_hash), no_three 0x72 0x23 0x23 (rw no_hash)))

  no_raw : begins_raw s ≡ false
  unfolding begins_raw
  no_raw = no_two 0x72 0x23 no_hash

  -- ---- and reads as a name of its length
  quiet_ascii : get_or s len 0 < 0x80
  quiet_ascii = ltb-true (get_or s len 0) 0x80 (quiet_all (λ (b : ℕ). ltb b 0x80) (get_or s len 0) refl f.quiet)

  holds_one : 0 < length s
  holds_one = omega (arith, f.some, run_le ascii_next s)

  rest_is : len ≡ 1 + run ascii_next (drop 1 s)
  rest_is = run_more ascii_next s 0 holds_one (first_next (get_or s 0 0) f.first)

  rest_ascii : get_or (drop 1 s) (run ascii_next (drop 1 s)) 0 < 0x80
  rest_ascii =
      let e : get_or (drop 1 s) (run ascii_next (drop 1 s)) 0 ≡ get_or s len 0 = get_or-drop 1 s (run ascii_next (drop 1 s)) 0 ∙ ap (λ (k : ℕ). get_or s k 0) (sym rest_is) in
      omega (arith, e, quiet_ascii)

  name-len : name_len s ≡ len
  unfolding name_len
  name-len =
      let one : char_if ident_first s ≡ 1 = char_ascii ident_first s holds_one (under_80 (get_or s 0 0) f.first) ∙ ap (λ (t : Bool). cond t 1 0) (first_ascii (get_or s 0 0) (under_80 (get_or s 0 0) f.first) ∙ f.first) in
      rw one (ap (λ (n : ℕ). 1 + n) (chars_run (drop 1 s) rest_ascii) ∙ sym rest_is)

  name_is : skip_identifier_of s ≡ Name len
  unfolding skip_identifier_of plain_of
  name_is = rw (no_string, no_raw, name-len, ne_eqb len 0 (λ e. omega (arith, f.some)))

  word_is : word_of s ≡ Plain len
  unfolding word_of named
  word_is = ap (by_identifier s) name_is ∙ rw f.no_float

  lexeme_is : lexeme_of (token_of s) ≡ lexeme len 9 0
  unfolding token_of
  lexeme_is = ap (λ (k : Shape). lexeme_of (by_shape k s)) shape_is ∙ ap (λ (w : Named). lexeme_of (of_word w)) word_is

pub plain-name : (s : List ℕ) → 0 < plain_name s → ron_token s ≡ token (record { gap = 0; len = plain_name s; kind = 9; detail = 0 })
plain-name s h =
    let f = found s h in
    is_token s (record { gap = 0; len = plain_name s; kind = 9; detail = 0 })
    record {
      gap_is = gap_first s (holds_one s f) f.first;
      inside = holds_one s f;
      lexeme_is = lexeme_is s f ∙ ap (λ (n : ℕ). lexeme n 9 0) (sym f.len_is);
    }
