-- What the functions of src/ say on each way out, over variables. Assumes nothing.
use Rattle.std.proofs.Common.{Ok, Err}
use Prim.Native.Nat.{ℕ, ◌+◌, ◌-◌, ◌<◌, ◌≤◌}
use native.Mathlib.Omega.{arith}
use mathlib.Core.Bool.{true, false, not}
use mathlib.Core.List.{List, [], ◌∷◌, append-nil}
use mathlib.Core.Path.{◌≡◌, ap, refl, subst, sym, ◌∙◌}
use lib.Dec.{eqb, ltb}
use lib.ListN.{drop, drop_of_length-le, get_or, length}
use borrow.Author.Tests.{eq-eqb, le-leb, le-ltb, lt-leb, lt-ltb, ne_eqb}
use Rattle.comments.proofs.GapLaws.{EndsBy, gap_bounded}
use Rattle.comments.specs.Gaps.{gap_of}
use Rattle.comments.specs.declared.gap.Gap.TheVariants as gap
use Rattle.arriving.specs.Owing.{tells_end}
use Rattle.reading.specs.Kept.{any_quiet}
use Rattle.reading.specs.Owed.{quiet_byte}
use Rattle.text.proofs.Choices.{and_false, bool_cases, either}
use Rattle.text.proofs.Lists.{front}
use Rattle.text.specs.Ahead.{char_if}
use Rattle.text.specs.Classes.{ascii_raw, ident_first, one_of}
use Rattle.text.specs.Refusals.{unexpected_char, Told}
use Rattle.text.specs.Utf8.{char_len}
use Rattle.text.specs.declared.refusal.Refusal.{Refusal}
use Rattle.tokens.specs.Lexemes.{lexeme_of}
use Rattle.tokens.specs.Shapes.{shape_of}
use Rattle.tokens.specs.Token.{token_of}
use Rattle.tokens.specs.declared.lexeme.Lexeme.{Lexeme}
use Rattle.tokens.specs.declared.shape.Shape.{Shape}
use Rattle.settled.proofs.NothingEnds.{nothing, nothing_stays}
use Rattle.settled.specs.Bytes.{decides_byte, stops_byte}
use Rattle.settled.specs.Settled.{behind_slash, by_lexeme, is_word, quoted_stays, ron_settles, settled_behind, shape_in, spoilt_for, starts_nothing, stays_by, stop_from}

-- ---- bytes

module _ (b : ℕ) where
  pub decides_quiet : quiet_byte b ≡ true → decides_byte b ≡ true
  unfolding decides_byte
  decides_quiet e = rw e

  pub decides_other : quiet_byte b ≡ false → decides_byte b ≡ eqb b 0x2f
  unfolding decides_byte
  decides_other e = rw e

  pub stops_wide : 0x80 ≤ b → stops_byte b ≡ false
  unfolding stops_byte
  stops_wide h = rw (le-ltb b 0x80 h)

  pub stops_hash : b < 0x80 → b ≡ 0x23 → stops_byte b ≡ false
  unfolding stops_byte
  stops_hash h e = rw (lt-ltb b 0x80 h, eq-eqb b 0x23 e)

  module _ (low : b < 0x80) (no_hash : b ≡ 0x23 → ⊥) where
    pub stops_slash : b ≡ 0x5c → stops_byte b ≡ false
    unfolding stops_byte
    stops_slash e = rw (lt-ltb b 0x80 low, ne_eqb b 0x23 no_hash, eq-eqb b 0x5c e)

    pub stops_raw : (b ≡ 0x5c → ⊥) → stops_byte b ≡ not (ascii_raw b)
    unfolding stops_byte
    stops_raw n = rw (lt-ltb b 0x80 low, ne_eqb b 0x23 no_hash, ne_eqb b 0x5c n)

-- ---- a stop byte at i or behind

module _ (p : List ℕ) (i : ℕ) where
  pub stop_here : i < length p → stops_byte (get_or p i 0) ≡ true → stop_from i p ≡ true
  unfolding stop_from any_quiet
  stop_here h e = rw (front p i h, e)

  pub stop_on : i < length p → stops_byte (get_or p i 0) ≡ false → stop_from i p ≡ stop_from (i + 1) p
  unfolding stop_from any_quiet
  stop_on h e = rw (front p i h, e)

  pub stop_out : length p ≤ i → stop_from i p ≡ false
  unfolding stop_from any_quiet
  stop_out h = rw (drop_of_length-le p h)

-- ---- a character with which no token starts

module _ (p : List ℕ) where
  pub nothing_cut : char_len p ≡ 0 → starts_nothing p ≡ false
  unfolding starts_nothing
  nothing_cut e = rw e

  pub nothing_shape : (a b c : ℕ) (k : Shape) → a ≡ get_or p 0 0 → b ≡ get_or p 1 0 → c ≡ get_or p 2 0 → k ≡ shape_of a b c → is_word k ≡ false → starts_nothing p ≡ false
  unfolding starts_nothing
  nothing_shape a b c k ea eb ec ek e = rw (← ea, ← eb, ← ec, ← ek, e) (and_false (ltb 0 (char_len p)))

  pub nothing_word : (a b c : ℕ) (k : Shape) → (char_len p ≡ 0 → ⊥) → a ≡ get_or p 0 0 → b ≡ get_or p 1 0 → c ≡ get_or p 2 0 → k ≡ shape_of a b c → is_word k ≡ true
      → starts_nothing p ≡ eqb (char_if ident_first p) 0
  unfolding starts_nothing
  nothing_word a b c k n ea eb ec ek e = rw (← ea, ← eb, ← ec, ← ek, e, lt-ltb 0 (char_len p) (omega arith))

-- ---- a refusal of the token at the front

module _ (p : List ℕ) (r : Refusal) where
  pub quoted_early : (from : ℕ) → r.place < from → quoted_stays from p r ≡ false
  unfolding quoted_stays
  quoted_early from h = rw (lt-leb from r.place h)

  pub quoted_late : (from : ℕ) → from ≤ r.place → quoted_stays from p r ≡ stop_from r.place p
  unfolding quoted_stays
  quoted_late from h = rw (le-leb from r.place h)

  pub stays_end : tells_end r ≡ true → by_lexeme (Err r) (stays_by (shape_in p) p) ≡ false
  stays_end e = rw e

  pub stays_other : (a b c : ℕ) (k : Shape) → tells_end r ≡ false → a ≡ get_or p 0 0 → b ≡ get_or p 1 0 → c ≡ get_or p 2 0 → k ≡ shape_of a b c
      → by_lexeme (Err r) (stays_by (shape_in p) p) ≡ stays_by k p r
  stays_other a b c k n ea eb ec ek = rw (n, ← ea, ← eb, ← ec, ← ek)

  pub spoilt_refused : starts_nothing p ≡ false → lexeme_of (token_of p) ≡ Err r → spoilt_for p ≡ by_lexeme (Err r) (stays_by (shape_in p) p)
  unfolding spoilt_for
  spoilt_refused n e = rw (n, e)

module _ (p : List ℕ) where
  pub spoilt_nothing : starts_nothing p ≡ true → spoilt_for p ≡ true
  unfolding spoilt_for
  spoilt_nothing e = rw e

  -- a token that is read does not start with such a character
  read_starts : (l : Lexeme) → lexeme_of (token_of p) ≡ Ok l → starts_nothing p ≡ false
  read_starts l e =
      either (bool_cases (starts_nothing p))
      (λ t. let q : ◌≡◌ {A = Told Lexeme} (Err (unexpected_char 0)) (Ok l) = sym (ap lexeme_of (ap token_of (sym (append-nil p)) ∙ nothing_stays p [] (nothing p t))) ∙ e in
      let z : ◌≡◌ {A = ℕ} 0 1 = cc in absurd (omega arith))
      (λ t. t)

  pub spoilt_read : (l : Lexeme) → lexeme_of (token_of p) ≡ Ok l → spoilt_for p ≡ false
  unfolding spoilt_for
  spoilt_read l e = rw (read_starts l e, e)

-- ---- a refusal of the gap

module _ (s : List ℕ) (r : Refusal) where
  pub slash_not : (r.number ≡ 5 → ⊥) → behind_slash s r ≡ false
  unfolding behind_slash
  slash_not n = rw (ne_eqb r.number 5 n)

  pub slash_by : (i b : ℕ) → r.number ≡ 5 → i ≡ r.place - 1 → b ≡ get_or s i 0 → behind_slash s r ≡ not (eqb b 0x2f)
  unfolding behind_slash
  slash_by i b e ei eb = rw (eq-eqb r.number 5 e, ← ei, ← eb)

-- ---- by the gap

module _ (s : List ℕ) where
  pub clear_within : (g : ℕ) → gap_of s ≡ gap.Clear g → g ≤ length s
  clear_within g e = subst (EndsBy (length s)) e (gap_bounded s)

  pub settles_clear : (g : ℕ) → gap_of s ≡ gap.Clear g → ron_settles s ≡ spoilt_for (drop g s)
  unfolding ron_settles
  settles_clear g e = ap (settled_behind s) e

  pub settles_line : (n : ℕ) → gap_of s ≡ gap.InLine n → ron_settles s ≡ false
  unfolding ron_settles
  settles_line n e = ap (settled_behind s) e

  pub settles_refused : (r : Refusal) → gap_of s ≡ gap.Refused r → ron_settles s ≡ behind_slash s r
  unfolding ron_settles
  settles_refused r e = ap (settled_behind s) e

-- ---- one that says that the text has ended

module _ (r : Refusal) where
  pub ends_4 : r.number ≡ 4 → tells_end r ≡ true
  unfolding tells_end
  ends_4 e = subst (λ (n : ℕ). one_of (4 ∷ 6 ∷ 17 ∷ []) n ≡ true) (sym e) refl

  pub ends_6 : r.number ≡ 6 → tells_end r ≡ true
  unfolding tells_end
  ends_6 e = subst (λ (n : ℕ). one_of (4 ∷ 6 ∷ 17 ∷ []) n ≡ true) (sym e) refl

  pub ends_17 : r.number ≡ 17 → tells_end r ≡ true
  unfolding tells_end
  ends_17 e = subst (λ (n : ℕ). one_of (4 ∷ 6 ∷ 17 ∷ []) n ≡ true) (sym e) refl

  pub ends_not : (r.number ≡ 4 → ⊥) → (r.number ≡ 6 → ⊥) → (r.number ≡ 17 → ⊥) → tells_end r ≡ false
  unfolding tells_end
  ends_not a b c = rw (ne_eqb r.number 4 a, ne_eqb r.number 6 b, ne_eqb r.number 17 c)
