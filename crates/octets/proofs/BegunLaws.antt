-- Laws of `begun_of`: as many bytes are told as are the front of a character, and, where no whole character stands there, no more. Assumes nothing.
use Prim.Native.Nat.{ℕ, ◌+◌, ◌-◌, ◌≤◌, ◌<◌}
use native.Mathlib.Omega.{arith}
use mathlib.Core.Bool.{Bool, true, false, cond}
use mathlib.Core.List.{List, [], ◌∷◌, ◌++◌, append-nil}
use mathlib.Core.Logic.{inl, inr}
use mathlib.Core.Path.{◌≡◌, refl, sym, ap, ◌∙◌, subst}
use lib.Dec.{eqb}
use lib.ListN.{length, get_or, take, drop, length-append, length-drop}
use borrow.Author.Tests.{eq-eqb, lt-leb, ne_eqb}
use Rattle.text.proofs.Choices.{cond_cases, cond_same, either, lt_or_le, and_false}
use Rattle.text.proofs.ClassLaws.{below, above, within_true, in_within}
use Rattle.text.proofs.Lists.{tail_part}
use Rattle.text.proofs.Utf8Agree.{Head, head_view, char_len_char, char_pos}
use Rattle.text.proofs.Utf8Agree.Head.{no_char, a_char}
use Rattle.text.proofs.Utf8Laws.{width_ascii}
use Rattle.text.specs.Classes.{within}
use Rattle.text.specs.Utf8.{Char, In, second_byte, tail_byte, behind_three, behind_four, width_of, char_len}
use Rattle.text.specs.Utf8.Char.{utf8_2, utf8_3a, utf8_3b, utf8_3c, utf8_3d, utf8_4a, utf8_4b, utf8_4c}
use Rattle.octets.specs.Octets.{Begins, Cut, Ends, bad_of, begun3, begun_of}
use Rattle.octets.specs.Octets.Begins.{begins}
use Rattle.octets.specs.declared.answer.Allowed.TheVariants.{All, Bad}

-- ---- the width of a character, by its first byte

module _ (a b c d : ℕ) where
  -- none begins so
  pub width_none : 0x80 ≤ a → (In 0xC2 0xF4 a → ⊥) → width_of a b c d ≡ 0
  unfolding width_of
  width_none l n =
      either (lt_or_le a 0xC2)
      (λ k. simp (lt-leb a 0x7F (omega arith), below 0xC2 0xDF a k, below 0xE0 0xEF a (omega arith), below 0xF0 0xF4 a (omega arith)))
      (λ k. let h : 0xF4 < a = either (lt_or_le 0xF4 a) (λ x. x) (λ x. absurd (n (k, x))) in
      simp (lt-leb a 0x7F (omega arith), above 0xC2 0xDF a (omega arith), above 0xE0 0xEF a (omega arith), above 0xF0 0xF4 a h))

  pub width_two : In 0xC2 0xDF a → width_of a b c d ≡ cond (tail_byte b) 2 0
  unfolding width_of
  width_two h = simp (lt-leb a 0x7F (omega arith), in_within 0xC2 0xDF a h)

  pub width_three : In 0xE0 0xEF a → width_of a b c d ≡ cond (behind_three a b c) 3 0
  unfolding width_of
  width_three h = simp (lt-leb a 0x7F (omega arith), above 0xC2 0xDF a (omega arith), in_within 0xE0 0xEF a h)

  pub width_four : In 0xF0 0xF4 a → width_of a b c d ≡ cond (behind_four a b c d) 4 0
  unfolding width_of
  width_four h = simp (lt-leb a 0x7F (omega arith), above 0xC2 0xDF a (omega arith), above 0xE0 0xEF a (omega arith), in_within 0xF0 0xF4 a h)

  -- the second byte, or the third of four, is none
  pub no_second : In 0xE0 0xF4 a → second_byte a b ≡ false → width_of a b c d ≡ 0
  unfolding behind_three behind_four
  no_second h e =
      either (lt_or_le a 0xF0)
      (λ l. width_three (omega arith) ∙ simp e)
      (λ l. width_four (omega arith) ∙ simp e)

  pub no_third : In 0xF0 0xF4 a → tail_byte c ≡ false → width_of a b c d ≡ 0
  unfolding behind_three behind_four
  no_third h e = width_four h ∙ simp (e, and_false (second_byte a b))

-- ---- how much of three bytes is a front, by the first of them

module _ (a b c : ℕ) where
  pub begun_two : within 0xC2 0xDF a ≡ true → begun3 a b c ≡ 1
  unfolding begun3
  begun_two e = simp e

  pub begun_low : within 0xC2 0xDF a ≡ false → a < 0xE0 → begun3 a b c ≡ 0
  unfolding begun3
  begun_low e l = simp (e, below 0xE0 0xEF a l, below 0xF0 0xF4 a (omega arith))

  pub begun_high : 0xF4 < a → begun3 a b c ≡ 0
  unfolding begun3
  begun_high l = simp (above 0xC2 0xDF a (omega arith), above 0xE0 0xEF a (omega arith), above 0xF0 0xF4 a l)

  pub begun_one : In 0xE0 0xF4 a → second_byte a b ≡ false → begun3 a b c ≡ 1
  unfolding begun3
  begun_one h e =
      either (lt_or_le a 0xF0)
      (λ l. simp (above 0xC2 0xDF a (omega arith), in_within 0xE0 0xEF a (omega arith), e))
      (λ l. simp (above 0xC2 0xDF a (omega arith), above 0xE0 0xEF a (omega arith), in_within 0xF0 0xF4 a (omega arith), e))

  pub begun_of_three : In 0xE0 0xEF a → second_byte a b ≡ true → begun3 a b c ≡ 2
  unfolding begun3
  begun_of_three h e = simp (above 0xC2 0xDF a (omega arith), in_within 0xE0 0xEF a h, e)

  pub begun_of_four : In 0xF0 0xF4 a → second_byte a b ≡ true → begun3 a b c ≡ cond (tail_byte c) 3 2
  unfolding begun3
  begun_of_four h e = simp (above 0xC2 0xDF a (omega arith), above 0xE0 0xEF a (omega arith), in_within 0xF0 0xF4 a h, e)

-- ---- and what that number says of them

pub data View (a b c : ℕ) : ℕ → Type 0 where
  v0 : (In 0xC2 0xF4 a → ⊥) → View a b c 0
  v1 : In 0xC2 0xDF a → View a b c 1
  v1_alone : In 0xE0 0xF4 a → second_byte a b ≡ false → View a b c 1
  v2 : In 0xE0 0xEF a → second_byte a b ≡ true → View a b c 2
  v2_alone : In 0xF0 0xF4 a → second_byte a b ≡ true → tail_byte c ≡ false → View a b c 2
  v3 : In 0xF0 0xF4 a → second_byte a b ≡ true → tail_byte c ≡ true → View a b c 3

within_off : (lo hi x : ℕ) → within lo hi x ≡ false → In lo hi x → ⊥
within_off lo hi x e h = let q : ◌≡◌ {A = Bool} true false = sym (in_within lo hi x h) ∙ e in let z : ◌≡◌ {A = ℕ} 0 1 = cc in absurd (omega arith)

none_first : (a : ℕ) → within 0xC2 0xDF a ≡ false → within 0xE0 0xEF a ≡ false → within 0xF0 0xF4 a ≡ false → In 0xC2 0xF4 a → ⊥
none_first a n1 n2 n3 h =
    either (lt_or_le a 0xE0)
    (λ l. within_off 0xC2 0xDF a n1 (omega arith))
    (λ l. either (lt_or_le a 0xF0) (λ k. within_off 0xE0 0xEF a n2 (omega arith)) (λ k. within_off 0xF0 0xF4 a n3 (omega arith)))

pub begun_view : (a b c : ℕ) → View a b c (begun3 a b c)
unfolding begun3
begun_view a b c =
    cond_cases Seen (within 0xC2 0xDF a) _ _ (λ e. v1 (within_true 0xC2 0xDF a e))
    (λ n1. cond_cases Seen (within 0xE0 0xEF a) _ _ (λ e. let h = within_true 0xE0 0xEF a e in
    cond_cases Seen (second_byte a b) 2 1 (λ t. v2 h t) (λ t. v1_alone (omega arith) t))
    (λ n2. cond_cases Seen (within 0xF0 0xF4 a) _ _ (λ e. let h = within_true 0xF0 0xF4 a e in
    cond_cases Seen (second_byte a b) _ _ (λ t. cond_cases Seen (tail_byte c) 3 2 (λ r. v3 h t r) (λ r. v2_alone h t r)) (λ t. v1_alone (omega arith) t))
    (λ n3. v0 (none_first a n1 n2 n3))))
  where
    Seen : ℕ → Type 0
    Seen n = View a b c n

-- no byte past the end goes on
second_end : (a : ℕ) → second_byte a 0 ≡ true → {X : Type 0} → X
unfolding second_byte within
second_end a e =
    let f : ◌≡◌ {A = Bool} false true = sym (rw (cond_same (eqb a 0xF4) false, cond_same (eqb a 0xF0) false, cond_same (eqb a 0xED) false) (cond_same (eqb a 0xE0) false)) ∙ e in
    let z : ◌≡◌ {A = ℕ} 0 1 = cc in absurd (omega arith)

-- ---- the front that is told is one

-- a first byte, with what a character may go on with
first_begins : (a : ℕ) → In 0xC2 0xF4 a → Begins (a ∷ [])
first_begins a h =
    either (lt_or_le a 0xE0) (λ l. begins 0x80 [] (utf8_2 (omega arith) (omega arith)))
    (λ l. either (lt_or_le a 0xED) (λ k. begins 0xA0 (0x80 ∷ []) (three_by a (omega arith)))
    (λ k. either (lt_or_le a 0xF0) (λ m. begins 0x80 (0x80 ∷ []) (three_low a (omega arith)))
    (λ m. either (lt_or_le a 0xF4) (λ n. begins 0x90 (0x80 ∷ 0x80 ∷ []) (four_by a (omega arith)))
    (λ n. begins 0x80 (0x80 ∷ 0x80 ∷ []) (utf8_4c (omega arith) (omega arith) (omega arith) (omega arith))))))
  where
    three_by : (a : ℕ) → In 0xE0 0xEC a → Char (a ∷ 0xA0 ∷ 0x80 ∷ [])
    three_by a h = either (lt_or_le a 0xE1) (λ l. utf8_3a (omega arith) (omega arith) (omega arith)) (λ l. utf8_3b (omega arith) (omega arith) (omega arith))

    three_low : (a : ℕ) → In 0xED 0xEF a → Char (a ∷ 0x80 ∷ 0x80 ∷ [])
    three_low a h = either (lt_or_le a 0xEE) (λ l. utf8_3c (omega arith) (omega arith) (omega arith)) (λ l. utf8_3d (omega arith) (omega arith) (omega arith))

    four_by : (a : ℕ) → In 0xF0 0xF3 a → Char (a ∷ 0x90 ∷ 0x80 ∷ 0x80 ∷ [])
    four_by a h = either (lt_or_le a 0xF1) (λ l. utf8_4a (omega arith) (omega arith) (omega arith) (omega arith)) (λ l. utf8_4b (omega arith) (omega arith) (omega arith) (omega arith))

-- bytes whose width is their number are a character
whole_list : (l : List ℕ) → 0 < length l → char_len l ≡ length l → Char l
whole_list l pos e = go (char_len l) refl (head_view l)
  where
    at_end : (h t : List ℕ) → Char h → l ≡ h ++ t → length t ≡ 0 → Char l
    at_end h [] ch q z = subst Char (sym (q ∙ append-nil h)) ch
    at_end h (b ∷ t) ch q z = absurd (omega arith)

    go : (n : ℕ) → char_len l ≡ n → Head l n → Char l
    go n f no_char = absurd (omega arith)
    go n f (a_char {l = h} t ch g q) = at_end h t ch q (omega (arith, length-append h t, ap length q))

whole_three : (a b c : ℕ) → In 0xE0 0xEF a → second_byte a b ≡ true → tail_byte c ≡ true → Char (a ∷ b ∷ c ∷ [])
unfolding char_len behind_three
whole_three a b c h e f = whole_list (a ∷ b ∷ c ∷ []) (omega arith) (width_three a b c 0 h ∙ simp (e, f))

whole_four : (a b c d : ℕ) → In 0xF0 0xF4 a → second_byte a b ≡ true → tail_byte c ≡ true → tail_byte d ≡ true → Char (a ∷ b ∷ c ∷ d ∷ [])
unfolding char_len behind_three behind_four
whole_four a b c d h e f g = whole_list (a ∷ b ∷ c ∷ d ∷ []) (omega arith) (width_four a b c d h ∙ simp (e, f, g))

-- a character has a width
pub no_width : (l : List ℕ) → Char l → char_len l ≡ 0 → ⊥
no_width l ch e = omega (arith, char_pos ch, sym (char_len_char l [] ch) ∙ ap char_len (append-nil l) ∙ e)

-- ---- as many bytes as are told are a front, and what stands behind is the end or a byte with which none goes on

pub data Stops (p : List ℕ) : List ℕ → Type 0 where
  at_end : Stops p []
  at_byte : {b : ℕ} {z : List ℕ} → Ends p b → Stops p (b ∷ z)

pub record Fit (s : List ℕ) (m : ℕ) : Type 0 where
  pub inside : m ≤ length s
  pub cut : Cut (take m s)
  pub stops : char_len s ≡ 0 → Stops (take m s) (drop m s)

tail_80 : tail_byte 0x80 ≡ true
tail_80 = in_within 0x80 0xBF 0x80 (omega arith)

fit_0 : (s : List ℕ) → (In 0xC2 0xF4 (get_or s 0 0) → ⊥) → Fit s 0
unfolding char_len
fit_0 [] n = record { inside = omega arith; cut = inl refl; stops = λ e. at_end }
fit_0 (a ∷ s) n =
    record {
      inside = omega arith;
      cut = inl refl;
      stops = λ e. at_byte (λ q ch. no_width (a ∷ q) ch (width_none a (get_or q 0 0) (get_or q 1 0) (get_or q 2 0) (wide e) n));
    }
  where
    wide : width_of a (get_or s 0 0) (get_or s 1 0) (get_or s 2 0) ≡ 0 → 0x80 ≤ a
    wide e =
        either (lt_or_le a 0x80)
        (λ l. absurd (omega (arith, sym (width_ascii a (get_or s 0 0) (get_or s 1 0) (get_or s 2 0) (omega arith)) ∙ e)))
        (λ l. l)

fit_1 : (s : List ℕ) → In 0xC2 0xDF (get_or s 0 0) → Fit s 1
unfolding char_len
fit_1 [] h = absurd (omega arith)
fit_1 (a ∷ []) h = record { inside = omega arith; cut = inr (first_begins a (omega arith)); stops = λ e. at_end }
fit_1 (a ∷ b ∷ s) h =
    record {
      inside = omega arith;
      cut = inr (first_begins a (omega arith));
      stops = λ e. at_byte (λ q ch. no_width (a ∷ b ∷ q) ch (width_two a b _ _ h ∙ sym (width_two a b _ _ h) ∙ e));
    }

fit_1_alone : (s : List ℕ) → In 0xE0 0xF4 (get_or s 0 0) → second_byte (get_or s 0 0) (get_or s 1 0) ≡ false → Fit s 1
unfolding char_len
fit_1_alone [] h f = absurd (omega arith)
fit_1_alone (a ∷ []) h f = record { inside = omega arith; cut = inr (first_begins a (omega arith)); stops = λ e. at_end }
fit_1_alone (a ∷ b ∷ s) h f =
    record {
      inside = omega arith;
      cut = inr (first_begins a (omega arith));
      stops = λ e. at_byte (λ q ch. no_width (a ∷ b ∷ q) ch (no_second a b _ _ h f));
    }

fit_2 : (s : List ℕ) → In 0xE0 0xEF (get_or s 0 0) → second_byte (get_or s 0 0) (get_or s 1 0) ≡ true → Fit s 2
unfolding char_len
fit_2 [] h f = absurd (omega arith)
fit_2 (a ∷ []) h f = second_end a f
fit_2 (a ∷ b ∷ []) h f =
    record { inside = omega arith; cut = inr (begins 0x80 [] (whole_three a b 0x80 h f tail_80)); stops = λ e. at_end }
fit_2 (a ∷ b ∷ c ∷ s) h f =
    record {
      inside = omega arith;
      cut = inr (begins 0x80 [] (whole_three a b 0x80 h f tail_80));
      stops = λ e. at_byte (λ q ch. no_width (a ∷ b ∷ c ∷ q) ch (width_three a b c _ h ∙ sym (width_three a b c _ h) ∙ e));
    }

fit_2_alone : (s : List ℕ) → In 0xF0 0xF4 (get_or s 0 0) → second_byte (get_or s 0 0) (get_or s 1 0) ≡ true → tail_byte (get_or s 2 0) ≡ false → Fit s 2
unfolding char_len
fit_2_alone [] h f g = absurd (omega arith)
fit_2_alone (a ∷ []) h f g = second_end a f
fit_2_alone (a ∷ b ∷ []) h f g =
    record { inside = omega arith; cut = inr (begins 0x80 (0x80 ∷ []) (whole_four a b 0x80 0x80 h f tail_80 tail_80)); stops = λ e. at_end }
fit_2_alone (a ∷ b ∷ c ∷ s) h f g =
    record {
      inside = omega arith;
      cut = inr (begins 0x80 (0x80 ∷ []) (whole_four a b 0x80 0x80 h f tail_80 tail_80));
      stops = λ e. at_byte (λ q ch. no_width (a ∷ b ∷ c ∷ q) ch (no_third a b c _ h g));
    }

tail_end : tail_byte 0 ≡ true → {X : Type 0} → X
tail_end e = absurd (omega (arith, within_true 0x80 0xBF 0 e))

fit_3 : (s : List ℕ) → In 0xF0 0xF4 (get_or s 0 0) → second_byte (get_or s 0 0) (get_or s 1 0) ≡ true → tail_byte (get_or s 2 0) ≡ true → Fit s 3
unfolding char_len
fit_3 [] h f g = absurd (omega arith)
fit_3 (a ∷ []) h f g = second_end a f
fit_3 (a ∷ b ∷ []) h f g = tail_end g
fit_3 (a ∷ b ∷ c ∷ []) h f g =
    record { inside = omega arith; cut = inr (begins 0x80 [] (whole_four a b c 0x80 h f g tail_80)); stops = λ e. at_end }
fit_3 (a ∷ b ∷ c ∷ d ∷ s) h f g =
    record {
      inside = omega arith;
      cut = inr (begins 0x80 [] (whole_four a b c 0x80 h f g tail_80));
      stops = λ e. at_byte (λ q ch. no_width (a ∷ b ∷ c ∷ d ∷ q) ch e);
    }

fit_of : (s : List ℕ) (m : ℕ) → View (get_or s 0 0) (get_or s 1 0) (get_or s 2 0) m → Fit s m
fit_of s m (v0 n) = fit_0 s n
fit_of s m (v1 h) = fit_1 s h
fit_of s m (v1_alone h f) = fit_1_alone s h f
fit_of s m (v2 h f) = fit_2 s h f
fit_of s m (v2_alone h f g) = fit_2_alone s h f g
fit_of s m (v3 h f g) = fit_3 s h f g

pub fit : (s : List ℕ) → Fit s (begun_of s)
unfolding begun_of
fit s = fit_of s (begun3 (get_or s 0 0) (get_or s 1 0) (get_or s 2 0)) (begun_view (get_or s 0 0) (get_or s 1 0) (get_or s 2 0))

pub begun_le : (s : List ℕ) → begun_of s ≤ length s
begun_le s = (fit s).inside

-- ---- what may be taken behind the place of a bad sequence

module _ (s : List ℕ) (k : ℕ) where
  pub bad_end : k + begun_of (drop k s) ≡ length s → bad_of s k ≡ All (begun_of (drop k s))
  unfolding bad_of
  bad_end e = simp (eq-eqb (k + begun_of (drop k s)) (length s) e)

  pub bad_on : (k + begun_of (drop k s) ≡ length s → ⊥) → bad_of s k ≡ Bad (k + begun_of (drop k s)) k
  unfolding bad_of
  bad_on n = simp (ne_eqb (k + begun_of (drop k s)) (length s) n)

  -- and what `begun` answers there
  pub part_begun : (m : ℕ) → m ≡ begun_of (take (length s - k) (drop k s)) → begun_of (drop k s) ≡ m
  part_begun m e = ap begun_of (sym (tail_part s k)) ∙ sym e

  pub begun_fits : (m : ℕ) → k ≤ length s → m ≡ begun_of (take (length s - k) (drop k s)) → k + m ≤ length s
  begun_fits m h e = omega (arith, part_begun m e, begun_le (drop k s), length-drop k s)

  pub bad_end_at : (m : ℕ) → m ≡ begun_of (take (length s - k) (drop k s)) → k + m ≡ length s → All m ≡ bad_of s k
  bad_end_at m e q = let b = part_begun m e in sym (bad_end (ap (λ (n : ℕ). k + n) b ∙ q) ∙ ap All b)

  pub bad_on_at : (m : ℕ) → m ≡ begun_of (take (length s - k) (drop k s)) → (k + m ≡ length s → ⊥) → Bad (k + m) k ≡ bad_of s k
  bad_on_at m e n = let b = part_begun m e in sym (bad_on (λ q. n (sym (ap (λ (x : ℕ). k + x) b) ∙ q)) ∙ ap (λ (x : ℕ). Bad (k + x) k) b)
