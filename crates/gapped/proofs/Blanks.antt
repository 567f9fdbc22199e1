-- Whitespace told from bytes, both ways: where the bytes in front say a width, there a whitespace character is encoded, over any bytes; and an encoded one
-- has its width.     blank-front, blank_none      where there is a width stands a whitespace character, and none where there is no width     blank-wide
-- a whitespace character's width Assumes nothing.
use Prim.Native.Nat.{ℕ, ◌+◌, ◌<◌, ◌≤◌}
use native.Mathlib.Omega.{arith}
use mathlib.Core.Bool.{Bool, true, cond, ◌&&◌, ◌||◌}
use mathlib.Core.List.{List, [], ◌∷◌, ◌++◌}
use mathlib.Core.Logic.{◌⊎◌, inl, inr}
use mathlib.Core.Path.{◌≡◌, ◌∙◌, ap, refl, sym}
use lib.Dec.{eqb, lit<, ltb}
use lib.ListN.{get_or, length}
use borrow.Author.Tests.{eqb-true}
use Rattle.text.proofs.BlankLaws.{blank_of_char, width_at}
use Rattle.text.proofs.Choices.{and_true, bool_cases, chosen, cond_cases, either, lt_or_le, or_cases}
use Rattle.text.proofs.ClassLaws.{blank_le, within_true}
use Rattle.text.proofs.Utf8Agree.{char_encode, char_pos, encode_1}
use Rattle.text.specs.Classes.{blank, blank1, blank2, blank3, blank_width, within}
use Rattle.text.specs.Utf8.{Scalar, encode, encoded_len}

-- ---- the width of an encoded whitespace character

-- how many bytes an encoding has
encode_length : (c : ℕ) → length (encode c) ≡ encoded_len c
unfolding encode encoded_len
encode_length c =
    either (bool_cases (ltb c 0x80)) (λ e. rw e)
    (λ e. either (bool_cases (ltb c 0x800)) (λ f. rw (e, f))
    (λ f. either (bool_cases (ltb c 0x10000)) (λ g. rw (e, f, g)) (λ g. rw (e, f, g))))

pub encode_pos : (c : ℕ) → Scalar c → 0 < length (encode c)
encode_pos c sc = char_pos (char_encode c sc)

-- a whitespace character has the width of its encoding
pub blank_wide : (c : ℕ) (u : List ℕ) → Scalar c → blank c ≡ true → width_at (encode c ++ u) ≡ length (encode c)
blank_wide c u sc e = blank_of_char c u sc ∙ ap (λ (t : Bool). cond t (encoded_len c) 0) e ∙ sym (encode_length c)

-- and none stands where there is no width
pub blank_none : (s : List ℕ) → width_at s ≡ 0 → (c : ℕ) (u : List ℕ) → Scalar c → blank c ≡ true → s ≡ encode c ++ u → ⊥
blank_none s h c u sc e q =
    let z : length (encode c) ≡ 0 = sym (blank_wide c u sc e) ∙ ap width_at (sym q) ∙ h in
    omega (arith, encode_pos c sc)

-- ---- where there is a width

-- a whitespace character in front
pub record Front (s : List ℕ) : Type 0 where
  pub char : ℕ
  pub rest : List ℕ
  pub scalar : Scalar char
  pub is : blank char ≡ true
  pub split : s ≡ encode char ++ rest

-- a character below the surrogates, given by its bytes
known : (s : List ℕ) (c : ℕ) (u : List ℕ) → c < 0xD800 → blank c ≡ true → s ≡ encode c ++ u → Front s
known s c u h e q = record { char = c; rest = u; scalar = (omega arith, inl h); is = e; split = q }

one_low : (a : ℕ) → blank1 a ≡ true → a < 0x80
unfolding blank1
one_low a e = either (or_cases (within 0x09 0x0d a) (eqb a 0x20) e) (λ h. let w = within_true 0x09 0x0d a h in omega arith) (λ h. let w = eqb-true a 0x20 h in omega arith)

one_front : (a : ℕ) (s : List ℕ) → blank1 a ≡ true → Front (a ∷ s)
unfolding blank_width
one_front a s e =
    let h = one_low a e in
    let q : encode a ++ s ≡ a ∷ s = ap (λ (l : List ℕ). l ++ s) (encode_1 a h) in
    let w : width_at (a ∷ s) ≡ 1 = rw e in
    let p : 0 < cond (blank a) (encoded_len a) 0 = omega (arith, sym (blank_of_char a s (omega arith, inl (omega arith))) ∙ ap width_at q ∙ w) in
    known (a ∷ s) a s (omega arith) (chosen (blank a) (encoded_len a) p).0 (sym q)

two_front : (a b : ℕ) (s : List ℕ) → blank2 a b ≡ true → Front (a ∷ b ∷ s)
unfolding blank2 blank within encode
two_front a b s e =
    let p = and_true (eqb a 0xc2) (eqb b 0x85) e in
    known (a ∷ b ∷ s) 0x85 s (lit< tt) refl (rw (eqb-true a 0xc2 p.0, eqb-true b 0x85 p.1))

-- one of two numbers
pair : (lo x : ℕ) → (lo ≤ x) × (x ≤ lo + 1) → (x ≡ lo) ⊎ (x ≡ lo + 1)
pair lo x h = either (lt_or_le lo x) (λ l. inr (omega arith)) (λ l. inl (omega arith))

three_front : (a b c : ℕ) (s : List ℕ) → blank3 a b c ≡ true → Front (a ∷ b ∷ c ∷ s)
unfolding blank3 blank within encode
three_front a b c s e =
    let p = and_true (eqb a 0xe2) (eqb b 0x80 && (within 0x8e 0x8f c || within 0xa8 0xa9 c)) e in
    let q = and_true (eqb b 0x80) (within 0x8e 0x8f c || within 0xa8 0xa9 c) p.1 in
    let ea = eqb-true a 0xe2 p.0 in
    let eb = eqb-true b 0x80 q.0 in
    either (or_cases (within 0x8e 0x8f c) (within 0xa8 0xa9 c) q.1)
    (λ h. either (pair 0x8e c (within_true 0x8e 0x8f c h)) (λ ec. known (a ∷ b ∷ c ∷ s) 0x200e s (lit< tt) refl (rw (ea, eb, ec))) (λ ec. known (a ∷ b ∷ c ∷ s) 0x200f s (lit< tt) refl (rw (ea, eb, ec))))
    (λ h. either (pair 0xa8 c (within_true 0xa8 0xa9 c h)) (λ ec. known (a ∷ b ∷ c ∷ s) 0x2028 s (lit< tt) refl (rw (ea, eb, ec))) (λ ec. known (a ∷ b ∷ c ∷ s) 0x2029 s (lit< tt) refl (rw (ea, eb, ec))))

-- behind the end of the text stands no byte of a character
two_at : (a : ℕ) (s : List ℕ) → blank2 a (get_or s 0 0) ≡ true → 2 ≤ length (a ∷ s) → Front (a ∷ s)
two_at a [] e h = absurd (omega arith)
two_at a (b ∷ s) e h = two_front a b s e

three_at : (a : ℕ) (s : List ℕ) → blank3 a (get_or s 0 0) (get_or s 1 0) ≡ true → 3 ≤ length (a ∷ s) → Front (a ∷ s)
three_at a [] e h = absurd (omega arith)
three_at a (b ∷ []) e h = absurd (omega arith)
three_at a (b ∷ c ∷ s) e h = three_front a b c s e

pub blank_front : (s : List ℕ) → 0 < width_at s → Front s
unfolding blank_width
blank_front [] h = absurd (omega (arith, blank_le []))
blank_front (a ∷ s) h =
    let P : ℕ → Type 0 = λ n. (0 < n → n ≤ length (a ∷ s) → Front (a ∷ s)) in
    cond_cases P (blank1 a) 1 _ (λ e p l. one_front a s e)
    (λ f. cond_cases P (blank2 a (get_or s 0 0)) 2 _ (λ e p l. two_at a s e l)
    (λ g. cond_cases P (blank3 a (get_or s 0 0) (get_or s 1 0)) 3 0 (λ e p l. three_at a s e l) (λ e p l. absurd (omega arith))))
    h (blank_le (a ∷ s))
