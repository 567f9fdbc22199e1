-- Laws of the definitions of specs/Utf8.antt: what a reader of bytes goes by. Assumes nothing.
use Rattle.std.proofs.Common.{Some, None}
use Prim.Native.Nat.{ℕ, zero, suc, ◌+◌, ◌≤◌, ◌<◌}
use native.Mathlib.Nat.{add-zero, not-suc-le-zero}
use native.Mathlib.Omega.{arith}
use mathlib.Core.Path.{◌≡◌, refl, ap, ◌∙◌}
use mathlib.Core.List.{List, [], ◌∷◌}
use mathlib.Core.Bool.{Bool, true}
use lib.ListN.{length, get_or, drop, length-drop}
use lib.Seq.{drop-drop}
use lib.Dec.{ltb, leb, eqb}
use borrow.Author.Tests.{ltb-true, leb-true, eqb-true, eqb-false, le-leb}
use Rattle.text.specs.Classes.{within}
use Rattle.text.specs.Utf8.{tail_byte, second_byte, behind_three, behind_four, width_of, char_len, by_width, utf8_from, In, Tail}
use Rattle.text.specs.Runs.{run, ascii}
use Rattle.text.proofs.Choices.{cond_cases, and_true, bool_cases, either}
use Rattle.text.proofs.ClassLaws.{within_true}

-- ---- the width of the character at the front

pub width_ascii : (a b c d : ℕ) → a ≤ 0x7F → width_of a b c d ≡ 1
unfolding width_of
width_ascii a b c d h = simp (le-leb a 0x7F h)

pub char_len_nil : (s : List ℕ) → length s ≡ 0 → char_len s ≡ 0
unfolding char_len
char_len_nil [] h = refl
char_len_nil (a ∷ s) h = absurd (omega arith)

pub char_len_at : (s : List ℕ) → 0 < length s → char_len s ≡ width_of (get_or s 0 0) (get_or s 1 0) (get_or s 2 0) (get_or s 3 0)
unfolding char_len
char_len_at [] h = absurd (not-suc-le-zero h)
char_len_at (a ∷ s) h = refl

pub char_len_ascii : (s : List ℕ) → 0 < length s → get_or s 0 0 < 0x80 → char_len s ≡ 1
char_len_ascii s h k = char_len_at s h ∙ width_ascii (get_or s 0 0) (get_or s 1 0) (get_or s 2 0) (get_or s 3 0) (omega arith)

-- the second byte of a character of three or four bytes, by the first
pub data Second (a b : ℕ) : Type 0 where
  after_E0 : a ≡ 0xE0 → In 0xA0 0xBF b → Second a b
  after_ED : a ≡ 0xED → In 0x80 0x9F b → Second a b
  after_F0 : a ≡ 0xF0 → In 0x90 0xBF b → Second a b
  after_F4 : a ≡ 0xF4 → In 0x80 0x8F b → Second a b
  after_other : (a ≡ 0xE0 → ⊥) → (a ≡ 0xED → ⊥) → (a ≡ 0xF0 → ⊥) → (a ≡ 0xF4 → ⊥) → Tail b → Second a b

second_true : (a b : ℕ) → second_byte a b ≡ true → Second a b
unfolding second_byte
second_true a b =
    cond_cases Yes (eqb a 0xE0) _ _ (λ e t. after_E0 (eqb-true a 0xE0 e) (within_true 0xA0 0xBF b t))
    (λ n1. cond_cases Yes (eqb a 0xED) _ _ (λ e t. after_ED (eqb-true a 0xED e) (within_true 0x80 0x9F b t))
    (λ n2. cond_cases Yes (eqb a 0xF0) _ _ (λ e t. after_F0 (eqb-true a 0xF0 e) (within_true 0x90 0xBF b t))
    (λ n3. cond_cases Yes (eqb a 0xF4) _ _ (λ e t. after_F4 (eqb-true a 0xF4 e) (within_true 0x80 0x8F b t))
    (λ n4 t. after_other (eqb-false a 0xE0 n1) (eqb-false a 0xED n2) (eqb-false a 0xF0 n3) (eqb-false a 0xF4 n4) (within_true 0x80 0xBF b t)))))
  where
    Yes : Bool → Type 0
    Yes t = t ≡ true → Second a b

-- what a width says of the bytes
pub data View (a b c d : ℕ) : ℕ → Type 0 where
  v0 : View a b c d 0
  v1 : a ≤ 0x7F → View a b c d 1
  v2 : In 0xC2 0xDF a → Tail b → View a b c d 2
  v3 : In 0xE0 0xEF a → Second a b → Tail c → View a b c d 3
  v4 : In 0xF0 0xF4 a → Second a b → Tail c → Tail d → View a b c d 4

three_true : (a b c : ℕ) → behind_three a b c ≡ true → Second a b × Tail c
unfolding behind_three
three_true a b c e =
    let p : (second_byte a b ≡ true) × (tail_byte c ≡ true) = and_true (second_byte a b) (tail_byte c) e in
    (second_true a b p.0, within_true 0x80 0xBF c p.1)

four_true : (a b c d : ℕ) → behind_four a b c d ≡ true → Second a b × Tail c × Tail d
unfolding behind_four
four_true a b c d e =
    let p : (behind_three a b c ≡ true) × (tail_byte d ≡ true) = and_true (behind_three a b c) (tail_byte d) e in
    let q : Second a b × Tail c = three_true a b c p.0 in
    (q.0, q.1, within_true 0x80 0xBF d p.1)

pub width_view : (a b c d : ℕ) → View a b c d (width_of a b c d)
unfolding width_of
width_view a b c d =
    cond_cases Seen (leb a 0x7F) _ _ (λ e. v1 (leb-true a 0x7F e))
    (λ n1. cond_cases Seen (within 0xC2 0xDF a) _ _ (λ e. cond_cases Seen (tail_byte b) _ _ (λ t. v2 (within_true 0xC2 0xDF a e) (within_true 0x80 0xBF b t)) (λ t. v0))
    (λ n2. cond_cases Seen (within 0xE0 0xEF a) _ _ (λ e. cond_cases Seen (behind_three a b c) _ _ (λ t. v3 (within_true 0xE0 0xEF a e) (three_true a b c t).0 (three_true a b c t).1) (λ t. v0))
    (λ n3. cond_cases Seen (within 0xF0 0xF4 a) _ _ (λ e. cond_cases Seen (behind_four a b c d) _ _ (λ t. v4 (within_true 0xF0 0xF4 a e) (four_true a b c d t).0 (four_true a b c d t).1 (four_true a b c d t).2) (λ t. v0))
    (λ n4. v0))))
  where
    Seen : ℕ → Type 0
    Seen n = View a b c d n

-- ---- a text

utf8_skip : (k at : ℕ) (s : List ℕ) → utf8_from k at s ≡ utf8_from 0 (at + k) (drop k s)
unfolding utf8_from
utf8_skip zero at [] = refl
utf8_skip zero at (b ∷ s) = rw add-zero
utf8_skip (suc k) at [] = refl
utf8_skip (suc k) at (b ∷ s) = utf8_skip k (suc at) s ∙ ap (λ (n : ℕ). utf8_from 0 n (drop k s)) (omega arith)

-- a character at the front is passed over
pub utf8_step : (at : ℕ) (s : List ℕ) (n : ℕ) → char_len s ≡ suc n → utf8_from 0 at s ≡ utf8_from 0 (at + suc n) (drop (suc n) s)
unfolding utf8_from
utf8_step at [] n e = refl
utf8_step at (b ∷ s) n e =
    ap (by_width at (λ (m : ℕ). utf8_from m (suc at) s)) e ∙ utf8_skip n (suc at) s ∙ ap (λ (m : ℕ). utf8_from 0 m (drop n s)) (omega arith)

-- and where there is none, that is the answer
pub utf8_bad : (at : ℕ) (s : List ℕ) → 0 < length s → char_len s ≡ 0 → utf8_from 0 at s ≡ Some at
unfolding utf8_from
utf8_bad at [] h e = absurd (not-suc-le-zero h)
utf8_bad at (b ∷ s) h e = ap (by_width at (λ (m : ℕ). utf8_from m (suc at) s)) e

pub utf8_end : (at : ℕ) (s : List ℕ) → length s ≡ 0 → utf8_from 0 at s ≡ None
unfolding utf8_from
utf8_end at [] h = refl
utf8_end at (b ∷ s) h = absurd (omega arith)

-- ---- the same over the part of the whole text s from a place: what a loop goes by

pub utf8_next : (at n : ℕ) (s : List ℕ) → char_len (drop at s) ≡ n → 0 < n → utf8_from 0 at (drop at s) ≡ utf8_from 0 (at + n) (drop (at + n) s)
utf8_next at zero s e h = absurd (omega arith)
utf8_next at (suc n) s e h = utf8_step at (drop at s) n e ∙ ap (utf8_from 0 (at + suc n)) (drop-drop (suc n) at s)

pub utf8_stop : (at : ℕ) (s : List ℕ) → at < length s → char_len (drop at s) ≡ 0 → utf8_from 0 at (drop at s) ≡ Some at
utf8_stop at s h e = utf8_bad at (drop at s) (omega (arith, length-drop at s)) e

pub utf8_done : (at : ℕ) (s : List ℕ) → length s ≤ at → utf8_from 0 at (drop at s) ≡ None
utf8_done at s h = utf8_end at (drop at s) (omega (arith, length-drop at s))

-- ---- a run of ASCII is passed over

ascii_on : (at a : ℕ) (s : List ℕ) → utf8_from 0 (suc at) s ≡ utf8_from 0 (suc at + run ascii s) (drop (run ascii s) s)
    → utf8_from 0 at (a ∷ s) ≡ utf8_from 0 (at + run ascii (a ∷ s)) (drop (run ascii (a ∷ s)) (a ∷ s))
unfolding run
ascii_on at a s rest =
    either (bool_cases (ltb a 0x80))
    (λ e. let w : char_len (a ∷ s) ≡ 1 = char_len_ascii (a ∷ s) (omega arith) (ltb-true a 0x80 e) in
    let one : at + 1 ≡ suc at = omega arith in
    rw e (utf8_step at (a ∷ s) 0 w ∙ ap (λ (n : ℕ). utf8_from 0 n s) one ∙ rest ∙ ap (λ (n : ℕ). utf8_from 0 n (drop (run ascii s) s)) (omega arith)))
    (λ e. rw (e, add-zero))

pub ascii_passed : (at : ℕ) (s : List ℕ) → utf8_from 0 at s ≡ utf8_from 0 (at + run ascii s) (drop (run ascii s) s)
unfolding run
ascii_passed at [] = rw add-zero
ascii_passed at (a ∷ s) = ascii_on at a s (ascii_passed (suc at) s)

pub ascii_from : (at : ℕ) (s : List ℕ) → utf8_from 0 at (drop at s) ≡ utf8_from 0 (at + run ascii (drop at s)) (drop (at + run ascii (drop at s)) s)
ascii_from at s = ascii_passed at (drop at s) ∙ ap (utf8_from 0 (at + run ascii (drop at s))) (drop-drop (run ascii (drop at s)) at s)
