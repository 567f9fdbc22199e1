-- Whitespace told from bytes is whitespace of the code point that the bytes encode. Assumes nothing.
use Prim.Native.Nat.{◌%◌, ◌+◌, ◌/◌, ◌<◌, ◌≤◌, ℕ}
use native.Mathlib.Omega.{arith}
use mathlib.Core.Bool.{◌&&◌, ◌||◌, cond, false}
use mathlib.Core.List.{List, ◌++◌}
use mathlib.Core.Logic.{◌⊎◌, inl, inr}
use mathlib.Core.Path.{◌∙◌, ◌≡◌, refl, sym}
use lib.Dec.{eqb}
use lib.ListN.{get_or}
use borrow.Author.Tests.{eqb-false, eqb-true, ne_eqb}
use Rattle.text.proofs.Choices.{bool_cases, either, lt_or_le, or_false}
use Rattle.text.proofs.ClassLaws.{above, below, blank_ascii, blank_wide, inside}
use Rattle.text.proofs.Utf8Agree.{encode_1, encode_2, encode_3, encode_4, encoded_len_1, encoded_len_2, encoded_len_3, encoded_len_4}
use Rattle.text.specs.Classes.{blank, blank1, blank2, blank3, blank_width, within}
use Rattle.text.specs.Utf8.{Scalar, encode, encoded_len}

-- a range moved with its number
shifted : (k lo hi x lo' hi' y : ℕ) → lo' ≡ k + lo → hi' ≡ k + hi → y ≡ k + x → within lo' hi' y ≡ within lo hi x
shifted k lo hi x lo' hi' y a b c =
    either (lt_or_le x lo) (λ h. below lo' hi' y (omega arith) ∙ sym (below lo hi x h))
    (λ h. either (lt_or_le hi x) (λ l. above lo' hi' y (omega arith) ∙ sym (above lo hi x l)) (λ l. inside lo' hi' y (omega arith) (omega arith) ∙ sym (inside lo hi x h l)))

-- ---- one byte

one : (c : ℕ) → c < 0x80 → blank c ≡ blank1 c
unfolding blank blank1
one c h = rw (ne_eqb c 0x85 (λ e. omega arith), below 0x200e 0x200f c (omega arith), below 0x2028 0x2029 c (omega arith), or_false (eqb c 0x20), or_false (eqb c 0x20))

-- ---- two bytes

two : (c : ℕ) → 0x80 ≤ c → c < 0x800 → blank2 (0xC0 + c / 64) (0x80 + c % 64) ≡ blank c
unfolding blank blank2
two c l h =
    rw (above 0x09 0x0d c (omega arith), ne_eqb c 0x20 (λ e. omega arith), below 0x200e 0x200f c (omega arith), below 0x2028 0x2029 c (omega arith), or_false (eqb c 0x85), or_false (eqb c 0x85))
    (either (bool_cases (eqb c 0x85)) (λ e. rw (eqb-true c 0x85 e))
    (λ e. either (bool_cases (eqb (0xC0 + c / 64) 0xc2))
    (λ f. let n = eqb-false c 0x85 e in
    let g = eqb-true (0xC0 + c / 64) 0xc2 f in
    rw (f, e) (ne_eqb (0x80 + c % 64) 0x85 (λ q. n (omega arith))))
    (λ f. rw (f, e))))

-- ---- three bytes

three : (c : ℕ) → 0x800 ≤ c → c < 0x10000 → blank3 (0xE0 + c / 4096) (0x80 + c / 64 % 64) (0x80 + c % 64) ≡ blank c
unfolding blank blank3
three c l h =
    rw (above 0x09 0x0d c (omega arith), ne_eqb c 0x20 (λ e. omega arith), ne_eqb c 0x85 (λ e. omega arith))
    (either (bool_cases (eqb (0xE0 + c / 4096) 0xe2))
    (λ f. rw f (second (eqb-true (0xE0 + c / 4096) 0xe2 f)))
    (λ f. let n = eqb-false (0xE0 + c / 4096) 0xe2 f in
    rw f (sym (out (either (lt_or_le c 0x2000) inl (λ m. inr (either (lt_or_le c 0x3000) (λ k. absurd (n (omega arith))) (λ k. omega arith))))))))
  where
    out : (c < 0x2000) ⊎ (0x2040 ≤ c) → (within 0x200e 0x200f c || within 0x2028 0x2029 c) ≡ false
    out (inl m) = rw (below 0x200e 0x200f c (omega arith), below 0x2028 0x2029 c (omega arith))
    out (inr m) = rw (above 0x200e 0x200f c (omega arith), above 0x2028 0x2029 c (omega arith))

    second : 0xE0 + c / 4096 ≡ 0xe2
        → (eqb (0x80 + c / 64 % 64) 0x80 && (within 0x8e 0x8f (0x80 + c % 64) || within 0xa8 0xa9 (0x80 + c % 64))) ≡ (within 0x200e 0x200f c || within 0x2028 0x2029 c)
    second e =
        either (bool_cases (eqb (0x80 + c / 64 % 64) 0x80))
        (λ g. let q : 0x80 + c / 64 % 64 ≡ 0x80 = eqb-true (0x80 + c / 64 % 64) 0x80 g in
        let y : c ≡ 0x1f80 + (0x80 + c % 64) = omega arith in
        rw (g, shifted 0x1f80 0x8e 0x8f (0x80 + c % 64) 0x200e 0x200f c refl refl y, shifted 0x1f80 0xa8 0xa9 (0x80 + c % 64) 0x2028 0x2029 c refl refl y))
        (λ g. let n = eqb-false (0x80 + c / 64 % 64) 0x80 g in
        rw g (sym (out (inr (either (lt_or_le c 0x2040) (λ m. absurd (n (omega arith))) (λ m. m))))))

-- ---- four bytes

four : (c : ℕ) → 0x10000 ≤ c → blank c ≡ false
unfolding blank
four c l =
    rw (above 0x09 0x0d c (omega arith), ne_eqb c 0x20 (λ e. omega arith), ne_eqb c 0x85 (λ e. omega arith), above 0x200e 0x200f c (omega arith), above 0x2028 0x2029 c (omega arith))

-- ---- the whole

-- the width of the whitespace character in front
abbrev pub width_at : List ℕ → ℕ
width_at s = blank_width (get_or s 0 0) (get_or s 1 0) (get_or s 2 0)

no_2 : (a b : ℕ) → 0xE0 ≤ a → blank2 a b ≡ false
unfolding blank2
no_2 a b h = rw (ne_eqb a 0xc2 (λ e. omega arith))

no_3 : (a b c : ℕ) → (a ≡ 0xe2 → ⊥) → blank3 a b c ≡ false
unfolding blank3
no_3 a b c h = rw (ne_eqb a 0xe2 h)

-- the encoding of c, and then t, begin with a whitespace character exactly when c is whitespace
pub blank_of_char : (c : ℕ) (t : List ℕ) → Scalar c → width_at (encode c ++ t) ≡ cond (blank c) (encoded_len c) 0
blank_of_char c t s =
    either (lt_or_le c 0x80)
    (λ h. rw (encode_1 c h, encoded_len_1 c h, blank_ascii c (get_or t 0 0) (get_or t 1 0) h, one c h))
    (λ l1. either (lt_or_le c 0x800)
    (λ h. rw (encode_2 c l1 h, encoded_len_2 c l1 h, blank_wide (0xC0 + c / 64) (0x80 + c % 64) (get_or t 0 0) (omega arith), two c l1 h, no_3 (0xC0 + c / 64) (0x80 + c % 64) (get_or t 0 0) (λ e. omega arith)))
    (λ l2. either (lt_or_le c 0x10000)
    (λ h. rw (encode_3 c l2 h, encoded_len_3 c l2 h, blank_wide (0xE0 + c / 4096) (0x80 + c / 64 % 64) (0x80 + c % 64) (omega arith), no_2 (0xE0 + c / 4096) (0x80 + c / 64 % 64) (omega arith), three c l2 h))
    (λ l3. rw (encode_4 c l3, encoded_len_4 c l3, blank_wide (0xF0 + c / 262144) (0x80 + c / 4096 % 64) (0x80 + c / 64 % 64) (omega arith), no_2 (0xF0 + c / 262144) (0x80 + c / 4096 % 64) (omega arith), no_3 (0xF0 + c / 262144) (0x80 + c / 4096 % 64) (0x80 + c / 64 % 64) (λ e. omega arith), four c l3))))
