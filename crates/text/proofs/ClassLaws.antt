-- Laws of the classes. Assumes nothing.
use Prim.Native.Nat.{ℕ, ◌≤◌, ◌<◌}
use native.Mathlib.Omega.{arith}
use mathlib.Core.Path.{◌≡◌, ap, sym, ◌∙◌}
use mathlib.Core.List.{List, [], ◌∷◌}
use mathlib.Core.Bool.{Bool, true, false, cond, ◌&&◌, ◌||◌}
use lib.ListN.{length, get_or}
use lib.Dec.{eqb, lit≤}
use borrow.Author.Tests.{lt-ltb, ne_eqb, eqb-true}
use Rattle.text.specs.Classes.{within, blank1, blank2, blank3, blank_width, digit, ascii_first, ascii_next, ascii_raw, ident_first, ident_next, ident_raw, letter, one_of}
use Rattle.text.specs.Utf8.{In}
pub use Rattle.xid.proofs.Ranges.{inside, below, above}
use Rattle.xid.proofs.Ranges.{above_first, below_last}
use Rattle.text.proofs.Choices.{cond_cases, and_false, and_true, bool_cases, either}

-- ---- ranges

pub within_true : (lo hi x : ℕ) → within lo hi x ≡ true → In lo hi x
within_true lo hi x e = (above_first lo hi x e, below_last lo hi x e)

pub in_within : (lo hi x : ℕ) → In lo hi x → within lo hi x ≡ true
in_within lo hi x h = inside lo hi x h.0 h.1

-- ---- what holds of each byte of a list holds of every byte that is one of them

abbrev pub all_of : (ℕ → Bool) → List ℕ → Bool
all_of p [] = true
all_of p (a ∷ l) = p a && all_of p l

pub one_of_all : (p : ℕ → Bool) (l : List ℕ) (c : ℕ) → all_of p l ≡ true → one_of l c ≡ true → p c ≡ true
one_of_all p [] c h e = let z : ◌≡◌ {A = ℕ} 0 1 = cc in absurd (omega arith)
one_of_all p (a ∷ l) c h e =
    let both = and_true (p a) (all_of p l) h in
    either (bool_cases (eqb c a))
    (λ is. ap p (eqb-true c a is) ∙ both.0)
    (λ isn. one_of_all p l c both.1 (sym (ap (λ (t : Bool). t || one_of l c) isn) ∙ e))

-- ---- the characters of a name up to U+007F

pub ascii_wide : (c : ℕ) → 0x80 ≤ c → ascii_next c ≡ false
unfolding ascii_next letter digit
ascii_wide c h = rw (above 0x41 0x5a c (omega arith), above 0x61 0x7a c (omega arith), above 0x30 0x39 c (omega arith), ne_eqb c 0x5f (λ e. omega arith))

pub first_ascii : (c : ℕ) → c < 0x80 → ident_first c ≡ ascii_first c
unfolding ident_first
first_ascii c h = rw (lt-ltb c 0x80 h)

pub next_ascii : (c : ℕ) → c < 0x80 → ident_next c ≡ ascii_next c
unfolding ident_next
next_ascii c h = rw (lt-ltb c 0x80 h)

pub raw_ascii : (c : ℕ) → c < 0x80 → ident_raw c ≡ ascii_raw c
unfolding ident_raw
raw_ascii c h = rw (lt-ltb c 0x80 h)

-- ---- whitespace by its first byte

pub blank_ascii : (a b c : ℕ) → a < 0x80 → blank_width a b c ≡ cond (blank1 a) 1 0
unfolding blank_width blank2 blank3
blank_ascii a b c h = simp (ne_eqb a 0xc2 (λ e. omega arith), ne_eqb a 0xe2 (λ e. omega arith))

pub blank_wide : (a b c : ℕ) → 0x80 ≤ a → blank_width a b c ≡ cond (blank2 a b) 2 (cond (blank3 a b c) 3 0)
unfolding blank_width blank1
blank_wide a b c h = simp (above 0x09 0x0d a (omega arith), ne_eqb a 0x20 (λ e. omega arith))

-- ---- a whitespace character has no more bytes than the text

le_by : (m : ℕ) (t : Bool) (x y : ℕ) → x ≤ m → y ≤ m → cond t x y ≤ m
le_by m t x y p q = cond_cases (λ (n : ℕ). n ≤ m) t x y (λ e. p) (λ e. q)

pub blank_le : (s : List ℕ) → blank_width (get_or s 0 0) (get_or s 1 0) (get_or s 2 0) ≤ length s
unfolding blank_width blank1 blank2 blank3 within
blank_le [] = lit≤ tt
blank_le (a ∷ []) =
    rw (and_false (eqb a 0xc2), and_false (eqb a 0xe2)) (le_by 1 (blank1 a) 1 0 (lit≤ tt) (lit≤ tt))
blank_le (a ∷ b ∷ []) =
    rw (and_false (eqb b 0x80), and_false (eqb a 0xe2))
    (le_by 2 (blank1 a) 1 _ (lit≤ tt) (le_by 2 (blank2 a b) 2 0 (lit≤ tt) (lit≤ tt)))
blank_le (a ∷ b ∷ c ∷ s) =
    let three : blank_width a b c ≤ 3 =
    le_by 3 (blank1 a) 1 _ (lit≤ tt) (le_by 3 (blank2 a b) 2 _ (lit≤ tt) (le_by 3 (blank3 a b c) 3 0 (lit≤ tt) (lit≤ tt))) in
    omega arith
