-- A short integer is what the general reader reads there, in every width. Assumes nothing.
use Prim.Native.Nat.{ℕ, ◌≤◌, ◌<◌, min}
use native.Mathlib.Nat.{zero-add}
use native.Mathlib.Omega.{arith, min_cases}
use mathlib.Core.Bool.{Bool, true, false, ◌&&◌}
use mathlib.Core.List.{List, [], ◌∷◌}
use mathlib.Core.Path.{◌≡◌, refl, subst, sym, ◌∙◌}
use lib.Dec.{eqb, leb, ltb}
use lib.ListN.{length, take, drop, get_or}
use borrow.Author.Tests.{eqb-true, leb-true, ltb-true, ne_eqb}
use Rattle.text.proofs.Choices.{and_true, cond_cases, cond_same, either, lt_or_le}
use Rattle.text.proofs.RunLaws.{run_holds, run_le}
use Rattle.text.specs.Classes.{digit, hex_digit, int_char, within}
use Rattle.text.specs.Runs.{run}
use Rattle.text.specs.Words.{starts_with}
use Rattle.digits.specs.Value.{value_of}
use Rattle.integers.specs.Front.{sign_of}
use Rattle.integers.specs.Integer.{typed_of}
use Rattle.integers.specs.Width.{code_of, limit_at}
use Rattle.integers.specs.declared.integer.Integer.TheVariants as integer
use Rattle.integers.specs.declared.width.Width.{Width}
use Rattle.reading.specs.Owed.{quiet_byte}
use Rattle.plain_numbers.proofs.Integers.{Ends, front_is, numeral_is, quiet_ends}
use Rattle.plain_numbers.proofs.Runs.{digit_in, digit_int}
use Rattle.plain_numbers.specs.declared.short.Short.{Short}
use Rattle.plain_numbers.specs.declared.short.Short.TheVariants.{Value}
use Rattle.plain_numbers.specs.inner.Shorts.{digits_of, ends_short, most, short_of}

-- what a short integer is: digits up to a byte that no integer goes on with, of a value that the width holds
pub record Held (code : ℕ) (s : List ℕ) (v : ℕ) : Type 0 where
  pub some : 0 < run digit s
  pub ends : Ends (get_or s (run digit s) 0)
  pub value : value_of 10 (take (run digit s) s) ≡ v
  pub fits : v ≤ limit_at code false

-- 0 is such a byte, and so is a quiet one
ends_here : (c : ℕ) → ends_short c ≡ true → Ends c
unfolding ends_short int_char hex_digit digit within
ends_here c =
    cond_cases (λ (b : Bool). b ≡ true → Ends c) (eqb c 0) true (quiet_byte c)
    (λ z h. subst Ends (sym (eqb-true c 0 z)) (record { int = refl; base = (λ e. omega arith, λ e. omega arith); suffix = (λ e. omega arith, λ e. omega arith) }))
    (λ z h. quiet_ends c h)

-- it is no digit
loud : (c : ℕ) → Ends c → digit c ≡ true → ⊥
loud c h d = let z : true ≡ false = sym (digit_int c d) ∙ h.int in let y : ◌≡◌ {A = ℕ} 0 1 = cc in omega arith

-- behind no more digits than are taken it stands only where they end
all_taken : (s : List ℕ) → Ends (get_or s (min (run digit s) most) 0) → min (run digit s) most ≡ run digit s
all_taken s q =
    either (lt_or_le most (run digit s))
    (λ l. let e : min (run digit s) most ≡ most = min_cases (run digit s) most _ (λ p h. h ∙ omega arith) (λ p h. h) in
    absurd (loud (get_or s most 0) (rw e at q) (run_holds digit s most l)))
    (λ l. min_cases (run digit s) most _ (λ p h. h) (λ p h. h ∙ omega arith))

pub short_held : (code : ℕ) (s : List ℕ) (v n : ℕ) → short_of code s ≡ Value v n → Held code s v × (n ≡ run digit s)
unfolding short_of digits_of
short_held code s v n =
    let k : ℕ = min (run digit s) most in
    let w : ℕ = value_of 10 (take k s) in
    cond_cases (λ (r : Short). r ≡ Value v n → Held code s v × (n ≡ run digit s)) (ltb 0 k && (ends_short (get_or s k 0) && leb w (limit_at code false))) _ _
    (λ e h.
    let a = and_true (ltb 0 k) _ e in
    let b = and_true (ends_short (get_or s k 0)) _ a.1 in
    let here : Ends (get_or s k 0) = ends_here (get_or s k 0) b.0 in
    let all : k ≡ run digit s = all_taken s here in
    let is : w ≡ v = cc in
    let long : k ≡ n = cc in (
      record {
        some = rw all at (ltb-true 0 k a.0);
        ends = rw all at here;
        value = rw all at is;
        fits = rw is at (leb-true w (limit_at code false) b.1);
      },
      sym long ∙ all,
    ))
    (λ e h. let z : ◌≡◌ {A = ℕ} 0 1 = cc in absurd (omega arith))

-- ---- the general reader

no_byte : (t : List ℕ) → digit (get_or t 0 0) ≡ true → starts_with (0x62 ∷ 0x27 ∷ []) t ≡ false
unfolding starts_with
no_byte [] d = refl
no_byte (a ∷ t) d = let i = digit_in a d in rw (ne_eqb a 0x62 (λ z. omega arith))

module _ (s : List ℕ) (v : ℕ) (w : Width) (h : Held (code_of w) s v) where
  first : digit (get_or s 0 0) ≡ true
  first = run_holds digit s 0 h.some

  -- a digit is no sign
  unsigned : sign_of s ≡ record { minus = false; end = 0 }
  unfolding sign_of
  unsigned = let i = digit_in (get_or s 0 0) first in rw (ne_eqb (get_or s 0 0) 0x2b (λ z. omega arith), ne_eqb (get_or s 0 0) 0x2d (λ z. omega arith))

  -- the number stands behind no sign
  some_there : 0 < run digit (drop (sign_of s).end s)
  some_there = rw unsigned h.some

  ends_there : Ends (get_or (drop (sign_of s).end s) (run digit (drop (sign_of s).end s)) 0)
  ends_there = rw unsigned h.ends

  fits_there : value_of 10 (take (run digit (drop (sign_of s).end s)) (drop (sign_of s).end s)) ≤ limit_at (code_of w) (sign_of s).minus
  fits_there = rw (unsigned, h.value) h.fits

  -- and begins no byte literal
  pub held_begins : starts_with (0x62 ∷ 0x27 ∷ []) s ≡ false
  held_begins = no_byte s first

  pub held_read : typed_of w s ≡ integer.Read (record { minus = false; magnitude = v }) (run digit s)
  unfolding typed_of
  held_read =
      rw (ne_eqb (length s) 0 (λ z. omega (arith, h.some, run_le digit s)), front_is s some_there ends_there, numeral_is s some_there ends_there (code_of w) fits_there, unsigned, h.value, cond_same (eqb v 0) false, zero-add (run digit s))
