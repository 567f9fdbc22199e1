-- Laws of decimal numbers: digit by digit, below 2^64. Assumes nothing.
use Rattle.std.specs.Prelude.{Option, Some, None}
use Rattle.std.specs.Option.{SomeIff}
use Prim.Native.Nat.{ℕ, ◌+◌, ◌-◌, ◌*◌, ◌^◌, ◌≤◌, ◌<◌}
use native.Mathlib.Omega.{arith}
use native.Mathlib.Nat.{le_refl, le_trans}
use mathlib.Core.Path.{◌≡◌, refl, sym, ap, ◌∙◌}
use mathlib.Core.Bool.{Bool, true, false}
use mathlib.Core.List.{List, [], ◌∷◌}
use lib.ListN.{length, get_or, drop, drop_of_length-le}
use lib.Dec.{ltb}
use borrow.Author.Tests.{lt-ltb, le-ltb, ltb-true, ltb-false}
use Rattle.words.specs.Digit.{is_digit}
use Rattle.words.specs.Number.{all_digits, value_from, decimal_from, decimal_of}
use Rattle.text.proofs.Choices.{and_false}
use Rattle.text.proofs.Lists.{front}

-- no digit makes a number smaller
value_grows : (s : List ℕ) (n : ℕ) → n ≤ value_from s n
unfolding value_from
value_grows [] n = le_refl n
value_grows (a ∷ s) n = le_trans (omega arith) (value_grows s (n * 10 + (a - 48)))

pub decimal_end : (n : ℕ) → n < 2 ^ 64 → decimal_from [] n ≡ Some n
unfolding decimal_from all_digits value_from
decimal_end n h = rw (lt-ltb n (2 ^ 64) h)

pub decimal_large : (s : List ℕ) (n : ℕ) → 2 ^ 64 ≤ n → decimal_from s n ≡ None
unfolding decimal_from
decimal_large s n h = rw (le-ltb (value_from s n) (2 ^ 64) (le_trans h (value_grows s n)), and_false (all_digits s))

module _ (a n : ℕ) (s : List ℕ) where
  pub decimal_digit : is_digit a ≡ true → decimal_from (a ∷ s) n ≡ decimal_from s (n * 10 + (a - 48))
  unfolding decimal_from all_digits value_from
  decimal_digit e = rw e

  pub decimal_other : is_digit a ≡ false → decimal_from (a ∷ s) n ≡ None
  unfolding decimal_from all_digits value_from
  decimal_other e = rw e

-- the sum that the code makes, where it is below 2^64
pub decimal_sum : (a n p : ℕ) → is_digit a ≡ true → (r : Option ℕ) → p ≡ n * 10 → SomeIff r (p + (a - 48) < 2 ^ 64) (p + (a - 48)) → r ≡ decimal_from (a ∷ []) n
decimal_sum a n p d None e f = sym (decimal_digit a n [] d ∙ decimal_large [] (n * 10 + (a - 48)) (omega (arith, e, f)))
decimal_sum a n p d (Some x) e f =
    let sum : x ≡ n * 10 + (a - 48) = f.1 ∙ ap (λ (m : ℕ). m + (a - 48)) e in
    ap Some sum ∙ sym (decimal_digit a n [] d ∙ decimal_end (n * 10 + (a - 48)) (omega (arith, e, f.0)))

-- what is said of one digit is said of more
abbrev pub on_decimal : Option ℕ → (ℕ → Option ℕ) → Option ℕ
on_decimal (Some v) k = k v
on_decimal None k = None

pub decimal_cons : (a n : ℕ) (s : List ℕ) → decimal_from (a ∷ s) n ≡ on_decimal (decimal_from (a ∷ []) n) (λ v. decimal_from s v)
decimal_cons a n s = by_digit (is_digit a) refl
  where
    m : ℕ
    m = n * 10 + (a - 48)

    by_size : (t : Bool) → ltb m (2 ^ 64) ≡ t → decimal_from s m ≡ on_decimal (decimal_from [] m) (λ v. decimal_from s v)
    by_size true e = rw (decimal_end m (ltb-true m (2 ^ 64) e))
    by_size false e = rw (decimal_large [] m (ltb-false m (2 ^ 64) e)) (decimal_large s m (ltb-false m (2 ^ 64) e))

    by_digit : (t : Bool) → is_digit a ≡ t → decimal_from (a ∷ s) n ≡ on_decimal (decimal_from (a ∷ []) n) (λ v. decimal_from s v)
    by_digit true e = rw (decimal_digit a n s e, decimal_digit a n [] e) (by_size (ltb m (2 ^ 64)) refl)
    by_digit false e = rw (decimal_other a n s e, decimal_other a n [] e)

-- ---- the digits of a word

pub decimal_none : (s : List ℕ) → length s ≡ 0 → decimal_of s ≡ None
unfolding decimal_of
decimal_none [] h = refl
decimal_none (a ∷ s) h = absurd (omega arith)

pub decimal_some : (s : List ℕ) → (length s ≡ 0 → ⊥) → decimal_of s ≡ decimal_from s 0
unfolding decimal_of
decimal_some [] h = absurd (h refl)
decimal_some (a ∷ s) h = refl

module _ (s : List ℕ) (i n : ℕ) where
  told : i < length s → decimal_from (drop i s) n ≡ on_decimal (decimal_from (get_or s i 0 ∷ []) n) (λ v. decimal_from (drop (i + 1) s) v)
  told h = rw (front s i h) (decimal_cons (get_or s i 0) n (drop (i + 1) s))

  pub decimal_next : (v : ℕ) → i < length s → decimal_from (get_or s i 0 ∷ []) n ≡ Some v
      → decimal_from (drop i s) n ≡ decimal_from (drop (i + 1) s) v
  decimal_next v h e = told h ∙ ap (λ (d : Option ℕ). on_decimal d (λ v. decimal_from (drop (i + 1) s) v)) e

  pub decimal_bad : i < length s → decimal_from (get_or s i 0 ∷ []) n ≡ None → decimal_from (drop i s) n ≡ None
  decimal_bad h e = told h ∙ ap (λ (d : Option ℕ). on_decimal d (λ v. decimal_from (drop (i + 1) s) v)) e

  pub decimal_last : length s ≤ i → n < 2 ^ 64 → decimal_from (drop i s) n ≡ Some n
  decimal_last h k = rw (drop_of_length-le s h) (decimal_end n k)
