-- Laws of the value of at most nine digits. Assumes nothing.
use Prim.Native.Nat.{ℕ, suc, ◌+◌, ◌-◌, ◌*◌, ◌^◌, ◌≤◌, ◌<◌}
use native.Mathlib.Nat.{mul_assoc, mul_comm, mul-le-mul_right, pow-le-pow_right, pow-suc}
use native.Mathlib.Omega.{arith}
use mathlib.Core.Bool.{true}
use mathlib.Core.List.{List, [], ◌∷◌}
use mathlib.Core.Path.{◌≡◌, ap, refl, sym, ◌∙◌}
use lib.ListN.{length, take, drop, get_or}
use lib.Seq.{get_or-take, length-take-le}
use borrow.Author.Tests.{ne_eqb}
use Rattle.text.proofs.Choices.{bool_cases, either}
use Rattle.text.proofs.Lists.{front}
use Rattle.text.proofs.RunLaws.{run_le, run_holds}
use Rattle.text.specs.Classes.{digit}
use Rattle.text.specs.Runs.{run}
use Rattle.digits.proofs.Exact.{value_grows}
use Rattle.digits.specs.Digits.{hex_of}
use Rattle.digits.specs.Value.{digit_step, value_from, value_of}
use Rattle.plain_numbers.proofs.Runs.{digit_in}

module _ (c : ℕ) (e : digit c ≡ true) where
  pub digit_value : hex_of c ≡ c - 0x30
  unfolding hex_of digit
  digit_value = rw e

  pub step_digit : (acc : ℕ) → digit_step 10 acc c ≡ acc * 10 + (c - 0x30)
  step_digit acc = let i = digit_in c e in rw (ne_eqb c 0x5f (λ z. omega arith), digit_value)

-- only digits
abbrev pub OnlyDigits : List ℕ → Type 0
OnlyDigits s = (i : ℕ) → i < length s → digit (get_or s i 0) ≡ true

pub run_only : (t : List ℕ) (n : ℕ) → n ≤ run digit t → OnlyDigits (take n t)
run_only t n h i k =
    let l : i < n = omega (arith, length-take-le n t (omega (arith, run_le digit t))) in
    rw (get_or-take n t i 0 l) (run_holds digit t i (omega arith))

pub all_only : (s : List ℕ) → run digit s ≡ length s → OnlyDigits s
all_only s e i k = run_holds digit s i (omega arith)

-- digits in front, cut out, are digits throughout
pub cut_all : (t : List ℕ) → run digit (take (run digit t) t) ≡ length (take (run digit t) t)
unfolding run
cut_all [] = refl
cut_all (a ∷ t) = either (bool_cases (digit a)) (λ e. rw (e, e) (ap suc (cut_all t))) (λ e. rw e)

pub value_below : (s : List ℕ) (acc : ℕ) → OnlyDigits s → value_from 10 acc s < (acc + 1) * 10 ^ length s
unfolding value_from
value_below [] acc h = omega arith
value_below (c ∷ s) acc h =
    let e = h 0 (omega arith) in
    let i = digit_in c e in
    let step = step_digit c e acc in
    let next : value_from 10 (digit_step 10 acc c) s < (digit_step 10 acc c + 1) * 10 ^ length s = value_below s (digit_step 10 acc c) (λ j k. h (suc j) (omega (arith, k))) in
    let more : (digit_step 10 acc c + 1) * 10 ^ length s ≤ ((acc + 1) * 10) * 10 ^ length s = mul-le-mul_right (10 ^ length s) (omega arith) in
    let same : ((acc + 1) * 10) * 10 ^ length s ≡ (acc + 1) * 10 ^ suc (length s) =
    mul_assoc (acc + 1) 10 (10 ^ length s) ∙ ap (λ (x : ℕ). (acc + 1) * x) (mul_comm 10 (10 ^ length s) ∙ sym (pow-suc 10 (length s))) in
    omega arith

-- digits are below the power of so many
pub value_within : (s : List ℕ) (m : ℕ) → OnlyDigits s → length s ≤ m → value_of 10 s < 10 ^ m
value_within s m only k =
    let below = value_below s 0 only in
    let most : 10 ^ length s ≤ 10 ^ m = pow-le-pow_right (omega arith) k in
    omega arith

pub value_nine : (s : List ℕ) → OnlyDigits s → length s ≤ 9 → value_of 10 s < 1000000000
value_nine s only k = value_within s 9 only k

pub value_least : (s : List ℕ) (acc : ℕ) → OnlyDigits s → acc * 10 ^ length s ≤ value_from 10 acc s
unfolding value_from
value_least [] acc h = omega arith
value_least (c ∷ s) acc h =
    let next : digit_step 10 acc c * 10 ^ length s ≤ value_from 10 (digit_step 10 acc c) s = value_least s (digit_step 10 acc c) (λ j k. h (suc j) (omega (arith, k))) in
    let more : (acc * 10) * 10 ^ length s ≤ digit_step 10 acc c * 10 ^ length s = mul-le-mul_right (10 ^ length s) (omega (arith, step_digit c (h 0 (omega arith)) acc)) in
    let same : (acc * 10) * 10 ^ length s ≡ acc * 10 ^ suc (length s) =
    mul_assoc acc 10 (10 ^ length s) ∙ ap (λ (x : ℕ). acc * x) (mul_comm 10 (10 ^ length s) ∙ sym (pow-suc 10 (length s))) in
    omega arith

-- four digits, the first of them no 0
pub value_four : (s : List ℕ) → OnlyDigits s → length s ≡ 4 → (get_or s 0 0 ≡ 0x30 → ⊥) → (1000 ≤ value_of 10 s) × (value_of 10 s < 10000)
unfolding value_from
value_four [] only h n = absurd (omega (arith, h))
value_four (c ∷ s) only h n =
    let long : length s ≡ 3 = omega (arith, h) in
    let e : digit c ≡ true = only 0 (omega arith) in
    let some : 1 ≤ digit_step 10 0 c = omega (arith, step_digit c e 0, (digit_in c e).0) in
    let least : digit_step 10 0 c * 10 ^ length s ≤ value_from 10 (digit_step 10 0 c) s = value_least s (digit_step 10 0 c) (λ j k. only (suc j) (omega (arith, k))) in
    let thousand : digit_step 10 0 c * 1000 ≤ value_from 10 (digit_step 10 0 c) s = rw long at least in
    (omega arith, value_within (c ∷ s) 4 only (omega arith))

-- ---- one digit of the loop

module _ (s : List ℕ) (acc i : ℕ) (inside : i < length s) (nine : length s ≤ 9) (only : run digit s ≡ length s) (inv : value_from 10 acc (drop i s) ≡ value_of 10 s) where
  digit_at : digit (get_or s i 0) ≡ true
  digit_at = run_holds digit s i (omega arith)

  pub digit_least : 0x30 ≤ get_or s i 0
  digit_least = (digit_in (get_or s i 0) digit_at).0

  pub turned : value_from 10 (acc * 10 + (get_or s i 0 - 0x30)) (drop (i + 1) s) ≡ value_of 10 s
  unfolding value_from
  turned =
      ap (λ (a : ℕ). value_from 10 a (drop (i + 1) s)) (sym (step_digit (get_or s i 0) digit_at acc))
      ∙ ap (value_from 10 acc) (sym (front s i inside)) ∙ inv

  pub turned_fits : acc * 10 + (get_or s i 0 - 0x30) < 1000000000
  turned_fits =
      let next : ℕ = acc * 10 + (get_or s i 0 - 0x30) in
      let grows = value_grows 10 next (drop (i + 1) s) (omega arith) in
      let below = value_nine s (all_only s only) nine in
      omega (arith, turned)
