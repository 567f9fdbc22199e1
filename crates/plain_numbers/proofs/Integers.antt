-- The general reader says of a plain integer what its definition does. Assumes nothing.
use Rattle.std.proofs.Common.{Ok}
use Prim.Native.Nat.{ℕ, ◌+◌, ◌≤◌, ◌<◌}
use native.Mathlib.Nat.{add-zero}
use native.Mathlib.Omega.{arith}
use mathlib.Core.Bool.{Bool, true, false}
use mathlib.Core.List.{List}
use mathlib.Core.Logic.{inr}
use mathlib.Core.Path.{◌≡◌, refl, ap, sym, ◌∙◌}
use lib.Dec.{eqb}
use lib.ListN.{length, take, drop, get_or, length-drop}
use lib.Seq.{length-take-le}
use borrow.Author.Tests.{le-ltb, ne_eqb}
use Rattle.text.proofs.Choices.{bool_cases, either, lt_or_le}
use Rattle.text.proofs.Lists.{head_at}
use Rattle.text.proofs.RunLaws.{run_le, run_holds}
use Rattle.text.specs.Classes.{digit, hex_digit, int_char, within}
use Rattle.text.specs.Runs.{run}
use Rattle.digits.proofs.Exact.{digits_exact}
use Rattle.digits.specs.Digits.{run_of}
use Rattle.digits.specs.Value.{value_of}
use Rattle.digits.specs.declared.Run.TheVariants.{Value}
use Rattle.floats.specs.Classes.{float_goes, float_run}
use Rattle.integers.proofs.Fronts.{front_said}
use Rattle.integers.proofs.Runs.{digits_run}
use Rattle.integers.proofs.Suffixes.{no_suffix}
use Rattle.integers.specs.Front.{front_of, prefix_of, sign_of}
use Rattle.integers.specs.Integer.{any_of, numeral_of}
use Rattle.integers.specs.Width.{first_fit, limit_at, suffix_first, suffix_of, widest, width_at}
use Rattle.integers.specs.Words.{nothing_found}
use Rattle.numbers.specs.Numbers.{float_ahead, number_of}
use Rattle.numbers.specs.declared.Number.TheVariants.{Int}
use Rattle.reading.specs.Owed.{quiet_byte}
use Rattle.plain_numbers.proofs.Runs.{digit_goes, digit_in, digit_int, quiet_float, quiet_int, quiet_not, run_wider, run2_none, run2_passed}
use Rattle.plain_numbers.proofs.Values.{digit_value, run_only, value_nine}

-- ---- digits, and a byte that no integer goes on with

-- no integer character, and no letter of a base or a suffix
pub record Ends (c : ℕ) : Type 0 where
  pub int : int_char c ≡ false
  pub base : (c ≡ 0x6f → ⊥) × (c ≡ 0x78 → ⊥)
  pub suffix : (c ≡ 0x69 → ⊥) × (c ≡ 0x75 → ⊥)

-- a quiet byte is one
pub quiet_ends : (c : ℕ) → quiet_byte c ≡ true → Ends c
unfolding quiet_byte
quiet_ends c q = record {
  int = quiet_int c q;
  base = (quiet_not c q 0x6f refl, quiet_not c q 0x78 refl);
  suffix = (quiet_not c q 0x69 refl, quiet_not c q 0x75 refl);
}

module _ (t : List ℕ) (some : 0 < run digit t) (ends : Ends (get_or t (run digit t) 0)) where
  pub int_run : run int_char t ≡ run digit t
  int_run = run_wider digit int_char digit_int t ends.int

  -- the byte behind a first 0 is no letter of a base
  second : (l : ℕ) → digit l ≡ false → (get_or t (run digit t) 0 ≡ l → ⊥) → get_or t 1 0 ≡ l → ⊥
  second l d n e =
      either (lt_or_le 1 (run digit t))
      (λ k. let z : true ≡ false = sym (run_holds digit t 1 k) ∙ ap digit e ∙ d in let y : ◌≡◌ {A = ℕ} 0 1 = cc in omega arith)
      (λ k. let one : run digit t ≡ 1 = omega arith in n (ap (λ (i : ℕ). get_or t i 0) one ∙ e))

  no_b : get_or t (run digit t) 0 ≡ 0x62 → ⊥
  unfolding int_char hex_digit digit within
  no_b e = let z : false ≡ true = sym ends.int ∙ ap int_char e in let y : ◌≡◌ {A = ℕ} 0 1 = cc in omega arith

  no_prefix : prefix_of t ≡ record { base = 10; end = 0 }
  unfolding prefix_of digit within
  no_prefix =
      either (bool_cases (eqb (get_or t 0 0) 0x30))
      (λ p. rw (p, ne_eqb (get_or t 1 0) 0x62 (second 0x62 refl no_b), ne_eqb (get_or t 1 0) 0x6f (second 0x6f refl ends.base.0), ne_eqb (get_or t 1 0) 0x78 (second 0x78 refl ends.base.1)))
      (λ p. rw p)

  no_letters : suffix_of (drop (run digit t) t) ≡ nothing_found
  no_letters =
      let b : ℕ = get_or t (run digit t) 0 in
      no_suffix (drop (run digit t) t) (ap suffix_first (head_at t (run digit t)) ∙ rw (ne_eqb b 0x69 ends.suffix.0, ne_eqb b 0x75 ends.suffix.1))

-- a float ends there too
pub float-run : (t : List ℕ) → quiet_byte (get_or t (run digit t) 0) ≡ true → float_run t ≡ run digit t
float-run t quiet =
    run2_passed digit float_goes digit_goes t
    ∙ ap (λ (n : ℕ). run digit t + n) (run2_none float_goes (drop (run digit t) t) (λ b. ap (λ (c : ℕ). float_goes c b) (head_at t (run digit t)) ∙ quiet_float _ quiet b))
    ∙ add-zero (run digit t)

-- the limit of 64 bits is no hindrance
wide : (minus : Bool) → 1000000000 ≤ limit_at (widest minus) minus
unfolding limit_at width_at
wide false = omega arith
wide true = omega arith

module _ (t : List ℕ) (some : 0 < run digit t) where
  -- digits read as their value wherever the limit allows it
  run_is : (limit : ℕ) → value_of 10 (take (run digit t) t) ≤ limit → run_of limit 10 (take (run digit t) t) ≡ Value (value_of 10 (take (run digit t) t))
  run_is limit fits =
      let n : ℕ = run digit t in
      let part : List ℕ = take n t in
      let long : length part ≡ n = length-take-le n t (run_le digit t) in
      let only = run_only t n (omega arith) in
      let first = digit_in (get_or part 0 0) (only 0 (omega arith)) in
      sym (digits_run limit 10 part (λ z. omega arith) (λ z. omega arith))
      ∙ (digits_exact limit 10 part (value_of 10 part) (omega arith)).1
      (record {
        only = λ i k. inr (let d = digit_in (get_or part i 0) (only i k) in omega (arith, digit_value (get_or part i 0) (only i k)));
        value = refl;
        fits = fits;
      })

  -- and that of 64 bits allows nine
  nine_fits : run digit t ≤ 9 → (minus : Bool) → value_of 10 (take (run digit t) t) ≤ limit_at (widest minus) minus
  nine_fits few minus =
      let part : List ℕ = take (run digit t) t in
      let long : length part ≡ run digit t = length-take-le (run digit t) t (run_le digit t) in
      omega (arith, wide minus, value_nine part (run_only t (run digit t) (omega arith)) (omega (arith, long, few)))

-- ---- the whole

module _ (s : List ℕ) (some : 0 < run digit (drop (sign_of s).end s)) (ends : Ends (get_or (drop (sign_of s).end s) (run digit (drop (sign_of s).end s)) 0)) where
  pub front_is : front_of s ≡ record { minus = (sign_of s).minus; base = 10; end = (sign_of s).end }
  front_is =
      sym (front_said s (sign_of s) (record { base = 10; end = 0 }) refl (sym (no_prefix (drop (sign_of s).end s) some ends)))
      ∙ ap (λ (e : ℕ). record { minus = (sign_of s).minus; base = 10; end = e }) (add-zero (sign_of s).end)

  -- digits in a width that holds their value
  pub numeral_is : (asked : ℕ) → value_of 10 (take (run digit (drop (sign_of s).end s)) (drop (sign_of s).end s)) ≤ limit_at asked (sign_of s).minus
      → numeral_of asked (sign_of s).minus 10 (drop (sign_of s).end s)
      ≡ Ok (value_of 10 (take (run digit (drop (sign_of s).end s)) (drop (sign_of s).end s)), 0, run digit (drop (sign_of s).end s))
  unfolding numeral_of
  numeral_is asked fits =
      let t : List ℕ = drop (sign_of s).end s in
      let n : ℕ = run digit t in
      let long : length (take n t) ≡ n = length-take-le n t (run_le digit t) in
      rw (int_run t some ends, no_letters t some ends, run_is t some (limit_at asked (sign_of s).minus) fits, long, add-zero n)

module _ (s : List ℕ) (some : 0 < run digit (drop (sign_of s).end s)) (quiet : quiet_byte (get_or (drop (sign_of s).end s) (run digit (drop (sign_of s).end s)) 0) ≡ true) where
  ending : Ends (get_or (drop (sign_of s).end s) (run digit (drop (sign_of s).end s)) 0)
  ending = quiet_ends _ quiet

  not_ahead : float_ahead s ≡ false
  unfolding float_ahead
  not_ahead = let t : List ℕ = drop (sign_of s).end s in rw (int_run t some ending, float-run t quiet) (le-ltb (run digit t) (run digit t) (omega arith))

  pub integer_is : run digit (drop (sign_of s).end s) ≤ 9 → number_of s
      ≡ Int (first_fit (sign_of s).minus (value_of 10 (take (run digit (drop (sign_of s).end s)) (drop (sign_of s).end s)))) ((sign_of s).end + run digit (drop (sign_of s).end s))
  unfolding number_of any_of
  integer_is few =
      let t : List ℕ = drop (sign_of s).end s in
      let long : 0 < length s = omega (arith, length-drop (sign_of s).end s, run_le digit t) in
      rw (not_ahead, ne_eqb (length s) 0 (λ z. omega arith), front_is s some ending, numeral_is s some ending (widest (sign_of s).minus) (nine_fits t some few (sign_of s).minus))
