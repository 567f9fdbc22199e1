-- The loop over the digits of a short integer. Assumes nothing.
use Prim.Native.Nat.{ℕ, ◌+◌, ◌-◌, ◌*◌, ◌^◌, ◌≤◌, ◌<◌, min}
use native.Mathlib.Numerals.{add-one}
use native.Mathlib.Omega.{arith, min_cases}
use mathlib.Core.Bool.{true, false}
use mathlib.Core.List.{List, [], ◌∷◌, ◌++◌}
use mathlib.Core.Path.{◌≡◌, ap, refl, sym, ◌∙◌}
use lib.ListN.{length, take, drop, get_or}
use lib.Seq.{length-take-le, take-suc}
use borrow.Author.Tests.{le-leb, le-ltb, lt-leb, lt-ltb}
use Rattle.text.proofs.Choices.{and_false}
use Rattle.text.proofs.RunLaws.{run_le, run_more}
use Rattle.text.specs.Classes.{digit}
use Rattle.text.specs.Runs.{run}
use Rattle.digits.specs.Value.{digit_step, value_from, value_of}
use Rattle.integers.specs.Width.{limit_at}
use Rattle.plain_numbers.proofs.Values.{run_only, step_digit, value_within}
use Rattle.plain_numbers.specs.declared.short.Digits.{Digits}
use Rattle.plain_numbers.specs.declared.short.Short.TheVariants.{Other, Value}
use Rattle.plain_numbers.specs.inner.Shorts.{digits_of, ends_short, most, short_by, short_of}

-- one digit more behind a run
value_last : (base acc : ℕ) (s : List ℕ) (c : ℕ) → value_from base acc (s ++ (c ∷ [])) ≡ digit_step base (value_from base acc s) c
unfolding value_from
value_last base acc [] c = refl
value_last base acc (a ∷ s) c = value_last base (digit_step base acc a) s c

-- what the loop knows at the place i
abbrev pub Passed : List ℕ → ℕ → ℕ → Type 0
Passed s value i = (i ≤ most) × (i + run digit (drop i s) ≡ run digit s) × (value ≡ value_of 10 (take i s))

-- the digit at i is passed
module _ (s : List ℕ) (value i : ℕ) (below : i < most) (inside : i < length s) (is : digit (get_or s i 0) ≡ true) (h : Passed s value i) where
  next : value_of 10 (take (i + 1) s) ≡ value * 10 + (get_or s i 0 - 0x30)
  next =
      ap (λ (k : ℕ). value_of 10 (take k s)) (add-one i)
      ∙ ap (value_of 10) (take-suc s i 0 inside)
      ∙ value_last 10 0 (take i s) (get_or s i 0)
      ∙ ap (λ (v : ℕ). digit_step 10 v (get_or s i 0)) (sym h.2)
      ∙ step_digit (get_or s i 0) is value

  run_next : i + 1 + run digit (drop (i + 1) s) ≡ run digit s
  run_next = omega (arith, run_more digit s i inside is, h.1)

  -- nineteen digits fit 64 bits
  pub next_fits : value * 10 + (get_or s i 0 - 0x30) < 10 ^ 19
  next_fits =
      let some : i + 1 ≤ run digit s = omega (arith, run_next) in
      let long : length (take (i + 1) s) ≡ i + 1 = length-take-le (i + 1) s (omega (arith, run_le digit s)) in
      omega (arith, next, value_within (take (i + 1) s) 19 (run_only s (i + 1) some) (omega (arith, long)))

  pub passed_next : Passed s (value * 10 + (get_or s i 0 - 0x30)) (i + 1)
  passed_next = (omega arith, run_next, sym next)

-- no digit more is taken
said : (s : List ℕ) (value i : ℕ) → min (run digit s) most ≡ i → value ≡ value_of 10 (take i s) → record { len = i; value = value } ≡ digits_of s
unfolding digits_of
said s value i e v = rw (e, v)

pub stopped : (s : List ℕ) (value i : ℕ) → Passed s value i → run digit (drop i s) ≡ 0 → record { len = i; value = value } ≡ digits_of s
stopped s value i h e = said s value i (min_cases (run digit s) most _ (λ p q. q ∙ omega (arith, h.1)) (λ p q. q ∙ omega (arith, h.0, h.1))) h.2

pub full : (s : List ℕ) (value i : ℕ) → Passed s value i → most ≤ i → record { len = i; value = value } ≡ digits_of s
full s value i h e = said s value i (min_cases (run digit s) most _ (λ p q. q ∙ omega (arith, h.0, h.1)) (λ p q. q ∙ omega (arith, h.0))) h.2

-- ---- what the digits make up

module _ (code : ℕ) (s : List ℕ) (d : Digits) (e : d ≡ digits_of s) where
  opened : short_of code s ≡ short_by code s d
  unfolding short_of
  opened = ap (short_by code s) (sym e)

  pub short_none : d.len ≡ 0 → Other ≡ short_of code s
  short_none h = sym (opened ∙ rw (le-ltb 0 d.len (omega arith)))

  pub short_loud : ends_short (get_or s d.len 0) ≡ false → Other ≡ short_of code s
  short_loud h = sym (opened ∙ rw (h, and_false))

  pub short_over : limit_at code false < d.value → Other ≡ short_of code s
  short_over h = sym (opened ∙ rw (lt-leb d.value (limit_at code false) h, and_false, and_false))

  pub short_said : (d.len ≡ 0 → ⊥) → ends_short (get_or s d.len 0) ≡ true → d.value ≤ limit_at code false → Value d.value d.len ≡ short_of code s
  short_said some ends fits = sym (opened ∙ rw (lt-ltb 0 d.len (omega arith), ends, le-leb d.value (limit_at code false) fits))
