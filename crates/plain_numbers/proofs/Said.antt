-- What the parts of a plain number that the code has in hand make up. Assumes nothing.
use Prim.Native.Nat.{ℕ, suc, ◌+◌, ◌-◌, ◌≤◌, ◌<◌}
use native.Mathlib.Omega.{arith}
use mathlib.Core.Bool.{Bool, true, false, cond, ◌&&◌}
use mathlib.Core.List.{List, [], ◌∷◌}
use mathlib.Core.Path.{◌≡◌, ap, sym, ◌∙◌}
use lib.Dec.{eqb, ltb, leb}
use lib.ListN.{length, take, drop, get_or, get_or-eq_default}
use borrow.Author.Tests.{eq-eqb, le-leb, le-ltb, lt-leb, lt-ltb, ne_eqb}
use Rattle.text.proofs.Choices.{and_false, cond_cases}
use Rattle.text.proofs.Lists.{head_at, tail_part}
use Rattle.text.proofs.RunLaws.{run_le}
use Rattle.text.specs.Classes.{digit}
use Rattle.text.specs.Runs.{run}
use Rattle.digits.specs.Value.{value_of}
use Rattle.integers.specs.Front.{sign_of}
use Rattle.integers.specs.Width.{code_of, first_fit}
use Rattle.integers.specs.declared.front.Sign.{Sign}
use Rattle.reading.specs.Owed.{quiet_byte}
use Rattle.plain_numbers.proofs.Values.{OnlyDigits, value_four, value_within}
use Rattle.plain_numbers.specs.inner.PlainNumbers.{behind_sign, fit_of, fraction_of, not_plain, plain_float, plain_integer, plain_number}

-- the byte in front of a part up to the end
pub part_head : (s : List ℕ) (n : ℕ) → get_or (take (length s - n) (drop n s)) 0 0 ≡ get_or s n 0
part_head s n = ap (λ (l : List ℕ). get_or l 0 0) (tail_part s n) ∙ head_at s n

-- ---- a fraction

pub fraction_le : (t : List ℕ) → fraction_of t ≤ length t
unfolding fraction_of
fraction_le [] = omega arith
fraction_le (a ∷ t) = cond_cases (λ (m : ℕ). m ≤ suc (length t)) (eqb a 0x2e && (ltb 0 (run digit t) && quiet_byte (get_or t (run digit t) 0))) _ _ (λ e. omega (arith, run_le digit t)) (λ e. omega arith)

module _ (s : List ℕ) where
  pub fraction_past : length s ≡ 0 → 0 ≡ fraction_of s
  unfolding fraction_of
  fraction_past h = rw (get_or-eq_default s 0 {n = 0} (omega (arith, h)))

  pub fraction_other : (get_or s 0 0 ≡ 0x2e → ⊥) → 0 ≡ fraction_of s
  unfolding fraction_of
  fraction_other h = rw (ne_eqb (get_or s 0 0) 0x2e h)

  module _ (n : ℕ) (e : n ≡ run digit (take (length s - 1) (drop 1 s))) where
    opened : fraction_of s ≡ cond (eqb (get_or s 0 0) 0x2e && (ltb 0 n && quiet_byte (get_or (take (length s - (n + 1)) (drop (n + 1) s)) 0 0))) (n + 1) 0
    unfolding fraction_of
    opened =
        let r : run digit (drop 1 s) ≡ n = sym (e ∙ ap (run digit) (tail_part s 1)) in
        let m : suc n ≡ n + 1 = omega arith in
        rw (r, m, part_head s (n + 1))

    pub fraction_none : n ≡ 0 → 0 ≡ fraction_of s
    fraction_none h = rw (opened, le-ltb 0 n (omega arith), and_false)

    pub fraction_loud : quiet_byte (get_or (take (length s - (n + 1)) (drop (n + 1) s)) 0 0) ≡ false → 0 ≡ fraction_of s
    fraction_loud h = rw (opened, h, and_false, and_false)

    pub fraction_said : get_or s 0 0 ≡ 0x2e → (n ≡ 0 → ⊥) → quiet_byte (get_or (take (length s - (n + 1)) (drop (n + 1) s)) 0 0) ≡ true → n + 1 ≡ fraction_of s
    fraction_said h k q = rw (opened, eq-eqb (get_or s 0 0) 0x2e h, lt-ltb 0 n (omega arith), q)

-- ---- digits

-- two digits fit the narrowest width
fit_two : (minus : Bool) (v : ℕ) → v < 100 → code_of (first_fit minus 0) ≡ code_of (first_fit minus v)
unfolding first_fit
fit_two false v h = rw (le-leb v 255 (omega arith))
fit_two true v h = rw (le-leb v 128 (omega arith))

-- four without a 0 in front fit the next
fit_four : (minus : Bool) (v : ℕ) → 1000 ≤ v → v < 10000 → code_of (first_fit minus 1000) ≡ code_of (first_fit minus v)
unfolding first_fit
fit_four false v l h = rw (lt-leb v 255 (omega arith), le-leb v 65535 (omega arith))
fit_four true v l h = rw (lt-leb v 128 (omega arith), le-leb v 32768 (omega arith))

module _ (s : List ℕ) (minus : Bool) (only : OnlyDigits s) where
  pub two_said : length s ≤ 2 → code_of (first_fit minus 0) ≡ code_of (first_fit minus (value_of 10 s))
  two_said l = fit_two minus (value_of 10 s) (value_within s 2 only l)

  pub four_said : length s ≡ 4 → (get_or s 0 0 ≡ 0x30 → ⊥) → code_of (first_fit minus 1000) ≡ code_of (first_fit minus (value_of 10 s))
  four_said e z = let v = value_four s only e z in fit_four minus (value_of 10 s) v.0 v.1

-- ---- behind a sign

module _ (t : List ℕ) (g : Sign) (n : ℕ) (e : n ≡ run digit t) where
  behind_opened : behind_sign g t
      ≡ cond (ltb 0 n) (cond (ltb 0 (fraction_of (drop n t))) (plain_float (g.end + n + fraction_of (drop n t)))
      (cond (leb n 9 && quiet_byte (get_or (take (length t - n) (drop n t)) 0 0)) (plain_integer (g.end + n) (fit_of g.minus n t)) not_plain)) not_plain
  behind_opened = rw (← e, part_head t n)

  pub said_none : n ≡ 0 → not_plain ≡ behind_sign g t
  said_none h = sym (behind_opened ∙ rw (le-ltb 0 n (omega arith)))

  module _ (some : n ≡ 0 → ⊥) (f : ℕ) (ef : f ≡ fraction_of (take (length t - n) (drop n t))) where
    fraction_is : fraction_of (drop n t) ≡ f
    fraction_is = sym (ef ∙ ap fraction_of (tail_part t n))

    pub said_float : 0 < f → plain_float (g.end + n + f) ≡ behind_sign g t
    said_float h = sym (behind_opened ∙ rw (lt-ltb 0 n (omega arith), fraction_is, lt-ltb 0 f h))

    pub said_long : f ≤ 0 → 9 < n → not_plain ≡ behind_sign g t
    said_long h l = sym (behind_opened ∙ rw (lt-ltb 0 n (omega arith), fraction_is, le-ltb 0 f h, lt-leb n 9 l))

    pub said_integer : f ≤ 0 → n ≤ 9 → quiet_byte (get_or (take (length t - n) (drop n t)) 0 0) ≡ true → (w : ℕ) → w ≡ code_of (first_fit g.minus (value_of 10 (take n t)))
        → plain_integer (g.end + n) w ≡ behind_sign g t
    unfolding fit_of
    said_integer h l q w ew = sym (behind_opened ∙ rw (lt-ltb 0 n (omega arith), fraction_is, le-ltb 0 f h, le-leb n 9 l, q, ← ew))

    pub said_loud : f ≤ 0 → quiet_byte (get_or (take (length t - n) (drop n t)) 0 0) ≡ false → not_plain ≡ behind_sign g t
    said_loud h q = sym (behind_opened ∙ rw (lt-ltb 0 n (omega arith), fraction_is, le-ltb 0 f h, q, and_false))

-- ---- the whole

pub plain_said : (s : List ℕ) (g : Sign) → g ≡ sign_of s → behind_sign g (take (length s - g.end) (drop g.end s)) ≡ plain_number s
unfolding plain_number
plain_said s g e = ap (behind_sign g) (tail_part s g.end) ∙ ap (λ (x : Sign). behind_sign x (drop x.end s)) e
