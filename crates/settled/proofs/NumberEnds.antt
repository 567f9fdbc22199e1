-- An accepted number ends before a byte outside of the raw name's class. Assumes nothing.
use Rattle.std.proofs.Common.{Ok, Err}
use Rattle.text.specs.Refusals.{Told}
use Rattle.floats.specs.declared.float.FloatSpan.{FloatSpan}
use Rattle.integers.specs.declared.width.Width.{Width}
use Prim.Native.Nat.{◌+◌, ◌-◌, ◌≤◌, ℕ}
use native.Mathlib.Omega.{arith}
use mathlib.Core.Bool.{Bool, false, true}
use mathlib.Core.List.{List, [], ◌∷◌, ◌++◌}
use mathlib.Core.Path.{◌∙◌, ◌≡◌, ap, refl, subst, sym}
use lib.Dec.{eqb, leb}
use lib.ListN.{drop, length, length-drop, length-take, take}
use lib.Seq.{drop-append-le}
use borrow.Author.Tests.{ne_eqb}
use Rattle.digits.specs.Digits.{run_of}
use Rattle.digits.specs.declared.Run.{Run}
use Rattle.digits.specs.declared.Run.TheVariants.{Empty, NotDigit, Over, Underscore, Value}
use Rattle.floats.proofs.FloatStops.{float_reach}
use Rattle.floats.specs.Classes.{float_run}
use Rattle.floats.specs.Float.{behind_float, float_of, float_suffixes, run_at, specials}
use Rattle.floats.specs.Judged.{float_judged}
use Rattle.floats.specs.declared.judge.Judged.{Judged}
use Rattle.floats.specs.declared.judge.Judged.TheVariants.{Fine, Misplaced, Unfit}
use Rattle.integers.proofs.Fronts.{prefix_by_le}
use Rattle.integers.proofs.IntegerStops.{Outside, int_reach, out_digit, out_letter, out_next, sign_reach}
use Rattle.integers.proofs.WordStops.{first_reach}
use Rattle.integers.specs.Front.{front_of, prefix_of, sign_of}
use Rattle.integers.specs.Integer.{any_as, any_of, behind_run, chosen_of, numeral_of}
use Rattle.integers.specs.Width.{limit_at, suffix_of, suffix_word, widest, width_at}
use Rattle.integers.specs.Words.{first_of}
use Rattle.integers.specs.declared.front.Prefix.{Prefix}
use Rattle.integers.specs.declared.ident.Found.{Found}
use Rattle.numbers.specs.Numbers.{float_ahead, number_of, of_float, or_else, or_float}
use Rattle.numbers.specs.declared.Number.{Number}
use Rattle.numbers.specs.declared.Number.TheVariants.{Float, Int, Refused}
use Rattle.text.proofs.Choices.{bool_cases, cond_cases, either, or_right}
use Rattle.text.proofs.ClassLaws.{inside}
use Rattle.text.proofs.Stops.{Reach, Stopped, on, sum}
use Rattle.text.specs.Classes.{ascii_next, ascii_raw, digit, int_char, letter, within}
use Rattle.text.specs.Runs.{run}
use Rattle.text.specs.declared.refusal.Refusal.{Refusal}

-- ---- ends

abbrev NumeralBy : ℕ → Told (ℕ × ℕ × ℕ) → Type 0
NumeralBy n (Ok (v, found, end)) = end ≤ n
NumeralBy n (Err r) = Unit {0}

abbrev IntegerBy : ℕ → Told (Width × ℕ) → Type 0
IntegerBy n (Ok (w, l)) = l ≤ n
IntegerBy n (Err r) = Unit {0}

abbrev FloatBy : ℕ → Told FloatSpan → Type 0
FloatBy n (Ok f) = f.len ≤ n
FloatBy n (Err r) = Unit {0}

abbrev pub NumberBy : ℕ → Number → Type 0
NumberBy n (Int w l) = l ≤ n
NumberBy n (Float f) = f.len ≤ n
NumberBy n (Refused r) = Unit {0}

run_by : (n found end : ℕ) (r : Run) → end ≤ n → NumeralBy n (behind_run found end r)
run_by n found end (Value v) h = h
run_by n found end Empty h = tt
run_by n found end Underscore h = tt
run_by n found end (NotDigit at) h = tt
run_by n found end Over h = tt

any_by : (n at : ℕ) (minus : Bool) (a : Told (ℕ × ℕ × ℕ)) → NumeralBy (n - at) a → at ≤ n → IntegerBy n (any_as minus at a)
any_by n at minus (Ok (v, found, end)) h l = omega arith
any_by n at minus (Err r) h l = tt

judged_by : (n code end : ℕ) (j : Judged) → end ≤ n → FloatBy n (behind_float code end j)
judged_by n code end (Misplaced at) h = tt
judged_by n code end Fine h = h
judged_by n code end Unfit h = tt

of_by : (n : ℕ) (f : Told FloatSpan) → FloatBy n f → NumberBy n (of_float f)
of_by n (Ok f) h = h
of_by n (Err r) h = tt

or_by : (n : ℕ) (r : Refusal) (f : Told FloatSpan) → FloatBy n f → NumberBy n (or_float r f)
or_by n r (Ok f) h = cond_cases (NumberBy n) (leb r.place f.len) (Float f) (Refused r) (λ e. h) (λ e. tt)
or_by n r (Err q) h = tt

else_by : (n : ℕ) (i : Told (Width × ℕ)) (f : Told FloatSpan) → IntegerBy n i → FloatBy n f → NumberBy n (or_else i f)
else_by n (Ok (w, l)) f h k = h
else_by n (Err r) f h k = or_by n r f k

module _ (c : ℕ) (o : Outside c) where
  zero_out : eqb c 0x30 ≡ false
  unfolding digit
  zero_out = ne_eqb c 0x30 (λ e. let q : within 0x30 0x39 0x30 ≡ false = ap (within 0x30 0x39) (sym e) ∙ out_digit o in let z : true ≡ false = sym (inside 0x30 0x39 0x30 (omega arith) (omega arith)) ∙ q in let k : ◌≡◌ {A = ℕ} 0 1 = cc in absurd (omega arith))

  -- no letter of a prefix is such a byte
  letter_out : (l : ℕ) → 0x61 ≤ l → l ≤ 0x7a → eqb c l ≡ false
  unfolding letter
  letter_out l a b = ne_eqb c l (λ e.
      let q : within 0x61 0x7a l ≡ false = ap (within 0x61 0x7a) (sym e) ∙ or_right (within 0x41 0x5a c) (within 0x61 0x7a c) (out_letter o) in
      let z : true ≡ false = sym (inside 0x61 0x7a l a b) ∙ q in let k : ◌≡◌ {A = ℕ} 0 1 = cc in absurd (omega arith))

  prefix_same : (u v v' : List ℕ) → prefix_of (u ++ c ∷ v) ≡ prefix_of (u ++ c ∷ v')
  unfolding prefix_of
  prefix_same [] v v' = rw zero_out
  prefix_same (x ∷ []) v v' = refl
  prefix_same (x ∷ y ∷ u) v v' = refl

  prefix_short : (u v : List ℕ) → (prefix_of (u ++ c ∷ v)).end ≤ length u
  unfolding prefix_of
  prefix_short [] v = rw zero_out (omega arith)
  prefix_short (x ∷ []) v =
      rw (letter_out 0x62 (omega arith) (omega arith), letter_out 0x6f (omega arith) (omega arith), letter_out 0x78 (omega arith) (omega arith))
      (either (bool_cases (eqb x 0x30)) (λ p. rw p (omega arith)) (λ p. rw p (omega arith)))
  prefix_short (x ∷ y ∷ u) v = either (bool_cases (eqb x 0x30)) (λ p. rw p (omega (arith, (prefix_by_le y).0))) (λ p. rw p (omega arith))

  prefix_stopped : Stopped c prefix_of
  prefix_stopped = record { same = prefix_same }

  prefix_reach : Reach c (λ s. (prefix_of s).end)
  prefix_reach = record { stopped = on (λ (p : Prefix). p.end) prefix_stopped; short = prefix_short }

  front_reach : Reach c (λ s. (front_of s).end)
  unfolding front_of
  front_reach = sum (sign_reach c o) prefix_reach

  suffix_reach : Reach c (λ t. (suffix_of t).end)
  unfolding suffix_of suffix_word ascii_raw ascii_next letter digit within width_at
  suffix_reach = first_reach ascii_raw c o.low (out_next o) o.raw _ refl

  float_suffix : Reach c (λ t. (first_of float_suffixes t).end)
  unfolding ascii_raw ascii_next letter digit within
  float_suffix = first_reach ascii_raw c o.low (out_next o) o.raw float_suffixes refl

  special_reach : Reach c (λ t. (first_of specials t).end)
  unfolding ascii_raw ascii_next letter digit within
  special_reach = first_reach ascii_raw c o.low (out_next o) o.raw specials refl

  -- ---- integers
  numeral_by : (asked : ℕ) (minus : Bool) (base : ℕ) (u v : List ℕ) → NumeralBy (length u) (numeral_of asked minus base (u ++ c ∷ v))
  unfolding numeral_of
  numeral_by asked minus base u v =
      let t : List ℕ = u ++ c ∷ v in
      let n : ℕ = run int_char t in
      let f : Found = suffix_of (drop n t) in
      let end : ℕ = length (take n t) + f.end in
      let le : end ≤ length u = omega (arith, length-take n t, (sum (int_reach c o) suffix_reach).short u v) in
      run_by (length u) f.code end (run_of (limit_at (chosen_of f.code asked) minus) base (take n t)) le

  integer_by : (u v : List ℕ) → IntegerBy (length u) (any_of (u ++ c ∷ v))
  unfolding any_of
  integer_by u v =
      let s : List ℕ = u ++ c ∷ v in
      let k : ℕ = (front_of s).end in
      let le : k ≤ length u = front_reach.short u v in
      let m : Bool = (front_of s).minus in
      let here : NumeralBy (length u - k) (numeral_of (widest m) m (front_of s).base (drop k s)) =
      subst (λ (w : List ℕ). NumeralBy (length u - k) (numeral_of (widest m) m (front_of s).base w)) (sym (drop-append-le k u (c ∷ v) le))
      (subst (λ (n : ℕ). NumeralBy n (numeral_of (widest m) m (front_of s).base (drop k u ++ c ∷ v))) (length-drop k u) (numeral_by (widest m) m (front_of s).base (drop k u) v)) in
      cond_cases (IntegerBy (length u)) (eqb (length s) 0) _ _ (λ e. tt) (λ e. any_by (length u) k m (numeral_of (widest m) m (front_of s).base (drop k s)) here le)

  -- ---- floats
  run-at : (u v : List ℕ) → FloatBy (length u) (run_at (u ++ c ∷ v))
  unfolding run_at
  run-at u v =
      let s : List ℕ = u ++ c ∷ v in
      let n : ℕ = float_run s in
      let f : Found = first_of float_suffixes (drop n s) in
      let le : length (take n s) + f.end ≤ length u = omega (arith, length-take n s, (sum (float_reach c o) float_suffix).short u v) in
      cond_cases (FloatBy (length u)) (eqb (length (take n s)) 0) _ _ (λ e. tt)
      (λ e. judged_by (length u) f.code (length (take n s) + f.end) (float_judged (take n s)) le)

  float_by : (u v : List ℕ) → FloatBy (length u) (float_of (u ++ c ∷ v))
  unfolding float_of
  float_by u v =
      let s : List ℕ = u ++ c ∷ v in
      let k : ℕ = (sign_of s).end in
      let l : Found = first_of specials (drop k s) in
      let le : k + l.end ≤ length u = (sum (sign_reach c o) special_reach).short u v in
      cond_cases (FloatBy (length u)) (eqb k 0) _ _ (λ e. run-at u v)
      (λ e. cond_cases (FloatBy (length u)) (eqb l.end 0) _ _ (λ f. run-at u v) (λ f. le))

  -- ---- numbers
  pub number_short : (u v : List ℕ) → NumberBy (length u) (number_of (u ++ c ∷ v))
  unfolding number_of
  number_short u v =
      let s : List ℕ = u ++ c ∷ v in
      cond_cases (NumberBy (length u)) (float_ahead s) (of_float (float_of s)) (or_else (any_of s) (float_of s)) (λ e. of_by (length u) (float_of s) (float_by u v))
      (λ e. else_by (length u) (any_of s) (float_of s) (integer_by u v) (float_by u v))
