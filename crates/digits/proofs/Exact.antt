-- The digits of a run read exactly when they are digits below the base and underscores and their value is within the limit. Assumes nothing.
use Prim.Native.Nat.{◌*◌, ◌+◌, ◌<◌, ◌≤◌, suc, zero, ℕ}
use native.Mathlib.Nat.{mul-le-mul_left, mul-one}
use native.Mathlib.Omega.{arith}
use mathlib.Core.List.{List, [], ◌∷◌}
use mathlib.Core.Logic.{◌↔◌, inl, inr}
use mathlib.Core.Path.{◌≡◌, ap, refl}
use lib.Dec.{eqb, leb, ltb}
use lib.ListN.{get_or, length}
use borrow.Author.Tests.{eqb-false, eqb-true, le-ltb, leb-false, lt-leb, ltb-false}
use Rattle.digits.specs.Digits.{hex_of, digits_from, digits_of, turn_of}
use Rattle.digits.specs.Value.{Fit, ReadsFrom, digit_step, value_from}
use Rattle.digits.specs.declared.Run.TheVariants.{Value, NotDigit, Over}
use Rattle.digits.specs.declared.up.Turned.{Turned}
use Rattle.text.proofs.Choices.{bool_cases, either}
use Rattle.text.specs.Runs.{run}
use Rattle.digits.specs.declared.up.Turned.TheVariants as turned

over_next : {X : Type 0} (n : ℕ) → turned.Over ≡ turned.Next n → X
over_next n e = let z : ◌≡◌ {A = ℕ} 0 1 = cc in absurd (omega arith)

not_next : {X : Type 0} (n : ℕ) → turned.NotDigit ≡ turned.Next n → X
not_next n e = let z : ◌≡◌ {A = ℕ} 0 1 = cc in absurd (omega arith)

over_value : {X : Type 0} (v : ℕ) → Over ≡ Value v → X
over_value v e = let z : ◌≡◌ {A = ℕ} 0 1 = cc in absurd (omega arith)

not_value : {X : Type 0} (p v : ℕ) → NotDigit p ≡ Value v → X
not_value p v e = let z : ◌≡◌ {A = ℕ} 0 1 = cc in absurd (omega arith)

grows : (base acc c : ℕ) → 0 < base → acc ≤ digit_step base acc c
grows base acc c h =
    either (bool_cases (eqb c 0x5f))
    (λ e. simp e (omega arith))
    (λ e. simp e (omega (arith, mul-le-mul_left {m = 1} {n = base} acc (omega arith), mul-one acc)))

pub value_grows : (base acc : ℕ) (run : List ℕ) → 0 < base → acc ≤ value_from base acc run
unfolding value_from
value_grows base acc [] h = omega arith
value_grows base acc (c ∷ cs) h = omega (arith, grows base acc c h, value_grows base (digit_step base acc c) cs h)

module _ (limit base acc c : ℕ) where
  pub turn_next : (n : ℕ) → turn_of limit base acc c ≡ turned.Next n → acc ≤ limit → (digit_step base acc c ≡ n) × (Fit base c × (n ≤ limit))
  unfolding turn_of
  turn_next n e h =
      either (bool_cases (eqb c 0x5f)) (λ p. let q : acc ≡ n = cc (simp p at e) in (rw (p) q, (inl (eqb-true _ _ p), omega arith))) λ p.
      either (bool_cases (ltb limit (acc * base))) (λ q. over_next n (simp (p, q) at e)) λ q.
      either (bool_cases (leb base (hex_of c))) (λ r. not_next n (simp (p, q, r) at e)) λ r.
      either (bool_cases (ltb limit (acc * base + hex_of c))) (λ s. over_next n (simp (p, q, r, s) at e)) λ s.
      let t : acc * base + hex_of c ≡ n = cc (simp (p, q, r, s) at e) in
      (rw p t, (inr (leb-false _ _ r), omega (arith, ltb-false limit (acc * base + hex_of c) s)))

  pub turn_fit : Fit base c → digit_step base acc c ≤ limit → turn_of limit base acc c ≡ turned.Next (digit_step base acc c)
  unfolding turn_of
  turn_fit f h =
      either (bool_cases (eqb c 0x5f)) (λ e. simp e) λ e.
      let d : hex_of c < base = either f (λ u. absurd (eqb-false _ _ e u)) (λ d. d) in
      let g : acc * base + hex_of c ≤ limit = simp e at h in
      simp (e, le-ltb limit (acc * base) (omega arith), lt-leb base (hex_of c) d, le-ltb limit (acc * base + hex_of c) g)

module _ (limit base : ℕ) (positive : 0 < base) where
  -- where the definition answers a value, the run reads as it
  pub reads_of : (run : List ℕ) (acc at v : ℕ) → acc ≤ limit → digits_from limit base acc at run ≡ Value v → ReadsFrom limit base acc run v
  unfolding digits_from value_from
  reads_of [] acc at v h e = let q : acc ≡ v = cc in record { only = λ i l. absurd (omega (arith, l)); value = q; fits = omega arith }
  reads_of (c ∷ cs) acc at v h e = go (λ n k q. reads_of cs n (at + 1) v k q) (turn_of limit base acc c) refl
    where
      go : ((n : ℕ) → n ≤ limit → digits_from limit base n (at + 1) cs ≡ Value v → ReadsFrom limit base n cs v) → (t : Turned ℕ) → turn_of limit base acc c ≡ t → ReadsFrom limit base acc (c ∷ cs) v
      go rest (turned.Next n) q =
          let k = turn_next limit base acc c n q h in
          let r = rest n k.1.1 (rw q at e) in
          record {
            only = λ i. elim i as (λ i. i < length (c ∷ cs) → Fit base (get_or (c ∷ cs) i 0)) [ zero ↦ λ l. k.1.0 | suc j ↦ λ l. r.only j (omega (arith, l)) ];
            value = rw k.0 r.value;
            fits = r.fits;
          }
      go rest turned.Over q = over_value v (rw q at e)
      go rest turned.NotDigit q = not_value at v (rw q at e)

  -- where a run reads as a value, the definition answers it
  pub of_reads : (run : List ℕ) (acc at v : ℕ) → ReadsFrom limit base acc run v → digits_from limit base acc at run ≡ Value v
  unfolding digits_from value_from
  of_reads [] acc at v r = ap Value r.value
  of_reads (c ∷ cs) acc at v r =
      let g : digit_step base acc c ≤ limit = omega (arith, value_grows base (digit_step base acc c) cs positive, r.value, r.fits) in
      rw (turn_fit limit base acc c (r.only 0 (omega arith)) g)
      (of_reads cs (digit_step base acc c) (at + 1) v
      (record { only = λ i l. r.only (suc i) (omega (arith, l)); value = r.value; fits = r.fits }))

-- a run reads as a value exactly when it holds only digits below the base and underscores and has that value, within the limit
pub digits_exact : (limit base : ℕ) (run : List ℕ) (v : ℕ) → 0 < base → (digits_of limit base run ≡ Value v) ↔ ReadsFrom limit base 0 run v
digits_exact limit base run v h = (reads_of limit base h run 0 0 v (omega arith), of_reads limit base h run 0 0 v)
