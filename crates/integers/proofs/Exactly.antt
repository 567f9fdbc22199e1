-- Demand 2 for digit runs, once over the width's sign and bits: a digit run reads exactly when it isn't empty, has no underscore in front,
-- holds only digits below the base and underscores, and its signed value fits; and each of 7 to 10 is given exactly in its case. Assumes nothing.
use Prim.Native.Nat.{◌-◌, ◌<◌, ◌^◌, ◌≤◌, suc, zero, ℕ}
use native.Mathlib.Omega.{arith}
use mathlib.Core.Bool.{Bool, true, false}
use mathlib.Core.List.{List, [], ◌∷◌}
use mathlib.Core.Logic.{◌↔◌}
use mathlib.Core.Path.{◌∙◌, ◌≡◌, refl, sym}
use lib.Dec.{leb→le, le→leb, eqb}
use lib.IntN.{pos, neg_ℤ}
use lib.ListN.{get_or, length, take}
use lib.Pow.{pow_pos}
use lib.Signed.{◌≤ℤ◌}
use borrow.Author.Tests.{eq-eqb, eqb-false, eqb-true}
use Rattle.digits.proofs.Exact.{digits_exact}
use Rattle.digits.proofs.Refusals.{never_empty, never_underscore, nine_exact, ten_exact, not_turn, over_turn, turn_not, turn_over, clash}
use Rattle.digits.specs.Digits.{digits_of, run_of}
use Rattle.digits.specs.Value.{value_of}
use Rattle.digits.specs.declared.Run.{Run}
use Rattle.digits.specs.declared.Run.TheVariants.{Value, Empty, Underscore, NotDigit, Over}
use Rattle.integers.proofs.Runs.{digits_run}
use Rattle.integers.specs.Range.{InWidth, Reads, signed_of, Begun, NotBelow, Passes}
use Rattle.integers.specs.Width.{limit_of}
use Rattle.text.proofs.Choices.{bool_cases, either}

-- ---- the numbers of a width are those whose magnitude is within its limit

least : (H : ℕ) → zero < H → (m : ℕ) → neg_ℤ (pos H) ≤ℤ neg_ℤ (pos m) → m ≤ H
least zero p m h = absurd (omega arith)
least (suc H) p zero h = omega arith
least (suc H) p (suc m) h = omega (arith, leb→le m H h.le)

least_of : (H m : ℕ) → m ≤ H → neg_ℤ (pos H) ≤ℤ neg_ℤ (pos m)
least_of zero zero h = record { le = tt }
least_of zero (suc m) h = absurd (omega arith)
least_of (suc H) zero h = record { le = tt }
least_of (suc H) (suc m) h = record { le = le→leb m H (omega arith) }

least_pos : (H m : ℕ) → zero < H → neg_ℤ (pos H) ≤ℤ pos m
least_pos zero m h = absurd (omega arith)
least_pos (suc H) m h = record { le = tt }

minus_pos : (m n : ℕ) → neg_ℤ (pos m) ≤ℤ pos n
minus_pos zero n = record { le = le→leb zero n (omega arith) }
minus_pos (suc m) n = record { le = tt }

in_limit : (signed : Bool) (bits : ℕ) (minus : Bool) (m : ℕ) → InWidth signed bits (signed_of minus m) → m ≤ limit_of signed bits minus
in_limit false bits false m h = leb→le _ _ h.1.le
in_limit false bits true zero h = omega arith
in_limit false bits true (suc m) h = absurd h.0.le
in_limit true bits false m h = leb→le _ _ h.1.le
in_limit true bits true m h = least (2 ^ (bits - 1)) (pow_pos (bits - 1)) m h.0

limit_in : (signed : Bool) (bits : ℕ) (minus : Bool) (m : ℕ) → m ≤ limit_of signed bits minus → InWidth signed bits (signed_of minus m)
limit_in false bits false m h = (record { le = le→leb zero m (omega arith) }, record { le = le→leb _ _ h })
limit_in false bits true zero h = (record { le = tt }, record { le = le→leb zero (2 ^ bits - 1) (omega arith) })
limit_in false bits true (suc m) h = absurd (omega arith)
limit_in true bits false m h = (least_pos (2 ^ (bits - 1)) m (pow_pos (bits - 1)), record { le = le→leb _ _ h })
limit_in true bits true m h = (least_of (2 ^ (bits - 1)) m h, minus_pos m _)

-- ---- a run whose first character is no underscore answers as its digits do

module _ (limit base : ℕ) (positive : 0 < base) where
  -- what a run answers that is neither 7 nor 8
  begun : (run : List ℕ) (r : Run) → (r ≡ Empty → ⊥) → (r ≡ Underscore → ⊥) → run_of limit base run ≡ r → Begun run × (digits_of limit base run ≡ r)
  unfolding run_of
  begun [] r a b e = absurd (a (sym e))
  begun (c ∷ cs) r a b e =
      either (bool_cases (eqb c 0x5f)) (λ p. absurd (b (sym (rw p at e)))) (λ p. ((λ z. absurd (omega arith), eqb-false c 0x5f p), rw p at e))

  begun_of : (run : List ℕ) (r : Run) → Begun run → digits_of limit base run ≡ r → run_of limit base run ≡ r
  begun_of run r h e = sym (digits_run limit base run h.0 h.1) ∙ e

  -- 7 exactly where there is no digit
  seven : (run : List ℕ) → (run_of limit base run ≡ Empty) ↔ (length run ≡ 0)
  unfolding run_of
  seven [] = ((λ e. refl), (λ e. refl))
  seven (c ∷ cs) = (
    (λ e. either (bool_cases (eqb c 0x5f)) (λ p. clash (cc (rw p at e))) (λ p. absurd (never_empty limit base positive (c ∷ cs) (rw p at e)))),
    (λ e. absurd (omega arith)),
  )

  -- 8 exactly where an underscore stands in front
  eight : (run : List ℕ) → (run_of limit base run ≡ Underscore) ↔ (get_or run 0 0 ≡ 0x5f)
  unfolding run_of
  eight [] = ((λ e. clash cc), (λ e. clash (absurd (omega arith))))
  eight (c ∷ cs) = (
    (λ e. either (bool_cases (eqb c 0x5f)) (λ p. eqb-true c 0x5f p) (λ p. absurd (never_underscore limit base positive (c ∷ cs) (rw p at e)))),
    (λ e. rw (eq-eqb c 0x5f e)),
  )

-- ---- the theorem

module _ (signed : Bool) (bits : ℕ) (minus : Bool) (base : ℕ) (positive : 0 < base) (run : List ℕ) where
  -- it reads as a magnitude, exactly when it isn't empty, has no underscore in front, holds only digits below the base and underscores, and its signed
  -- value fits
  pub reads_exactly : (v : ℕ) → (run_of (limit_of signed bits minus) base run ≡ Value v) ↔ Reads signed bits minus base run v
  reads_exactly v = (
    (λ e.
        let b = begun (limit_of signed bits minus) base positive run (Value v) (λ z. clash cc) (λ z. clash cc) e in
        let r = (digits_exact (limit_of signed bits minus) base run v positive).0 b.1 in
        record { begun = b.0; only = r.only; value = r.value; fits = limit_in signed bits minus v r.fits }),
    (λ r.
        begun_of (limit_of signed bits minus) base positive run (Value v) r.begun
        ((digits_exact (limit_of signed bits minus) base run v positive).1
        (record { only = r.only; value = r.value; fits = in_limit signed bits minus v r.fits }))),
  )

  -- 7: it is empty
  pub seven_exactly : (run_of (limit_of signed bits minus) base run ≡ Empty) ↔ (length run ≡ 0)
  seven_exactly = seven (limit_of signed bits minus) base positive run

  -- 8: an underscore stands in front
  pub eight_exactly : (run_of (limit_of signed bits minus) base run ≡ Underscore) ↔ (get_or run 0 0 ≡ 0x5f)
  eight_exactly = eight (limit_of signed bits minus) base positive run

  -- 9 at `i`: what stands before reads, the product is within the limit, and the character at `i` is no digit below the base
  pub nine_exactly : (i : ℕ) → (run_of (limit_of signed bits minus) base run ≡ NotDigit i) ↔ NotBelow (limit_of signed bits minus) base run i
  nine_exactly i = (
    (λ e.
        let l = limit_of signed bits minus in
        let b = begun l base positive run (NotDigit i) (λ z. clash cc) (λ z. clash cc) e in
        let s = (nine_exact l base positive run i).0 b.1 in
        let t = turn_not l base (value_of base (take i run)) (get_or run i 0) s.turn in
        record { before = record { begun = b.0; inside = s.inside; reads = s.before; digit = t.0 }; product = t.1; above = t.2 }),
    (λ h.
        let l = limit_of signed bits minus in
        begun_of l base positive run (NotDigit i) h.before.begun
        ((nine_exact l base positive run i).1
        (record { inside = h.before.inside; before = h.before.reads; turn = not_turn l base (value_of base (take i run)) (get_or run i 0) h.before.digit h.product h.above }))),
  )

  -- 10: what stands before some character reads, and there the product or the sum passes the limit
  pub ten_exactly : (run_of (limit_of signed bits minus) base run ≡ Over) ↔ ((i : ℕ) × Passes (limit_of signed bits minus) base run i)
  ten_exactly = (
    (λ e.
        let l = limit_of signed bits minus in
        let b = begun l base positive run Over (λ z. clash cc) (λ z. clash cc) e in
        let s = (ten_exact l base positive run).0 b.1 in
        let t = turn_over l base (value_of base (take s.0 run)) (get_or run s.0 0) s.1.turn in
        (s.0, record { before = record { begun = b.0; inside = s.1.inside; reads = s.1.before; digit = t.0 }; passes = t.1 })),
    (λ h.
        let l = limit_of signed bits minus in
        let i = h.0 in
        let p = h.1 in
        begun_of l base positive run Over p.before.begun
        ((ten_exact l base positive run).1
        (i, record { inside = p.before.inside; before = p.before.reads; turn = over_turn l base (value_of base (take i run)) (get_or run i 0) p.before.digit p.passes }))),
  )
