-- How large the numbers of a state in order are, its refusal's among them. Assumes nothing.
use Prim.Native.Nat.{ℕ, ◌≤◌}
use native.Mathlib.Omega.{arith}
use mathlib.Core.Bool.{true, not, ◌&&◌, ◌||◌}
use mathlib.Core.List.{[], ◌∷◌}
use mathlib.Core.Logic.{◌⊎◌, inl, inr}
use mathlib.Core.Path.{◌≡◌, refl}
use lib.Dec.{eqb, leb}
use borrow.Author.Tests.{eqb-true, leb-true}
use Rattle.gaps.specs.declared.state.Open.{Open}
use Rattle.gaps.specs.declared.state.Open.TheVariants.{Clear, Slash, Line, Block}
use Rattle.pieces.proofs.OrderLaws.{numbers}
use Rattle.pieces.specs.Orders.{in_order, is_clear, is_given, is_none, most_taken, open_fits, reason_fits, refusal_fits}
use Rattle.pieces.specs.declared.state.Arrival.{Arrival}
use Rattle.text.proofs.Choices.{and_true, or_cases}
use Rattle.text.proofs.ClassLaws.{one_of_all, within_true}
use Rattle.text.specs.Classes.{one_of, within}
use Rattle.text.specs.declared.refusal.Refusal.{Refusal}
use Rattle.stored.specs.Numbers.{last_number}

-- a refusal's numbers, at a place up to this
pub record Small (most : ℕ) (d : Refusal) : Type 0 where
  pub number : d.number ≤ 30
  pub reason : d.reason ≤ 8
  pub place : d.place ≤ most

none_small : (d : Refusal) (n : ℕ) → is_none d ≡ true → Small n d
unfolding is_none
none_small d n h =
    let x = and_true (eqb d.number 0) (eqb d.reason 0 && eqb d.place 0) h in
    let y = and_true (eqb d.reason 0) (eqb d.place 0) x.1 in
    record {
      number = omega (arith, eqb-true d.number 0 x.0);
      reason = omega (arith, eqb-true d.reason 0 y.0);
      place = omega (arith, eqb-true d.place 0 y.1);
    }

reason_small : (d : Refusal) → reason_fits d ≡ true → d.reason ≤ 8
unfolding reason_fits
reason_small d h = go (or_cases (eqb d.number 13 && within 1 8 d.reason) (not (eqb d.number 13) && eqb d.reason 0) h)
  where
    go : ((eqb d.number 13 && within 1 8 d.reason) ≡ true) ⊎ ((not (eqb d.number 13) && eqb d.reason 0) ≡ true) → d.reason ≤ 8
    go (inl e) = (within_true 1 8 d.reason (and_true (eqb d.number 13) (within 1 8 d.reason) e).1).1
    go (inr e) = omega (arith, eqb-true d.reason 0 (and_true (not (eqb d.number 13)) (eqb d.reason 0) e).1)

given_small : (d : Refusal) (n : ℕ) → is_given d n ≡ true → Small n d
unfolding is_given
given_small d n h =
    let x = and_true (within 1 21 d.number || eqb d.number 30) (leb d.place n && reason_fits d) h in
    let y = and_true (leb d.place n) (reason_fits d) x.1 in
    record { number = go (or_cases (within 1 21 d.number) (eqb d.number 30) x.0); reason = reason_small d y.1; place = leb-true d.place n y.0 }
  where
    go : (within 1 21 d.number ≡ true) ⊎ (eqb d.number 30 ≡ true) → d.number ≤ 30
    go (inl e) = omega (arith, within_true 1 21 d.number e)
    go (inr e) = omega (arith, eqb-true d.number 30 e)

-- a state in order has a small refusal, within the text
pub order_small : (a : Arrival) → in_order a ≡ true → Small most_taken a.refusal
unfolding refusal_fits
order_small a h =
    let k = numbers a h in
    go k.short (or_cases (is_none a.refusal) (is_given a.refusal a.taken && (eqb a.kept 0 && is_clear a.gap)) k.refusal)
  where
    go : a.taken ≤ most_taken → (is_none a.refusal ≡ true) ⊎ ((is_given a.refusal a.taken && (eqb a.kept 0 && is_clear a.gap)) ≡ true) → Small most_taken a.refusal
    go l (inl e) = none_small a.refusal most_taken e
    go l (inr e) =
        let s = given_small a.refusal a.taken (and_true (is_given a.refusal a.taken) (eqb a.kept 0 && is_clear a.gap) e).0 in
        record { number = s.number; reason = s.reason; place = omega (arith, s.place) }

-- and the last byte of what is open is one
pub last_small : (o : Open) (taken : ℕ) → open_fits o taken ≡ true → last_number o ≤ 255
last_small Clear taken h = omega arith
last_small Slash taken h = omega arith
last_small Line taken h = omega arith
last_small (Block level last) taken h =
    leb-true last 255 (one_of_all (λ (n : ℕ). leb n 255) (0 ∷ 0x2a ∷ 0x2f ∷ []) last refl (and_true (leb level taken) (one_of (0 ∷ 0x2a ∷ 0x2f ∷ []) last) h).1)
