-- What the answer over names and that of the grammar make together. Assumes nothing.
use Rattle.std.proofs.Common.{Ok, Err, Some, None, Option}
use Rattle.text.specs.Refusals.{Told, refusal, repeated_field}
use Prim.Native.Nat.{ℕ, ◌<◌, ◌≤◌}
use native.Mathlib.Omega.{arith}
use mathlib.Core.Path.{◌≡◌, refl, sym, ap}
use mathlib.Core.Bool.{Bool, true, false, cond}
use mathlib.Core.List.{List, []}
use lib.Dec.{ltb}
use borrow.Author.Tests.{lt-ltb, le-ltb, ltb-true, ltb-false}
use Rattle.text.specs.declared.refusal.Refusal.{Refusal}
use Rattle.grammar.specs.declared.kinds.Kind.{Kind}
use Rattle.grammar.specs.declared.states.Frame.TheVariants.{Top}
use Rattle.grammar.specs.declared.states.Want.TheVariants.{Start}
use Rattle.grammar.specs.Walk.{walk_of}
use Rattle.grammar.proofs.Accepts.{refusals}
use Rattle.grammar.proofs.Outcomes.{Outcome, whole, wrong, deep, early, answer}
use Rattle.fields.specs.Fields.{by_again}
use Rattle.fields.proofs.AgainOn.{not_at, same_at}

-- the grammar does not stop at entry j nor before it
abbrev pub Passes : ℕ → Told Unit → Type 0
Passes j (Ok tt) = Unit {0}
Passes j (Err r) = j < r.place

-- the grammar's refusals are not 31
abbrev pub Plain : Told Unit → Type 0
Plain (Ok tt) = Unit {0}
Plain (Err r) = r.number ≡ 31 → ⊥

pub walk_plain : (ks : List Kind) (limit : ℕ) → Plain (walk_of ks limit)
walk_plain ks limit = go (walk_of ks limit) (answer limit ks)
  where
    go : (w : Told Unit) → Outcome limit Start Top [] (λ k. k) ks 0 w → Plain w
    go w (whole d q) = tt
    go w (wrong a k b j x h v q) = λ e. absurd (omega arith)
    go w (deep a k b j x h v q L le y) = λ e. absurd (omega arith)
    go w (early j h v q) = λ e. absurd (omega arith)

-- refusals that are equal
refused_same : (r s : Refusal) → ◌≡◌ {A = Told Unit} (Err r) (Err s) → r ≡ s
refused_same r s e = cc

accepted_not : {X : Type 0} (r : Refusal) → ◌≡◌ {A = Told Unit} (Err r) (Ok tt) → X
accepted_not r e = let z : ◌≡◌ {A = ℕ} 0 1 = cc in absurd (omega arith)

-- ---- accepted

one_accepted : {X : Type 0} (t : Bool) (r s : Refusal) → ◌≡◌ {A = Told Unit} (cond t (Err r) (Err s)) (Ok tt) → X
one_accepted true r s e = accepted_not r e
one_accepted false r s e = accepted_not s e

pub by_accepted : (a : Option ℕ) (w : Told Unit) → by_again a w ≡ Ok tt → (a ≡ None) × (w ≡ Ok tt)
by_accepted None w e = (refl, e)
by_accepted (Some j) (Ok tt) e = accepted_not (repeated_field j) e
by_accepted (Some j) (Err r) e = one_accepted (ltb j r.place) (repeated_field j) r e

-- ---- 31

pub by_passed : (j : ℕ) (w : Told Unit) → Passes j w → by_again (Some j) w ≡ Err (repeated_field j)
by_passed j (Ok tt) h = refl
by_passed j (Err r) h = ap (λ (t : Bool). cond t (Err (repeated_field j)) (Err r)) (lt-ltb j r.place h)

one_31 : (i j : ℕ) (r : Refusal) (t : Bool) → ltb i r.place ≡ t → (r.number ≡ 31 → ⊥) → ◌≡◌ {A = Told Unit} (cond t (Err (repeated_field i)) (Err r)) (Err (repeated_field j))
    → (◌≡◌ {A = Option ℕ} (Some i) (Some j)) × (j < r.place)
one_31 i j r true q n e = let s : i ≡ j = (refusals 31 31 i j e).1 in let lt = ltb-true i r.place q in (ap Some s, omega arith)
one_31 i j r false q n e = absurd (n (ap (λ (x : Refusal). x.number) (refused_same r (repeated_field j) e)))

pub by_31 : (a : Option ℕ) (w : Told Unit) (j : ℕ) → Plain w → by_again a w ≡ Err (repeated_field j) → (a ≡ Some j) × Passes j w
by_31 None (Ok tt) j n e = accepted_not (repeated_field j) (sym e)
by_31 None (Err r) j n e = absurd (n (ap (λ (x : Refusal). x.number) (refused_same r (repeated_field j) e)))
by_31 (Some i) (Ok tt) j n e = (ap Some (refusals 31 31 i j e).1, tt)
by_31 (Some i) (Err r) j n e = one_31 i j r (ltb i r.place) refl n e

-- ---- the grammar's own

one_other : (i n j : ℕ) (r : Refusal) (t : Bool) → ltb i r.place ≡ t → (n ≡ 31 → ⊥) → ◌≡◌ {A = Told Unit} (cond t (Err (repeated_field i)) (Err r)) (Err (refusal n j))
    → (◌≡◌ {A = Told Unit} (Err r) (Err (refusal n j))) × (j ≤ i)
one_other i n j r true q h e = absurd (h (sym (refusals 31 n i j e).0))
one_other i n j r false q h e =
    let le = ltb-false i r.place q in
    let s : r.place ≡ j = ap (λ (x : Refusal). x.place) (refused_same r (refusal n j) e) in
    (e, omega arith)

pub by-other : (a : Option ℕ) (w : Told Unit) (n j : ℕ) → (n ≡ 31 → ⊥) → by_again a w ≡ Err (refusal n j) → (w ≡ Err (refusal n j)) × ((i : ℕ) → a ≡ Some i → j ≤ i)
by-other None w n j h e = (e, λ i z. not_at i z)
by-other (Some m) (Ok tt) n j h e = absurd (h (sym (refusals 31 n m j e).0))
by-other (Some m) (Err r) n j h e =
    let o = one_other m n j r (ltb m r.place) refl h e in
    (o.0, λ i z. let s : m ≡ i = same_at m i z in let le = o.1 in omega arith)

pub other_by : (a : Option ℕ) (n j : ℕ) → ((i : ℕ) → a ≡ Some i → j ≤ i) → by_again a (Err (refusal n j)) ≡ Err (refusal n j)
other_by None n j h = refl
other_by (Some i) n j h = ap (λ (t : Bool). cond t (Err (repeated_field i)) (Err (refusal n j))) (le-ltb i j (h i refl))
