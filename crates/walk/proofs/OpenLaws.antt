-- The brackets that are still open where the walk stops, the innermost first: one closes, and those around it are left. Assumes nothing.
use Rattle.std.proofs.Common.{Option}
use Prim.Native.Nat.{ℕ, suc, ◌-◌, ◌<◌, ◌≤◌}
use native.Mathlib.Omega.{arith}
use mathlib.Core.List.{List, ◌∷◌}
use mathlib.Core.Path.{◌≡◌, ◌∙◌, ap, subst, sym}
use lib.ListN.{get_or}
use Rattle.fields.specs.inner.Again.{earlier}
use Rattle.fields.specs.Names.{HasName}
use Rattle.walk.specs.inner.Gathered.{part, base_of, inner_of, outers_of, Rising, Fields, Alike, again_in, first_of}
use Rattle.walk.proofs.AgainLaws.{earlier_nowhere, earlier_assoc}
use Rattle.walk.proofs.GatherLaws.{inner_alike, outers_alike}

-- the fields below a place are as they were
pub fields_under : (text tape f g : List ℕ) (to b : ℕ) → Fields text tape f to → Alike f g b → b ≤ to → Fields text tape g b
fields_under text tape f g to b h l le =
    record {
      room = let y = h.room in let z = l.as_long in omega arith;
      few = let y = h.few in omega arith;
      named = λ p q. subst (HasName text tape) (sym (l.below p q)) (h.named p (omega arith));
      rise = λ p q u v.
          subst (λ (x : ℕ). x < get_or g q 0) (sym (l.below p (omega arith))) (subst (λ (x : ℕ). get_or f p 0 < x) (sym (l.below q v)) (h.rise p q u (omega arith)));
    }

pub rising_next : (bases : List ℕ) (d m to : ℕ) → d ≡ suc m → Rising bases d to → (get_or bases m 0 ≤ to) × Rising bases m (get_or bases m 0)
unfolding Rising
rising_next bases d m to e r = subst (λ (n : ℕ). Rising bases n to) e r

-- the fields of the innermost bracket, and of the one around it
pub inner_next : (f bases : List ℕ) (d m top : ℕ) → d ≡ suc m → inner_of f bases d top ≡ part f (get_or bases m 0) (top - get_or bases m 0)
unfolding base_of
inner_next f bases d m top e = ap (λ (n : ℕ). inner_of f bases n top) e

pub outers_next : (f bases : List ℕ) (d m : ℕ) → d ≡ suc m → outers_of f bases d ≡ inner_of f bases m (get_or bases m 0) ∷ outers_of f bases m
unfolding outers_of
outers_next f bases d m e = ap (outers_of f bases) e

module _ (nm : ℕ → List ℕ) where
  -- one bracket closes
  pub open_next : (f g bases : List ℕ) (d m to : ℕ) (found r : Option ℕ) → d ≡ suc m → Rising bases d to → Alike f g (get_or bases m 0)
      → r ≡ earlier found (again_in nm (part f (get_or bases m 0) (to - get_or bases m 0))) → earlier r (first_of nm (inner_of g bases m (get_or bases m 0) ∷ outers_of g bases m))
      ≡ earlier found (first_of nm (inner_of f bases d to ∷ outers_of f bases d))
  unfolding first_of outers_of base_of
  open_next f g bases d m to found a e r l t =
      let b : ℕ = get_or bases m 0 in
      let n = rising_next bases d m to e r in
      let x : Option ℕ = again_in nm (part f b (to - b)) in
      ap (λ (y : Option ℕ). earlier y (first_of nm (inner_of g bases m b ∷ outers_of g bases m))) t
      ∙ ap (λ (i : List ℕ). earlier (earlier found x) (first_of nm (i ∷ outers_of g bases m))) (inner_alike f g bases b m b l n.1 (omega arith))
      ∙ ap (λ (o : List (List ℕ)). earlier (earlier found x) (first_of nm (inner_of f bases m b ∷ o))) (outers_alike f g bases b m b l n.1 (omega arith))
      ∙ sym (earlier_assoc found x (first_of nm (inner_of f bases m b ∷ outers_of f bases m)))
      ∙ ap (λ (k : ℕ). earlier found (first_of nm (inner_of f bases k to ∷ outers_of f bases k))) (sym e)

  -- and the last of all
  pub open_last : (f bases : List ℕ) (d to : ℕ) (found : Option ℕ) → d ≡ 0 → earlier found (again_in nm (part f 0 (to - 0))) ≡ earlier found (first_of nm (inner_of f bases d to ∷ outers_of f bases d))
  unfolding first_of outers_of base_of
  open_last f bases d to found e =
      ap (earlier found) (sym (earlier_nowhere (again_in nm (part f 0 (to - 0)))))
      ∙ ap (λ (k : ℕ). earlier found (first_of nm (inner_of f bases k to ∷ outers_of f bases k))) (sym e)
