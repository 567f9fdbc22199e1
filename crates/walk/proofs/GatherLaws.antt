-- The fields of all open brackets in one array: what a store, a new base and a closed bracket do to them. Assumes nothing.
use Prim.Native.Nat.{ℕ, zero, suc, ◌+◌, ◌-◌, ◌<◌, ◌≤◌}
use native.Mathlib.Numerals.{add-one}
use native.Mathlib.Omega.{arith}
use mathlib.Core.List.{List, [], ◌∷◌}
use mathlib.Core.Path.{◌≡◌, ◌∙◌, ap, refl, subst, sym}
use lib.ListN.{length, get_or, set, length-set}
use lib.Seq.{get_or-set_same, get_or-set_other}
use Rattle.walk.specs.inner.Gathered.{part, base_of, inner_of, outers_of, Rising, Alike}

-- ---- arrays that agree below a place

pub part_alike : (f g : List ℕ) (m : ℕ) → Alike f g m → (a n : ℕ) → a + n ≤ m → part g a n ≡ part f a n
unfolding part
part_alike f g m h a zero le = refl
part_alike f g m h a (suc n) le =
    ap (λ (x : ℕ). x ∷ part g a n) (h.below (a + n) (omega arith)) ∙ ap (λ (l : List ℕ). get_or f (a + n) 0 ∷ l) (part_alike f g m h a n (omega arith))

-- the base of the innermost bracket is not above the top
pub base_under : (bases : List ℕ) (d top : ℕ) → Rising bases d top → base_of bases d ≤ top
unfolding base_of Rising
base_under bases zero top h = omega arith
base_under bases (suc d) top h = h.0

pub rising_under : (bases : List ℕ) (d top to : ℕ) → Rising bases d top → top ≤ to → Rising bases d to
unfolding Rising
rising_under bases zero top to h le = tt
rising_under bases (suc d) top to h le = (let z = h.0 in omega arith, h.1)

pub inner_alike : (f g bases : List ℕ) (m d top : ℕ) → Alike f g m → Rising bases d top → top ≤ m → inner_of g bases d top ≡ inner_of f bases d top
inner_alike f g bases m d top h r le = let z = base_under bases d top r in part_alike f g m h (base_of bases d) (top - base_of bases d) (omega arith)

pub outers_alike : (f g bases : List ℕ) (m d top : ℕ) → Alike f g m → Rising bases d top → top ≤ m → outers_of g bases d ≡ outers_of f bases d
unfolding outers_of Rising
outers_alike f g bases m zero top h r le = refl
outers_alike f g bases m (suc d) top h r le =
    let z : get_or bases d 0 ≤ m = let y = r.0 in omega arith in
    ap (λ (l : List ℕ). l ∷ outers_of g bases d) (inner_alike f g bases m d (get_or bases d 0) h r.1 z)
    ∙ ap (λ (t : List (List ℕ)). inner_of f bases d (get_or bases d 0) ∷ t) (outers_alike f g bases m d (get_or bases d 0) h r.1 z)

-- ---- bases that agree below a depth

module _ (f bases : List ℕ) (x e : ℕ) where
  base_set : (d : ℕ) → d ≤ e → base_of (set bases e x) d ≡ base_of bases d
  unfolding base_of
  base_set zero h = refl
  base_set (suc d) h = get_or-set_other bases e d x 0 (λ q. absurd (omega arith))

  outers_set : (d : ℕ) → d ≤ e → outers_of f (set bases e x) d ≡ outers_of f bases d
  unfolding outers_of
  outers_set zero h = refl
  outers_set (suc d) h =
      let q : get_or (set bases e x) d 0 ≡ get_or bases d 0 = get_or-set_other bases e d x 0 (λ q. absurd (omega arith)) in
      let b = base_set d (omega arith) in
      ap (λ (n : ℕ). part f n (get_or (set bases e x) d 0 - n) ∷ outers_of f (set bases e x) d) b
      ∙ ap (λ (n : ℕ). inner_of f bases d n ∷ outers_of f (set bases e x) d) q
      ∙ ap (λ (t : List (List ℕ)). inner_of f bases d (get_or bases d 0) ∷ t) (outers_set d (omega arith))

  rising_set : (d top : ℕ) → d ≤ e → Rising bases d top → Rising (set bases e x) d top
  unfolding Rising
  rising_set zero top h r = tt
  rising_set (suc d) top h r =
      let q : get_or (set bases e x) d 0 ≡ get_or bases d 0 = get_or-set_other bases e d x 0 (λ q. absurd (omega arith)) in
      subst (λ (n : ℕ). (n ≤ top) × Rising (set bases e x) d n) (sym q) (r.0, rising_set d (get_or bases d 0) (omega arith) r.1)

-- ---- an opening bracket

module _ (f bases : List ℕ) (d top : ℕ) (fits : d < length bases) (r : Rising bases d top) where
  new_base : get_or (set bases d top) d 0 ≡ top
  new_base = get_or-set_same bases d top 0 fits

  pub push_inner : inner_of f (set bases d top) (d + 1) top ≡ []
  unfolding base_of part
  push_inner =
      let z : top - top ≡ 0 = omega arith in
      ap (λ (n : ℕ). inner_of f (set bases d top) n top) (add-one d) ∙ ap (λ (n : ℕ). part f n (top - n)) new_base ∙ ap (part f top) z

  pub push_outers : outers_of f (set bases d top) (d + 1) ≡ inner_of f bases d top ∷ outers_of f bases d
  unfolding outers_of
  push_outers =
      ap (outers_of f (set bases d top)) (add-one d)
      ∙ ap (λ (n : ℕ). part f n (get_or (set bases d top) d 0 - n) ∷ outers_of f (set bases d top) d) (base_set f bases top d d (omega arith))
      ∙ ap (λ (n : ℕ). inner_of f bases d n ∷ outers_of f (set bases d top) d) new_base
      ∙ ap (λ (t : List (List ℕ)). inner_of f bases d top ∷ t) (outers_set f bases top d d (omega arith))

  pub push_rising : Rising (set bases d top) (d + 1) top
  unfolding Rising
  push_rising =
      subst (λ (n : ℕ). Rising (set bases d top) n top) (sym (add-one d))
      (subst (λ (n : ℕ). (n ≤ top) × Rising (set bases d top) d n) (sym new_base) (omega arith, rising_set f bases top d d top (omega arith) r))

-- ---- one more field

module _ (f bases : List ℕ) (d top x : ℕ) (fits : top < length f) (r : Rising bases d top) where
  pub store_alike : Alike f (set f top x) top
  store_alike = record { as_long = length-set f top x; below = λ p h. get_or-set_other f top p x 0 (λ q. absurd (omega arith)) }

  pub store_inner : inner_of (set f top x) bases d (top + 1) ≡ x ∷ inner_of f bases d top
  unfolding part
  store_inner =
      let z = base_under bases d top r in
      let n : top + 1 - base_of bases d ≡ suc (top - base_of bases d) = omega arith in
      let m : base_of bases d + (top - base_of bases d) ≡ top = omega arith in
      ap (part (set f top x) (base_of bases d)) n
      ∙ ap (λ (y : ℕ). get_or (set f top x) y 0 ∷ part (set f top x) (base_of bases d) (top - base_of bases d)) m
      ∙ ap (λ (y : ℕ). y ∷ part (set f top x) (base_of bases d) (top - base_of bases d)) (get_or-set_same f top x 0 fits)
      ∙ ap (λ (l : List ℕ). x ∷ l) (part_alike f (set f top x) top store_alike (base_of bases d) (top - base_of bases d) (omega arith))

  pub store_outers : outers_of (set f top x) bases d ≡ outers_of f bases d
  store_outers = outers_alike f (set f top x) bases top d top store_alike r (omega arith)
