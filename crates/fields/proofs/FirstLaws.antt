-- The first field that repeats: there is one only, and it is found pair by pair, or among neighbours of a list in order. Assumes nothing.
use Rattle.std.proofs.Common.{None}
use Prim.Native.Nat.{ℕ, zero, suc, ◌+◌, ◌-◌, ◌<◌, ◌≤◌}
use native.Mathlib.Omega.{arith}
use mathlib.Core.Path.{◌∙◌, ◌≡◌, ap, ap₂, refl, subst, sym}
use mathlib.Core.List.{List}
use mathlib.Core.Logic.{◌⊎◌, inl, inr}
use mathlib.Core.Bool.{true, false}
use lib.Dec.{ltb}
use lib.ListN.{length, get_or, take}
use lib.Seq.{get_or-take, length-take-le}
use borrow.Author.Tests.{ltb-true, ltb-false}
use Rattle.text.proofs.Choices.{cond_cases, either, lt_or_le}
use Rattle.fields.proofs.SameLaws.{same_is, same_not}
use Rattle.fields.proofs.OrderLaws.{Less, before_less, less_trans, less_between, less_alike}
use Rattle.fields.specs.inner.Again.{earlier, In, Repeats, FirstIn, nowhere, at}
use Rattle.fields.specs.Fields.{same}
use Rattle.std.specs.declared.option.Option.{Option}
use Rattle.std.specs.declared.option.Option.TheVariants.{Some}
use Rattle.fields.specs.inner.Order.{comes_before, paired_of, Tells, told}

-- ---- there is one first

pub first_unique : (nm : ℕ → List ℕ) (es : List ℕ) (a b : Option ℕ) → FirstIn nm es a → FirstIn nm es b → a ≡ b
first_unique nm es a b (nowhere f) (nowhere g) = refl
first_unique nm es a b (nowhere f) (at j r l) = absurd (f j r)
first_unique nm es a b (at j r l) (nowhere f) = absurd (f j r)
first_unique nm es a b (at j r l) (at i s m) = let z : j ≡ i = omega (arith, l i s, m j r) in ap Some z

-- what a look tells is it
pub told_first : (nm : ℕ → List ℕ) (es : List ℕ) (r : Option (Option ℕ)) (a : Option ℕ) → r ≡ Some a → Tells nm es r → FirstIn nm es a
told_first nm es r a e t = out (subst (Tells nm es) e t)
  where
    out : {b : Option ℕ} → Tells nm es (Some b) → FirstIn nm es b
    out (told f) = f

-- ---- the least of some numbers

pub data Least (P : ℕ → Type 0) : Option ℕ → Type 0 where
  none : ((j : ℕ) → P j → ⊥) → Least P None
  some : (j : ℕ) → P j → ((i : ℕ) → P i → j ≤ i) → Least P (Some j)

module _ (nm : ℕ → List ℕ) (es : List ℕ) where
  pub first_least : {a : Option ℕ} → FirstIn nm es a → Least (Repeats nm es) a
  first_least (nowhere f) = none f
  first_least (at j r l) = some j r l

  pub least_first : {a : Option ℕ} → Least (Repeats nm es) a → FirstIn nm es a
  least_first (none f) = nowhere f
  least_first (some j r l) = at j r l

module _ (P Q : ℕ → Type 0) where
  -- of the same numbers
  pub least_same : {a : Option ℕ} → ((j : ℕ) → P j → Q j) → ((j : ℕ) → Q j → P j) → Least P a → Least Q a
  least_same f g (none n) = none (λ j q. n j (g j q))
  least_same f g (some j p l) = some j (f j p) (λ i q. l i (g i q))

  -- of one more number
  pub least_with : {a : Option ℕ} (x : ℕ) → Least P a → Q x → ((j : ℕ) → P j → Q j) → ((j : ℕ) → Q j → P j ⊎ (j ≡ x)) → Least Q (earlier a (Some x))
  least_with x (none n) q f g = some x q (λ i r. either (g i r) (λ p. absurd (n i p)) (λ e. omega arith))
  least_with x (some k p l) q f g =
      cond_cases (Least Q) (ltb x k) (Some x) (Some k)
      (λ t. some x q (λ i r. either (g i r) (λ o. omega (arith, l i o, ltb-true x k t)) (λ e. omega arith)))
      (λ t. some k (f k p) (λ i r. either (g i r) (λ o. l i o) (λ e. omega (arith, ltb-false x k t))))

-- ---- pair by pair

-- x stands at a place below n
record Placed (es : List ℕ) (n x : ℕ) : Type 0 where
  place : ℕ
  below : place < n
  there : get_or es place 0 ≡ x

module _ (es : List ℕ) (n : ℕ) (h : n ≤ length es) where
  placed_in : (x : ℕ) → Placed es n x → In x (take n es)
  placed_in x p = record {
    place = p.place;
    inside = omega (arith, p.below, length-take-le n es h);
    there = get_or-take n es p.place 0 p.below ∙ p.there;
  }

  in_placed : (x : ℕ) → In x (take n es) → Placed es n x
  in_placed x i =
      let b : i.place < n = omega (arith, i.inside, length-take-le n es h) in
      record { place = i.place; below = b; there = sym (get_or-take n es i.place 0 b) ∙ i.there }

module _ (nm : ℕ → List ℕ) (es : List ℕ) where
  abbrev l : ℕ → ℕ
  l k = get_or es k 0

  -- one of place p and a place before q repeats the other
  pub record With (p q j : ℕ) : Type 0 where
    pub place : ℕ
    pub before : place < q
    pub alike : nm (get_or es place 0) ≡ nm (get_or es p 0)
    pub which : ((get_or es place 0 < j) × (get_or es p 0 ≡ j)) ⊎ ((get_or es p 0 < j) × (get_or es place 0 ≡ j))

  -- what repeats among the places before p, and place p with those before q
  abbrev pub Part : ℕ → ℕ → ℕ → Type 0
  Part p q j = Repeats nm (take p es) j ⊎ With p q j

  pub part_start : (p : ℕ) (a : Option ℕ) → FirstIn nm (take p es) a → Least (Part p 0) a
  part_start p a f =
      least_same (Repeats nm (take p es)) (Part p 0) (λ j r. inl r) (λ j r. either r (λ s. s) (λ (w : With p 0 j). absurd (none_before w))) (first_least nm (take p es) f)
    where
      none_before : {j : ℕ} → With p 0 j → ⊥
      none_before w = omega (arith, w.before)

  -- a pair more
  with_on : (p q j : ℕ) → Part p q j → Part p (q + 1) j
  with_on p q j (inl r) = inl r
  with_on p q j (inr w) = inr (record { place = w.place; before = omega (arith, w.before); alike = w.alike; which = w.which })

  -- one that is new
  with_new : (p q j : ℕ) → Part p (q + 1) j → Part p q j ⊎ ((nm (l q) ≡ nm (l p)) × (((l q < j) × (l p ≡ j)) ⊎ ((l p < j) × (l q ≡ j))))
  with_new p q j (inl r) = inl (inl r)
  with_new p q j (inr w) =
      either (lt_or_le w.place q)
      (λ b. inl (inr (record { place = w.place; before = b; alike = w.alike; which = w.which })))
      (λ b. let z : w.place ≡ q = omega (arith, w.before) in inr (rw z at w.alike, rw z at w.which))

  pub turn_other : (p q : ℕ) (a : Option ℕ) → same (nm (get_or es q 0)) (nm (get_or es p 0)) ≡ false → Least (Part p q) a → Least (Part p (q + 1)) a
  turn_other p q a e f = least_same (Part p q) (Part p (q + 1)) (with_on p q) (λ j r. either (with_new p q j r) (λ s. s) (λ s. absurd (same_not _ _ e s.0))) f

  pub turn_same : (p q : ℕ) (a : Option ℕ) → same (nm (get_or es q 0)) (nm (get_or es p 0)) ≡ true → Least (Part p q) a → Least (Part p (q + 1)) (paired_of a (get_or es q 0) (get_or es p 0))
  unfolding paired_of
  turn_same p q a e f =
      cond_cases (Least (Part p (q + 1))) (ltb (l q) (l p)) (earlier a (Some (l p))) _
      (λ t. least_with (Part p q) (Part p (q + 1)) (l p) f (new (l p) (inl (ltb-true _ _ t, refl))) (with_on p q)
      (λ j r. either (with_new p q j r) inl (λ s. either s.1 (λ u. inr (sym u.1)) (λ u. absurd (off j (ltb-true _ _ t) u)))))
      (λ t. cond_cases (Least (Part p (q + 1))) (ltb (l p) (l q)) (earlier a (Some (l q))) a
      (λ u. least_with (Part p q) (Part p (q + 1)) (l q) f (new (l q) (inr (ltb-true _ _ u, refl))) (with_on p q)
      (λ j r. either (with_new p q j r) inl (λ s. either s.1 (λ v. absurd (off2 j (ltb-true _ _ u) v)) (λ v. inr (sym v.1)))))
      (λ u. least_same (Part p q) (Part p (q + 1)) (with_on p q)
      (λ j r. either (with_new p q j r) (λ s. s) (λ s. absurd (either s.1 (off3 j (ltb-false _ _ t)) (off4 j (ltb-false _ _ u))))) f))
    where
      new : (j : ℕ) → ((l q < j) × (l p ≡ j)) ⊎ ((l p < j) × (l q ≡ j)) → Part p (q + 1) j
      new j w = inr (record { place = q; before = omega arith; alike = same_is _ _ e; which = w })

      off : (j : ℕ) → l q < l p → (l p < j) × (l q ≡ j) → ⊥
      off j h w = omega (arith, w.0, w.1)

      off2 : (j : ℕ) → l p < l q → (l q < j) × (l p ≡ j) → ⊥
      off2 j h w = omega (arith, w.0, w.1)

      off3 : (j : ℕ) → l p ≤ l q → (l q < j) × (l p ≡ j) → ⊥
      off3 j h w = omega (arith, w.0, w.1)

      off4 : (j : ℕ) → l q ≤ l p → (l p < j) × (l q ≡ j) → ⊥
      off4 j h w = omega (arith, w.0, w.1)

  -- a place more
  module _ (p : ℕ) (h : p < length es) where
    h0 : p ≤ length es
    h0 = omega arith

    h1 : p + 1 ≤ length es
    h1 = omega arith

    more : (x : ℕ) → In x (take p es) → In x (take (p + 1) es)
    more x i = let k = in_placed es p h0 x i in placed_in es (p + 1) h1 x (record { place = k.place; below = omega (arith, k.below); there = k.there })

    part_all : (j : ℕ) → Part p p j → Repeats nm (take (p + 1) es) j
    part_all j (inl r) = record { is_one = more j r.is_one; former = r.former; also = more r.former r.also; before = r.before; alike = r.alike }
    part_all j (inr w) = either w.which
        (λ v. record {
          is_one = here j v.1;
          former = l w.place;
          also = there0 (l w.place) refl;
          before = v.0;
          alike = w.alike ∙ ap nm v.1;
        })
        (λ v. record {
          is_one = there0 j v.1;
          former = l p;
          also = here (l p) refl;
          before = v.0;
          alike = sym w.alike ∙ ap nm v.1;
        })
      where
        here : (x : ℕ) → l p ≡ x → In x (take (p + 1) es)
        here x e = placed_in es (p + 1) h1 x (record { place = p; below = omega arith; there = e })

        there0 : (x : ℕ) → l w.place ≡ x → In x (take (p + 1) es)
        there0 x e = placed_in es (p + 1) h1 x (record { place = w.place; below = omega (arith, w.before); there = e })

    all_part : (j : ℕ) → Repeats nm (take (p + 1) es) j → Part p p j
    all_part j r =
        either (lt_or_le a.place p)
        (λ ab. either (lt_or_le b.place p)
        (λ bb. inl (record {
          is_one = placed_in es p h0 j (record { place = a.place; below = ab; there = a.there });
          former = r.former;
          also = placed_in es p h0 r.former (record { place = b.place; below = bb; there = b.there });
          before = r.before;
          alike = r.alike;
        }))
        (λ bb. inr (record {
          place = a.place;
          before = ab;
          alike = ap nm a.there ∙ sym r.alike ∙ ap nm (sym (at_p b bb));
          which = inr (rw (at_p b bb) r.before, a.there);
        })))
        (λ ab. either (lt_or_le b.place p)
        (λ bb. inr (record {
          place = b.place;
          before = bb;
          alike = ap nm b.there ∙ r.alike ∙ ap nm (sym (at_p a ab));
          which = inl (rw b.there r.before, at_p a ab);
        }))
        (λ bb. absurd (both (at_p a ab) (at_p b bb))))
      where
        a : Placed es (p + 1) j
        a = in_placed es (p + 1) h1 j r.is_one

        b : Placed es (p + 1) r.former
        b = in_placed es (p + 1) h1 r.former r.also

        at_p : {x : ℕ} (k : Placed es (p + 1) x) → p ≤ k.place → l p ≡ x
        at_p k g = let z : p ≡ k.place = omega (arith, k.below) in ap l z ∙ k.there

        both : l p ≡ j → l p ≡ r.former → ⊥
        both e f = omega (arith, r.before)

    pub part_done : (a : Option ℕ) → Least (Part p p) a → FirstIn nm (take (p + 1) es) a
    part_done a f = least_first nm (take (p + 1) es) (least_same (Part p p) (Repeats nm (take (p + 1) es)) part_all all_part f)

  -- none of the first 0 places repeats
  pub first_start : FirstIn nm (take 0 es) None
  first_start = nowhere (λ j r. none_in r.is_one)
    where
      none_in : {j : ℕ} → In j (take 0 es) → ⊥
      none_in i = omega (arith, i.inside)

  -- names that are all apart
  abbrev pub Apart : ℕ → Type 0
  Apart p = (i k : ℕ) → i < k → k < p → nm (get_or es i 0) ≡ nm (get_or es k 0) → ⊥

  pub apart_nowhere : (p : ℕ) → length es ≤ p → Apart p → FirstIn nm es None
  apart_nowhere p h f = nowhere (λ j r. never j r)
    where
      never : (j : ℕ) → Repeats nm es j → ⊥
      never j r =
          let a = r.is_one in
          let b = r.also in
          let e : nm (l b.place) ≡ nm (l a.place) = ap nm b.there ∙ r.alike ∙ ap nm (sym a.there) in
          either (lt_or_le a.place b.place)
          (λ k. f a.place b.place k (omega (arith, b.inside)) (sym e))
          (λ k. either (lt_or_le b.place a.place)
          (λ m. f b.place a.place m (omega (arith, a.inside)) e)
          (λ m. let z : a.place ≡ b.place = omega arith in one (sym a.there ∙ ap l z ∙ b.there)))
        where
          one : j ≡ r.former → ⊥
          one e = omega (arith, r.before)

  -- ---- neighbours

  -- each of the first p comes before the next
  abbrev pub Ascending : ℕ → Type 0
  Ascending p = (k : ℕ) → k + 1 < p → k + 1 < length es → Less nm (get_or es k 0) (get_or es (k + 1) 0)

  pub record Near (p j : ℕ) : Type 0 where
    pub place : ℕ
    pub before : place + 1 < p
    pub inside : place + 1 < length es
    pub alike : nm (get_or es place 0) ≡ nm (get_or es (place + 1) 0)
    pub there : get_or es (place + 1) 0 ≡ j

  pub ascending_start : Ascending 1
  ascending_start k h i = absurd (not_yet h)
    where
      not_yet : k + 1 < 1 → ⊥
      not_yet g = omega arith

  pub near_start : Least (Near 1) None
  near_start = none (λ j n. never n)
    where
      never : {j : ℕ} → Near 1 j → ⊥
      never n = omega (arith, n.before)

  module _ (p : ℕ) (low : 1 ≤ p) (high : p < length es) where
    pub ascending_on : Ascending p → comes_before nm (get_or es (p - 1) 0) (get_or es p 0) ≡ true → Ascending (p + 1)
    ascending_on f e k h i =
        either (lt_or_le (k + 1) p)
        (λ b. f k b i)
        (λ b.
        let y : p - 1 ≡ k = omega arith in
        let z : p ≡ k + 1 = omega arith in
        before_less nm (l k) (l (k + 1)) (sym (ap₂ (λ (u v : ℕ). comes_before nm (l u) (l v)) y z) ∙ e))

    near_on : (j : ℕ) → Near p j → Near (p + 1) j
    near_on j n = record { place = n.place; before = omega (arith, n.before); inside = n.inside; alike = n.alike; there = n.there }

    near_new : (j : ℕ) → Near (p + 1) j → Near p j ⊎ ((nm (l (p - 1)) ≡ nm (l p)) × (j ≡ l p))
    near_new j n =
        either (lt_or_le (n.place + 1) p)
        (λ b. inl (record { place = n.place; before = b; inside = n.inside; alike = n.alike; there = n.there }))
        (λ b.
        let y : n.place ≡ p - 1 = omega (arith, n.before) in
        let z : n.place + 1 ≡ p = omega (arith, n.before) in
        inr (ap (λ (u : ℕ). nm (l u)) (sym y) ∙ n.alike ∙ ap (λ (u : ℕ). nm (l u)) z, sym n.there ∙ ap l z))

    pub near_other : (a : Option ℕ) → same (nm (get_or es (p - 1) 0)) (nm (get_or es p 0)) ≡ false → Least (Near p) a → Least (Near (p + 1)) a
    near_other a e f = least_same (Near p) (Near (p + 1)) near_on (λ j n. either (near_new j n) (λ s. s) (λ s. absurd (same_not _ _ e s.0))) f

    pub near_same : (a : Option ℕ) → same (nm (get_or es (p - 1) 0)) (nm (get_or es p 0)) ≡ true → Least (Near p) a → Least (Near (p + 1)) (earlier a (Some (get_or es p 0)))
    near_same a e f = least_with (Near p) (Near (p + 1)) (l p) f here near_on (λ j n. either (near_new j n) inl (λ s. inr s.1))
      where
        y : p - 1 + 1 ≡ p
        y = omega arith

        here : Near (p + 1) (l p)
        here = record {
          place = p - 1;
          before = omega arith;
          inside = omega arith;
          alike = same_is _ _ e ∙ ap (λ (u : ℕ). nm (l u)) (sym y);
          there = ap l y;
        }

  module _ (p : ℕ) (all : length es ≤ p) (f : Ascending p) where
    -- any two
    ascends : (i d : ℕ) → i + 1 + d < length es → Less nm (l i) (l (i + 1 + d))
    ascends i zero h = let z : i + 1 + 0 ≡ i + 1 = omega arith in rw z (f i (omega arith) (omega arith))
    ascends i (suc d) h =
        let z : i + 1 + suc d ≡ i + 1 + d + 1 = omega arith in
        rw z (less_trans nm (ascends i d (omega arith)) (f (i + 1 + d) (omega arith) (omega arith)))

    ascends_to : (i k : ℕ) → i < k → k < length es → Less nm (l i) (l k)
    ascends_to i k h g = let z : i + 1 + (k - (i + 1)) ≡ k = omega arith in rw z at (ascends i (k - (i + 1)) (omega arith))

    near_repeats : (j : ℕ) → Near p j → Repeats nm es j
    near_repeats j n = record {
      is_one = record { place = n.place + 1; inside = n.inside; there = n.there };
      former = l n.place;
      also = record { place = n.place; inside = omega (arith, n.inside); there = refl };
      before = rw n.there at (less_alike nm (f n.place n.before n.inside) n.alike);
      alike = n.alike ∙ ap nm n.there;
    }

    -- of two with one name the earlier stands first
    first_stands : (i k : ℕ) → i < length es → k < length es → l i < l k → nm (l i) ≡ nm (l k) → i < k
    first_stands i k hi hk h e =
        either (lt_or_le i k) (λ b. b)
        (λ b. either (lt_or_le k i)
        (λ m. absurd (off (less_alike nm (ascends_to k i m hi) (sym e))))
        (λ m. let z : i ≡ k = omega arith in absurd (self (ap l z))))
      where
        off : l k < l i → ⊥
        off g = omega arith

        self : l i ≡ l k → ⊥
        self g = omega arith

    near_at : (i k j : ℕ) → i < length es → k < length es → l i < l k → nm (l i) ≡ nm (l k) → l k ≡ j → Near p j
    near_at i k j hi hk h e t =
        let b : i < k = first_stands i k hi hk h e in
        let y : k - 1 + 1 ≡ k = omega arith in
        record { place = k - 1; before = omega arith; inside = omega arith; alike = between b ∙ ap (λ (u : ℕ). nm (l u)) (sym y); there = ap l y ∙ t }
      where
        between : i < k → nm (l (k - 1)) ≡ nm (l k)
        between b =
            either (lt_or_le i (k - 1))
            (λ m. less_between nm (ascends_to i (k - 1) m (omega arith)) (ascends_to (k - 1) k (omega arith) hk) e)
            (λ m. let z : k - 1 ≡ i = omega arith in ap (λ (u : ℕ). nm (l u)) z ∙ e)

    repeats_near : (j : ℕ) → Repeats nm es j → Near p j
    repeats_near j r =
        let a = r.also in
        let b = r.is_one in
        near_at a.place b.place j a.inside b.inside (less a.place b.place a.there b.there) (ap nm a.there ∙ r.alike ∙ ap nm (sym b.there)) b.there
      where
        less : (i k : ℕ) → l i ≡ r.former → l k ≡ j → l i < l k
        less i k x y = omega (arith, r.before)

    pub near_done : (a : Option ℕ) → Least (Near p) a → FirstIn nm es a
    near_done a g = least_first nm es (least_same (Near p) (Repeats nm es) near_repeats repeats_near g)
