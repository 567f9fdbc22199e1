-- Rows in order, at an index: what a search among them goes by. Over any list of rows. Assumes nothing.
use Prim.Native.Nat.{ℕ, zero, suc, ◌+◌, ◌*◌, ◌≤◌, ◌<◌}
use native.Mathlib.Omega.{arith}
use mathlib.Core.Path.{◌≡◌, refl, sym, ap, ◌∙◌, subst}
use native.Mathlib.Nat.{eq-or-lt_of_le}
use mathlib.Core.List.{List, [], ◌∷◌}
use mathlib.Core.Bool.{Bool, true, false, not, ◌&&◌, ◌||◌, true≢false}
use lib.ListN.{length, get_or}
use lib.Dec.{leb, ltb, eqb}
use borrow.Author.Tests.{leb-true, ltb-true, eq-eqb}
use Rattle.xid.proofs.Choices.{and_true, bool_cases, either, or_false}
use Rattle.xid.proofs.Ranges.{above, above_first, below, below_last, inside}
use Rattle.xid.specs.Rows.{Lies, Row, class_at, first_at, last_at}
use Rattle.xid.specs.Xid.{within, in_rows, class_of, in_order, apart_from, starts, continues}

-- ---- choices

or_second : (s t : Bool) → t ≡ true → (s || t) ≡ true
or_second true t h = refl
or_second false t h = h

implied : (s t : Bool) → (not s || t) ≡ true → s ≡ true → t ≡ true
implied true t h e = h
implied false t h e = cc

-- ---- rows at an index

module _ (a b k : ℕ) (t : List ℕ) (j : ℕ) where
  next_first : first_at (a ∷ b ∷ k ∷ t) (suc j) ≡ first_at t j
  next_first = let e : suc j * 3 ≡ suc (suc (suc (j * 3))) = omega arith in ap (λ (n : ℕ). get_or (a ∷ b ∷ k ∷ t) n 0) e

  next_last : last_at (a ∷ b ∷ k ∷ t) (suc j) ≡ last_at t j
  next_last = let e : suc j * 3 + 1 ≡ suc (suc (suc (j * 3 + 1))) = omega arith in ap (λ (n : ℕ). get_or (a ∷ b ∷ k ∷ t) n 0) e

  next_class : class_at (a ∷ b ∷ k ∷ t) (suc j) ≡ class_at t j
  next_class = let e : suc j * 3 + 2 ≡ suc (suc (suc (j * 3 + 2))) = omega arith in ap (λ (n : ℕ). get_or (a ∷ b ∷ k ∷ t) n 0) e

-- ---- what the order says of the row in front

pub record Ordered (a b k : ℕ) (t : List ℕ) : Type 0 where
  pub range : a ≤ b
  pub apart : apart_from b k t ≡ true
  pub class : (not (starts k) || continues k) ≡ true
  pub rest : in_order t ≡ true

pub ordered : (a b k : ℕ) (t : List ℕ) → in_order (a ∷ b ∷ k ∷ t) ≡ true → Ordered a b k t
unfolding in_order
ordered a b k t o =
    let p = and_true (leb a b) (apart_from b k t && ((not (starts k) || continues k) && in_order t)) o in
    let q = and_true (apart_from b k t) ((not (starts k) || continues k) && in_order t) p.1 in
    let r = and_true (not (starts k) || continues k) (in_order t) q.1 in
    record { range = leb-true a b p.0; apart = q.0; class = r.0; rest = r.1 }

-- ---- the rows of a list in order

pub first_le : (t : List ℕ) (j : ℕ) → in_order t ≡ true → Row t j → first_at t j ≤ last_at t j
first_le [] j o h = absurd (omega arith)
first_le (a ∷ []) j o h = absurd (omega arith)
first_le (a ∷ b ∷ []) j o h = absurd (omega arith)
first_le (a ∷ b ∷ k ∷ t) zero o h = (ordered a b k t o).range
first_le (a ∷ b ∷ k ∷ t) (suc j) o h = rw (next_first a b k t j, next_last a b k t j) (first_le t j (ordered a b k t o).rest (omega arith))

next_behind : (b k a : ℕ) (t : List ℕ) → apart_from b k (a ∷ t) ≡ true → b < a
next_behind b k a t e = ltb-true b a (and_true (ltb b a) (not (eqb a (suc b) && eqb (get_or t 1 0) k)) e).0

behind : (b k : ℕ) (t : List ℕ) (j : ℕ) → apart_from b k t ≡ true → in_order t ≡ true → Row t j → b < first_at t j
behind b k [] j e o h = absurd (omega arith)
behind b k (a ∷ []) j e o h = absurd (omega arith)
behind b k (a ∷ b' ∷ []) j e o h = absurd (omega arith)
behind b k (a ∷ b' ∷ k' ∷ t) zero e o h = next_behind b k a (b' ∷ k' ∷ t) e
behind b k (a ∷ b' ∷ k' ∷ t) (suc j) e o h =
    let w = ordered a b' k' t o in
    let ih = behind b' k' t j w.apart w.rest (omega arith) in
    rw (next_first a b' k' t j) (omega (arith, next_behind b k a (b' ∷ k' ∷ t) e, w.range))

pub apart : (t : List ℕ) (i j : ℕ) → in_order t ≡ true → i < j → Row t j → last_at t i < first_at t j
apart [] i j o l h = absurd (omega arith)
apart (a ∷ []) i j o l h = absurd (omega arith)
apart (a ∷ b ∷ []) i j o l h = absurd (omega arith)
apart (a ∷ b ∷ k ∷ t) i zero o l h = absurd (omega arith)
apart (a ∷ b ∷ k ∷ t) zero (suc j) o l h =
    let w = ordered a b k t o in
    rw (next_first a b k t j) (behind b k t j w.apart w.rest (omega arith))
apart (a ∷ b ∷ k ∷ t) (suc i) (suc j) o l h =
    rw (next_last a b k t i, next_first a b k t j) (apart t i j (ordered a b k t o).rest (omega arith) (omega arith))

-- rows that touch are of two classes, so that each row is as long as it can be
pub widest : (t : List ℕ) (j : ℕ) → in_order t ≡ true → Row t (suc j) → first_at t (suc j) ≡ suc (last_at t j) → class_at t (suc j) ≡ class_at t j → ⊥
widest [] j o h e f = absurd (omega arith)
widest (a ∷ []) j o h e f = absurd (omega arith)
widest (a ∷ b ∷ []) j o h e f = absurd (omega arith)
widest (a ∷ b ∷ k ∷ []) j o h e f = absurd (omega arith)
widest (a ∷ b ∷ k ∷ a' ∷ t) zero o h e f =
    let w = (and_true (ltb b a') (not (eqb a' (suc b) && eqb (get_or t 1 0) k)) (ordered a b k (a' ∷ t) o).apart).1 in
    true≢false (sym (rw (eq-eqb a' (suc b) e, eq-eqb (get_or t 1 0) k f) at w))
widest (a ∷ b ∷ k ∷ a' ∷ t) (suc j) o h e f =
    widest (a' ∷ t) j (ordered a b k (a' ∷ t) o).rest (omega arith)
    (rw (next_first a b k (a' ∷ t) (suc j), next_last a b k (a' ∷ t) j) at e)
    (rw (next_class a b k (a' ∷ t) (suc j), next_class a b k (a' ∷ t) j) at f)

-- ---- the row that holds c

pub found : (t : List ℕ) (j c : ℕ) → in_order t ≡ true → Row t j → first_at t j ≤ c → c ≤ last_at t j → class_of t c ≡ class_at t j
unfolding class_of
found [] j c o h l m = absurd (omega arith)
found (a ∷ []) j c o h l m = absurd (omega arith)
found (a ∷ b ∷ []) j c o h l m = absurd (omega arith)
found (a ∷ b ∷ k ∷ t) zero c o h l m = rw (inside a b c l m)
found (a ∷ b ∷ k ∷ t) (suc j) c o h l m =
    let w = ordered a b k t o in
    let l' : first_at t j ≤ c = rw (next_first a b k t j) at l in
    let m' : c ≤ last_at t j = rw (next_last a b k t j) at m in
    let r : j * 3 + 2 < length t = omega arith in
    let z = behind b k t j w.apart w.rest r in
    rw (above a b c (omega arith)) (found t j c w.rest r l' m' ∙ sym (next_class a b k t j))

-- no row does: those below m end before it, and the others begin behind it
pub none : (t : List ℕ) (c m : ℕ) → ((j : ℕ) → j < m → last_at t j < c) → ((j : ℕ) → m ≤ j → Row t j → c < first_at t j) → class_of t c ≡ 0
unfolding class_of
none [] c m f g = refl
none (a ∷ []) c m f g = refl
none (a ∷ b ∷ []) c m f g = refl
none (a ∷ b ∷ k ∷ t) c zero f g =
    rw (below a b c (g 0 (omega arith) (omega arith)))
    (none t c 0 (λ j l. absurd (omega arith)) (λ j l h. rw (next_first a b k t j) at (g (suc j) (omega arith) (omega arith))))
none (a ∷ b ∷ k ∷ t) c (suc m) f g =
    rw (above a b c (f 0 (omega arith)))
    (none t c m (λ j l. rw (next_last a b k t j) at (f (suc j) (omega arith))) (λ j l h. rw (next_first a b k t j) at (g (suc j) (omega arith) (omega arith))))

-- ---- membership

none_behind : (p : ℕ → Bool) (b k : ℕ) (t : List ℕ) (c : ℕ) → apart_from b k t ≡ true → in_order t ≡ true → c ≤ b → in_rows p t c ≡ false
unfolding in_rows
none_behind p b k [] c e o l = refl
none_behind p b k (a ∷ []) c e o l = refl
none_behind p b k (a ∷ b' ∷ []) c e o l = refl
none_behind p b k (a ∷ b' ∷ k' ∷ t) c e o l =
    let w = ordered a b' k' t o in
    let h = next_behind b k a (b' ∷ k' ∷ t) e in
    let r = w.range in
    rw (below a b' c (omega arith)) (none_behind p b' k' t c w.apart w.rest (omega arith))

-- what the search finds tells membership
pub member : (p : ℕ → Bool) → p 0 ≡ false → (t : List ℕ) (c : ℕ) → in_order t ≡ true → in_rows p t c ≡ p (class_of t c)
unfolding in_rows class_of
member p z [] c o = sym z
member p z (a ∷ []) c o = sym z
member p z (a ∷ b ∷ []) c o = sym z
member p z (a ∷ b ∷ k ∷ t) c o =
    let w = ordered a b k t o in
    either (bool_cases (within a b c))
    (λ e. rw (e, none_behind p b k t c w.apart w.rest (below_last a b c e)) (or_false (p k)))
    (λ e. rw e (member p z t c w.rest))

-- what starts a name also goes on in one
pub subset : (t : List ℕ) (c : ℕ) → in_order t ≡ true → in_rows starts t c ≡ true → in_rows continues t c ≡ true
unfolding in_rows
subset [] c o e = e
subset (a ∷ []) c o e = e
subset (a ∷ b ∷ []) c o e = e
subset (a ∷ b ∷ k ∷ t) c o e =
    let w = ordered a b k t o in
    either (bool_cases (within a b c && starts k))
    (λ x. let y = and_true (within a b c) (starts k) x in rw (y.0, implied (starts k) (continues k) w.class y.1))
    (λ x. or_second (within a b c && continues k) (in_rows continues t c) (subset t c w.rest (rw x at e)))

-- ---- membership, said by an index

next_lies : (p : ℕ → Bool) (a b k : ℕ) (t : List ℕ) (c j : ℕ) → Lies p t c j → Lies p (a ∷ b ∷ k ∷ t) c (suc j)
next_lies p a b k t c j w = record {
  there = omega (arith, w.there);
  from = rw (next_first a b k t j) w.from;
  to = rw (next_last a b k t j) w.to;
  class = rw (next_class a b k t j) w.class;
}

lies_next : (p : ℕ → Bool) (a b k : ℕ) (t : List ℕ) (c j : ℕ) → Lies p (a ∷ b ∷ k ∷ t) c (suc j) → Lies p t c j
lies_next p a b k t c j w = record {
  there = omega (arith, w.there);
  from = rw (next_first a b k t j) at w.from;
  to = rw (next_last a b k t j) at w.to;
  class = rw (next_class a b k t j) at w.class;
}

pub member_lies : (p : ℕ → Bool) (t : List ℕ) (c : ℕ) → in_rows p t c ≡ true → (j : ℕ) × Lies p t c j
unfolding in_rows
member_lies p [] c e = absurd (let z : ◌≡◌ {A = ℕ} 0 1 = cc in omega arith)
member_lies p (a ∷ []) c e = absurd (let z : ◌≡◌ {A = ℕ} 0 1 = cc in omega arith)
member_lies p (a ∷ b ∷ []) c e = absurd (let z : ◌≡◌ {A = ℕ} 0 1 = cc in omega arith)
member_lies p (a ∷ b ∷ k ∷ t) c e =
    either (bool_cases (within a b c && p k))
    (λ x. let y = and_true (within a b c) (p k) x in (0, record { there = omega arith; from = above_first a b c y.0; to = below_last a b c y.0; class = y.1 }))
    (λ x. let w = member_lies p t c (rw x at e) in (suc w.0, next_lies p a b k t c w.0 w.1))

pub lies_member : (p : ℕ → Bool) (t : List ℕ) (c j : ℕ) → Lies p t c j → in_rows p t c ≡ true
unfolding in_rows
lies_member p [] c j w = absurd (omega (arith, w.there))
lies_member p (a ∷ []) c j w = absurd (omega (arith, w.there))
lies_member p (a ∷ b ∷ []) c j w = absurd (omega (arith, w.there))
lies_member p (a ∷ b ∷ k ∷ t) c zero w = rw (inside a b c w.from w.to, w.class)
lies_member p (a ∷ b ∷ k ∷ t) c (suc j) w = or_second (within a b c && p k) (in_rows p t c) (lies_member p t c j (lies_next p a b k t c j w))

-- ---- behind a row that begins behind c no row holds it

pub below_row : (t : List ℕ) (c m : ℕ) → in_order t ≡ true → c < first_at t m → (j : ℕ) → m ≤ j → Row t j → c < first_at t j
below_row t c m o l j h r =
    either (eq-or-lt_of_le h) (λ e. subst (λ (i : ℕ). c < first_at t i) e l)
    (λ g. omega (arith, first_le t m o (omega arith), apart t m j o g r))
