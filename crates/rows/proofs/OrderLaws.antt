-- Laws of order: what a tape in order is like, and the loop that finds it out. Assumes nothing.
use Prim.Native.Nat.{◌*◌, ◌+◌, ◌-◌, ◌<◌, ◌≤◌, suc, zero, ℕ}
use native.Mathlib.Nat.{le_of_suc-le-suc, not-suc-le-zero}
use native.Mathlib.Omega.{arith}
use mathlib.Core.Bool.{Bool, ◌&&◌, false, true}
use mathlib.Core.List.{List, [], ◌∷◌}
use mathlib.Core.Path.{◌∙◌, ◌≡◌, ap, refl, subst, sym}
use lib.Dec.{eqb, leb, ltb}
use lib.ListN.{drop, get_or, length}
use borrow.Author.Tests.{eq-eqb, eqb-true, le-leb, leb-true, ltb-true, ne_eqb}
use Rattle.rows.proofs.RowLaws.{entries_next}
use Rattle.rows.specs.Order.{former_end, four_orderly, in_order, in_order_from, orderly}
use Rattle.rows.specs.Rows.{entries_of, entry_at, width}
use Rattle.rows.specs.declared.Entry.{Entry}
use Rattle.text.proofs.Choices.{and_false, and_true, bool_cases, either}
use Rattle.text.proofs.ClassLaws.{within_true}
use Rattle.text.specs.Classes.{within}

-- ---- an entry in order

-- what `orderly` says
pub record Orderly (at : ℕ) (e : Entry) : Type 0 where
  pub low : 1 ≤ e.kind
  pub high : e.kind ≤ 16
  pub behind : at ≤ e.start
  pub some : e.start < e.end
  pub distance : at + e.gap ≡ e.start

pub orderly_true : (at : ℕ) (e : Entry) → orderly at e ≡ true → Orderly at e
unfolding orderly
orderly_true at e h =
    let p = and_true (within 1 16 e.kind) (ltb e.start e.end && (leb at e.start && eqb (at + e.gap) e.start)) h in
    let q = and_true (ltb e.start e.end) (leb at e.start && eqb (at + e.gap) e.start) p.1 in
    let r = and_true (leb at e.start) (eqb (at + e.gap) e.start) q.1 in
    let k = within_true 1 16 e.kind p.0 in
    record {
      low = k.0;
      high = k.1;
      behind = leb-true at e.start r.0;
      some = ltb-true e.start e.end q.0;
      distance = eqb-true (at + e.gap) e.start r.1;
    }

-- the sum alone tells both
pub distance_on : (at g s : ℕ) → at + g ≡ s → leb at s && eqb (at + g) s ≡ true
distance_on at g s e = rw (le-leb at s (omega arith), eq-eqb (at + g) s e)

pub distance_off : (at g s : ℕ) → (at + g ≡ s → ⊥) → leb at s && eqb (at + g) s ≡ false
distance_off at g s n = rw (ne_eqb (at + g) s n) (and_false (leb at s))

-- the first entry, and those behind it
pub in_order_first : (e : Entry) (es : List Entry) (at limit : ℕ) → in_order_from (e ∷ es) at limit ≡ true → Orderly at e × (in_order_from es e.end limit ≡ true)
unfolding in_order_from
in_order_first e es at limit h =
    let p = and_true (orderly at e) (in_order_from es e.end limit) h in
    (orderly_true at e p.0, p.1)

-- ---- entries in order

pub in_order_within : (es : List Entry) (at limit : ℕ) → in_order_from es at limit ≡ true → at ≤ limit
unfolding in_order_from
in_order_within [] at limit h = leb-true at limit h
in_order_within (e ∷ es) at limit h =
    let p = in_order_first e es at limit h in
    omega (arith, p.0.behind, p.0.some, in_order_within es e.end limit p.1)

-- those from row k on
pub in_order_drop : (es : List Entry) (at limit k : ℕ) → in_order_from es at limit ≡ true → (n : ℕ) × (in_order_from (drop k es) n limit ≡ true)
in_order_drop es at limit zero h = (at, h)
in_order_drop [] at limit (suc k) h = (at, h)
in_order_drop (e ∷ es) at limit (suc k) h = in_order_drop es e.end limit k (in_order_first e es at limit h).1

-- there are no more of them than places
pub in_order_short : (es : List Entry) (at limit : ℕ) → in_order_from es at limit ≡ true → at + length es ≤ limit
in_order_short [] at limit h = omega (arith, in_order_within [] at limit h)
in_order_short (e ∷ es) at limit h =
    let p = in_order_first e es at limit h in
    omega (arith, p.0.behind, p.0.some, in_order_short es e.end limit p.1)

-- each of them
pub record Row (at limit : ℕ) (e : Entry) : Type 0 where
  pub behind : at ≤ e.start
  pub some : e.start < e.end
  pub inside : e.end ≤ limit

pub in_order_row : (es : List Entry) (at limit : ℕ) → in_order_from es at limit ≡ true → (k : ℕ) (d : Entry) → k < length es → Row at limit (get_or es k d)
in_order_row [] at limit h k d l = absurd (not-suc-le-zero l)
in_order_row (e ∷ es) at limit h zero d l =
    let p = in_order_first e es at limit h in
    record { behind = p.0.behind; some = p.0.some; inside = in_order_within es e.end limit p.1 }
in_order_row (e ∷ es) at limit h (suc k) d l =
    let p = in_order_first e es at limit h in
    let q = in_order_row es e.end limit p.1 k d (le_of_suc-le-suc l) in
    record { behind = omega (arith, p.0.behind, p.0.some, q.behind); some = q.some; inside = q.inside }

-- any two of them
pub in_order_rise : (es : List Entry) (at limit : ℕ) → in_order_from es at limit ≡ true → (j k : ℕ) (d : Entry) → j < k → k < length es → (get_or es j d).end ≤ (get_or es k d).start
in_order_rise [] at limit h j k d jk l = absurd (not-suc-le-zero l)
in_order_rise (e ∷ es) at limit h j zero d jk l = absurd (not-suc-le-zero jk)
in_order_rise (e ∷ es) at limit h zero (suc k) d jk l =
    (in_order_row es e.end limit (in_order_first e es at limit h).1 k d (le_of_suc-le-suc l)).behind
in_order_rise (e ∷ es) at limit h (suc j) (suc k) d jk l =
    in_order_rise es e.end limit (in_order_first e es at limit h).1 j k d (le_of_suc-le-suc jk) (le_of_suc-le-suc l)

-- each gap is the distance from the former's end
pub in_order_distance : (es : List Entry) (at limit : ℕ) → in_order_from es at limit ≡ true → (k : ℕ) (d : Entry) → k < length es
    → former_end at es k + (get_or es k d).gap ≡ (get_or es k d).start
unfolding former_end
in_order_distance [] at limit h k d l = absurd (not-suc-le-zero l)
in_order_distance (e ∷ es) at limit h zero d l = (in_order_first e es at limit h).0.distance
in_order_distance (e ∷ es) at limit h (suc k) d l = in_order_distance es e.end limit (in_order_first e es at limit h).1 k d (le_of_suc-le-suc l)

-- ---- the loops over rows

module _ (t : List ℕ) (count limit : ℕ) (whole : Bool) where
  -- what is left from row i on gives the whole
  abbrev pub Left : ℕ → ℕ → Type 0
  Left i at = in_order_from (entries_of (count - i) (drop (width * i) t)) at limit ≡ whole

  module _ (i at : ℕ) (inv : Left i at) where
    -- row i decides together with those behind it
    row_first : (e : Entry) → i < count → e ≡ entry_at t i → orderly at e && in_order_from (entries_of (count - (i + 1)) (drop (width * (i + 1)) t)) e.end limit ≡ whole
    unfolding in_order_from
    row_first e h is =
        let z : count - i ≡ suc (count - (i + 1)) = omega arith in
        let rest : List Entry = entries_of (count - (i + 1)) (drop (width * (i + 1)) t) in
        ap (λ (x : Entry). in_order_from (x ∷ rest) at limit) is
        ∙ sym (ap (λ (l : List Entry). in_order_from l at limit) (ap (λ (n : ℕ). entries_of n (drop (width * i) t)) z ∙ entries_next (count - (i + 1)) i t))
        ∙ inv

    pub order_bad : (e : Entry) → i < count → e ≡ entry_at t i → orderly at e ≡ false → false ≡ whole
    order_bad e h is off = sym (ap (λ (b : Bool). b && in_order_from (entries_of (count - (i + 1)) (drop (width * (i + 1)) t)) e.end limit) off) ∙ row_first e h is

    pub order_on : (e : Entry) → i < count → e ≡ entry_at t i → orderly at e ≡ true → Left (i + 1) e.end
    order_on e h is holds = sym (ap (λ (b : Bool). b && in_order_from (entries_of (count - (i + 1)) (drop (width * (i + 1)) t)) e.end limit) holds) ∙ row_first e h is

    pub order_done : count ≤ i → leb at limit ≡ whole
    unfolding in_order_from entries_of
    order_done h = let z : count - i ≡ 0 = omega arith in sym (ap (λ (n : ℕ). in_order_from (entries_of n (drop (width * i) t)) at limit) z) ∙ inv

  -- the rows from i on, and the four of them in front
  module _ (i at : ℕ) (inv : Left i at) (h : i + 4 ≤ count) where
    abbrev a : Entry
    a = entry_at t i

    abbrev b : Entry
    b = entry_at t (i + 1)

    abbrev c : Entry
    c = entry_at t (i + 2)

    abbrev d : Entry
    d = entry_at t (i + 3)

    next : (k n : ℕ) (e : Entry) → k + 1 ≡ n → Left (k + 1) e.end → Left n e.end
    next k n e z l = subst (λ (x : ℕ). Left x e.end) z l

    on_a : orderly at a ≡ true → Left (i + 1) a.end
    on_a = order_on i at inv a (omega arith) refl

    on_b : Left (i + 1) a.end → orderly a.end b ≡ true → Left (i + 2) b.end
    on_b l o = next (i + 1) (i + 2) b (omega arith) (order_on (i + 1) a.end l b (omega arith) refl o)

    on_c : Left (i + 2) b.end → orderly b.end c ≡ true → Left (i + 3) c.end
    on_c l o = next (i + 2) (i + 3) c (omega arith) (order_on (i + 2) b.end l c (omega arith) refl o)

    on_d : Left (i + 3) c.end → orderly c.end d ≡ true → Left (i + 4) d.end
    on_d l o = next (i + 3) (i + 4) d (omega arith) (order_on (i + 3) c.end l d (omega arith) refl o)

    pub four_on : four_orderly at (entry_at t i) (entry_at t (i + 1)) (entry_at t (i + 2)) (entry_at t (i + 3)) ≡ true → Left (i + 4) (entry_at t (i + 3)).end
    unfolding four_orderly
    four_on o =
        let p = and_true (orderly at a) (orderly a.end b && (orderly b.end c && orderly c.end d)) o in
        let q = and_true (orderly a.end b) (orderly b.end c && orderly c.end d) p.1 in
        let r = and_true (orderly b.end c) (orderly c.end d) q.1 in
        on_d (on_c (on_b (on_a p.0) q.0) r.0) r.1

    pub four_bad : four_orderly at (entry_at t i) (entry_at t (i + 1)) (entry_at t (i + 2)) (entry_at t (i + 3)) ≡ false → false ≡ whole
    unfolding four_orderly
    four_bad o =
        either (bool_cases (orderly at a))
        (λ oa. either (bool_cases (orderly a.end b))
        (λ ob. either (bool_cases (orderly b.end c))
        (λ oc. order_bad (i + 3) c.end (on_c (on_b (on_a oa) ob) oc) d (omega arith) refl (last oa ob oc))
        (λ oc. order_bad (i + 2) b.end (on_b (on_a oa) ob) c (omega arith) refl oc))
        (λ ob. order_bad (i + 1) a.end (on_a oa) b (omega arith) refl ob))
        (λ oa. order_bad i at inv a (omega arith) refl oa)
      where
        last : orderly at a ≡ true → orderly a.end b ≡ true → orderly b.end c ≡ true → orderly c.end d ≡ false
        last oa ob oc =
            sym (ap (λ (x : Bool). x && (orderly a.end b && (orderly b.end c && orderly c.end d))) oa
            ∙ ap (λ (x : Bool). x && (orderly b.end c && orderly c.end d)) ob
            ∙ ap (λ (x : Bool). x && orderly c.end d) oc) ∙ o

  -- and the four behind these, f being the fourth row
  module _ (i at : ℕ) (inv : Left i at) (h : i + 8 ≤ count) (f : Entry) (is : f ≡ entry_at t (i + 3)) where
    half : four_orderly at (entry_at t i) (entry_at t (i + 1)) (entry_at t (i + 2)) (entry_at t (i + 3)) ≡ true → Left (i + 4) f.end
    half o = subst (λ (x : Entry). Left (i + 4) x.end) (sym is) (four_on i at inv (omega arith) o)

    pub eight_bad : four_orderly at (entry_at t i) (entry_at t (i + 1)) (entry_at t (i + 2)) (entry_at t (i + 3)) ≡ true
        → four_orderly f.end (entry_at t (i + 4)) (entry_at t (i + 4 + 1)) (entry_at t (i + 4 + 2)) (entry_at t (i + 4 + 3)) ≡ false → false ≡ whole
    eight_bad o p = four_bad (i + 4) f.end (half o) (omega arith) p

    pub eight_on : four_orderly at (entry_at t i) (entry_at t (i + 1)) (entry_at t (i + 2)) (entry_at t (i + 3)) ≡ true
        → four_orderly f.end (entry_at t (i + 4)) (entry_at t (i + 4 + 1)) (entry_at t (i + 4 + 2)) (entry_at t (i + 4 + 3)) ≡ true → (e : Entry) → e ≡ entry_at t (i + 7) → Left (i + 8) e.end
    eight_on o p e eis =
        let z : i + 4 + 4 ≡ i + 8 = omega arith in
        let w : i + 4 + 3 ≡ i + 7 = omega arith in
        subst (λ (k : ℕ). Left k e.end) z
        (subst (λ (x : Entry). Left (i + 4 + 4) x.end) (ap (entry_at t) w ∙ sym eis) (four_on (i + 4) f.end (half o) (omega arith) p))

-- the whole tape from its first row on
pub order_starts : (t : List ℕ) (count limit : ℕ) → Left t count limit (in_order (entries_of count t) limit) 0 0
unfolding in_order
order_starts t count limit = let z : count - 0 ≡ count = omega arith in ap (λ (n : ℕ). in_order_from (entries_of n t) 0 limit) z

-- entries that end within a limit end within a higher one
pub in_order_higher : (es : List Entry) (at limit more : ℕ) → limit ≤ more → in_order_from es at limit ≡ true → in_order_from es at more ≡ true
unfolding in_order_from
in_order_higher [] at limit more h e = le-leb at more (omega (arith, leb-true at limit e))
in_order_higher (x ∷ es) at limit more h e =
    let p = and_true (orderly at x) (in_order_from es x.end limit) e in
    simp (p.0, in_order_higher es x.end limit more h p.1)
