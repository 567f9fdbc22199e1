-- Brackets are joined in one way only: two lists of links that join the brackets of the same entries are equal.
--     shorter       no bracket's partner stands before the one that other links give it
--     one-opening   an opening bracket has one partner
--     one_link      an entry has one link
--     one-nesting   the links are equal
-- Assumes nothing.
use Prim.Native.Nat.{ℕ, zero, suc, ◌+◌, ◌<◌, ◌≤◌}
use native.Mathlib.Omega.{arith}
use mathlib.Core.Path.{◌≡◌, refl, sym, ap, ◌∙◌}
use mathlib.Core.List.{List}
use lib.ListN.{length}
use lib.Seq.{ext_get_or}
use Rattle.text.proofs.Choices.{either, lt_or_le}
use Rattle.grammar.specs.declared.kinds.Kind.{Kind}
use Rattle.grammar.specs.declared.kinds.Side.{Side}
use Rattle.grammar.specs.declared.kinds.Side.TheVariants.{Opens, Closes, Neither}
use Rattle.grammar.specs.Kinds.{side_of}
use Rattle.grammar.specs.Nested.{Partner, rounds, squares, curlies, kind_at, link_at, Joined, alone, opens, closes, Nested}

-- ---- the kind of an entry says which way it is joined

-- of two partners the first opens
first_opens : {a b : Kind} → Partner a b → side_of a ≡ Opens
first_opens rounds = refl
first_opens squares = refl
first_opens curlies = refl

-- and the second closes
second_closes : {a b : Kind} → Partner a b → side_of b ≡ Closes
second_closes rounds = refl
second_closes squares = refl
second_closes curlies = refl

-- an entry is on one side only
opens_closes : {x : Side} → x ≡ Opens → x ≡ Closes → ⊥
opens_closes e f = let z : ◌≡◌ {A = ℕ} 0 1 = cc in omega arith

opens_neither : {x : Side} → x ≡ Opens → x ≡ Neither → ⊥
opens_neither e f = let z : ◌≡◌ {A = ℕ} 0 1 = cc in omega arith

closes_neither : {x : Side} → x ≡ Closes → x ≡ Neither → ⊥
closes_neither e f = let z : ◌≡◌ {A = ℕ} 0 1 = cc in omega arith

module _ (ks : List Kind) (l : List ℕ) (i : ℕ) where
  -- an opening bracket's partner is a closing one behind it, which links back
  record Ahead : Type 0 where
    later : i < link_at ks l i
    inside : link_at ks l i < length ks
    side : side_of (kind_at ks l (link_at ks l i)) ≡ Closes
    back : link_at ks l (link_at ks l i) ≡ i

  -- a closing bracket's partner is an opening one before it, which links back
  record Aback : Type 0 where
    earlier : link_at ks l i < i
    side : side_of (kind_at ks l (link_at ks l i)) ≡ Opens
    back : link_at ks l (link_at ks l i) ≡ i

  -- which way an entry is joined is told by its side
  opening : side_of (kind_at ks l i) ≡ Opens → Joined ks l i → Ahead
  opening e (alone s h) = absurd (opens_neither e s)
  opening e (opens a b p h) = record { later = a; inside = b; side = second_closes p; back = h }
  opening e (closes a p h) = absurd (opens_closes e (second_closes p))

  closing : side_of (kind_at ks l i) ≡ Closes → Joined ks l i → Aback
  closing e (alone s h) = absurd (closes_neither e s)
  closing e (opens a b p h) = absurd (opens_closes (first_opens p) e)
  closing e (closes a p h) = record { earlier = a; side = first_opens p; back = h }

  itself : side_of (kind_at ks l i) ≡ Neither → Joined ks l i → link_at ks l i ≡ i
  itself e (alone s h) = h
  itself e (opens a b p h) = absurd (opens_neither (first_opens p) e)
  itself e (closes a p h) = absurd (closes_neither (second_closes p) e)

-- ---- an opening bracket has one partner

module _ (ks : List Kind) where
  -- the same links wherever a bracket opens and its first partner is at most n entries on
  abbrev Same : List ℕ → List ℕ → ℕ → Type 0
  Same l l' n = (i : ℕ) → i < length ks → side_of (kind_at ks l i) ≡ Opens → link_at ks l i ≤ i + n → link_at ks l i ≡ link_at ks l' i

  -- no bracket's partner stands before the one that other links give it: it would be joined inside the longer stretch, and to a bracket whose own stretch
  -- ends before it
  shorter : (l l' : List ℕ) (n : ℕ) → Nested ks l → Nested ks l' → Same l l' n
      → (i : ℕ) → i < length ks → side_of (kind_at ks l i) ≡ Opens → link_at ks l i ≤ i + suc n → link_at ks l i < link_at ks l' i → ⊥
  shorter l l' n N N' same i h e near lt =
      let j = link_at ks l i in
      let a = opening ks l i e (N.joined i h) in
      let m = link_at ks l' j in
      let b = closing ks l' j a.side (N'.joined j a.inside) in
      let w = N'.within i j h a.later lt in
      let v = N.within i m h w.0 b.earlier in
      let q : link_at ks l m ≡ link_at ks l' m = same m (omega (arith, b.earlier, a.inside)) b.side (omega (arith, v.1, w.0, near)) in
      omega (arith, q, b.back, v.1)

  -- an opening bracket has one partner, by how far the nearer of two is
  one_opening : (l l' : List ℕ) (n : ℕ) → Nested ks l → Nested ks l' → Same l l' n × Same l' l n
  one_opening l l' zero N N' = (
    (λ i h e near. absurd (omega (arith, (opening ks l i e (N.joined i h)).later, near))),
    λ i h e near. absurd (omega (arith, (opening ks l' i e (N'.joined i h)).later, near)),
  )
  one_opening l l' (suc n) N N' =
      let r = one_opening l l' n N N' in (
        (λ i h e near. equal i (λ (lt : link_at ks l i < link_at ks l' i). shorter l l' n N N' r.0 i h e near lt)
            λ (lt : link_at ks l' i < link_at ks l i). shorter l' l n N' N r.1 i h e (omega arith) lt),
        λ i h e near. sym (equal i (λ (lt : link_at ks l i < link_at ks l' i). shorter l l' n N N' r.0 i h e (omega arith) lt)
            λ (lt : link_at ks l' i < link_at ks l i). shorter l' l n N' N r.1 i h e near lt),
      )
    where
      equal : (i : ℕ) → (link_at ks l i < link_at ks l' i → ⊥) → (link_at ks l' i < link_at ks l i → ⊥) → link_at ks l i ≡ link_at ks l' i
      equal i f g =
          either (lt_or_le (link_at ks l i) (link_at ks l' i)) (λ lt. absurd (f lt)) (λ le. either (lt_or_le (link_at ks l' i) (link_at ks l i)) (λ lt. absurd (g lt)) (λ ge. omega arith))

  module _ (l l' : List ℕ) (N : Nested ks l) (N' : Nested ks l') where
    -- so an opening bracket has one link, a closing one that of its partner, and any other entry its own number
    opening_same : (i : ℕ) → i < length ks → side_of (kind_at ks l i) ≡ Opens → link_at ks l i ≡ link_at ks l' i
    opening_same i h e = (one_opening l l' (link_at ks l i) N N').0 i h e (omega arith)

    closing_same : (i : ℕ) → i < length ks → side_of (kind_at ks l i) ≡ Closes → link_at ks l i ≡ link_at ks l' i
    closing_same i h e =
        let a = closing ks l i e (N.joined i h) in
        let m = link_at ks l i in
        let q : link_at ks l m ≡ link_at ks l' m = opening_same m (omega (arith, a.earlier)) a.side in
        let b = opening ks l' m a.side (N'.joined m (omega (arith, a.earlier))) in
        sym (ap (link_at ks l') (sym (sym q ∙ a.back)) ∙ b.back)

    by_side : (x : Side) (i : ℕ) → i < length ks → side_of (kind_at ks l i) ≡ x → link_at ks l i ≡ link_at ks l' i
    by_side Opens i h e = opening_same i h e
    by_side Closes i h e = closing_same i h e
    by_side Neither i h e = itself ks l i e (N.joined i h) ∙ sym (itself ks l' i e (N'.joined i h))

    -- an entry has one link
    one_link : (i : ℕ) → i < length ks → link_at ks l i ≡ link_at ks l' i
    one_link i h = by_side (side_of (kind_at ks l i)) i h refl

-- ---- the links are equal

-- two lists of links that join the brackets of the same entries are equal
pub one_nesting : (ks : List Kind) (l l' : List ℕ) → Nested ks l → Nested ks l' → l ≡ l'
one_nesting ks l l' N N' = ext_get_or 0 l l' (N.one_each ∙ sym N'.one_each) (λ i h. one_link ks l l' N N' i (omega (arith, N.one_each)))
