-- A bracket closes: the first of its fields, as they lie in the array, and what of the array stays. Assumes nothing.
use Rattle.std.proofs.Common.{Option}
use Prim.Native.Nat.{ℕ, zero, suc, ◌+◌, ◌<◌, ◌≤◌}
use native.Mathlib.Nat.{not-suc-le-zero}
use native.Mathlib.Omega.{arith}
use mathlib.Core.List.{List, ◌∷◌, ◌++◌}
use mathlib.Core.Path.{◌≡◌, ◌∙◌, subst, sym}
use lib.ListN.{length, get_or, take, drop, length-drop, get_or-append}
use lib.Seq.{get_or-take, get_or-drop, length-take-le}
use borrow.Rule.Slice.PartMut.{put_mid, same_len_mid}
use Rattle.text.proofs.Choices.{either, lt_or_le}
use Rattle.fields.specs.inner.Again.{In, FirstIn, earlier}
use Rattle.fields.specs.Fields.{is_named}
use Rattle.fields.proofs.FirstLaws.{first_unique}
use Rattle.walk.specs.inner.Gathered.{part, Alike, again_in}
use Rattle.walk.proofs.AgainLaws.{earlier_nowhere}
use Rattle.walk.proofs.FirstAgain.{in_none, in_cases, in_here, in_there, Falling, first_again, first_same}

-- none or one
pub few_nowhere : (nm : ℕ → List ℕ) (f : List ℕ) (a n : ℕ) (found : Option ℕ) → n ≤ 1 → found ≡ earlier found (again_in nm (part f a n))
unfolding again_in part is_named
few_nowhere nm f a zero found h = sym (earlier_nowhere found)
few_nowhere nm f a (suc zero) found h = sym (earlier_nowhere found)
few_nowhere nm f a (suc (suc n)) found h = absurd (omega arith)

-- where one of a part lies
pub record Lies (f : List ℕ) (a n x : ℕ) : Type 0 where
  pub place : ℕ
  pub inside : place < n
  pub there : get_or f (a + place) 0 ≡ x

part_lies : (f : List ℕ) (a n x : ℕ) → In x (part f a n) → Lies f a n x
unfolding part
part_lies f a zero x p = in_none x p
part_lies f a (suc n) x p =
    in_cases x (get_or f (a + n) 0) (part f a n) p
    (λ e. record { place = n; inside = omega arith; there = e })
    (λ q. let l = part_lies f a n x q in record { place = l.place; inside = let z = l.inside in omega arith; there = l.there })

lies_part : (f : List ℕ) (a n p : ℕ) → p < n → In (get_or f (a + p) 0) (part f a n)
unfolding part
lies_part f a zero p h = absurd (not-suc-le-zero h)
lies_part f a (suc n) p h =
    either (lt_or_le p n)
    (λ l. in_there (get_or f (a + p) 0) (get_or f (a + n) 0) (part f a n) (lies_part f a n p l))
    (λ l. let e : n ≡ p = omega arith in subst (λ (m : ℕ). In (get_or f (a + m) 0) (get_or f (a + n) 0 ∷ part f a n)) e (in_here (get_or f (a + n) 0) (part f a n)))

module _ (f : List ℕ) (a n : ℕ) (fits : a + n ≤ length f) where
  -- the same part as it is lent
  abbrev lent : List ℕ
  lent = take n (drop a f)

  pub lent_length : length lent ≡ n
  lent_length = length-take-le n (drop a f) (subst (λ (m : ℕ). n ≤ m) (sym (length-drop a f)) (omega arith))

  lent_at : (p : ℕ) → p < n → get_or lent p 0 ≡ get_or f (a + p) 0
  lent_at p h = get_or-take n (drop a f) p 0 h ∙ get_or-drop a f p 0

  pub lent_lies : (x : ℕ) → In x lent → Lies f a n x
  lent_lies x p = let h : p.place < n = let z = p.inside in let y = lent_length in omega arith in record { place = p.place; inside = h; there = sym (lent_at p.place h) ∙ p.there }

  lies_lent : (x : ℕ) → Lies f a n x → In x lent
  lies_lent x l = record { place = l.place; inside = let z = l.inside in let y = lent_length in omega arith; there = lent_at l.place l.inside ∙ l.there }

  to_part : (x : ℕ) → In x lent → In x (part f a n)
  to_part x p = let l = lent_lies x p in subst (λ (y : ℕ). In y (part f a n)) l.there (lies_part f a n l.place l.inside)

  falling : (m : ℕ) → ((p q : ℕ) → p < q → q < m → get_or f (a + p) 0 < get_or f (a + q) 0) → Falling (part f a m)
  unfolding part
  falling zero h = tt
  falling (suc m) h = (
    (λ x p. let l = part_lies f a m x p in subst (λ (y : ℕ). y < get_or f (a + m) 0) l.there (h l.place m l.inside (omega arith))),
    falling m (λ p q u v. h p q u (omega arith)),
  )

  -- what the search tells of the part is the first of it
  pub search_tells : (nm : ℕ → List ℕ) (r : Option ℕ) → ((p q : ℕ) → p < q → q < n → get_or f (a + p) 0 < get_or f (a + q) 0) → FirstIn nm lent r → r ≡ again_in nm (part f a n)
  search_tells nm r h t =
      first_unique nm (part f a n) r (again_in nm (part f a n)) (first_same nm lent (part f a n) to_part (λ x p. lies_lent x (part_lies f a n x p)) r t) (first_again nm (part f a n) (falling n h))

  -- and another order of it leaves what stands before it
  pub lent_back : (ys : List ℕ) → length ys ≡ length lent → Alike f (put_mid a n f ys) a
  lent_back ys e =
      record {
        as_long = same_len_mid a n f ys e;
        below = λ p h. get_or-append (take a f) (ys ++ drop n (drop a f)) 0 p (let z = length-take-le a f (omega arith) in omega arith) ∙ get_or-take a f p 0 h;
      }
