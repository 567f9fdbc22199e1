-- What the search over a list of fields tells is the first in the order in which they were gathered. Assumes nothing.
use Rattle.std.proofs.Common.{Option}
use Prim.Native.Nat.{ℕ, zero, suc, ◌<◌}
use native.Mathlib.Nat.{not-suc-le-zero}
use native.Mathlib.Omega.{arith}
use mathlib.Core.Bool.{Bool, true, false, cond}
use mathlib.Core.List.{List, [], ◌∷◌}
use mathlib.Core.Path.{◌≡◌, ◌∙◌, ap, refl, sym}
use lib.ListN.{length, get_or}
use Rattle.text.proofs.Choices.{or_cases, or_right, either}
use Rattle.fields.specs.inner.Again.{In, Repeats, FirstIn, nowhere, at}
use Rattle.fields.specs.Fields.{same, is_named}
use Rattle.fields.proofs.SameLaws.{same_is, same_self}
use Rattle.walk.specs.inner.Gathered.{or_at, again_in}

-- ---- one of a list

pub in_none : {A : Type 0} (x : ℕ) → In x [] → A
in_none x p = absurd (not-suc-le-zero p.inside)

pub in_here : (e : ℕ) (es : List ℕ) → In e (e ∷ es)
in_here e es = record { place = 0; inside = omega arith; there = refl }

pub in_there : (x e : ℕ) (es : List ℕ) → In x es → In x (e ∷ es)
in_there x e es p = record { place = suc p.place; inside = let z = p.inside in omega arith; there = p.there }

pub in_cases : {A : Type 0} (x e : ℕ) (es : List ℕ) → In x (e ∷ es) → (e ≡ x → A) → (In x es → A) → A
in_cases {A} x e es p a b = go p.place p.inside p.there
  where
    go : (n : ℕ) → n < length (e ∷ es) → get_or (e ∷ es) n 0 ≡ x → A
    go zero i t = a t
    go (suc n) i t = b (record { place = n; inside = omega arith; there = t })

-- ---- latest first

-- each entry is later than those behind it
abbrev pub Falling : List ℕ → Type 0
Falling [] = Unit {0}
Falling (e ∷ es) = ((x : ℕ) → In x es → x < e) × Falling es

module _ (nm : ℕ → List ℕ) where
  clash : {A : Type 0} → true ≡ false → A
  clash e = let z : ◌≡◌ {A = ℕ} 0 1 = cc in absurd (omega arith)

  -- one of them has the name
  pub record Namesake (i : ℕ) (es : List ℕ) : Type 0 where
    pub other : ℕ
    pub is_one : In other es
    pub alike : nm other ≡ nm i

  pub named_yes : (i : ℕ) (es : List ℕ) → is_named nm i es ≡ true → Namesake i es
  unfolding is_named
  named_yes i [] e = clash (sym e)
  named_yes i (x ∷ es) e =
      either (or_cases (same (nm i) (nm x)) (is_named nm i es) e)
      (λ q. record { other = x; is_one = in_here x es; alike = sym (same_is (nm i) (nm x) q) })
      (λ q. let n = named_yes i es q in record { other = n.other; is_one = in_there n.other x es n.is_one; alike = n.alike })

  pub named_no : (i : ℕ) (es : List ℕ) → is_named nm i es ≡ false → (x : ℕ) → In x es → nm x ≡ nm i → ⊥
  unfolding is_named
  named_no i [] e x p q = in_none x p
  named_no i (y ∷ es) e x p q =
      in_cases x y es p
      (λ z. clash (sym (rw (ap (same (nm i)) (ap nm z ∙ q) ∙ same_self (nm i)) refl) ∙ e))
      (λ z. named_no i es (or_right (same (nm i) (nm y)) (is_named nm i es) e) x z q)

  -- those of a longer list
  longer : (e : ℕ) (es : List ℕ) (j : ℕ) → Repeats nm es j → Repeats nm (e ∷ es) j
  longer e es j r =
      record { is_one = in_there j e es r.is_one; former = r.former; also = in_there r.former e es r.also; before = r.before; alike = r.alike }

  -- in a falling list, what repeats is the latest, with a namesake behind it, or repeats there
  shorter : {A : Type 0} (e : ℕ) (es : List ℕ) → Falling (e ∷ es) → (j : ℕ) → Repeats nm (e ∷ es) j → (e ≡ j → Namesake e es → A) → (Repeats nm es j → A) → A
  shorter {A = A} e es h j r a b =
      in_cases r.former e es r.also
      (λ z. in_cases {A = A} j e es r.is_one (λ y. absurd (absurd_same z y)) (λ y. absurd (absurd_less z (h.0 j y))))
      (λ z. in_cases {A = A} j e es r.is_one
      (λ y. a y (record { other = r.former; is_one = z; alike = r.alike ∙ ap nm (sym y) }))
      (λ y. b (record { is_one = y; former = r.former; also = z; before = r.before; alike = r.alike })))
    where
      absurd_same : e ≡ r.former → e ≡ j → ⊥
      absurd_same z y = let w = r.before in omega arith

      absurd_less : e ≡ r.former → j < e → ⊥
      absurd_less z y = let w = r.before in omega arith

  first_step : (e : ℕ) (es : List ℕ) → Falling (e ∷ es) → (b : Bool) → is_named nm e es ≡ b → (a : Option ℕ) → FirstIn nm es a → FirstIn nm (e ∷ es) (cond b (or_at a e) a)
  first_step e es h false p a (nowhere n) = nowhere (λ j r. shorter e es h j r (λ y m. named_no e es p m.other m.is_one m.alike) (n j))
  first_step e es h false p a (at j r l) =
      at j (longer e es j r) (λ i q. shorter e es h i q (λ y m. absurd (named_no e es p m.other m.is_one m.alike)) (l i))
  first_step e es h true p a (nowhere n) =
      let m = named_yes e es p in
      at e (record { is_one = in_here e es; former = m.other; also = in_there m.other e es m.is_one; before = h.0 m.other m.is_one; alike = m.alike })
      (λ i q. shorter e es h i q (λ y m. omega arith) (λ r. absurd (n i r)))
  first_step e es h true p a (at j r l) =
      at j (longer e es j r) (λ i q. shorter e es h i q (λ y m. let z = h.0 j r.is_one in omega arith) (l i))

  pub first_again : (es : List ℕ) → Falling es → FirstIn nm es (again_in nm es)
  unfolding again_in
  first_again [] h = nowhere (λ j r. in_none j r.is_one)
  first_again (e ∷ es) h = first_step e es h (is_named nm e es) refl (again_in nm es) (first_again es h.1)

  moved : (es fs : List ℕ) → ((x : ℕ) → In x es → In x fs) → (j : ℕ) → Repeats nm es j → Repeats nm fs j
  moved es fs t j r = record { is_one = t j r.is_one; former = r.former; also = t r.former r.also; before = r.before; alike = r.alike }

  -- the same entries in another order have the same first
  pub first_same : (es fs : List ℕ) → ((x : ℕ) → In x es → In x fs) → ((x : ℕ) → In x fs → In x es) → (a : Option ℕ) → FirstIn nm es a → FirstIn nm fs a
  first_same es fs p q a (nowhere n) = nowhere (λ j r. n j (moved fs es q j r))
  first_same es fs p q a (at j r l) = at j (moved es fs p j r) (λ i s. l i (moved fs es q i s))
