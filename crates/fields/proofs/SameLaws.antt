-- Two names are the same bytes exactly where they are one list; and the loop that orders them. Assumes nothing.
use Prim.Native.Nat.{◌+◌, ◌<◌, ◌≤◌, ℕ}
use native.Mathlib.Omega.{arith}
use mathlib.Core.Bool.{Bool, ◌&&◌, false, true}
use mathlib.Core.List.{List, [], ◌∷◌}
use mathlib.Core.Path.{◌∙◌, ◌≡◌, ap, ap₂, refl, sym}
use lib.Dec.{eqb}
use lib.ListN.{drop, drop_of_length-le, get_or, length}
use lib.Pointwise.{pointwise}
use borrow.Author.Tests.{eq-eqb, eqb-true, lt-ltb, le-ltb}
use Rattle.text.proofs.Choices.{and_true}
use Rattle.text.proofs.Lists.{front}
use Rattle.std.specs.declared.cmp.Ordering.TheVariants.{Less as Before, Equal as Same, Greater as Behind}
use Rattle.fields.specs.Fields.{same}
use Rattle.fields.specs.inner.Order.{order_of}

-- ---- what `same` says

pub same_is : (a b : List ℕ) → same a b ≡ true → a ≡ b
unfolding same
same_is [] [] e = refl
same_is [] (b ∷ t) e = let z : ◌≡◌ {A = ℕ} 0 1 = cc in absurd (omega arith)
same_is (a ∷ s) [] e = let z : ◌≡◌ {A = ℕ} 0 1 = cc in absurd (omega arith)
same_is (a ∷ s) (b ∷ t) e =
    let p = and_true (eqb a b) (same s t) e in
    ap₂ {C = List ℕ} (λ (x : ℕ) (l : List ℕ). x ∷ l) (eqb-true a b p.0) (same_is s t p.1)

pub same_self : (a : List ℕ) → same a a ≡ true
unfolding same
same_self [] = refl
same_self (a ∷ s) = rw (eq-eqb a a refl, same_self s)

pub same_not : (a b : List ℕ) → same a b ≡ false → a ≡ b → ⊥
same_not a b n e =
    let t : true ≡ false = sym (same_self a) ∙ ap (same a) e ∙ n in
    let z : ◌≡◌ {A = ℕ} 0 1 = cc in
    omega arith

-- it is the library's `==` of lists of numbers
pub same_each : (a b : List ℕ) → pointwise eqb a b ≡ same a b
unfolding same
same_each [] [] = refl
same_each [] (b ∷ t) = refl
same_each (a ∷ s) [] = refl
same_each (a ∷ s) (b ∷ t) = ap (λ (r : Bool). eqb a b && r) (same_each s t)

-- ---- the order from a place on, as a loop asks for it

module _ (a b : List ℕ) (i : ℕ) where
  pub order_end : length a ≤ i → length b ≤ i → order_of (drop i a) (drop i b) ≡ Same
  unfolding order_of
  order_end h k = rw (drop_of_length-le a h, drop_of_length-le b k)

  pub order_short : length a ≤ i → i < length b → order_of (drop i a) (drop i b) ≡ Before
  unfolding order_of
  order_short h k = rw (drop_of_length-le a h, front b i k)

  pub order_long : i < length a → length b ≤ i → order_of (drop i a) (drop i b) ≡ Behind
  unfolding order_of
  order_long h k = rw (front a i h, drop_of_length-le b k)

  pub order_below : i < length a → i < length b → get_or a i 0 < get_or b i 0 → order_of (drop i a) (drop i b) ≡ Before
  unfolding order_of
  order_below h k l = rw (front a i h, front b i k, lt-ltb (get_or a i 0) (get_or b i 0) l)

  pub order_above : i < length a → i < length b → get_or b i 0 < get_or a i 0 → order_of (drop i a) (drop i b) ≡ Behind
  unfolding order_of
  order_above h k l = rw (front a i h, front b i k, le-ltb (get_or a i 0) (get_or b i 0) (omega arith), lt-ltb (get_or b i 0) (get_or a i 0) l)

  pub order_more : i < length a → i < length b → get_or b i 0 ≤ get_or a i 0 → get_or a i 0 ≤ get_or b i 0
      → order_of (drop i a) (drop i b) ≡ order_of (drop (i + 1) a) (drop (i + 1) b)
  unfolding order_of
  order_more h k l m = rw (front a i h, front b i k, le-ltb (get_or a i 0) (get_or b i 0) l, le-ltb (get_or b i 0) (get_or a i 0) m)
