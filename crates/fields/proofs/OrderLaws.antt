-- The order of fields, by name and of one name by entry: it is transitive, and what stands between two of one name has that name. Assumes nothing.
use Prim.Native.Nat.{ℕ, ◌<◌}
use native.Mathlib.Omega.{arith}
use mathlib.Core.Path.{◌∙◌, ◌≡◌, ap, ap₂, refl, sym}
use mathlib.Core.List.{List, [], ◌∷◌}
use mathlib.Core.Bool.{Bool, true, false}
use lib.Dec.{ltb}
use borrow.Author.Tests.{eq-eqb, le-ltb, lt-ltb, ltb-false, ltb-true, ne_eqb}
use Rattle.text.proofs.Choices.{bool_cases, either}
use Rattle.std.specs.Cmp.Lexicographic.{slice_cmp}
use Rattle.std.specs.Ordering.{nat_cmp}
use Rattle.std.specs.declared.cmp.Ordering.{Ordering}
use Rattle.std.specs.declared.cmp.Ordering.TheVariants.{Less as Before, Equal as Same, Greater as Behind}
use Rattle.fields.specs.inner.Order.{order_of, by_order, comes_before}

true_false : {t : Bool} → t ≡ true → t ≡ false → ⊥
true_false e f = let z : ◌≡◌ {A = ℕ} 0 1 = cc in omega arith

-- ---- the order of names

order_self : (s : List ℕ) → order_of s s ≡ Same
unfolding order_of
order_self [] = refl
order_self (a ∷ s) = rw (le-ltb a a (omega arith)) (order_self s)

-- what a first byte decides
data First (a b : ℕ) : Type 0 where
  less : a < b → First a b
  alike : a ≡ b → First a b
  more : b < a → First a b

first-of : (a b : ℕ) → First a b
first-of a b = either (bool_cases (ltb a b)) (λ e. less (ltb-true a b e)) (λ e. either (bool_cases (ltb b a)) (λ f. more (ltb-true b a f)) (λ f. alike (omega (arith, ltb-false a b e, ltb-false b a f))))

module _ (a b : ℕ) (s t : List ℕ) where
  head_less : a < b → order_of (a ∷ s) (b ∷ t) ≡ Before
  unfolding order_of
  head_less h = rw (lt-ltb a b h)

  head_more : b < a → order_of (a ∷ s) (b ∷ t) ≡ Behind
  unfolding order_of
  head_more h = rw (le-ltb a b (omega arith), lt-ltb b a h)

  head_alike : a ≡ b → order_of (a ∷ s) (b ∷ t) ≡ order_of s t
  unfolding order_of
  head_alike h = rw (le-ltb a b (omega arith), le-ltb b a (omega arith))

-- it is the library's order of lists of numbers
pub order_is : (s t : List ℕ) → slice_cmp nat_cmp s t ≡ order_of s t
unfolding order_of
order_is [] [] = refl
order_is [] (b ∷ t) = refl
order_is (a ∷ s) [] = refl
order_is (a ∷ s) (b ∷ t) = heads a b s t (order_is s t) (first-of a b)
  where
    heads : (a b : ℕ) (s t : List ℕ) → slice_cmp nat_cmp s t ≡ order_of s t → First a b → slice_cmp nat_cmp (a ∷ s) (b ∷ t) ≡ order_of (a ∷ s) (b ∷ t)
    heads a b s t e (less h) = rw (lt-ltb a b h)
    heads a b s t e (alike h) = rw (le-ltb a b (omega arith), le-ltb b a (omega arith), eq-eqb a b h) e
    heads a b s t e (more h) = rw (le-ltb a b (omega arith), ne_eqb a b (λ f. omega arith), lt-ltb b a h)

behind_not : {A : Type 0} {x : Ordering} → x ≡ Behind → x ≡ Before → A
behind_not e f = let z : ◌≡◌ {A = ℕ} 0 1 = cc in absurd (omega arith)

same_before : {A : Type 0} {x : Ordering} → x ≡ Same → x ≡ Before → A
same_before e f = let z : ◌≡◌ {A = ℕ} 0 1 = cc in absurd (omega arith)

same_behind : {A : Type 0} {x : Ordering} → x ≡ Same → x ≡ Behind → A
same_behind e f = let z : ◌≡◌ {A = ℕ} 0 1 = cc in absurd (omega arith)

order_same : (s t : List ℕ) → order_of s t ≡ Same → s ≡ t
unfolding order_of
order_same [] [] e = refl
order_same [] (b ∷ t) e = same_before e refl
order_same (a ∷ s) [] e = same_behind e refl
order_same (a ∷ s) (b ∷ t) e = same_heads a b s t e (order_same s t) (first-of a b)
  where
    same_heads : (a b : ℕ) (s t : List ℕ) → order_of (a ∷ s) (b ∷ t) ≡ Same → (order_of s t ≡ Same → s ≡ t) → First a b → a ∷ s ≡ b ∷ t
    same_heads a b s t e f (less h) = same_before e (head_less a b s t h)
    same_heads a b s t e f (more h) = same_behind e (head_more a b s t h)
    same_heads a b s t e f (alike h) = ap₂ ◌∷◌ h (f (sym (head_alike a b s t h) ∙ e))

-- the other way round
order_flip : (s t : List ℕ) → order_of s t ≡ Before → order_of t s ≡ Behind
unfolding order_of
order_flip [] [] e = same_before refl e
order_flip [] (b ∷ t) e = refl
order_flip (a ∷ s) [] e = behind_not refl e
order_flip (a ∷ s) (b ∷ t) e = flip_heads a b s t e (order_flip s t) (first-of a b)
  where
    flip_heads : (a b : ℕ) (s t : List ℕ) → order_of (a ∷ s) (b ∷ t) ≡ Before → (order_of s t ≡ Before → order_of t s ≡ Behind) → First a b → order_of (b ∷ t) (a ∷ s) ≡ Behind
    flip_heads a b s t e f (less h) = head_more b a t s h
    flip_heads a b s t e f (more h) = behind_not (head_more a b s t h) e
    flip_heads a b s t e f (alike h) = head_alike b a t s (sym h) ∙ f (sym (head_alike a b s t h) ∙ e)

order_trans : (s t u : List ℕ) → order_of s t ≡ Before → order_of t u ≡ Before → order_of s u ≡ Before
unfolding order_of
order_trans [] [] u e f = same_before refl e
order_trans (a ∷ s) [] u e f = behind_not refl e
order_trans s (b ∷ t) [] e f = behind_not refl f
order_trans [] (b ∷ t) (c ∷ u) e f = refl
order_trans (a ∷ s) (b ∷ t) (c ∷ u) e f = trans_heads a b c s t u e f (order_trans s t u) (first-of a b) (first-of b c)
  where
    trans_heads : (a b c : ℕ) (s t u : List ℕ) → order_of (a ∷ s) (b ∷ t) ≡ Before → order_of (b ∷ t) (c ∷ u) ≡ Before
        → (order_of s t ≡ Before → order_of t u ≡ Before → order_of s u ≡ Before) → First a b → First b c → order_of (a ∷ s) (c ∷ u) ≡ Before
    trans_heads a b c s t u e f g (more h) k = behind_not (head_more a b s t h) e
    trans_heads a b c s t u e f g (less h) (more k) = behind_not (head_more b c t u k) f
    trans_heads a b c s t u e f g (alike h) (more k) = behind_not (head_more b c t u k) f
    trans_heads a b c s t u e f g (less h) (less k) = head_less a c s u (omega arith)
    trans_heads a b c s t u e f g (less h) (alike k) = head_less a c s u (omega arith)
    trans_heads a b c s t u e f g (alike h) (less k) = head_less a c s u (omega arith)
    trans_heads a b c s t u e f g (alike h) (alike k) = head_alike a c s u (h ∙ k) ∙ g (sym (head_alike a b s t h) ∙ e) (sym (head_alike b c t u k) ∙ f)

-- ---- the order of fields

pub data Less (nm : ℕ → List ℕ) (x y : ℕ) : Type 0 where
  by-name : order_of (nm x) (nm y) ≡ Before → Less nm x y
  by_entry : nm x ≡ nm y → x < y → Less nm x y

module _ (nm : ℕ → List ℕ) where
  pub before_less : (x y : ℕ) → comes_before nm x y ≡ true → Less nm x y
  before_less x y e = decided (order_of (nm x) (nm y)) refl e
    where
      decided : (o : Ordering) → order_of (nm x) (nm y) ≡ o → by_order o x y ≡ true → Less nm x y
      decided Before h e = by-name h
      decided Same h e = by_entry (order_same (nm x) (nm y) h) (ltb-true x y e)
      decided Behind h e = absurd (true_false e refl)

  pub less_trans : {x y z : ℕ} → Less nm x y → Less nm y z → Less nm x z
  less_trans {x} {y} {z} (by-name e) (by-name f) = by-name (order_trans (nm x) (nm y) (nm z) e f)
  less_trans {x} {y} {z} (by-name e) (by_entry f h) = by-name (ap (order_of (nm x)) (sym f) ∙ e)
  less_trans {x} {y} {z} (by_entry e h) (by-name f) = by-name (ap (λ (s : List ℕ). order_of s (nm z)) e ∙ f)
  less_trans {x} {y} {z} (by_entry e h) (by_entry f k) = by_entry (e ∙ f) (omega arith)

  -- of one name by the entry
  pub less_alike : {x y : ℕ} → Less nm x y → nm x ≡ nm y → x < y
  less_alike {x} {y} (by-name e) f = same_before (ap (order_of (nm x)) (sym f) ∙ order_self (nm x)) e
  less_alike (by_entry e h) f = h

  -- what stands between two of one name has it
  pub less_between : {x y z : ℕ} → Less nm x y → Less nm y z → nm x ≡ nm z → nm y ≡ nm z
  less_between {x} {y} {z} (by-name e) (by-name f) g = behind_not (ap (order_of (nm y)) (sym g) ∙ order_flip (nm x) (nm y) e) f
  less_between (by-name e) (by_entry f k) g = f
  less_between (by_entry e h) k g = sym e ∙ g
