-- Two ways to split one list of entries. Assumes nothing.
use mathlib.Core.Path.{◌≡◌, refl, sym, ap}
use mathlib.Core.List.{List, [], ◌∷◌, ◌++◌}
use Rattle.grammar.specs.declared.kinds.Kind.{Kind}

-- the entries up to one, and others behind it
pub append_one : (a : List Kind) (k : Kind) (r : List Kind) → (a ++ k ∷ []) ++ r ≡ a ++ k ∷ r
append_one [] k r = refl
append_one (x ∷ a) k r = ap (λ (l : List Kind). x ∷ l) (append_one a k r)

-- two places in one list of entries: the same, or one before the other
pub data Compared (a : List Kind) (x : Kind) (b : List Kind) (y : Kind) : Type 0 where
  alike : a ≡ b → x ≡ y → Compared a x b y
  first_ends : (m : List Kind) → b ≡ a ++ x ∷ m → Compared a x b y
  second_ends : (m : List Kind) → a ≡ b ++ y ∷ m → Compared a x b y

longer : (z w : Kind) (a b : List Kind) (x y : Kind) → z ≡ w → Compared a x b y → Compared (z ∷ a) x (w ∷ b) y
longer z w a b x y e (alike p q) = alike (cc) q
longer z w a b x y e (first_ends m p) = first_ends m (cc)
longer z w a b x y e (second_ends m p) = second_ends m (cc)

pub compared : (a : List Kind) (x : Kind) (c b : List Kind) (y : Kind) (d : List Kind) → a ++ x ∷ c ≡ b ++ y ∷ d → Compared a x b y
compared [] x c [] y d e = let q : x ≡ y = cc in alike refl q
compared [] x c (w ∷ b) y d e = let q : x ≡ w = cc in first_ends b (ap (λ (k : Kind). k ∷ b) (sym q))
compared (z ∷ a) x c [] y d e = let q : z ≡ y = cc in second_ends a (ap (λ (k : Kind). k ∷ a) q)
compared (z ∷ a) x c (w ∷ b) y d e =
    let q : z ≡ w = cc in
    let r : a ++ x ∷ c ≡ b ++ y ∷ d = cc in
    longer z w a b x y q (compared a x c b y d r)
