-- The earlier of two fields that are named again: laws of `earlier`, and what one more field does to the first of several brackets. Assumes nothing.
use Rattle.std.proofs.Common.{Some, None, Option}
use Prim.Native.Nat.{ℕ, ◌<◌}
use native.Mathlib.Omega.{arith}
use mathlib.Core.Bool.{Bool, true, false, cond}
use mathlib.Core.Path.{◌≡◌, refl, sym}
use lib.Dec.{ltb}
use borrow.Author.Tests.{lt-ltb, le-ltb, ltb-true, ltb-false}
use Rattle.fields.specs.inner.Again.{earlier}
use Rattle.walk.specs.inner.Gathered.{or_at}

-- the first, where there is one, and else the second
abbrev pub or_else : Option ℕ → Option ℕ → Option ℕ
or_else None b = b
or_else (Some i) b = Some i

pub somewhere : {A : Type 0} (i : ℕ) → ◌≡◌ {A = Option ℕ} (Some i) (None) → A
somewhere i e = let z : ◌≡◌ {A = ℕ} 0 1 = cc in absurd (omega arith)

pub one_place : (i j : ℕ) → ◌≡◌ {A = Option ℕ} (Some i) (Some j) → i ≡ j
one_place i j e = cc

pub earlier_nowhere : (a : Option ℕ) → earlier a None ≡ a
earlier_nowhere None = refl
earlier_nowhere (Some i) = refl

three : (i j k : ℕ) (p q : Bool) → ltb k j ≡ p → ltb j i ≡ q → earlier (Some i) (cond p (Some k) (Some j)) ≡ earlier (cond q (Some j) (Some i)) (Some k)
three i j k true true p q = let a = ltb-true k j p in let b = ltb-true j i q in rw (lt-ltb k i (omega arith)) (rw p refl)
three i j k true false p q = refl
three i j k false true p q = rw q (rw p refl)
three i j k false false p q = let a = ltb-false k j p in let b = ltb-false j i q in rw q (rw (le-ltb k i (omega arith)) refl)

pub earlier_assoc : (a b c : Option ℕ) → earlier a (earlier b c) ≡ earlier (earlier a b) c
earlier_assoc None b c = refl
earlier_assoc (Some i) None c = refl
earlier_assoc (Some i) (Some j) None = sym (earlier_nowhere (cond (ltb j i) (Some j) (Some i)))
earlier_assoc (Some i) (Some j) (Some k) = three i j k (ltb k j) (ltb j i) refl refl

-- ---- entry i, which has the name of an earlier one, is one more field of the middle bracket

pub noted_none : (a b c : Option ℕ) (i : ℕ) → earlier a (earlier b c) ≡ None → earlier a (earlier (or_at b i) c) ≡ Some i
noted_none None None None i e = refl
noted_none None None (Some k) i e = somewhere k e
noted_none None (Some m) None i e = somewhere m e
noted_none None (Some m) (Some k) i e = go (ltb k m) e
  where
    go : {A : Type 0} (p : Bool) → ◌≡◌ {A = Option ℕ} (cond p (Some k) (Some m)) (None) → A
    go true e = somewhere k e
    go false e = somewhere m e
noted_none (Some n) b c i e = go (earlier b c) e
  where
    go : {A : Type 0} (x : Option ℕ) → earlier (Some n) x ≡ None → A
    go None e = somewhere n e
    go (Some k) e = by (ltb k n) e
      where
        by : {A : Type 0} (p : Bool) → ◌≡◌ {A = Option ℕ} (cond p (Some k) (Some n)) (None) → A
        by true e = somewhere k e
        by false e = somewhere n e

pub noted_some : (a b c : Option ℕ) (i j : ℕ) → earlier a (earlier b c) ≡ Some j → j < i → earlier a (earlier (or_at b i) c) ≡ Some j
noted_some a (Some m) c i j e h = e
noted_some None None None i j e h = somewhere j (sym e)
noted_some None None (Some k) i j e h = let z = one_place k j e in rw (lt-ltb k i (omega arith)) e
noted_some (Some n) None None i j e h = let z = one_place n j e in rw (le-ltb i n (omega arith)) e
noted_some (Some n) None (Some k) i j e h = go (ltb k n) (ltb k i) refl refl e
  where
    go : (p q : Bool) → ltb k n ≡ p → ltb k i ≡ q → ◌≡◌ {A = Option ℕ} (cond p (Some k) (Some n)) (Some j) → earlier (Some n) (cond q (Some k) (Some i)) ≡ Some j
    go true true p q e = rw p e
    go true false p q e = let z = one_place k j e in let y = ltb-false k i q in absurd (omega arith)
    go false true p q e = rw p e
    go false false p q e = let z = one_place n j e in rw (le-ltb i n (omega arith)) e
