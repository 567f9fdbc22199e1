-- Laws of ranges: which numbers are one of lo to hi. Assumes nothing.
use Prim.Native.Nat.{ℕ, ◌≤◌, ◌<◌}
use mathlib.Core.Path.{◌≡◌}
use mathlib.Core.Bool.{true, false}
use lib.Dec.{leb}
use borrow.Author.Tests.{leb-true, le-leb, lt-leb}
use Rattle.xid.proofs.Choices.{and_false, and_true}
use Rattle.xid.specs.Xid.{within}

pub inside : (a b c : ℕ) → a ≤ c → c ≤ b → within a b c ≡ true
unfolding within
inside a b c h l = rw (le-leb a c h, le-leb c b l)

pub below : (a b c : ℕ) → c < a → within a b c ≡ false
unfolding within
below a b c h = rw (lt-leb a c h)

pub above : (a b c : ℕ) → b < c → within a b c ≡ false
unfolding within
above a b c h = rw (lt-leb c b h) (and_false (leb a c))

pub inside_first : (a b c : ℕ) → a ≤ c → within a b c ≡ leb c b
unfolding within
inside_first a b c h = rw (le-leb a c h)

pub below_last : (a b c : ℕ) → within a b c ≡ true → c ≤ b
unfolding within
below_last a b c e = leb-true c b (and_true (leb a c) (leb c b) e).1

pub above_first : (a b c : ℕ) → within a b c ≡ true → a ≤ c
unfolding within
above_first a b c e = leb-true a c (and_true (leb a c) (leb c b) e).0
