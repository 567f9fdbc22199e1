-- What 23 says where it is not given. Assumes nothing.
use Prim.Native.Nat.{◌+◌, ◌-◌, ◌≤◌, ℕ, ◌<◌}
use native.Mathlib.Omega.{arith}
use mathlib.Core.Bool.{◌&&◌, true, false, Bool}
use mathlib.Core.List.{List}
use mathlib.Core.Path.{◌∙◌, ◌≡◌, sym}
use lib.Dec.{leb}
use lib.ListN.{length}
use borrow.Author.Tests.{le-leb, leb-true, lt-leb}
use Rattle.repair.specs.Repair.{cut_fits, repair_fits}
use Rattle.rows.specs.Order.{in_order}
use Rattle.rows.specs.Rows.{entries_of, room_of}
use Rattle.text.proofs.Choices.{and_true, either, lt_or_le}

pub record CutFits (o a b n : ℕ) : Type 0 where
  pub cut : a ≤ b
  pub in_old : b ≤ o
  pub lengths : o + a ≤ n + b

pub cut_true : (o a b n : ℕ) → cut_fits o a b n ≡ true → CutFits o a b n
unfolding cut_fits
cut_true o a b n h =
    let p = and_true (leb a b) (leb b o && leb (o + a) (n + b)) h in
    let q = and_true (leb b o) (leb (o + a) (n + b)) p.1 in
    record { cut = leb-true a b p.0; in_old = leb-true b o q.0; lengths = leb-true (o + a) (n + b) q.1 }

pub record Fits (t : List ℕ) (count o a b n : ℕ) : Type 0 where
  pub cuts : CutFits o a b n
  pub room : count ≤ room_of (length t)
  pub sorted : in_order (entries_of count t) o ≡ true

pub fits_true : (t : List ℕ) (count o a b n : ℕ) → repair_fits t count o a b n ≡ true → Fits t count o a b n
unfolding repair_fits
fits_true t count o a b n h =
    let p = and_true (cut_fits o a b n) (leb count (room_of (length t)) && in_order (entries_of count t) o) h in
    let q = and_true (leb count (room_of (length t))) (in_order (entries_of count t) o) p.1 in
    record { cuts = cut_true o a b n p.0; room = leb-true count (room_of (length t)) q.0; sorted = q.1 }

-- the lengths by differences
pub cut_last : (o a b n : ℕ) → a ≤ b → b ≤ o → leb (o - b + a) n ≡ cut_fits o a b n
unfolding cut_fits
cut_last o a b n h k =
    rw (le-leb a b h, le-leb b o k)
    (either (lt_or_le n (o - b + a))
    (λ l. lt-leb (o - b + a) n l ∙ sym (lt-leb (o + a) (n + b) (omega arith)))
    (λ l. le-leb (o - b + a) n l ∙ sym (le-leb (o + a) (n + b) (omega arith))))

-- ---- the ways out of the checks

module _ (o a b n : ℕ) where
  pub cut_bad1 : b < a → false ≡ cut_fits o a b n
  unfolding cut_fits
  cut_bad1 h = rw (lt-leb a b h)

  pub cut_bad2 : a ≤ b → o < b → false ≡ cut_fits o a b n
  unfolding cut_fits
  cut_bad2 h k = rw (le-leb a b h, lt-leb b o k)

module _ (t : List ℕ) (count o a b n : ℕ) where
  pub fits_bad1 : cut_fits o a b n ≡ false → false ≡ repair_fits t count o a b n
  unfolding repair_fits
  fits_bad1 h = rw h

  pub fits_bad2 : cut_fits o a b n ≡ true → room_of (length t) < count → false ≡ repair_fits t count o a b n
  unfolding repair_fits
  fits_bad2 h k = rw (h, lt-leb count (room_of (length t)) k)

  pub fits_last : cut_fits o a b n ≡ true → count ≤ room_of (length t) → (r : Bool) → r ≡ in_order (entries_of count t) o → r ≡ repair_fits t count o a b n
  unfolding repair_fits
  fits_last h k r e = rw (h, le-leb count (room_of (length t)) k) e
