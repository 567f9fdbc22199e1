-- A state in order, test by test. Assumes nothing.
use Prim.Native.Nat.{ℕ, ◌+◌, ◌-◌, ◌<◌, ◌≤◌}
use native.Mathlib.Omega.{arith}
use mathlib.Core.Bool.{Bool, true, false, not, ◌&&◌, ◌||◌}
use mathlib.Core.Path.{◌≡◌, sym, ◌∙◌}
use lib.Dec.{eqb, leb}
use borrow.Author.Tests.{le-leb, leb-true, lt-leb, not-false}
use Rattle.gaps.specs.Opens.{level_of}
use Rattle.gaps.specs.declared.state.Open.{Open}
use Rattle.gaps.specs.declared.state.Open.TheVariants.{Clear, Slash, Line, Block}
use Rattle.text.proofs.Choices.{and_true, either, lt_or_le}
use Rattle.text.specs.Classes.{within}
use Rattle.pieces.specs.Orders.{in_order, is_clear, kept_fits, open_fits, refusal_fits}
use Rattle.pieces.specs.declared.state.Arrival.{Arrival}

-- ---- what is kept, behind the end of the last entry

module _ (former kept taken : ℕ) where
  pub kept_over : taken < kept → leb (former + kept) taken ≡ false
  kept_over h = lt-leb (former + kept) taken (omega arith)

  pub former_over : taken - kept < former → leb (former + kept) taken ≡ false
  former_over h = lt-leb (former + kept) taken (omega arith)

  pub former_within : kept ≤ taken → former ≤ taken - kept → leb (former + kept) taken ≡ true
  former_within h k = le-leb (former + kept) taken (omega arith)

-- ---- a piece behind what is kept

module _ (kept n buffer : ℕ) where
  pub buffer_over : buffer < kept → leb (kept + n) buffer ≡ false
  buffer_over h = lt-leb (kept + n) buffer (omega arith)

  pub buffer_holds : kept ≤ buffer → leb n (buffer - kept) ≡ leb (kept + n) buffer
  buffer_holds h =
      either (lt_or_le (buffer - kept) n)
      (λ k. lt-leb n (buffer - kept) k ∙ sym (lt-leb (kept + n) buffer (omega arith)))
      (λ k. le-leb n (buffer - kept) k ∙ sym (le-leb (kept + n) buffer (omega arith)))

-- ---- a number that may have been given

module _ (n : ℕ) where
  pub given_thirty : n ≡ 30 → (within 1 21 n || eqb n 30) ≡ true
  unfolding within
  given_thirty e = rw e

  pub given_within : (t : Bool) → t ≡ within 1 21 n → not t ≡ false → (within 1 21 n || eqb n 30) ≡ true
  given_within t e h = rw (sym e ∙ not-false t h)

-- ---- the last of several tests

pub last_of_five : (a b c d e x : Bool) → a ≡ true → b ≡ true → c ≡ true → d ≡ true → e ≡ false → x ≡ (a && (b && (c && (d && (e || x)))))
last_of_five a b c d e x p q r s t = sym (simp (p, q, r, s, t))

-- ---- what a state in order says

pub record Numbers (a : Arrival) : Type 0 where
  pub short : a.taken ≤ 65536
  pub few : a.part ≤ 3
  pub part : a.part ≤ a.kept
  pub held : a.kept ≤ 4096
  pub former : a.former + a.kept ≤ a.taken
  pub alone : (is_clear a.gap || eqb a.kept a.part) ≡ true
  pub opened : open_fits a.gap a.taken ≡ true
  pub refusal : refusal_fits a ≡ true

pub numbers : (a : Arrival) → in_order a ≡ true → Numbers a
unfolding in_order kept_fits
numbers a h =
    let x = and_true (leb a.taken 65536) _ h in
    let y = and_true (kept_fits a) _ x.1 in
    let z = and_true (open_fits a.gap a.taken) _ y.1 in
    let k = and_true (leb a.part 3) _ y.0 in
    let l = and_true (leb a.part a.kept) _ k.1 in
    let m = and_true (leb a.kept 4096) _ l.1 in
    let n = and_true (leb (a.former + a.kept) a.taken) _ m.1 in
    record {
      short = leb-true a.taken 65536 x.0;
      few = leb-true a.part 3 k.0;
      part = leb-true a.part a.kept l.0;
      held = leb-true a.kept 4096 m.0;
      former = leb-true (a.former + a.kept) a.taken n.0;
      alone = n.1;
      opened = z.0;
      refusal = z.1;
    }

-- no more comments are open than bytes were taken
pub open_level : (o : Open) (taken : ℕ) → open_fits o taken ≡ true → level_of o ≤ taken
open_level Clear taken h = omega arith
open_level Slash taken h = omega arith
open_level Line taken h = omega arith
open_level (Block level last) taken h = leb-true level taken (and_true (leb level taken) _ h).0
