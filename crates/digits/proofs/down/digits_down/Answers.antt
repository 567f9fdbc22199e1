use Prim.Native.Nat.{ℕ}
use native.Mathlib.Omega.{arith}
use mathlib.Core.Path.{◌∙◌, ◌≡◌, ap, sym}
use lib.IntN.{nat_abs}
use lib.ListN.{get_or}
use borrow.Author.Rules.{rules}
use Rattle.digits.proofs.Laws.{from_end, from_next, from_not, from_over}
use Rattle.digits.proofs.Neg.{down_next, down_not, down_over, nat_abs_neg}
use Rattle.digits.specs.Digits.{turn_of}
use Rattle.digits.specs.inner.Down.{down_of}
use Rattle.digits.specs.declared.Run.TheVariants.{Value}
use mir.Syntax.{w64}
use mir.Val.{to_z, of_z}
use mir.ValLaws.{to_z-of_z}
use Rattle.digits.proofs.down.digits_down.Goals as goal

pub returns-in-Over : goal.returns-in-Over
returns-in-Over c =
    let low_is : to_z w64 (of_z w64 c.args.low) ≡ c.args.low = to_z-of_z w64 c.args.low c.ranges.low in
    let a = c.args in
    let l = c.loop-i in
    let L = nat_abs (to_z w64 (of_z w64 a.low)) in
    let m = l.invariant.0 in
    let n = ap nat_abs (low_is) in
    let g = ap nat_abs l.invariant.1.0 ∙ nat_abs_neg m in
    let e : turn_of L a.base m (get_or a.run.now l.i 0) ≡ _ = down_over _ (ap (λ (k : ℕ). down_of (turn_of L a.base k (get_or a.run.now l.i 0))) (sym g) ∙ sym c.turn_down.ensures ∙ c.in-Over.is) in
    sym (rw n at (l.invariant.1.1 ∙ from_over L a.base m a.run.now l.i (omega arith) e))

pub returns-in-NotDigit : goal.returns-in-NotDigit
returns-in-NotDigit c =
    let low_is : to_z w64 (of_z w64 c.args.low) ≡ c.args.low = to_z-of_z w64 c.args.low c.ranges.low in
    let a = c.args in
    let l = c.loop-i in
    let L = nat_abs (to_z w64 (of_z w64 a.low)) in
    let m = l.invariant.0 in
    let n = ap nat_abs (low_is) in
    let g = ap nat_abs l.invariant.1.0 ∙ nat_abs_neg m in
    let e : turn_of L a.base m (get_or a.run.now l.i 0) ≡ _ = down_not _ (ap (λ (k : ℕ). down_of (turn_of L a.base k (get_or a.run.now l.i 0))) (sym g) ∙ sym c.turn_down.ensures ∙ c.in-NotDigit.is) in
    sym (rw n at (l.invariant.1.1 ∙ from_not L a.base m a.run.now l.i (omega arith) e))

pub loop-i-preserved : goal.loop-i-preserved
loop-i-preserved c =
    let a = c.args in
    let l = c.loop-i in
    let L = nat_abs (to_z w64 (of_z w64 a.low)) in
    let m = l.invariant.0 in
    let g = ap nat_abs l.invariant.1.0 ∙ nat_abs_neg m in
    let q : down_of (turn_of L a.base m (get_or a.run.now l.i 0)) ≡ _ = ap (λ (k : ℕ). down_of (turn_of L a.base k (get_or a.run.now l.i 0))) (sym g) ∙ sym c.turn_down.ensures ∙ c.in-Next.is in
    let r : to_z w64 (of_z w64 c.in-Next.next) ≡ c.in-Next.next = search rules in
    let d = down_next _ _ q in
    (d.0, (r ∙ d.1.1, l.invariant.1.1 ∙ from_next L a.base m a.run.now l.i d.0 (omega arith) d.1.0))

pub returns : goal.returns
returns c =
    let low_is : to_z w64 (of_z w64 c.args.low) ≡ c.args.low = to_z-of_z w64 c.args.low c.ranges.low in
    let a = c.args in
    let l = c.loop-i in
    let L = nat_abs (to_z w64 (of_z w64 a.low)) in
    let m = l.invariant.0 in
    let n = ap nat_abs (low_is) in
    let g = ap nat_abs l.invariant.1.0 ∙ nat_abs_neg m in
    ap Value (c.unsigned_abs.ensures.value ∙ g) ∙ sym (rw n at (l.invariant.1.1 ∙ from_end L a.base m a.run.now l.i (omega arith)))
