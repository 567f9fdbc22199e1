use Prim.Native.Nat.{ℕ}
use native.Mathlib.Omega.{arith}
use mathlib.Core.List.{List}
use mathlib.Core.Path.{◌∙◌, ap, refl}
use lib.ListN.{get_or, length-set, set}
use borrow.Author.Rules.{rules}
use Rattle.strings.proofs.Writes.{copy_done, copy_step}
use Rattle.strings.proofs.decode.copy.Goals as goal

pub loop-i-init : goal.loop-i-init
loop-i-init c = (search rules, search rules, search rules, refl)

pub loop-i-preserved : goal.loop-i-preserved
loop-i-preserved c = (simp length-set c.loop-i.invariant.0, search rules, search rules, ap (λ (x : List ℕ). set x c.loop-i.i (get_or c.args.t.now c.loop-i.i 0)) c.loop-i.invariant.3 ∙ copy_step c.args.t.now c.args.out.now c.loop-i.i c.loop-i-test.true c.loop-i.invariant.2)

pub returns : goal.returns
returns c = c.loop-i.invariant.3 ∙ copy_done c.args.t.now c.args.out.now c.loop-i.i (omega arith)
