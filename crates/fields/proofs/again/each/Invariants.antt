use Prim.Native.Nat.{◌-◌, ◌≤◌}
use lib.ListN.{length, take}
use Rattle.fields.specs.inner.Again.{FirstIn}
use Rattle.fields.specs.Names.{name_at}
use Rattle.fields.proofs.again.each.Given as goal

abbrev pub invariant-loop-p : goal.invariant-loop-p
invariant-loop-p l = (l.p ≤ length l.fields) × FirstIn (name_at l.text l.tape) (take l.p l.fields) l.found

abbrev pub decreases-loop-p : goal.decreases-loop-p
decreases-loop-p l = length l.fields - l.p
