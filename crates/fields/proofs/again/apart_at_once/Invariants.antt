use Prim.Native.Nat.{◌-◌}
use mathlib.Core.Path.{◌≡◌}
use lib.ListN.{length}
use Rattle.fields.proofs.FirstLaws.{Apart}
use Rattle.fields.proofs.SlotLaws.{Taken}
use Rattle.fields.specs.Names.{name_at}
use Rattle.fields.proofs.again.apart_at_once.Given as goal

abbrev pub invariant-loop-p : goal.invariant-loop-p
invariant-loop-p l = (length l.taken ≡ 128) × Taken (name_at l.text l.tape) l.fields l.taken l.p × Apart (name_at l.text l.tape) l.fields l.p

abbrev pub decreases-loop-p : goal.decreases-loop-p
decreases-loop-p l = length l.fields - l.p
