use Prim.Native.Nat.{◌-◌, ◌≤◌}
use Rattle.fields.proofs.FirstLaws.{Least, Part}
use Rattle.fields.specs.Names.{name_at}
use Rattle.fields.proofs.again.against.Given as goal

abbrev pub invariant-loop-q : goal.invariant-loop-q
invariant-loop-q l = (l.q ≤ l.p) × Least (Part (name_at l.text l.tape) l.fields l.p l.q) l.found

abbrev pub decreases-loop-q : goal.decreases-loop-q
decreases-loop-q l = l.p - l.q
