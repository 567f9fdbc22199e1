use Prim.Native.Nat.{◌-◌, ◌≤◌}
use mathlib.Core.Bool.{false}
use mathlib.Core.Path.{◌≡◌}
use lib.ListN.{drop, length}
use Rattle.strings.specs.Pieces.{body_of}
use Rattle.strings.specs.Quoted.{measured}
use Rattle.strings.proofs.quoted.body.Given as goal

abbrev pub invariant-loop-at : goal.invariant-loop-at
invariant-loop-at l = (l.at ≤ length l.s) × (l.decoded ≤ l.at)
    × (measured (body_of l.m (drop l.start l.s)) l.start l.start l.start 0 false ≡ measured (body_of l.m (drop l.at l.s)) l.start l.from l.at l.decoded l.escaped)

abbrev pub decreases-loop-at : goal.decreases-loop-at
decreases-loop-at l = length l.s - l.at
