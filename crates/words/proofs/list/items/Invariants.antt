use Prim.Native.Nat.{◌+◌, ◌-◌, ◌≤◌}
use mathlib.Core.Path.{◌≡◌}
use lib.ListN.{length, take, drop}
use Rattle.words.specs.Numbers.{items, numbers_of}
use Rattle.lines.specs.Over.{over}
use Rattle.words.proofs.list.items.Given as goal

abbrev pub invariant-loop-n : goal.invariant-loop-n
invariant-loop-n l = (l.at ≤ length l.s) × (l.k ≤ length (numbers_of l.s)) × (drop l.k (numbers_of l.s) ≡ numbers_of (drop l.at l.s)) × (l.k + length (items (drop l.at l.s)) ≡ length (items l.s)) × (l.k ≤ length l.initial.tape) × (length l.tape ≡ length l.initial.tape) × (l.tape ≡ over (take l.k (numbers_of l.s)) l.initial.tape)

abbrev pub decreases-loop-n : goal.decreases-loop-n
decreases-loop-n l = length l.s - l.at
