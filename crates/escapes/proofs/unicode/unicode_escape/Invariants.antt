use Prim.Native.Nat.{◌+◌, ◌-◌, ◌<◌, ◌≤◌}
use mathlib.Core.Path.{◌≡◌}
use lib.ListN.{drop, length}
use Rattle.escapes.proofs.EscapeLaws.{room}
use Rattle.escapes.specs.Escapes.{digits_of, unicode_escape}
use Rattle.escapes.proofs.unicode.unicode_escape.Given as goal

abbrev pub invariant-loop-i : goal.invariant-loop-i
invariant-loop-i l = (l.i ≤ length l.s) × (l.v < room (7 - l.i)) × (unicode_escape l.at l.s ≡ digits_of (7 - l.i) l.v (l.at + l.i) (drop l.i l.s))
