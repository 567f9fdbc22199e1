use Prim.Native.Nat.{◌+◌, ◌≤◌}
use mathlib.Core.Path.{◌≡◌}
use Rattle.opened.specs.Brackets.{innermost, open_brackets}
use Rattle.opened.proofs.BracketLaws.{behind_others}
use Rattle.opened.proofs.brackets.innermost_open.Given as goal

abbrev pub invariant-loop-i : goal.invariant-loop-i
invariant-loop-i l = (l.closed + l.i ≤ l.n) × (behind_others (open_brackets l.tape l.i) l.closed ≡ innermost l.tape l.n)
