use mathlib.Core.Path.{◌≡◌}
use Rattle.places.specs.Lines.{line_start}
use Rattle.places.proofs.line.line_start.Given as goal

abbrev pub invariant-loop-before : goal.invariant-loop-before
invariant-loop-before l = line_start l.s l.before ≡ line_start l.s l.place
