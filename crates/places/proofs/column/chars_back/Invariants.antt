use mathlib.Core.Path.{◌≡◌}
use Rattle.places.specs.Columns.{chars_back}
use Rattle.places.proofs.column.chars_back.Given as goal

abbrev pub invariant-loop-before : goal.invariant-loop-before
invariant-loop-before l = chars_back l.s l.before l.left ≡ chars_back l.s l.place l.n
