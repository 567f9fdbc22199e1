use Rattle.places.specs.Shown.{shown}
use mathlib.Core.Path.{sym, ◌∙◌}
use Rattle.places.proofs.shown.is_shown.Goals as goal

pub returns-then-is_control : goal.returns-then-is_control
unfolding shown
returns-then-is_control c = simp (sym c.is_control.ensures ∙ c.if-is_control.true)

pub returns : goal.returns
unfolding shown
returns c = simp (sym c.is_control.ensures ∙ c.if-is_control.false, c.is_hidden.ensures)
