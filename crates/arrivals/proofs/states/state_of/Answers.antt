use mathlib.Core.Path.{◌∙◌, ap, sym}
use Rattle.arrivals.specs.States.{spoken_by}
use Rattle.arrivals.proofs.states.state_of.Goals as goal

pub returns-in-Some : goal.returns-in-Some
returns-in-Some c = sym (ap spoken_by (sym c.state_of-said.ensures ∙ c.in-Some.is))

pub returns-in-None : goal.returns-in-None
returns-in-None c = sym (ap spoken_by (sym c.state_of-said.ensures ∙ c.in-None.is))
