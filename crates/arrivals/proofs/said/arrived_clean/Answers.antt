use mathlib.Core.Path.{ap, ◌∙◌}
use Rattle.pieces.specs.declared.state.Ended.{Ended}
use Rattle.arrivals.specs.inner.Says.{is_clean}
use Rattle.arrivals.proofs.said.arrived_clean.Goals as goal

pub returns : goal.returns
returns c = c.ended_clean.ensures ∙ ap (λ (x : Ended). is_clean x c.args.tape.now) c.without_state.ensures
