use mathlib.Core.Path.{sym, ap}
use Rattle.pieces.specs.declared.state.Arrived.{Arrived}
use Rattle.arrivals.specs.inner.Says.{without_state}
use Rattle.arrivals.proofs.said.without_state.Goals as goal

pub returns-in-Given : goal.returns-in-Given
returns-in-Given c = sym (ap (λ (x : Arrived). without_state x) c.in-Given.is)

pub returns-in-Stopped : goal.returns-in-Stopped
returns-in-Stopped c = sym (ap (λ (x : Arrived). without_state x) c.in-Stopped.is)

pub returns-in-Refused : goal.returns-in-Refused
returns-in-Refused c = sym (ap (λ (x : Arrived). without_state x) c.in-Refused.is)
