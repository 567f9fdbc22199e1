use mathlib.Core.Path.{sym, ap}
use Rattle.pieces.specs.declared.state.Arrived.{Arrived}
use Rattle.arrivals.specs.inner.Stands.{next_by}
use Rattle.arrivals.proofs.arrive_text.behind.Goals as goal

pub returns-in-Given : goal.returns-in-Given
returns-in-Given c = sym (ap (λ (x : Arrived). next_by c.args.s x) c.in-Given.is)

pub returns-in-Stopped : goal.returns-in-Stopped
returns-in-Stopped c = sym (ap (λ (x : Arrived). next_by c.args.s x) c.in-Stopped.is)
