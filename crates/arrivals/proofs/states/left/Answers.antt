use mathlib.Core.Path.{sym, ap, ◌∙◌}
use Rattle.lines.specs.Out.{put}
use Rattle.pieces.specs.declared.state.Arrived.{Arrived}
use Rattle.arrivals.specs.inner.Says.{leaves_text}
use Rattle.arrivals.proofs.states.left.Goals as goal

pub returns-in-Given : goal.returns-in-Given
returns-in-Given c = c.stands.ensures ∙ sym (ap (λ (x : Arrived). put (c.args.o.now, c.args.at) (leaves_text x c.args.buffer.now)) c.in-Given.is)

pub returns-in-Stopped : goal.returns-in-Stopped
returns-in-Stopped c = c.stands-in-Stopped.ensures ∙ sym (ap (λ (x : Arrived). put (c.args.o.now, c.args.at) (leaves_text x c.args.buffer.now)) c.in-Stopped.is)

pub returns-in-Refused : goal.returns-in-Refused
unfolding put
returns-in-Refused c = sym (ap (λ (x : Arrived). put (c.args.o.now, c.args.at) (leaves_text x c.args.buffer.now)) c.in-Refused.is)
