use mathlib.Core.Path.{sym, ap, ◌∙◌}
use Rattle.lines.specs.Out.{put}
use Rattle.pieces.specs.declared.state.Ended.{Ended}
use Rattle.arrivals.specs.inner.Says.{ended_text}
use Rattle.arrivals.proofs.said.ended.Goals as goal

pub returns-in-Given : goal.returns-in-Given
returns-in-Given c = c.counted.ensures ∙ sym (ap (λ (x : Ended). put (c.args.o.now, c.args.at) (ended_text x c.args.tape.now)) c.in-Given.is)

pub returns-in-Stopped : goal.returns-in-Stopped
returns-in-Stopped c = c.stopped.ensures ∙ sym (ap (λ (x : Ended). put (c.args.o.now, c.args.at) (ended_text x c.args.tape.now)) c.in-Stopped.is)

pub returns-in-Refused : goal.returns-in-Refused
returns-in-Refused c = c.refused.ensures ∙ sym (ap (λ (x : Ended). put (c.args.o.now, c.args.at) (ended_text x c.args.tape.now)) c.in-Refused.is)
