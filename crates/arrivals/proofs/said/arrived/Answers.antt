use mathlib.Core.Path.{ap, ◌∙◌}
use Rattle.lines.specs.Out.{put}
use Rattle.pieces.specs.declared.state.Ended.{Ended}
use Rattle.arrivals.specs.inner.Says.{ended_text}
use Rattle.arrivals.proofs.said.arrived.Goals as goal

pub returns : goal.returns
returns c = c.ended.ensures ∙ ap (λ (x : Ended). put (c.args.o.now, c.args.at) (ended_text x c.args.tape.now)) c.without_state.ensures
