use mathlib.Core.Path.{sym, ap, ◌∙◌}
use Rattle.gaps.specs.declared.state.Open.{Open}
use Rattle.lines.specs.Out.{put}
use Rattle.arrivals.specs.States.{open_text}
use Rattle.arrivals.proofs.states.opened.Goals as goal

pub returns-in-Clear : goal.returns-in-Clear
returns-in-Clear c = c.three.ensures ∙ sym (ap (λ (x : Open). put (c.args.o.now, c.args.at) (open_text x)) c.in-Clear.is)

pub returns-in-Slash : goal.returns-in-Slash
returns-in-Slash c = c.three-in-Slash.ensures ∙ sym (ap (λ (x : Open). put (c.args.o.now, c.args.at) (open_text x)) c.in-Slash.is)

pub returns-in-Line : goal.returns-in-Line
returns-in-Line c = c.three-in-Line.ensures ∙ sym (ap (λ (x : Open). put (c.args.o.now, c.args.at) (open_text x)) c.in-Line.is)

pub returns-in-Block : goal.returns-in-Block
returns-in-Block c = c.three-in-Block.ensures ∙ sym (ap (λ (x : Open). put (c.args.o.now, c.args.at) (open_text x)) c.in-Block.is)
