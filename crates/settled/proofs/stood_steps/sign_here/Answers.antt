use mathlib.Core.Path.{◌∙◌}
use Rattle.settled.proofs.StoodLaws.{here_in, here_out}
use Rattle.settled.proofs.stood_steps.sign_here.Goals as goal

pub returns-then-peek-b : goal.returns-then-peek-b
returns-then-peek-b c = here_out c.args.s.now c.args.at c.args.b _ c.peek.ensures c.if-peek-b.true

pub returns : goal.returns
returns c = c.step_end.ensures ∙ here_in c.args.s.now c.args.at c.args.b _ c.peek.ensures _ c.if-peek-b.false c.skip_ws-behind.ensures
