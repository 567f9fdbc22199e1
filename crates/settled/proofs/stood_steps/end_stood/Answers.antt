use mathlib.Core.Path.{◌∙◌}
use Rattle.settled.proofs.StoodLaws.{end_in, end_out, end_short}
use Rattle.settled.proofs.stood_steps.end_stood.Goals as goal

pub returns-then-peek-ne93 : goal.returns-then-peek-ne93
returns-then-peek-ne93 c = end_out c.args.s.now c.args.all c.args.at _ c.peek.ensures c.if-all.true c.if-peek-ne93.true

pub returns-then-all : goal.returns-then-all
returns-then-all c = end_in c.args.s.now c.args.all c.args.at _ c.peek.ensures c.if-all.true c.if-peek-ne93.false

pub returns : goal.returns
returns c = c.sign_here.ensures ∙ end_short c.args.s.now c.args.all c.args.at c.if-all.false
