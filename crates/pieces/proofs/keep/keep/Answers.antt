use mathlib.Core.Path.{◌∙◌}
use Rattle.pieces.proofs.LayLaws.{copied_front, nothing_moves}
use Rattle.pieces.proofs.keep.keep.Goals as goal

pub returns-then-from-eq0 : goal.returns-then-from-eq0
returns-then-from-eq0 c = nothing_moves c.args.buffer.now c.args.from c.args.n c.if-from-eq0.true

pub returns : goal.returns
returns c = c.copy_within.ensures.after ∙ copied_front c.args.buffer.now c.args.from c.args.n
