use mathlib.Core.Path.{ap, ◌∙◌}
use Rattle.lines.specs.Out.{put}
use Rattle.lines.proofs.DecimalLaws.{digits_decimal}
use Rattle.lines.proofs.out.number.Goals as goal

pub returns : goal.returns
returns c = c.bytes.ensures ∙ ap (put (c.args.out.now, c.args.at)) (c.decimal-k.ensures.digits ∙ digits_decimal c.decimal-k.result c.args.n c.decimal-k.ensures.len)
