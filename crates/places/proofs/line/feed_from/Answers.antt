use native.Mathlib.Omega.{arith}
use Rattle.places.proofs.LineLaws.{feed_at, feed_within}
use Rattle.places.proofs.line.feed_from.Goals as goal

pub overflow_add-result : goal.overflow_add-result
overflow_add-result c = omega (arith, feed_within c.args.s.now c.args.place c.line_end-n.result c.line_end-n.ensures c.requires)

pub returns : goal.returns
returns c = feed_at c.args.s.now c.args.place c.line_end-n.result c.line_end-n.ensures
