use native.Mathlib.Omega.{arith}
use mathlib.Core.Path.{ap, ◌∙◌}
use lib.ListN.{drop, length-drop}
use Rattle.text.proofs.Lists.{tail_part}
use Rattle.text.proofs.RunLaws.{run_le}
use Rattle.text.specs.Runs.{run}
use Rattle.strings.specs.Pieces.{plain}
use Rattle.plain_strings.proofs.PartLaws.{not_quote, not_closed, escaped, closed}
use Rattle.plain_strings.proofs.plain.plain_string.Goals as goal

pub returns-then-s-ne34 : goal.returns-then-s-ne34
returns-then-s-ne34 c = not_quote c.args.s.now c.if-s-ne34.true

pub overflow_add-end : goal.overflow_add-end
overflow_add-end c = omega (arith, c.find_end-end.ensures ∙ ap (run plain) (tail_part c.args.s.now 1), run_le plain (drop 1 c.args.s.now), length-drop 1 c.args.s.now)

pub returns-then-s-end : goal.returns-then-s-end
returns-then-s-end c = not_closed c.args.s.now c.find_end-end.result c.if-s-ne34.false c.find_end-end.ensures c.if-s-end.true

pub returns-then-s-end-ne34 : goal.returns-then-s-end-ne34
returns-then-s-end-ne34 c = escaped c.args.s.now c.find_end-end.result c.if-s-ne34.false c.find_end-end.ensures c.if-s-end-ne34.true

pub returns : goal.returns
returns c = closed c.args.s.now c.find_end-end.result c.if-s-ne34.false c.find_end-end.ensures c.if-s-end-ne34.false
