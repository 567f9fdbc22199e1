use native.Mathlib.Omega.{arith}
use mathlib.Core.Path.{ap, sym, ◌∙◌}
use lib.ListN.{drop, length-drop}
use Rattle.text.proofs.Lists.{tail_part}
use Rattle.text.proofs.RunLaws.{run_le}
use Rattle.text.specs.Classes.{digit}
use Rattle.text.specs.Runs.{run}
use Rattle.plain_numbers.proofs.Said.{fraction_loud, fraction_none, fraction_other, fraction_past, fraction_said}
use Rattle.plain_numbers.proofs.parts.fraction_len.Goals as goal

pub returns-then-s-eq0 : goal.returns-then-s-eq0
returns-then-s-eq0 c = fraction_past c.args.s.now c.if-s-eq0.true

pub returns-then-s-ne46 : goal.returns-then-s-ne46
returns-then-s-ne46 c = fraction_other c.args.s.now c.if-s-ne46.true

pub returns-then-n-eq0 : goal.returns-then-n-eq0
returns-then-n-eq0 c = fraction_none c.args.s.now c.digits_len-n.result c.digits_len-n.ensures c.if-n-eq0.true

pub overflow_add-len : goal.overflow_add-len
overflow_add-len c = omega (arith, c.digits_len-n.ensures ∙ ap (run digit) (tail_part c.args.s.now 1), run_le digit (drop 1 c.args.s.now), length-drop 1 c.args.s.now)

pub slice_bounds-begins_quiet-count : goal.slice_bounds-begins_quiet-count
slice_bounds-begins_quiet-count c = omega (arith, c.digits_len-n.ensures ∙ ap (run digit) (tail_part c.args.s.now 1), run_le digit (drop 1 c.args.s.now), length-drop 1 c.args.s.now)

pub slice_bounds-begins_quiet-start : goal.slice_bounds-begins_quiet-start
slice_bounds-begins_quiet-start c = omega (arith, c.digits_len-n.ensures ∙ ap (run digit) (tail_part c.args.s.now 1), run_le digit (drop 1 c.args.s.now), length-drop 1 c.args.s.now)

pub returns-then-begins_quiet : goal.returns-then-begins_quiet
returns-then-begins_quiet c = fraction_said c.args.s.now c.digits_len-n.result c.digits_len-n.ensures c.if-s-ne46.false c.if-n-eq0.false (sym c.begins_quiet.ensures ∙ c.if-begins_quiet.true)

pub returns : goal.returns
returns c = fraction_loud c.args.s.now c.digits_len-n.result c.digits_len-n.ensures (sym c.begins_quiet.ensures ∙ c.if-begins_quiet.false)
