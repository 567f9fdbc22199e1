use Rattle.std.proofs.Common.{Err}
use native.Mathlib.Omega.{arith}
use mathlib.Core.Path.{◌∙◌, ap, sym}
use lib.ListN.{drop, length-drop}
use lib.Seq.{length-take-le}
use Rattle.floats.proofs.Laws.{float_run_le, run_judged, run_none}
use Rattle.floats.specs.Float.{float_suffixes}
use Rattle.integers.proofs.Words.{first_le}
use Rattle.integers.specs.Words.{first_of}
use Rattle.integers.specs.declared.ident.Found.{Found}
use Rattle.text.proofs.Lists.{tail_part}
use Rattle.floats.proofs.float.run_at.Goals as goal

pub returns-then-n-eq0 : goal.returns-then-n-eq0
returns-then-n-eq0 c = ap Err c.expected_float.ensures ∙ run_none c.args.s.now c.float_run-n.result c.float_run-n.ensures c.if-n-eq0.true

pub slice_bounds-judge_run-end : goal.slice_bounds-judge_run-end
slice_bounds-judge_run-end c = sym (length-take-le c.float_run-n.result c.args.s.now (omega (arith, c.float_run-n.ensures, float_run_le c.args.s.now)))

pub slice_bounds-float_suffix-count : goal.slice_bounds-float_suffix-count
slice_bounds-float_suffix-count c = omega (arith, c.float_run-n.ensures, float_run_le c.args.s.now)

pub slice_bounds-float_suffix-start : goal.slice_bounds-float_suffix-start
slice_bounds-float_suffix-start c = omega (arith, c.float_run-n.ensures, float_run_le c.args.s.now)

pub overflow_add-end : goal.overflow_add-end
overflow_add-end c = omega (arith, ap (λ (f : Found). f.end) (c.float_suffix-found.ensures ∙ ap (first_of float_suffixes) (tail_part c.args.s.now c.float_run-n.result)), first_le float_suffixes (drop c.float_run-n.result c.args.s.now), length-drop c.float_run-n.result c.args.s.now, c.float_run-n.ensures, float_run_le c.args.s.now)

pub returns : goal.returns
returns c =
    c.behind_judged.ensures
    ∙ run_judged c.args.s.now c.float_run-n.result c.judge_run-judged.result c.float_suffix-found.result c.float_run-n.ensures c.if-n-eq0.false c.judge_run-judged.ensures (c.float_suffix-found.ensures ∙ ap (first_of float_suffixes) (tail_part c.args.s.now c.float_run-n.result))
