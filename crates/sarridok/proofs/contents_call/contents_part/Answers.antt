use native.Mathlib.Omega.{arith}
use mathlib.Core.Path.{◌∙◌, ap, sym}
use Rattle.sarridok.proofs.ContentsLaws.{part_inside}
use Rattle.sarridok.specs.Contents.{part_of}
use Rattle.sarridok.proofs.contents_call.contents_part.Goals as goal

pub slice_bounds-result-count : goal.slice_bounds-result-count
slice_bounds-result-count c = omega (arith, part_inside c.args.text.now c.args.tape.now c.args.count c.args.entry _ (sym c.in-Ok.is ∙ c.contents-answer.ensures))

pub slice_bounds-result-start : goal.slice_bounds-result-start
slice_bounds-result-start c = omega (arith, part_inside c.args.text.now c.args.tape.now c.args.count c.args.entry _ (sym c.in-Ok.is ∙ c.contents-answer.ensures))

pub slice_bounds-result-end : goal.slice_bounds-result-end
slice_bounds-result-end c = omega (arith, part_inside c.args.text.now c.args.tape.now c.args.count c.args.entry _ (sym c.in-Ok.is ∙ c.contents-answer.ensures))

pub returns-in-Ok : goal.returns-in-Ok
returns-in-Ok c = ap (part_of c.args.text.now) (sym c.in-Ok.is ∙ c.contents-answer.ensures)

pub returns-in-Err : goal.returns-in-Err
returns-in-Err c = ap (part_of c.args.text.now) (sym c.in-Err.is ∙ c.contents-answer.ensures)
