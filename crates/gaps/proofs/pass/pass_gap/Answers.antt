use mathlib.Core.Path.{◌∙◌, ap, sym}
use Rattle.gaps.proofs.PassLaws.{clear_passed, line_passed}
use Rattle.gaps.specs.Passes.{passed_of}
use Rattle.gaps.specs.declared.state.Open.{Open}
use Rattle.gaps.proofs.pass.pass_gap.Goals as goal

pub returns-in-Clear : goal.returns-in-Clear
returns-in-Clear c = c.from_clear.ensures ∙ sym (clear_passed _) ∙ ap (λ (o : Open). passed_of o c.args.s.now) (sym c.in-Clear.is)

pub returns-in-Line : goal.returns-in-Line
returns-in-Line c = c.from_line.ensures ∙ sym (line_passed _) ∙ ap (λ (o : Open). passed_of o c.args.s.now) (sym c.in-Line.is)
