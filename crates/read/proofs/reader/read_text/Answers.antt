use native.Mathlib.Omega.{arith}
use mathlib.Core.Path.{◌∙◌, sym}
use Rattle.read.proofs.ReadLaws.{all_laid, fitted_fits}
use Rattle.read.specs.Read.{reading_of}
use Rattle.read.proofs.reader.read_text.Goals as goal

pub returns : goal.returns
returns c = (sym (fitted_fits _ (reading_of c.args.text.now) _ (sym c.measure.ensures ∙ c.in_ok-n.was) (omega (arith, c.room.ensures, c.if-room-n.false))), c.fill.ensures ∙ all_laid (reading_of c.args.text.now) _ c.args.tape.now (sym c.measure.ensures ∙ c.in_ok-n.was))
