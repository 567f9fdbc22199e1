use mathlib.Core.Path.{◌∙◌, sym}
use Rattle.settled.proofs.CodeLaws.{decides_other, decides_quiet}
use Rattle.settled.proofs.bytes.is_decider.Goals as goal

pub returns-then-is_quiet : goal.returns-then-is_quiet
returns-then-is_quiet c = sym (decides_quiet _ (sym c.is_quiet.ensures ∙ c.if-is_quiet.true))

pub returns : goal.returns
returns c = sym (decides_other _ (sym c.is_quiet.ensures ∙ c.if-is_quiet.false))
