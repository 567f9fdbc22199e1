use mathlib.Core.Path.{◌∙◌, ap}
use Rattle.reading.specs.Readings.{read_from}
use Rattle.tokens.specs.Ron.{ron_token}
use Rattle.read.specs.declared.scanned.Scanned.{Scanned}
use Rattle.read.specs.inner.Pass.{told_by}
use Rattle.read.proofs.PassLaws.{scanned_told}
use Rattle.read.proofs.measure.measure.Goals as goal

pub returns : goal.returns
returns c = c.answer.ensures ∙ ap (λ (s : Scanned). told_by s.ending s.count) c.scan.ensures ∙ scanned_told (read_from ron_token c.args.text.now 0) 0 0 0
