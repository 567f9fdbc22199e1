use native.Mathlib.Omega.{arith}
use mathlib.Core.Path.{◌∙◌, ap}
use Rattle.reading.specs.Readings.{read_from}
use Rattle.tokens.specs.Ron.{ron_token}
use Rattle.read.specs.inner.Pass.{scanned_from}
use Rattle.read.proofs.PassLaws.{few_entries, up_to_all}
use Rattle.read.proofs.measure.scan.Goals as goal

pub returns : goal.returns
returns c = c.pass.ensures.0 ∙ ap (scanned_from 0) (up_to_all _ (read_from ron_token c.args.text.now 0) (omega (arith, few_entries c.args.text.now 0)))
