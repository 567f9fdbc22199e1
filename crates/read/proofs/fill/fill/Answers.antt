use mathlib.Core.Path.{◌∙◌, ap}
use mathlib.Core.List.{List}
use Rattle.reading.specs.Readings.{read_from}
use Rattle.read.proofs.PassLaws.{entries_up_to}
use Rattle.rows.specs.Rows.{laid}
use Rattle.rows.specs.declared.Entry.{Entry}
use Rattle.tokens.specs.Ron.{ron_token}
use Rattle.read.proofs.fill.fill.Goals as goal

pub returns : goal.returns
returns c = c.pass.ensures.1 ∙ ap (λ (es : List Entry). laid es c.args.tape.now) (entries_up_to c.args.n (read_from ron_token c.args.text.now c.args.from))
