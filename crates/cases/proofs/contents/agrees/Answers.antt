use mathlib.Core.Path.{sym, ap, ◌∙◌}
use Rattle.sarridok.specs.Contents.{part_of}
use lib.ListN.{length}
use borrow.Author.Tests.{eq-eqb}
use Rattle.cases.proofs.contents.agrees.Goals as goal

pub returns-in-Ok : goal.returns-in-Ok
returns-in-Ok c = c.same.ensures.1 (c.requires ∙ ap (part_of c.args.text.now) c.in-Ok.is ∙ sym c.part.ensures)

pub returns-in-Err : goal.returns-in-Err
returns-in-Err c = eq-eqb _ 0 (ap length (c.requires ∙ ap (part_of c.args.text.now) c.in-Err.is))
