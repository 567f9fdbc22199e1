use mathlib.Core.Path.{ap}
use Rattle.rows.specs.declared.Entry.{Entry}
use Rattle.opened.specs.declared.begun.Begun.TheVariants.{Bracket}
use Rattle.opened.proofs.brackets.bracket_at.Goals as goal

pub returns : goal.returns
returns c = ap (λ (e : Entry). Bracket e.start) c.entry-e.ensures
