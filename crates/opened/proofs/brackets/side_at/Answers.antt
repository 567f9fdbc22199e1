use mathlib.Core.Path.{ap, ◌∙◌}
use Rattle.grammar.specs.Kinds.{kind_of, side_of}
use Rattle.rows.specs.declared.Entry.{Entry}
use Rattle.opened.specs.Brackets.{side_at}
use Rattle.opened.proofs.brackets.side_at.Goals as goal

pub returns : goal.returns
unfolding side_at
returns c = c.side_of.ensures ∙ ap side_of (c.kind_of.ensures ∙ ap (λ (e : Entry). kind_of e.kind) c.entry.ensures)
