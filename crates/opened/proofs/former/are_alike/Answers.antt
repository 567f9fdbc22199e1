use mathlib.Core.Path.{ap, ap₂, ◌∙◌}
use Rattle.fields.specs.Fields.{same}
use Rattle.fields.specs.Names.{name_of}
use Rattle.opened.proofs.former.are_alike.Goals as goal

pub returns : goal.returns
returns c =
    c.is_same.ensures ∙ ap₂ same (c.name_of.ensures ∙ ap (name_of c.args.text.now) c.entry.ensures) (c.name_of-2.ensures ∙ ap (name_of c.args.text.now) c.entry-2.ensures)
