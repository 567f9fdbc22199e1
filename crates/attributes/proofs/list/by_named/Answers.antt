use mathlib.Core.Path.{◌∙◌, ap, sym}
use Rattle.attributes.specs.List.{by_extension_name}
use Rattle.attributes.proofs.list.by_named.Goals as goal

pub returns-in-Some : goal.returns-in-Some
returns-in-Some c = c.behind_name.ensures ∙ ap (by_extension_name c.args.t.now c.args.n) (sym c.in-Some.is)
