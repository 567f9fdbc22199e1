use mathlib.Core.Path.{sym, ap, ◌∙◌}
use Rattle.sarridok.specs.Contents.{part_of}
use Rattle.cases.proofs.contents.calls_agree.Goals as goal

pub agrees-requires : goal.agrees-requires
agrees-requires c = c.contents_part-part.ensures ∙ sym (ap (part_of c.args.text.now) c.contents-view.ensures)

pub returns : goal.returns
returns c = c.agrees.ensures
