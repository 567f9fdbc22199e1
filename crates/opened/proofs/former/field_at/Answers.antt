use Prim.Native.Nat.{ℕ}
use mathlib.Core.Path.{ap, ◌∙◌}
use Rattle.rows.specs.declared.Entry.{Entry}
use Rattle.fields.specs.Names.{name_from}
use Rattle.opened.specs.Former.{field_at}
use Rattle.opened.specs.declared.begun.Begun.TheVariants.{Field}
use Rattle.opened.proofs.former.field_at.Goals as goal

pub returns : goal.returns
unfolding field_at
returns c =
    ap (λ (k : ℕ). Field c.entry-e.result.start k c.entry-e.result.end) c.name_from.ensures ∙ ap (λ (e : Entry). Field e.start (name_from e) e.end) c.entry-e.ensures
