use mathlib.Core.Path.{sym, ◌∙◌}
use Rattle.places.specs.Entries.{walk_place}
use Rattle.places.proofs.entry.walk_place.Goals as goal

pub returns-then-names_entry : goal.returns-then-names_entry
unfolding walk_place
returns-then-names_entry c = simp (sym c.names_entry.ensures ∙ c.if-names_entry.true, c.entry_place.ensures)

pub returns : goal.returns
unfolding walk_place
returns c = simp (sym c.names_entry.ensures ∙ c.if-names_entry.false)
