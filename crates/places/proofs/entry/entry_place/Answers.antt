use mathlib.Core.Path.{ap}
use borrow.Author.Tests.{lt-ltb, le-ltb}
use Rattle.rows.specs.declared.Entry.{Entry}
use Rattle.places.specs.Entries.{entry_place}
use Rattle.places.proofs.entry.entry_place.Goals as goal

pub returns-then-n-count : goal.returns-then-n-count
unfolding entry_place
returns-then-n-count c = simp (lt-ltb _ _ c.if-n-count.true, ap (λ (e : Entry). e.start) c.entry-e.ensures)

pub returns-then-count-gt0 : goal.returns-then-count-gt0
unfolding entry_place
returns-then-count-gt0 c = simp (le-ltb _ _ c.if-n-count.false, lt-ltb _ _ c.if-count-gt0.true, ap (λ (e : Entry). e.end) c.entry-e-then-count-gt0.ensures)

pub returns : goal.returns
unfolding entry_place
returns c = simp (le-ltb _ _ c.if-n-count.false, le-ltb _ _ c.if-count-gt0.false)
