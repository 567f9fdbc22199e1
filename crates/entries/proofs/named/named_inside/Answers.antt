use Rattle.std.proofs.Common.{Err}
use mathlib.Core.Path.{◌∙◌, ap, sym}
use borrow.Author.Tests.{le-ltb, lt-ltb}
use Rattle.entries.specs.Named.{inside_of}
use Rattle.entries.proofs.named.named_inside.Goals as goal

pub returns-then-not-place_fits : goal.returns-then-not-place_fits
unfolding inside_of
returns-then-not-place_fits c = rw (sym c.entry-e.ensures, sym c.start_of-place.ensures, sym c.place_fits.ensures ∙ c.if-not-place_fits.true) (ap Err c.unfit.ensures)

pub returns-then-room-count : goal.returns-then-room-count
unfolding inside_of
returns-then-room-count c = rw (sym c.entry-e.ensures, sym c.start_of-place.ensures, sym c.place_fits.ensures ∙ c.if-not-place_fits.false, sym c.room.ensures, lt-ltb _ _ c.if-room-count.true) (ap Err c.not_in_order.ensures)

pub returns : goal.returns
unfolding inside_of
returns c = rw (sym c.entry-e.ensures, sym c.start_of-place.ensures, sym c.place_fits.ensures ∙ c.if-not-place_fits.false, sym c.room.ensures, le-ltb _ _ c.if-room-count.false) c.by_kind.ensures
