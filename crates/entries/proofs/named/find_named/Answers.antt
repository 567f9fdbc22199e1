use Rattle.std.proofs.Common.{Err}
use mathlib.Core.Path.{ap, sym}
use borrow.Author.Tests.{le-leb, le-ltb, lt-leb, lt-ltb}
use Rattle.entries.specs.Named.{named_of}
use Rattle.entries.proofs.named.find_named.Goals as goal

pub returns-then-count-entry : goal.returns-then-count-entry
unfolding named_of
returns-then-count-entry c = simp (le-leb _ _ c.if-count-entry.true) (ap Err c.unfit.ensures)

pub returns-then-entry-room : goal.returns-then-entry-room
unfolding named_of
returns-then-entry-room c = rw (lt-leb _ _ c.if-count-entry.false, lt-ltb _ _ (rw c.room.ensures at c.if-entry-room.true)) c.named_inside.ensures

pub returns : goal.returns
unfolding named_of
returns c = rw (lt-leb _ _ c.if-count-entry.false, sym c.room.ensures, le-ltb _ _ c.if-entry-room.false) (ap Err c.not_in_order.ensures)
