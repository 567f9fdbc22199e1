use borrow.Author.Tests.{lt-ltb, le-ltb}
use Rattle.text.specs.Classes.{ident_next}
use Rattle.text.proofs.classes.is_ident_next_char.Goals as goal

pub returns-then-c-lt128 : goal.returns-then-c-lt128
unfolding ident_next
returns-then-c-lt128 c = rw (lt-ltb _ _ c.if-c-lt128.true) c.is_ascii_next.ensures

pub returns : goal.returns
unfolding ident_next
returns c = rw (le-ltb _ _ c.if-c-lt128.false) c.is_xid_continue.ensures
