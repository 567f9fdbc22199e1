use borrow.Author.Tests.{lt-ltb, le-ltb}
use Rattle.text.specs.Classes.{ident_first}
use Rattle.text.proofs.classes.is_ident_first_char.Goals as goal

pub returns-then-c-lt128 : goal.returns-then-c-lt128
unfolding ident_first
returns-then-c-lt128 c = rw (lt-ltb _ _ c.if-c-lt128.true) c.is_ascii_first.ensures

pub returns : goal.returns
unfolding ident_first
returns c = rw (le-ltb _ _ c.if-c-lt128.false) c.is_xid_start.ensures
