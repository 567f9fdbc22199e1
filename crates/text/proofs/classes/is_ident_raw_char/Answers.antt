use borrow.Author.Tests.{lt-ltb, le-ltb}
use Rattle.text.specs.Classes.{ident_raw}
use Rattle.text.proofs.classes.is_ident_raw_char.Goals as goal

pub returns-then-c-lt128 : goal.returns-then-c-lt128
unfolding ident_raw
returns-then-c-lt128 c = rw (lt-ltb _ _ c.if-c-lt128.true) c.is_ascii_raw.ensures

pub returns : goal.returns
unfolding ident_raw
returns c = rw (le-ltb _ _ c.if-c-lt128.false) c.is_xid_continue.ensures
