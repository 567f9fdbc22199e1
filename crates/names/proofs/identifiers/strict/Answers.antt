use mathlib.Core.Path.{sym}
use borrow.Author.Tests.{eq-eqb, le-ltb, lt-ltb, ne_eqb}
use Rattle.names.specs.Identifiers.{strict_of}
use Rattle.names.proofs.identifiers.strict.Goals as goal

pub returns-then-n-eq0 : goal.returns-then-n-eq0
unfolding strict_of
returns-then-n-eq0 c = simp (sym c.name_len-n.ensures, sym c.next_chars_while_len-raw.ensures, eq-eqb _ _ c.if-n-eq0.true)

pub returns-then-n-raw : goal.returns-then-n-raw
unfolding strict_of
returns-then-n-raw c = simp (sym c.name_len-n.ensures, sym c.next_chars_while_len-raw.ensures, ne_eqb _ _ c.if-n-eq0.false, lt-ltb _ _ c.if-n-raw.true)

pub returns : goal.returns
unfolding strict_of
returns c = simp (sym c.name_len-n.ensures, sym c.next_chars_while_len-raw.ensures, ne_eqb _ _ c.if-n-eq0.false, le-ltb _ _ c.if-n-raw.false)
