use mathlib.Core.Path.{sym}
use borrow.Author.Tests.{eq-eqb, ne_eqb}
use Rattle.names.specs.Identifiers.{plain_of}
use Rattle.names.proofs.identifiers.plain.Goals as goal

pub returns-then-n-eq0 : goal.returns-then-n-eq0
unfolding plain_of
returns-then-n-eq0 c = simp (sym c.name_len-n.ensures, eq-eqb _ _ c.if-n-eq0.true)

pub returns : goal.returns
unfolding plain_of
returns c = simp (sym c.name_len-n.ensures, ne_eqb _ _ c.if-n-eq0.false)
