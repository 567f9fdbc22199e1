use borrow.Author.Tests.{eq-eqb, ne_eqb}
use Rattle.entries.specs.Named.{by_kind}
use Rattle.entries.proofs.named.by_kind.Goals as goal

pub returns-then-kind-eq-STRING : goal.returns-then-kind-eq-STRING
unfolding by_kind
returns-then-kind-eq-STRING c = simp (eq-eqb _ _ c.if-kind-eq-STRING.true)

pub returns-then-kind-eq-BYTE_STRING : goal.returns-then-kind-eq-BYTE_STRING
unfolding by_kind
returns-then-kind-eq-BYTE_STRING c = simp (ne_eqb _ _ c.if-kind-eq-STRING.false, eq-eqb _ _ c.if-kind-eq-BYTE_STRING.true)

pub returns : goal.returns
unfolding by_kind
returns c = simp (ne_eqb _ _ c.if-kind-eq-STRING.false, ne_eqb _ _ c.if-kind-eq-BYTE_STRING.false, c.other_kind.ensures)
