use mathlib.Core.Path.{◌∙◌, sym}
use borrow.Author.Tests.{eq-eqb, ne_eqb}
use Rattle.xid.proofs.UsualLaws.{below_greek, below_han, below_hangul, below_latin, in_greek, in_han, in_hangul, in_latin}
use Rattle.xid.proofs.usual.is_usual.Goals as goal

pub returns-then-c-lt192 : goal.returns-then-c-lt192
returns-then-c-lt192 c = sym (below_latin _ c.if-c-lt192.true)

pub returns-then-c-eq215 : goal.returns-then-c-eq215
returns-then-c-eq215 c = sym (in_latin _ c.if-c-lt192.false c.if-c-le705.true ∙ rw (eq-eqb _ _ c.if-c-eq215.true))

pub returns-then-c-le705 : goal.returns-then-c-le705
returns-then-c-le705 c = sym (in_latin _ c.if-c-lt192.false c.if-c-le705.true ∙ rw (ne_eqb _ _ c.if-c-eq215.false))

pub returns-then-c-lt931 : goal.returns-then-c-lt931
returns-then-c-lt931 c = sym (below_greek _ c.if-c-le705.false c.if-c-lt931.true)

pub returns-then-c-le1153 : goal.returns-then-c-le1153
returns-then-c-le1153 c = sym (in_greek _ c.if-c-lt931.false c.if-c-le1153.true)

pub returns-then-c-lt19968 : goal.returns-then-c-lt19968
returns-then-c-lt19968 c = sym (below_han _ c.if-c-le1153.false c.if-c-lt19968.true)

pub returns-then-c-le42124 : goal.returns-then-c-le42124
returns-then-c-le42124 c = sym (in_han _ c.if-c-lt19968.false c.if-c-le42124.true)

pub returns-then-c-lt44032 : goal.returns-then-c-lt44032
returns-then-c-lt44032 c = sym (below_hangul _ c.if-c-le42124.false c.if-c-lt44032.true)

pub returns : goal.returns
returns c = sym (in_hangul _ c.if-c-lt44032.false)
