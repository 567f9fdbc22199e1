use mathlib.Core.Bool.{true}
use mathlib.Core.Path.{ap}
use borrow.Author.Rules.{rules}
use borrow.Author.Tests.{eq-eqb, ne_eqb}
use Rattle.cursor.proofs.CharLaws.{begins_end, begins_here}
use Rattle.cursor.specs.inner.Chars.{consumed_of}
use Rattle.cursor.specs.declared.ParserCursor.{ParserCursor}
use Rattle.cursor.proofs.ParserCursor.consume_char.Goals as goal

pub returns-then-text-at : goal.returns-then-text-at
unfolding consumed_of
returns-then-text-at c = rw (begins_end c.args.c c.args.text.now c.args.self.cursor c.if-text-at.true)

pub returns-then-text-at-2 : goal.returns-then-text-at-2
unfolding consumed_of
returns-then-text-at-2 c = rw (begins_here c.args.c c.args.text.now c.args.self.cursor (search rules), eq-eqb _ _ c.if-text-at-2.true) (ap (λ (x : ParserCursor). record { found = true; cursor = x }) c.advance_bytes.ensures)

pub returns : goal.returns
unfolding consumed_of
returns c = rw (begins_here c.args.c c.args.text.now c.args.self.cursor (search rules), ne_eqb _ _ c.if-text-at-2.false)
