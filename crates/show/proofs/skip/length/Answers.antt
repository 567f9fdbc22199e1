use mathlib.Core.Bool.{Bool, cond}
use mathlib.Core.Path.{sym, ap, ◌∙◌}
use borrow.Author.Tests.{eq-eqb, ne_eqb}
use Rattle.cursor.specs.Cursor.{unclosed_line}
use Rattle.lines.specs.Ascii.{ascii}
use Rattle.lines.specs.Decimal.{word_of}
use Rattle.lines.specs.Out.{put}
use Rattle.show.specs.Skips.{length_text}
use Rattle.show.proofs.skip.length.Goals as goal

pub returns-then-n-eq-WS_CURSOR_UNCLOSED_LINE : goal.returns-then-n-eq-WS_CURSOR_UNCLOSED_LINE
unfolding length_text
returns-then-n-eq-WS_CURSOR_UNCLOSED_LINE c = c.bytes.ensures ∙ sym (ap (λ (b : Bool). put (c.args.o.now, c.args.at) (cond b (ascii " mark") (word_of c.args.n))) (eq-eqb c.args.n unclosed_line c.if-n-eq-WS_CURSOR_UNCLOSED_LINE.true))

pub returns : goal.returns
unfolding length_text
returns c = c.word.ensures ∙ sym (ap (λ (b : Bool). put (c.args.o.now, c.args.at) (cond b (ascii " mark") (word_of c.args.n))) (ne_eqb c.args.n unclosed_line c.if-n-eq-WS_CURSOR_UNCLOSED_LINE.false))
