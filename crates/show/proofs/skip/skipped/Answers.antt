use Rattle.text.specs.Refusals.{Told}
use Rattle.cursor.specs.declared.ParserCursor.{ParserCursor}
use mathlib.Core.Path.{sym, ap, ◌∙◌}
use Rattle.lines.specs.Ascii.{ascii}
use Rattle.lines.specs.Out.{put}
use Rattle.lines.proofs.OutLaws.{then}
use Rattle.show.specs.Answers.{answer_text}
use Rattle.show.specs.Skips.{cursor_text, moved_text}
use Rattle.show.proofs.skip.skipped.Goals as goal

pub returns-in-Ok : goal.returns-in-Ok
unfolding moved_text
returns-in-Ok c = then (c.args.o.now, c.args.at) _ _ (ascii "ok") (cursor_text c.in-Ok.c) c.bytes-a.ensures c.cursor.ensures ∙ sym (ap (λ (x : Told ParserCursor). put (c.args.o.now, c.args.at) (answer_text moved_text x)) c.in-Ok.is)

pub returns-in-Err : goal.returns-in-Err
returns-in-Err c = c.refused.ensures ∙ sym (ap (λ (x : Told ParserCursor). put (c.args.o.now, c.args.at) (answer_text moved_text x)) c.in-Err.is)
