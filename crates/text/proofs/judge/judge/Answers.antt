use Rattle.std.proofs.Common.{Err}
use mathlib.Core.Path.{ap, ◌∙◌, sym}
use borrow.Author.Tests.{le-ltb, lt-ltb}
use Rattle.text.specs.Judged.{judged_of, by_utf8}
use Rattle.text.proofs.judge.judge.Goals as goal

pub returns-then-text-gt65536 : goal.returns-then-text-gt65536
unfolding judged_of
returns-then-text-gt65536 c = rw (lt-ltb _ _ c.if-text-gt65536.true) (ap Err c.too_long.ensures)

pub returns-in-None : goal.returns-in-None
unfolding judged_of
returns-in-None c = rw (le-ltb _ _ c.if-text-gt65536.false) (ap by_utf8 (sym c.in-None.is ∙ c.first_bad-utf8.ensures))

pub returns-in-Some : goal.returns-in-Some
unfolding judged_of
returns-in-Some c = rw (le-ltb _ _ c.if-text-gt65536.false) (ap Err c.not_utf8.ensures ∙ ap by_utf8 (sym c.in-Some.is ∙ c.first_bad-utf8.ensures))
