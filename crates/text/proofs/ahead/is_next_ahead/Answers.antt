use mathlib.Core.Path.{sym, ◌∙◌}
use Rattle.text.proofs.AheadLaws.{ahead_ascii, ahead_nil}
use borrow.Author.Rules.{rules}
use Rattle.text.proofs.ahead.is_next_ahead.Goals as goal

pub returns-then-s-eq0 : goal.returns-then-s-eq0
returns-then-s-eq0 c = sym (ahead_nil c.args.s.now c.if-s-eq0.true)

pub returns-then-a-lt128 : goal.returns-then-a-lt128
returns-then-a-lt128 c = c.is_ascii_next.ensures ∙ sym (ahead_ascii c.args.s.now (search rules) c.if-a-lt128.true)
