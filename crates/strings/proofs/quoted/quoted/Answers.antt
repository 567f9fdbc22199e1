use native.Mathlib.Omega.{arith}
use mathlib.Core.Path.{◌∙◌, sym}
use lib.ListN.{drop, length, length-drop}
use borrow.Author.Tests.{le-ltb, lt-ltb}
use Rattle.strings.proofs.QuotedLaws.{quoted_none, quoted_plain}
use Rattle.strings.specs.Pieces.{plain, unquoted}
use Rattle.strings.specs.Quoted.{quoted_of}
use Rattle.text.proofs.Lists.{tail_part}
use Rattle.text.proofs.RunLaws.{run_le}
use Rattle.text.specs.Runs.{run}
use Rattle.strings.proofs.quoted.quoted.Goals as goal

pub overflow_add-end : goal.overflow_add-end
overflow_add-end c = omega (arith, simp tail_part at c.find_end-n.ensures, run_le plain (drop c.args.start c.args.s.now), length-drop c.args.start c.args.s.now)

pub returns-then-s-end : goal.returns-then-s-end
returns-then-s-end c = c.unclosed.ensures ∙ sym (quoted_none c.args.m c.args.s.now c.args.start c.find_end-n.result (simp tail_part at c.find_end-n.ensures) c.requires c.if-s-end.true)

pub returns-then-s-end-eq34 : goal.returns-then-s-end-eq34
returns-then-s-end-eq34 c = sym (quoted_plain c.args.m c.args.s.now c.args.start c.find_end-n.result (simp tail_part at c.find_end-n.ensures) c.if-s-end.false c.if-s-end-eq34.true)

pub returns-then-find_quote-t : goal.returns-then-find_quote-t
unfolding quoted_of
returns-then-find_quote-t c = c.body.ensures ∙ simp (lt-ltb (run unquoted (drop c.args.start c.args.s.now)) (length (drop c.args.start c.args.s.now)) (simp tail_part at (rw c.find_quote.ensures at c.if-find_quote-t.true)))

pub returns : goal.returns
unfolding quoted_of
returns c = c.unclosed-2.ensures ∙ simp (le-ltb (run unquoted (drop c.args.start c.args.s.now)) (length (drop c.args.start c.args.s.now)) (simp tail_part at (rw c.find_quote.ensures at c.if-find_quote-t.false)))
