use native.Mathlib.Omega.{arith}
use mathlib.Core.Path.{◌∙◌, sym}
use borrow.Author.Rules.{rules}
use Rattle.text.proofs.AsciiLaws.{ascii_many}
use Rattle.text.proofs.ascii.run8.Goals as goal

pub loop-i-preserved : goal.loop-i-preserved
loop-i-preserved c = (search rules, omega (arith, c.loop-i.invariant.1, ascii_many c.args.s.now c.loop-i.i 8 (search rules) (sym c.ascii8.ensures ∙ c.if-not-ascii8.false)))
