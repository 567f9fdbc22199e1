use Prim.Native.Nat.{◌+◌}
use native.Mathlib.Omega.{arith}
use mathlib.Core.Path.{ap, sym, ◌∙◌}
use lib.ListN.{drop, length-drop}
use borrow.Author.Rules.{rules}
use Rattle.text.proofs.Lists.{tail_part}
use Rattle.text.proofs.RunLaws.{run_end, run_le, run_more, run_out}
use Rattle.text.specs.Classes.{blank1}
use Rattle.text.specs.Runs.{run}
use Rattle.read.proofs.pass.behind_blanks.Goals as goal

pub returns-then-text-at : goal.returns-then-text-at
returns-then-text-at c = omega (arith, run_end blank1 c.args.text.now c.args.at c.if-text-at.true)

pub returns-then-not-is_blank : goal.returns-then-not-is_blank
returns-then-not-is_blank c = omega (arith, run_out blank1 c.args.text.now c.args.at (search rules) (sym c.is_blank.ensures ∙ c.if-not-is_blank.true))

pub overflow_add-result : goal.overflow_add-result
overflow_add-result c = let n = c.count_blanks.ensures ∙ ap (run blank1) (tail_part c.args.text.now (c.args.at + 1)) in omega (arith, n, run_le blank1 (drop (c.args.at + 1) c.args.text.now), length-drop (c.args.at + 1) c.args.text.now)

pub returns : goal.returns
returns c =
    let n = c.count_blanks.ensures ∙ ap (run blank1) (tail_part c.args.text.now (c.args.at + 1)) in
    omega (arith, n, run_more blank1 c.args.text.now c.args.at (search rules) (sym c.is_blank.ensures ∙ c.if-not-is_blank.false))
