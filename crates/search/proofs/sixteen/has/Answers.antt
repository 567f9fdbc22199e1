use native.Mathlib.Omega.{arith}
use mathlib.Core.Path.{◌≡◌, ◌∙◌, ap, sym}
use lib.Dec.{ltb}
use lib.ListN.{drop}
use borrow.Author.Rules.{rules}
use borrow.Author.Tests.{eq-eqb, ne_eqb, le-ltb}
use Rattle.text.specs.Runs.{run}
use Rattle.search.specs.inner.Others.{other}
use Rattle.search.proofs.SearchLaws.{found_before, found_now}
use Rattle.search.proofs.sixteen.has.Goals as goal
use Rattle.search.proofs.sixteen.has.Goals.{then-s-at, else-s-at}

pub loop-k-init : goal.loop-k-init
loop-k-init c = sym (le-ltb (run (other c.args.b) (drop c.args.at c.args.s.now)) 0 (omega arith))

pub loop-k-preserved : goal.loop-k-preserved
unfolding other
loop-k-preserved c =
    elim c.if-s-at.branch [
      | then-s-at w ↦ w.found-is ∙ sym (found_now (other c.args.b) c.args.s.now c.args.at c.loop-k.k (search rules) (simp (eq-eqb _ _ w.if-s-at.true)))
      | else-s-at w ↦ w.found-is ∙ c.loop-k.invariant ∙ sym (found_before (other c.args.b) c.args.s.now c.args.at c.loop-k.k (search rules) (simp (ne_eqb _ _ w.if-s-at.false)))
    ]

pub returns : goal.returns
returns c =
    let all : c.loop-k.k ≡ 16 = omega arith in
    c.loop-k.invariant ∙ ap (ltb (run (other c.args.b) (drop c.args.at c.args.s.now))) all
