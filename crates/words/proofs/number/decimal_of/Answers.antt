use native.Mathlib.Omega.{arith}
use mathlib.Core.Path.{sym, ◌∙◌}
use lib.ListN.{length}
use borrow.Author.Tests.{eqb-true, eq-eqb}
use Rattle.words.proofs.Decimals.{decimal_none, decimal_some, decimal_next, decimal_bad, decimal_last}
use Rattle.words.proofs.number.decimal_of.Goals as goal

pub returns-then-is_empty : goal.returns-then-is_empty
returns-then-is_empty c = sym (decimal_none _ (eqb-true _ _ (sym c.is_empty.ensures ∙ c.if-is_empty.true)))

pub returns-in_err-n : goal.returns-in_err-n
returns-in_err-n c =
    c.from_residual.ensures
    ∙ sym (decimal_some _ (λ e. cc (eq-eqb (length c.args.s.now) 0 e)) ∙ sym c.loop-b.invariant.1 ∙ decimal_bad _ _ _ c.loop-b-test.true (sym c.with_digit.ensures ∙ c.in_err-n.was))

pub loop-b-preserved : goal.loop-b-preserved
loop-b-preserved c = (
  omega arith,
  sym (decimal_next _ _ _ _ c.loop-b-test.true (sym c.with_digit.ensures ∙ c.in_ok-n.was)) ∙ c.loop-b.invariant.1,
)

pub returns : goal.returns
returns c = sym (decimal_some _ (λ e. cc (eq-eqb (length c.args.s.now) 0 e)) ∙ sym c.loop-b.invariant.1 ∙ decimal_last _ _ _ c.loop-b-test.false (omega arith))
