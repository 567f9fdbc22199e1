use mathlib.Core.Path.{◌∙◌, sym}
use borrow.Author.Tests.{eq-eqb, ne_eqb}
use Rattle.integers.specs.Front.{sign_of}
use Rattle.integers.proofs.front.sign_of.Goals as goal

pub returns-then-first-eq43 : goal.returns-then-first-eq43
unfolding sign_of
returns-then-first-eq43 c = simp (eq-eqb _ _ (sym c.peek-first.ensures ∙ c.if-first-eq43.true))

pub returns-then-first-eq45 : goal.returns-then-first-eq45
unfolding sign_of
returns-then-first-eq45 c = simp (ne_eqb _ _ (λ e. c.if-first-eq43.false (c.peek-first.ensures ∙ e)), eq-eqb _ _ (sym c.peek-first.ensures ∙ c.if-first-eq45.true))

pub returns : goal.returns
unfolding sign_of
returns c = simp (ne_eqb _ _ (λ e. c.if-first-eq43.false (c.peek-first.ensures ∙ e)), ne_eqb _ _ (λ e. c.if-first-eq45.false (c.peek-first.ensures ∙ e)))
