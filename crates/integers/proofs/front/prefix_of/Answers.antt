use mathlib.Core.Path.{◌∙◌, sym}
use borrow.Author.Tests.{eq-eqb, ne_eqb}
use Rattle.integers.specs.Front.{prefix_of}
use Rattle.integers.proofs.front.prefix_of.Goals as goal

pub returns-then-peek-ne48 : goal.returns-then-peek-ne48
unfolding prefix_of
returns-then-peek-ne48 c = simp (ne_eqb _ _ (λ e. c.if-peek-ne48.true (c.peek.ensures ∙ e)))

pub returns-then-letter-eq98 : goal.returns-then-letter-eq98
unfolding prefix_of
returns-then-letter-eq98 c = simp (eq-eqb _ _ (sym c.peek.ensures ∙ c.if-peek-ne48.false), eq-eqb _ _ (sym c.peek-letter.ensures ∙ c.if-letter-eq98.true))

pub returns-then-letter-eq111 : goal.returns-then-letter-eq111
unfolding prefix_of
returns-then-letter-eq111 c = simp (eq-eqb _ _ (sym c.peek.ensures ∙ c.if-peek-ne48.false), ne_eqb _ _ (λ e. c.if-letter-eq98.false (c.peek-letter.ensures ∙ e)), eq-eqb _ _ (sym c.peek-letter.ensures ∙ c.if-letter-eq111.true))

pub returns-then-letter-eq120 : goal.returns-then-letter-eq120
unfolding prefix_of
returns-then-letter-eq120 c = simp (eq-eqb _ _ (sym c.peek.ensures ∙ c.if-peek-ne48.false), ne_eqb _ _ (λ e. c.if-letter-eq98.false (c.peek-letter.ensures ∙ e)), ne_eqb _ _ (λ e. c.if-letter-eq111.false (c.peek-letter.ensures ∙ e)), eq-eqb _ _ (sym c.peek-letter.ensures ∙ c.if-letter-eq120.true))

pub returns : goal.returns
unfolding prefix_of
returns c = simp (eq-eqb _ _ (sym c.peek.ensures ∙ c.if-peek-ne48.false), ne_eqb _ _ (λ e. c.if-letter-eq98.false (c.peek-letter.ensures ∙ e)), ne_eqb _ _ (λ e. c.if-letter-eq111.false (c.peek-letter.ensures ∙ e)), ne_eqb _ _ (λ e. c.if-letter-eq120.false (c.peek-letter.ensures ∙ e)))
