use Prim.Native.Nat.{ℕ}
use mathlib.Core.List.{List}
use mathlib.Core.Path.{◌∙◌, ap, sym}
use borrow.Author.Tests.{eq-eqb, ne_eqb}
use Rattle.names.specs.Classify.{named, suffixed}
use Rattle.text.proofs.Lists.{tail_part}
use Rattle.names.proofs.classify.name.Goals as goal

pub returns-then-not-begins_float : goal.returns-then-not-begins_float
unfolding named
returns-then-not-begins_float c = simp (sym c.begins_float.ensures ∙ c.if-not-begins_float.true)

pub returns-then-n-eq3 : goal.returns-then-n-eq3
unfolding named
returns-then-n-eq3 c = simp (sym c.begins_float.ensures ∙ c.if-not-begins_float.false, eq-eqb _ _ c.if-n-eq3.true)

pub returns-then-n-eq6 : goal.returns-then-n-eq6
unfolding named
returns-then-n-eq6 c = simp (sym c.begins_float.ensures ∙ c.if-not-begins_float.false, ne_eqb _ _ c.if-n-eq3.false, eq-eqb _ _ c.if-n-eq6.true, c.suffixed_name.ensures, ap (λ (t : List ℕ). suffixed t c.args.n) (tail_part c.args.s.now 3))

pub returns : goal.returns
unfolding named
returns c = simp (sym c.begins_float.ensures ∙ c.if-not-begins_float.false, ne_eqb _ _ c.if-n-eq3.false, ne_eqb _ _ c.if-n-eq6.false)
