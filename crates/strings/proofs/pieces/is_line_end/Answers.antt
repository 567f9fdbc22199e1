use Prim.Native.Nat.{ℕ}
use mathlib.Core.Path.{◌∙◌, ap, sym}
use lib.Dec.{eqb}
use lib.ListN.{get_or}
use borrow.Author.Tests.{eq-eqb, ne_eqb}
use Rattle.strings.specs.Pieces.{line_end}
use Rattle.strings.proofs.pieces.is_line_end.Goals as goal

pub returns-then-b-eq10 : goal.returns-then-b-eq10
unfolding line_end
returns-then-b-eq10 c = simp (eq-eqb (get_or c.args.s.now 0 0) 0x0A (sym c.peek-b.ensures ∙ c.if-b-eq10.true))

pub returns-then-b-eq13 : goal.returns-then-b-eq13
unfolding line_end
returns-then-b-eq13 c = simp (ne_eqb (get_or c.args.s.now 0 0) 0x0A (λ e. c.if-b-eq10.false (c.peek-b.ensures ∙ e)), eq-eqb (get_or c.args.s.now 0 0) 0x0D (sym c.peek-b.ensures ∙ c.if-b-eq13.true)) (ap (λ (x : ℕ). eqb x 0x0A) c.peek.ensures)

pub returns : goal.returns
unfolding line_end
returns c = simp (ne_eqb (get_or c.args.s.now 0 0) 0x0A (λ e. c.if-b-eq10.false (c.peek-b.ensures ∙ e)), ne_eqb (get_or c.args.s.now 0 0) 0x0D (λ e. c.if-b-eq13.false (c.peek-b.ensures ∙ e)))
