use native.Mathlib.Omega.{arith}
use mathlib.Core.Path.{◌∙◌, sym}
use borrow.Author.Tests.{eq-eqb, ne_eqb}
use Rattle.escapes.proofs.EscapeLaws.{close_at, close_empty, close_end}
use Rattle.escapes.proofs.unicode.close.Goals as goal

pub returns-then-empty : goal.returns-then-empty
returns-then-empty c = c.invalid.ensures ∙ simp c.if-empty.true (sym (close_empty c.args.v c.args.at c.args.t.now))

pub returns-then-t-eq0 : goal.returns-then-t-eq0
returns-then-t-eq0 c = c.invalid-then-t-eq0.ensures ∙ simp c.if-empty.false (sym (close_end c.args.v c.args.at c.args.t.now c.if-t-eq0.true))

pub returns-then-is_scalar : goal.returns-then-is_scalar
returns-then-is_scalar c = simp c.if-empty.false (sym (close_at c.args.v c.args.at c.args.t.now (omega arith) ∙ simp (eq-eqb _ _ c.if-t-eq125.true, sym c.is_scalar.ensures ∙ c.if-is_scalar.true)))

pub returns-then-t-eq125 : goal.returns-then-t-eq125
returns-then-t-eq125 c = c.invalid-then-t-eq125.ensures ∙ simp c.if-empty.false (sym (close_at c.args.v c.args.at c.args.t.now (omega arith) ∙ simp (eq-eqb _ _ c.if-t-eq125.true, sym c.is_scalar.ensures ∙ c.if-is_scalar.false)))

pub returns : goal.returns
returns c = c.invalid-2.ensures ∙ simp c.if-empty.false (sym (close_at c.args.v c.args.at c.args.t.now (omega arith) ∙ simp (ne_eqb _ _ c.if-t-eq125.false)))
