use Rattle.std.proofs.Common.{Option, ℕ}
use Prim.Native.Nat.{◌+◌}
use native.Mathlib.Omega.{arith}
use mathlib.Core.Path.{◌∙◌, subst, sym}
use Rattle.fields.proofs.EntryLaws.{named_at}
use Rattle.fields.proofs.FirstLaws.{Least, Near, ascending_on, near_done, near_other, near_same, near_start, ascending_start}
use Rattle.fields.specs.Names.{name_at}
use Rattle.fields.specs.inner.Order.{told, unsorted}
use Rattle.fields.proofs.again.neighbours.Goals as goal
use Rattle.fields.proofs.again.neighbours.Goals.{then-same_name, else-same_name}

pub loop-p-init : goal.loop-p-init
loop-p-init c = (omega arith, ascending_start (name_at c.args.text.now c.args.tape.now) c.args.fields.now, near_start (name_at c.args.text.now c.args.tape.now) c.args.fields.now)

pub comes_before-requires : goal.comes_before-requires
comes_before-requires c = (named_at c.args.text.now c.args.tape.now c.args.fields.now c.requires _ (omega (arith, c.loop-p-test.true)), named_at c.args.text.now c.args.tape.now c.args.fields.now c.requires _ (omega (arith, c.loop-p-test.true)))

pub returns-then-not-comes_before : goal.returns-then-not-comes_before
returns-then-not-comes_before c = unsorted

pub loop-p-preserved : goal.loop-p-preserved
loop-p-preserved c = (
  omega arith,
  ascending_on (name_at c.args.text.now c.args.tape.now) c.args.fields.now c.loop-p.p c.loop-p.invariant.0 (omega (arith, c.loop-p-test.true)) c.loop-p.invariant.1 (sym c.comes_before.ensures ∙ c.if-not-comes_before.false),
  elim c.if-same_name.branch [
    | then-same_name w ↦ subst (λ (a : Option ℕ). Least (Near (name_at c.args.text.now c.args.tape.now) c.args.fields.now (c.loop-p.p + 1)) a) (sym (w.found-is ∙ w.earlier-found.ensures)) (near_same (name_at c.args.text.now c.args.tape.now) c.args.fields.now c.loop-p.p c.loop-p.invariant.0 (omega (arith, c.loop-p-test.true)) c.loop-p.found (sym c.same_name.ensures ∙ w.if-same_name.true) c.loop-p.invariant.2)
    | else-same_name w ↦ subst (λ (a : Option ℕ). Least (Near (name_at c.args.text.now c.args.tape.now) c.args.fields.now (c.loop-p.p + 1)) a) (sym w.found-is) (near_other (name_at c.args.text.now c.args.tape.now) c.args.fields.now c.loop-p.p c.loop-p.invariant.0 (omega (arith, c.loop-p-test.true)) c.loop-p.found (sym c.same_name.ensures ∙ w.if-same_name.false) c.loop-p.invariant.2)
  ],
)

pub returns : goal.returns
returns c = told (near_done (name_at c.args.text.now c.args.tape.now) c.args.fields.now c.loop-p.p (omega (arith, c.loop-p-test.false)) c.loop-p.invariant.1 c.loop-p.found c.loop-p.invariant.2)
