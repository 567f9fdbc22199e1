use Rattle.std.proofs.Common.{Option}
use Prim.Native.Nat.{ℕ, ◌+◌}
use native.Mathlib.Omega.{arith}
use mathlib.Core.Path.{◌∙◌, ◌≡◌, subst, sym}
use Rattle.fields.proofs.EntryLaws.{named_at}
use Rattle.fields.proofs.FirstLaws.{Least, Part, part_start, part_done, turn_other, turn_same}
use Rattle.fields.specs.Names.{name_at}
use Rattle.fields.proofs.again.against.Goals as goal
use Rattle.fields.proofs.again.against.Goals.{then-same_name, else-same_name}

pub loop-q-init : goal.loop-q-init
loop-q-init c = (omega arith, part_start (name_at c.args.text.now c.args.tape.now) c.args.fields.now c.args.p c.args.known c.requires.2)

pub same_name-requires : goal.same_name-requires
same_name-requires c = (named_at c.args.text.now c.args.tape.now c.args.fields.now c.requires.1 _ (omega (arith, c.loop-q-test.true, c.requires.0)), named_at c.args.text.now c.args.tape.now c.args.fields.now c.requires.1 _ c.requires.0)

pub loop-q-preserved : goal.loop-q-preserved
loop-q-preserved c = (
  omega (arith, c.loop-q-test.true),
  elim c.if-same_name.branch [
    | then-same_name w ↦ subst (λ (a : Option ℕ). Least (Part (name_at c.args.text.now c.args.tape.now) c.args.fields.now c.args.p (c.loop-q.q + 1)) a) (sym (w.found-is ∙ w.paired-found.ensures)) (turn_same (name_at c.args.text.now c.args.tape.now) c.args.fields.now c.args.p c.loop-q.q c.loop-q.found (sym c.same_name.ensures ∙ w.if-same_name.true) c.loop-q.invariant.1)
    | else-same_name w ↦ subst (λ (a : Option ℕ). Least (Part (name_at c.args.text.now c.args.tape.now) c.args.fields.now c.args.p (c.loop-q.q + 1)) a) (sym w.found-is) (turn_other (name_at c.args.text.now c.args.tape.now) c.args.fields.now c.args.p c.loop-q.q c.loop-q.found (sym c.same_name.ensures ∙ w.if-same_name.false) c.loop-q.invariant.1)
  ],
)

pub returns : goal.returns
returns c = let z : c.loop-q.q ≡ c.args.p = omega (arith, c.loop-q.invariant.0, c.loop-q-test.false) in
    part_done (name_at c.args.text.now c.args.tape.now) c.args.fields.now c.args.p c.requires.0 c.loop-q.found (subst (λ (k : ℕ). Least (Part (name_at c.args.text.now c.args.tape.now) c.args.fields.now c.args.p k) c.loop-q.found) z c.loop-q.invariant.1)
