use Prim.Native.Nat.{◌-◌}
use native.Mathlib.Omega.{arith}
use mathlib.Core.Path.{◌∙◌}
use Rattle.fields.specs.Names.{name_at}
use Rattle.walk.proofs.OpenLaws.{fields_under, rising_next, open_next, open_last}
use Rattle.walk.proofs.judging.still_open.Goals as goal

pub closed-found-requires : goal.closed-found-requires
closed-found-requires c =
    let n = rising_next c.args.bases.now c.loop-d.d (c.loop-d.d - 1) c.loop-d.to (omega arith) c.loop-d.invariant.1 in
    (n.0, c.loop-d.invariant.2)

pub loop-d-preserved : goal.loop-d-preserved
loop-d-preserved c =
    let n = rising_next c.args.bases.now c.loop-d.d (c.loop-d.d - 1) c.loop-d.to (omega arith) c.loop-d.invariant.1 in (
      omega arith,
      n.1,
      fields_under c.args.text.now c.args.tape.now c.loop-d.fields c.closed-found.new.fields c.loop-d.to _ c.loop-d.invariant.2 c.closed-found.ensures.kept n.0,
      c.closed-found.ensures.kept.as_long ∙ c.loop-d.invariant.3,
      open_next (name_at c.args.text.now c.args.tape.now) c.loop-d.fields c.closed-found.new.fields c.args.bases.now c.loop-d.d (c.loop-d.d - 1) c.loop-d.to c.loop-d.found _ (omega arith) c.loop-d.invariant.1 c.closed-found.ensures.kept c.closed-found.ensures.told
          ∙ c.loop-d.invariant.4,
    )

pub returns : goal.returns
returns c = c.compared.ensures.told ∙ open_last (name_at c.args.text.now c.args.tape.now) c.loop-d.fields c.args.bases.now c.loop-d.d c.loop-d.to c.loop-d.found (omega arith) ∙ c.loop-d.invariant.4
