use native.Mathlib.Omega.{arith}
use Prim.Native.Nat.{◌-◌}
use mathlib.Core.Path.{refl}
use Rattle.fields.specs.Names.{name_at}
use Rattle.walk.proofs.ClosedLaws.{few_nowhere}
use Rattle.walk.proofs.judging.closed.Goals as goal

pub returns-then-to-from-le1 : goal.returns-then-to-from-le1
returns-then-to-from-le1 c = record {
  told = few_nowhere (name_at c.args.text.now c.args.tape.now) c.args.fields.now c.args.from (c.args.to - c.args.from) c.args.found (omega arith);
  kept = record { as_long = refl; below = λ p h. refl };
}
