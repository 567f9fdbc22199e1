use native.Mathlib.Omega.{arith}
use mathlib.Core.Path.{◌∙◌, ap}
use Prim.Native.Nat.{◌+◌, ◌-◌}
use Rattle.fields.specs.inner.Again.{earlier}
use Rattle.fields.specs.Names.{name_at}
use Rattle.walk.proofs.ClosedLaws.{search_tells, lent_back}
use Rattle.walk.proofs.judging.compared.Goals as goal

pub returns : goal.returns
returns c =
    let r = c.requires.1.room in record {
      told = c.earlier.ensures ∙ ap (earlier c.args.found) (search_tells c.args.fields.now c.args.from (c.args.to - c.args.from) (omega arith) (name_at c.args.text.now c.args.tape.now) _
          (λ p q h l. c.requires.1.rise (c.args.from + p) (c.args.from + q) (omega arith) (omega arith)) c.first_again.ensures.first);
      kept = lent_back c.args.fields.now c.args.from (c.args.to - c.args.from) (omega arith) c.first_again.new.fields c.first_again.ensures.left.as_many;
    }
