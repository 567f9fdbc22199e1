use mathlib.Core.Path.{ap, ◌∙◌, ◌≡◌}
use Prim.Native.Nat.{ℕ, ◌-◌}
use native.Mathlib.Omega.{arith}
use lib.ListN.{take, drop}
use Rattle.edits.specs.Repairs.{edit_in}
use Rattle.edits.proofs.LineLaws.{done}
use Rattle.edits.proofs.TextLaws.{edit_same}
use Rattle.edits.proofs.repair_text.edit.Goals as goal

pub returns : goal.returns
returns c =
    let same : c.args.n - 0 ≡ c.args.n = omega arith in
    done (edit_in (take c.args.n c.args.text.now) (take (c.args.m - c.args.n) (drop c.args.n c.args.text.now)) c.args.a c.args.b c.args.tape.now c.args.aside.now) _ (c.args.o.now, c.args.at) _
    (edit_same c.args.tape.now c.args.aside.now c.args.a c.args.b (c.part.ensures ∙ ap (λ (x : ℕ). take x c.args.text.now) same) c.part-2.ensures) c.lent_to.ensures
