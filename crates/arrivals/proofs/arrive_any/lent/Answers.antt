use Prim.Native.Nat.{ℕ}
use mathlib.Core.Path.{ap, ◌∙◌}
use Rattle.lines.specs.Out.{put}
use Rattle.arrivals.specs.inner.Calls.{called_text}
use Rattle.arrivals.proofs.CallLaws.{lent_room}
use Rattle.arrivals.proofs.arrive_any.lent.Goals as goal

pub returns : goal.returns
returns c =
    c.call.ensures
    ∙ ap (λ (x : ℕ). put (c.args.o.now, c.args.at) (called_text c.args.last c.args.s c.args.k c.args.text.now x)) (lent_room c.args.room _ c.args.tape.now c.least-m.ensures)
