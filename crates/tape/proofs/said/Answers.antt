use Prim.Native.Nat.{ℕ}
use Rattle.text.specs.Refusals.{Told}
use mathlib.Core.Path.{sym, ap, ◌∙◌}
use Rattle.lines.specs.Out.{put}
use Rattle.tape.specs.Printed.{said_text}
use Rattle.tape.proofs.said.Goals as goal

pub returns-in-Ok : goal.returns-in-Ok
returns-in-Ok c = c.accepted.ensures ∙ sym (ap (λ (x : Told ℕ). put (c.args.o.now, 0) (said_text c.args.tape.now x)) c.in-Ok.is)

pub returns-in-Err : goal.returns-in-Err
returns-in-Err c = c.placed.ensures ∙ sym (ap (λ (x : Told ℕ). put (c.args.o.now, 0) (said_text c.args.tape.now x)) c.in-Err.is)
