use Prim.Native.Nat.{ℕ}
use Rattle.text.specs.Refusals.{Told}
use mathlib.Core.Path.{sym, ap, ◌∙◌}
use Rattle.lines.specs.Out.{put}
use Rattle.show.specs.Answers.{answer_text}
use Rattle.show.specs.Readings.{read_text}
use Rattle.show.proofs.of_read.read.Goals as goal

pub returns-in-Ok : goal.returns-in-Ok
returns-in-Ok c = c.accepted.ensures ∙ sym (ap (λ (x : Told ℕ). put (c.args.o.now, c.args.at) (answer_text (read_text c.args.between c.args.tape.now) x)) c.in-Ok.is)

pub returns-in-Err : goal.returns-in-Err
returns-in-Err c = c.refused.ensures ∙ sym (ap (λ (x : Told ℕ). put (c.args.o.now, c.args.at) (answer_text (read_text c.args.between c.args.tape.now) x)) c.in-Err.is)
