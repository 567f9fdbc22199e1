use Rattle.std.proofs.Common.{Err}
use mathlib.Core.Path.{refl, sym, ◌∙◌}
use Rattle.tapes.proofs.WalkLaws.{read_walked, accepted_walked}
use Rattle.tapes.proofs.walk_text.walked.Goals as goal

pub returns-in-Ok : goal.returns-in-Ok
returns-in-Ok c =
    accepted_walked c.args.text.now c.args.tape.now c.args.links.now c.args.limit _ c.read-r.ensures.1 (c.args.o.now, c.args.at) _ _
    c.in-Ok.n (sym c.in-Ok.is ∙ c.read-r.ensures.0) _ c.asked.ensures c.answer.ensures

pub returns-in-Err : goal.returns-in-Err
returns-in-Err c =
    read_walked c.args.text.now c.args.tape.now c.args.links.now c.args.limit _ c.read-r.ensures.1 (c.args.o.now, c.args.at) _ _
    (Err c.in-Err.f) (sym c.in-Err.is ∙ c.read-r.ensures.0) (c.refused.ensures, refl)
