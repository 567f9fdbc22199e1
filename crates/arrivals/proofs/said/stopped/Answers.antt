use mathlib.Core.List.{◌∷◌}
use Rattle.lines.proofs.OutLaws.{put_behind, then}
use Rattle.show.specs.Answers.{refused_text}
use Rattle.arrivals.specs.inner.Says.{counted_text, stopped_text}
use Rattle.arrivals.proofs.said.stopped.Goals as goal

pub returns : goal.returns
unfolding stopped_text
returns c =
    then (c.args.o.now, c.args.at) _ _ (counted_text c.args.n c.args.tape.now) (59 ∷ refused_text c.args.r) c.counted-a.ensures
    (put_behind _ _ _ 59 (refused_text c.args.r) c.byte-b.ensures c.refused.ensures)
