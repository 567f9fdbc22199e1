use Rattle.lists.proofs.ListedLaws.{written_said, refused_said}
use Rattle.lists.proofs.listed.said.Goals as goal

pub returns-in-Ok : goal.returns-in-Ok
returns-in-Ok c =
    written_said c.args.n c.args.magnitudes.now c.args.codes.now (c.args.o.now, c.args.at) _ _ _ c.clean.ensures c.args.r c.in-Ok.is
    _ _ c.first.ensures c.part.ensures c.integers-a.ensures c.both_kept.ensures

pub returns-in-Err : goal.returns-in-Err
returns-in-Err c =
    refused_said c.args.n c.args.magnitudes.now c.args.codes.now (c.args.o.now, c.args.at) _ _ _ c.clean-in-Err.ensures c.args.r c.in-Err.f c.in-Err.is
    c.refused-a.ensures c.both_kept-in-Err.ensures
