use Rattle.arrivals.specs.declared.arrive_text.Stand.{Stand}
use Rattle.arrivals.proofs.CallLaws.{end_kept}
use Rattle.arrivals.proofs.arrive_text.end.Goals as goal

pub returns : goal.returns
returns c =
    let s : Stand = c.args.s in
    end_kept s.state s.kept c.args.text.now _ c.args.tape.now _ (c.args.o.now, s.at) _ _ c.part.ensures c.finish-r.ensures.0 c.finish-r.ensures.1
    c.finish-r.auto.tape c.ended.ensures
