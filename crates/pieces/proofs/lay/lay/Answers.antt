use Rattle.pieces.proofs.LayLaws.{laid_in_order, laid_placed}
use native.Mathlib.Omega.{arith}
use Rattle.pieces.proofs.lay.lay.Goals as goal

pub place_rows-requires : goal.place_rows-requires
place_rows-requires c =
    let p = c.requires in
    (omega (arith, c.fill.auto.tape, p.2), laid_in_order c.args.s.now c.args.from c.args.n c.args.tape.now _ p.3 c.fill.ensures p.1, p.4, omega (arith, p.0, p.5))

pub returns : goal.returns
returns c = laid_placed c.args.s.now c.args.from c.args.n c.args.tape.now _ c.requires.3 c.fill.ensures c.args.base c.args.former _ c.place_rows.ensures
