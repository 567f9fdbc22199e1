use native.Mathlib.Omega.{arith}
use mathlib.Core.Path.{refl}
use Rattle.lists.proofs.GatherLaws.{gather_starts, gather_on, gather_ends, rows_within}
use borrow.Author.Rules.{rules}
use Rattle.lists.proofs.gather.gather.Goals as goal

pub loop-i-init : goal.loop-i-init
loop-i-init c = (refl, c.rows_of-i-end.ensures, gather_starts c.args.tape.now _ c.args.list.now)

pub noted-k-requires : goal.noted-k-requires
noted-k-requires c =
    let w = rows_within c.args.n c.args.tape.now in (omega (arith, w.0, c.loop-i.invariant.1), omega (arith, w.1, c.loop-i.invariant.1))

pub loop-i-preserved : goal.loop-i-preserved
loop-i-preserved c = (search rules, c.loop-i.invariant.1, gather_on c.args.tape.now _ c.args.list.now c.loop-i.list c.loop-i.k c.loop-i.i c.loop-i.invariant.2 (omega arith) _ c.noted-k.ensures)

pub returns : goal.returns
returns c =
    let z = gather_ends c.args.tape.now _ c.args.list.now c.loop-i.list c.loop-i.k c.loop-i.i c.loop-i.invariant.2 c.args.n c.loop-i.invariant.1 (omega arith) in
    record {
      value = z.0;
      list_after = z.1;
    }
