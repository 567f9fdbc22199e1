use native.Mathlib.Omega.{arith}
use lib.ListN.{length, length-set}
use Rattle.rows.proofs.RowLaws.{row_fits, stores}
use Rattle.rows.proofs.row.write.Goals as goal

pub bounds-tape-at-2 : goal.bounds-tape-at-2
bounds-tape-at-2 c = simp length-set (omega arith)

pub bounds-tape-at-3 : goal.bounds-tape-at-3
bounds-tape-at-3 c = simp length-set (omega arith)

pub bounds-tape-at-4 : goal.bounds-tape-at-4
bounds-tape-at-4 c = simp length-set (omega arith)

pub bounds-tape-at-5 : goal.bounds-tape-at-5
bounds-tape-at-5 c = simp length-set (omega arith)

pub returns : goal.returns
returns c = stores c.args.tape.now c.args.i c.args.e (row_fits c.args.i (length c.args.tape.now) c.requires)
