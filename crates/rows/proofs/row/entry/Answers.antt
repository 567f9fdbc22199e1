use Rattle.rows.proofs.RowLaws.{reads}
use Rattle.rows.proofs.row.entry.Goals as goal

pub returns : goal.returns
returns c = reads c.args.tape.now c.args.i
