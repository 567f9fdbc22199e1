use mathlib.Core.Path.{refl}
use Rattle.xid.specs.Table.{table}
use Rattle.xid.proofs.table.table.Goals as goal

pub returns : goal.returns
unfolding table
returns c = refl
