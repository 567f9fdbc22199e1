use mathlib.Core.Path.{refl}
use Rattle.lent.specs.Marks.{byte_mark_at}
use Rattle.lent.proofs.bytes.U8Markable.mark_at.Goals as goal

pub returns : goal.returns
unfolding byte_mark_at
returns c = refl
