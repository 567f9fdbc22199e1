use native.Mathlib.Omega.{arith}
use Rattle.grammar.proofs.Sides.{no_bracket}
use Rattle.grammar.proofs.kinds.side_at.Goals as goal

pub returns-then-k-gt-CLOSE_BRACE : goal.returns-then-k-gt-CLOSE_BRACE
returns-then-k-gt-CLOSE_BRACE c = no_bracket _ (omega arith)
