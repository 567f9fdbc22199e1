use native.Mathlib.Nat.{zero-add}
use mathlib.Core.Path.{◌∙◌}
use Rattle.search.specs.inner.Others.{neither}
use Rattle.strings.specs.Pieces.{plain}
use Rattle.text.specs.Runs.{run}
use Rattle.strings.proofs.runs.find_end.Goals as goal

pub returns : goal.returns
unfolding plain neither
returns c = c.find_either.ensures ∙ zero-add (run plain c.args.s.now)
