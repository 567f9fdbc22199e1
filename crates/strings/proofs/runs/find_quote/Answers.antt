use native.Mathlib.Nat.{zero-add}
use mathlib.Core.Path.{◌∙◌}
use Rattle.search.specs.inner.Others.{other}
use Rattle.strings.specs.Pieces.{unquoted}
use Rattle.text.specs.Runs.{run}
use Rattle.strings.proofs.runs.find_quote.Goals as goal

pub returns : goal.returns
unfolding unquoted other
returns c = c.find.ensures ∙ zero-add (run unquoted c.args.s.now)
