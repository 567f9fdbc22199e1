use mathlib.Core.Path.{◌≡◌}
use lib.Dec.{ltb}
use lib.ListN.{drop}
use Rattle.text.specs.Runs.{run}
use Rattle.search.specs.inner.Others.{other}
use Rattle.search.proofs.sixteen.has.Given as goal

abbrev pub invariant-loop-k : goal.invariant-loop-k
invariant-loop-k l = l.found ≡ ltb (run (other l.b) (drop l.at l.s)) l.k
