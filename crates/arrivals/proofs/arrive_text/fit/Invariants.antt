use mathlib.Core.Path.{◌≡◌}
use lib.Dec.{leb}
use lib.ListN.{drop}
use Rattle.arrivals.specs.Texts.{sum_of}
use Rattle.arrivals.proofs.arrive_text.fit.Given as goal

abbrev pub invariant-loop-cut : goal.invariant-loop-cut
invariant-loop-cut l = leb (sum_of (drop l.cut-index l.cuts)) l.left ≡ leb (sum_of l.cuts) l.n
