use mathlib.Core.Path.{◌≡◌}
use lib.ListN.{drop}
use Rattle.sarridok.specs.Integers.{items_from}
use Rattle.sarridok.specs.inner.Items.{verdict_of}
use Rattle.sarridok.proofs.items.judge_items.Given as goal

abbrev pub invariant-loop-k : goal.invariant-loop-k
invariant-loop-k l = verdict_of (items_from l.text l.tape l.count (drop l.k l.items) l.k) ≡ verdict_of (items_from l.text l.tape l.count l.items 0)
