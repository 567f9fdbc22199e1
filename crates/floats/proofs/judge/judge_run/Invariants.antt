use Prim.Native.Nat.{◌+◌}
use mathlib.Core.Bool.{false}
use mathlib.Core.Path.{◌≡◌}
use lib.ListN.{drop}
use Rattle.floats.specs.Grammar.{accepts}
use Rattle.floats.specs.Judged.{stripped, well_to}
use Rattle.floats.specs.declared.state.State.TheVariants.{Start}
use Rattle.floats.proofs.judge.judge_run.Given as goal

abbrev pub invariant-loop-i : goal.invariant-loop-i
invariant-loop-i l = (l.i + well_to (drop l.i l.part) l.may ≡ well_to l.part false) × (accepts (stripped (drop l.i l.part)) l.st ≡ accepts (stripped l.part) Start)
