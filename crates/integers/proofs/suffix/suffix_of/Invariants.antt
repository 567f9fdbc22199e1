use Prim.Native.Nat.{◌-◌, ◌≤◌}
use mathlib.Core.Path.{◌≡◌}
use Rattle.integers.proofs.Suffixes.{from}
use Rattle.integers.specs.Width.{suffix_of}
use Rattle.integers.specs.Words.{first_of}
use Rattle.integers.proofs.suffix.suffix_of.Given as goal

abbrev pub invariant-loop-k : goal.invariant-loop-k
invariant-loop-k l = (l.k ≤ 9) × (suffix_of l.t ≡ first_of (from (9 - l.k) l.k) l.t)

abbrev pub decreases-loop-k : goal.decreases-loop-k
decreases-loop-k l = 9 - l.k
