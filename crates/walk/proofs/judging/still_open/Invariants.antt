use Prim.Native.Nat.{◌≤◌}
use mathlib.Core.List.{◌∷◌}
use mathlib.Core.Path.{◌≡◌}
use lib.ListN.{length}
use Rattle.fields.specs.inner.Again.{earlier}
use Rattle.fields.specs.Names.{name_at}
use Rattle.walk.specs.inner.Gathered.{inner_of, outers_of, Rising, Fields, first_of}
use Rattle.walk.proofs.judging.still_open.Given as goal

abbrev pub invariant-loop-d : goal.invariant-loop-d
invariant-loop-d l =
    (l.d ≤ 128) × Rising l.bases l.d l.to × Fields l.text l.tape l.fields l.to × (length l.fields ≡ length l.initial.fields)
    × (earlier l.found (first_of (name_at l.text l.tape) (inner_of l.fields l.bases l.d l.to ∷ outers_of l.fields l.bases l.d))
    ≡ earlier l.initial.found (first_of (name_at l.text l.tape) (inner_of l.initial.fields l.bases l.initial.d l.initial.to ∷ outers_of l.initial.fields l.bases l.initial.d)))
