use mathlib.Core.Path.{◌≡◌}
use mathlib.Core.List.{◌++◌, map}
use lib.ListN.{drop, length, take}
use Rattle.sarridok.specs.declared.items.Coded.{Coded}
use Rattle.sarridok.specs.Integers.{items_from}
use Rattle.sarridok.proofs.ItemLaws.{values_of}
use Rattle.sarridok.proofs.items.write_items.Given as goal

abbrev pub invariant-loop-k : goal.invariant-loop-k
invariant-loop-k l =
    (length l.magnitudes ≡ length l.initial.magnitudes) × (length l.codes ≡ length l.initial.codes)
    × (l.magnitudes ≡ take l.k (map (λ (v : Coded). v.magnitude) (values_of (items_from l.text l.tape l.count l.items 0))) ++ drop l.k l.initial.magnitudes)
    × (l.codes ≡ take l.k (map (λ (v : Coded). v.code) (values_of (items_from l.text l.tape l.count l.items 0))) ++ drop l.k l.initial.codes)
