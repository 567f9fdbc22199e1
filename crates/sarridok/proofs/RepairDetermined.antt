-- Two answers that meet the promise of `repair` are equal, and so are the tapes behind them, over every tape. Assumes nothing.
use Prim.Native.Nat.{ℕ}
use mathlib.Core.List.{List}
use mathlib.Core.Path.{◌∙◌, ◌≡◌, sym}
use Rattle.text.specs.Refusals.{Told}
use Rattle.repair.specs.Repair.{repair_of, repaired_tape}
use Rattle.repair.specs.declared.repairer.Repaired.{Repaired}

-- what a repair promises of its answer and of the tape afterwards
pub record Repairs (tape : List ℕ) (count o a b : ℕ) (text : List ℕ) (answer : Told Repaired) (after : List ℕ) : Type 0 where
  pub told : answer ≡ repair_of tape count o a b text
  pub tape_after : after ≡ repaired_tape tape count o a b text

pub repair_determined : (tape : List ℕ) (count o a b : ℕ) (text : List ℕ) (x y : Told Repaired) (after after' : List ℕ)
    → Repairs tape count o a b text x after → Repairs tape count o a b text y after' → (x ≡ y) × (after ≡ after')
repair_determined tape count o a b text x y after after' p q = (p.told ∙ sym q.told, p.tape_after ∙ sym q.tape_after)
