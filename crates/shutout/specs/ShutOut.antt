-- Readers and repairers, whatever they do, and what is asked of them (document 01): "Demand 2 shuts out a reader that refuses everything, one that gives
-- one tape to all texts, and one that accepts and writes nothing. Demand 3, standing over demand 2's reading, shuts out a repair that leaves the first
-- tape standing, and kept numbers that are invented."
use Rattle.text.specs.Refusals.{Told}
use Rattle.std.specs.Prelude.{ℕ, List, ◌≡◌, length}
use Rattle.read.specs.Read.{read_answer, read_tape}
use Rattle.repair.specs.Repair.{repair_of, repaired_tape}
use Rattle.repair.specs.declared.repairer.Repaired.{Repaired}
use Rattle.mending.specs.Fresh.{OldText, fresh_call, fresh_call_tape}

-- A reader: what it answers and how it leaves the tape, for every text and tape.
abbrev pub Reader : Type 0
Reader = (text tape : List ℕ) → Told ℕ × List ℕ

-- It meets the promise of `read`.
abbrev pub Meets-read : Reader → Type 0
Meets-read f = (text tape : List ℕ) → ((f text tape).0 ≡ read_answer text (length tape)) × ((f text tape).1 ≡ read_tape text tape)

-- A repairer: what it answers and how it leaves the tape, for every tape, count, old length, cut from a to b and new text.
abbrev pub Repairer : Type 0
Repairer = (tape : List ℕ) (count o a b : ℕ) (text : List ℕ) → Told Repaired × List ℕ

-- It meets the promise of `repair`.
abbrev pub Meets-repair : Repairer → Type 0
Meets-repair g = (tape : List ℕ) (count o a b : ℕ) (text : List ℕ)
    → ((g tape count o a b text).0 ≡ repair_of tape count o a b text) × ((g tape count o a b text).1 ≡ repaired_tape tape count o a b text)

-- It meets demand 3, which asks less: over the tape of an old text alone it answers as a fresh reading of the new text does, and leaves its entries.
abbrev pub Meets-demand3 : Repairer → Type 0
Meets-demand3 g = (old tape : List ℕ) (count a b e : ℕ) (new : List ℕ) → OldText old tape count a b e new
    → ((g tape count (length old) a b new).0 ≡ fresh_call old tape count a e new) × ((g tape count (length old) a b new).1 ≡ fresh_call_tape tape count new)
