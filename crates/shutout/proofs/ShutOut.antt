-- What the promises shut out (document 01): "Demand 2 shuts out a reader that refuses everything, one that gives one tape to all texts, and one that
-- accepts and writes nothing. Demand 3, standing over demand 2's reading, shuts out a repair that leaves the first tape standing, and kept numbers that
-- are invented." Assumes nothing.
use Rattle.std.proofs.Common.{Ok}
use Prim.Native.Nat.{ℕ}
use mathlib.Core.List.{List}
use mathlib.Core.Path.{◌≡◌}
use lib.ListN.{length}
use Rattle.rows.specs.Rows.{entries_of}
use Rattle.reading.specs.Kept.{kept_before, kept_behind}
use Rattle.reading.specs.Owed.{quiet_byte}
use Rattle.reading.specs.Readings.{entries}
use Rattle.read.specs.Read.{reading_of}
use Rattle.repair.specs.declared.repairer.Repaired.{Repaired}
use Rattle.mending.specs.Fresh.{OldText}
use Rattle.shutout.specs.ShutOut.{Meets-repair, Repairer}
use Rattle.shutout.proofs.ShutRepairs.{first_tape_left, kept_told, one_before, one_behind, promised}
-- there are a reader and a repairer that meet the promises
pub use Rattle.shutout.proofs.ShutReaders.{some_reader}
pub use Rattle.shutout.proofs.ShutRepairs.{some_repairer}
-- a reader that refuses everything, that gives one tape to all texts, that accepts and writes nothing, or counts nothing
pub use Rattle.shutout.proofs.ShutReaders.{not_all_refused, not_one_tape, not_nothing_written, not_none_counted}

module _ (g : Repairer) (meets : Meets-repair g) where
  -- a repair that leaves the first tape standing
  pub not_first_tape : ((tape : List ℕ) (count o a b : ℕ) (text : List ℕ) (p : Repaired) → (g tape count o a b text).0 ≡ Ok p → (g tape count o a b text).1 ≡ tape) → ⊥
  not_first_tape = first_tape_left g (promised g meets)

  -- kept numbers that are invented: over the tape of an old text they are the paper's
  pub not_invented : (old tape : List ℕ) (count a b e : ℕ) (new : List ℕ) → OldText old tape count a b e new → (p : Repaired) → (g tape count (length old) a b new).0 ≡ Ok p
      → (p.before ≡ kept_before quiet_byte old a (entries_of count tape)) × (p.behind ≡ kept_behind (length old) (length new) e (entries_of count tape) (entries (reading_of new)))
  not_invented = kept_told g (promised g meets)

  -- so neither is the same number always
  pub not_one_before : (x : ℕ) → ((tape : List ℕ) (count o a b : ℕ) (text : List ℕ) (p : Repaired) → (g tape count o a b text).0 ≡ Ok p → p.before ≡ x) → ⊥
  not_one_before = one_before g (promised g meets)

  pub not_one_behind : (y : ℕ) → ((tape : List ℕ) (count o a b : ℕ) (text : List ℕ) (p : Repaired) → (g tape count o a b text).0 ≡ Ok p → p.behind ≡ y) → ⊥
  not_one_behind = one_behind g (promised g meets)
