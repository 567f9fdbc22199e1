-- The third demand over the calls (document 01, "Repair"): "Accepted, the slice holds the new entries, zeros up to the old count, and beyond it what stood
-- there." A repair answers as a fresh reading of the new text does, and the entries that it reports as kept are those that document 01 counts.
use Rattle.std.specs.Prelude.{Ok, Err, ℕ, true, List, ◌↔◌, ◌≡◌, length, take}
use Rattle.text.specs.declared.refusal.Refusal.{Refusal}
use Rattle.rows.specs.Rows.{entries_of, laid}
use Rattle.reading.specs.Kept.{Replaced, are_moved, kept_before, kept_behind, last_of}
use Rattle.reading.specs.Owed.{quiet_byte}
use Rattle.read.specs.Read.{read_answer, read_tape}
use Rattle.repair.specs.Repair.{cleared, repair_of, repaired_tape}
use Rattle.repair.specs.declared.repairer.Repaired.{Repaired}

-- `Left text tape n`: an accepted `read` of the text left this tape with n entries, or an accepted `repair` did, over a tape that was left so for a text
-- with one run replaced.
pub data Left : List ℕ → List ℕ → ℕ → Type 0 where
  by_read : (text tape : List ℕ) (n : ℕ) → read_answer text (length tape) ≡ Ok n → Left text (read_tape text tape) n
  by_repair : (old tape : List ℕ) (count a b e : ℕ) (new : List ℕ) (p : Repaired) → Left old tape count → Replaced old new a b e
      → repair_of tape count (length old) a b new ≡ Ok p → Left new (repaired_tape tape count (length old) a b new) p.count

-- The repair of a tape of `count` entries comes to n entries on the tape `now`, which are those that `read` of the new text leaves in a tape of that
-- length; of these the first are old ones that document 01 counts, and the last are old ones moved, as many as it counts; behind the entries stand zeros
-- up to the old count, and beyond it what stood there.
pub record Mended (old tape : List ℕ) (count a b e : ℕ) (new : List ℕ) (n : ℕ) (now : List ℕ) : Type 0 where
  pub before : ℕ
  pub behind : ℕ
  pub answer : repair_of tape count (length old) a b new ≡ Ok (record { count = n; before = before; behind = behind })
  pub as_read : (other : List ℕ) → length other ≡ length tape → entries_of n now ≡ entries_of n (read_tape new other)
  pub zeros : now ≡ laid (entries_of n now) (cleared count tape)
  pub counts_before : before ≡ kept_before quiet_byte old a (entries_of count tape)
  pub counts_behind : behind ≡ kept_behind (length old) (length new) e (entries_of count tape) (entries_of n now)
  pub first_kept : take before (entries_of n now) ≡ take before (entries_of count tape)
  pub last_kept : are_moved (last_of behind (entries_of count tape)) (last_of behind (entries_of n now)) (length old) (length new) ≡ true

-- A repair answers as `read` of the new text in a tape of that length does: it is refused with the same refusal, or comes to the same entries.
pub record AsRead (old tape : List ℕ) (count a b e : ℕ) (new : List ℕ) : Type 0 where
  pub refuses : (r : Refusal) → (repair_of tape count (length old) a b new ≡ Err r) ↔ (read_answer new (length tape) ≡ Err r)
  pub accepts : (n : ℕ) → read_answer new (length tape) ≡ Ok n → Mended old tape count a b e new n (repaired_tape tape count (length old) a b new)
