-- What is promised of `repair`. Each line is a theorem's statement; its proof only says where it is proved. Assumes nothing.
use Rattle.std.proofs.Common.{Ok, Err}
use Prim.Native.Nat.{ℕ, suc, ◌+◌, ◌<◌, ◌≤◌}
use mathlib.Core.List.{List}
use mathlib.Core.Path.{◌≡◌, refl}
use lib.ListN.{length}
use Rattle.text.specs.Judged.{behind_judged, judged_of}
use Rattle.text.specs.Refusals.{Told, not_in_order}
use Rattle.text.specs.declared.refusal.Refusal.{Refusal}
use Rattle.rows.specs.Order.{former_end}
use Rattle.rows.specs.Rows.{entries_of, entry_at}
use Rattle.reading.specs.Kept.{KeptThere, Replaced, kept_before, kept_behind}
use Rattle.reading.proofs.FallsByOne.{kept_there}
use Rattle.reading.specs.Owed.{Laws, quiet_byte}
use Rattle.reading.specs.Readings.{counted, entries}
use Rattle.tokens.specs.Ron.{ron_token}
use Rattle.tokens.proofs.RonLaws.{laws}
use Rattle.read.specs.Read.{reading_of}
use Rattle.repair.specs.Repair.{repair_answer_of, repair_of, repair_tape_of, repaired_tape, unless_refused}
use Rattle.repair.specs.declared.repairer.Repaired.{Repaired}
use Rattle.mending.specs.Fresh.{OldText, fresh_call, fresh_call_tape, reaching}
use Rattle.mending.proofs.Demand3.{demand3_call, falls, reaches}
use Rattle.mended.specs.Mended.{AsRead, Left}
use Rattle.mended.proofs.Mends.{repairs_as_read}
use Rattle.reread.specs.Strings.{IsString}
use Rattle.reread.proofs.Decodable.{repair_decoded}
use Rattle.sarridok.specs.Contents.{decoded_answer}
use Rattle.sarridok.proofs.RepairDetermined.{repair_determined}
use Rattle.fronts.specs.Fronts.{FrontOf}
use Rattle.fronts.proofs.Calls as fronts
use Rattle.fronts.proofs.Gaps as gaps
use Rattle.given.specs.Given.{Given}
use Rattle.given.proofs.Calls.{repair_given}
use Rattle.shutout.specs.ShutOut.{Meets-repair, Repairer}
use Rattle.shutout.proofs.ShutOut as repairers

-- ---- demand 3: a repair is a fresh reading

-- Over a tape that `read` or `repair` left, and a new text with one run of bytes replaced, `repair` answers as `read` of the new text in a tape of that
-- length does: the refusal with its place and reason, the entries, zeros up to the old count and what stood beyond it; the first entries are old ones and the last are
-- old ones moved, as many as document 01 counts.
pub repair_as_read : (old tape : List ℕ) (count a b e : ℕ) (new : List ℕ) → Left old tape count → Replaced old new a b e → AsRead old tape count a b e new
repair_as_read = repairs_as_read

module _ (old tape : List ℕ) (count a b e : ℕ) (new : List ℕ) (O : OldText old tape count a b e new) where
  -- The same of every tape that holds an old text's reading, in one equation each for answer and tape.
  pub repair_fresh : (repair_of tape count (length old) a b new ≡ fresh_call old tape count a e new) × (repaired_tape tape count (length old) a b new ≡ fresh_call_tape tape count new)
  repair_fresh = demand3_call old tape count a b e new O

  -- Kept behind reaches from the first new entry, at or behind the new bytes' end, that starts where a moved old entry starts, and whose gap agrees, to the
  -- last.
  pub repair_reaches : (n : ℕ) → counted 0 (reading_of new) ≡ Ok n
      → kept_behind (length old) (length new) e (entries_of count tape) (entries (reading_of new)) ≡ reaching (length old) (length new) e (entries_of count tape) (entries (reading_of new))
  repair_reaches n h = reaches old tape count a b e new O n h

  -- It is a k that document 01's words allow, which know of no gap, and none that they allow is more than one above it.
  pub repair_keeps_there : KeptThere (length old) (length new) e (entries_of count tape) (entries (reading_of new)) (kept_behind (length old) (length new) e (entries_of count tape) (entries (reading_of new)))
  repair_keeps_there = kept_there (length old) (length new) e (entries_of count tape) (entries (reading_of new))

  pub repair_falls_by_one : (n : ℕ) → counted 0 (reading_of new) ≡ Ok n → (k : ℕ) → KeptThere (length old) (length new) e (entries_of count tape) (entries (reading_of new)) k
      → k ≤ suc (kept_behind (length old) (length new) e (entries_of count tape) (entries (reading_of new)))
  repair_falls_by_one n h k t = falls old tape count a b e new O n h k t

  -- The strings of an accepted repair can be decoded as those of a read.
  pub repair_decodes : (p : Repaired) → repair_of tape count (length old) a b new ≡ Ok p → (k room : ℕ) → k < p.count
      → IsString (entry_at (repaired_tape tape count (length old) a b new) k) → (entry_at (repaired_tape tape count (length old) a b new) k).detail ≤ room
      → decoded_answer new (repaired_tape tape count (length old) a b new) p.count k room ≡ Ok (entry_at (repaired_tape tape count (length old) a b new) k).detail
  repair_decodes = repair_decoded old tape count a b e new O

-- It stands on this: RON's tokens are decided by what stands before a quiet byte.
pub tokens_lawful : Laws ron_token quiet_byte
tokens_lawful = laws

-- ---- the call, over every tape

module _ (tape : List ℕ) (count o a b : ℕ) (text : List ℕ) where
  -- 1 and 2 exactly in their cases, and past both exactly where the text is sound.
  pub repair_front : FrontOf text (repair_of tape count o a b text) (repair_answer_of tape count o a b text)
  repair_front = fronts.repair_front tape count o a b text

  -- A gap that is not the distance from the former entry's end, or from the old text's start, is 23.
  pub repair_gap : (k : ℕ) → k < count → (former_end 0 (entries_of count tape) k + (entry_at tape k).gap ≡ (entry_at tape k).start → ⊥) → judged_of text ≡ Ok tt
      → repair_of tape count o a b text ≡ Err not_in_order
  repair_gap k below off fit = gaps.repair_gap tape count k below o a b text fit off

  by_judgement : (r : Refusal) (x : Told Unit) → behind_judged x (repair_answer_of tape count o a b text) ≡ Err r → unless_refused x tape (repair_tape_of tape count o a b text) ≡ tape
  unfolding repair_tape_of
  by_judgement r (Ok tt) e = rw e
  by_judgement r (Err q) e = refl

  -- Demand 1: a refused repair leaves every number of the tape.
  pub refused_repair : (r : Refusal) → repair_of tape count o a b text ≡ Err r → repaired_tape tape count o a b text ≡ tape
  unfolding repair_of repaired_tape
  refused_repair r e = by_judgement r (judged_of text) e

  -- A refusal's number is 1, 2 or one of 4 to 29, and its reason 1 to 8 where that is 13, else 0.
  pub repair_numbers : (r : Refusal) → repair_of tape count o a b text ≡ Err r → Given r
  repair_numbers = repair_given tape count o a b text

  -- Two answers that meet the promise are equal, and so are the tapes.
  pub one_repair : (x y : Told Repaired) (u v : List ℕ) → (x ≡ repair_of tape count o a b text) × (u ≡ repaired_tape tape count o a b text)
      → (y ≡ repair_of tape count o a b text) × (v ≡ repaired_tape tape count o a b text) → (x ≡ y) × (u ≡ v)
  one_repair x y u v p q = repair_determined tape count o a b text x y u v (record { told = p.0; tape_after = p.1 }) (record { told = q.0; tape_after = q.1 })

-- ---- what is shut out: no repairer that meets the promise is such

module _ (g : Repairer) (meets : Meets-repair g) where
  -- One that leaves the first tape standing.
  pub not_first_tape : ((tape : List ℕ) (count o a b : ℕ) (text : List ℕ) (p : Repaired) → (g tape count o a b text).0 ≡ Ok p → (g tape count o a b text).1 ≡ tape) → ⊥
  not_first_tape = repairers.not_first_tape g meets

  -- One whose kept numbers are invented: they are those that document 01 counts, so that none has always the same before, nor behind.
  pub not_invented : (old tape : List ℕ) (count a b e : ℕ) (new : List ℕ) → OldText old tape count a b e new → (p : Repaired) → (g tape count (length old) a b new).0 ≡ Ok p
      → (p.before ≡ kept_before quiet_byte old a (entries_of count tape)) × (p.behind ≡ kept_behind (length old) (length new) e (entries_of count tape) (entries (reading_of new)))
  not_invented = repairers.not_invented g meets

  pub not_one_before : (x : ℕ) → ((tape : List ℕ) (count o a b : ℕ) (text : List ℕ) (p : Repaired) → (g tape count o a b text).0 ≡ Ok p → p.before ≡ x) → ⊥
  not_one_before = repairers.not_one_before g meets

  pub not_one_behind : (y : ℕ) → ((tape : List ℕ) (count o a b : ℕ) (text : List ℕ) (p : Repaired) → (g tape count o a b text).0 ≡ Ok p → p.behind ≡ y) → ⊥
  not_one_behind = repairers.not_one_behind g meets

-- There is one that does.
pub some_repairer : (g : Repairer) × Meets-repair g
some_repairer = repairers.some_repairer
