-- A tape that an accepted read or repair leaves holds the reading of its text, so that it may be repaired next. Assumes nothing.
use Rattle.std.proofs.Common.{Ok}
use Prim.Native.Nat.{ℕ, ◌*◌, ◌≤◌}
use native.Mathlib.Omega.{arith}
use mathlib.Core.List.{List}
use mathlib.Core.Path.{◌≡◌, ap, sym, ◌∙◌, subst}
use lib.ListN.{length, drop, replicate, length-append, length-drop, length-replicate}
use Rattle.text.specs.Refusals.{Told}
use Rattle.rows.proofs.RowLaws.{entries_flat, length_flat}
use Rattle.rows.specs.Rows.{entries_of, flat, laid, room_of, width}
use Rattle.rows.specs.declared.Entry.{Entry}
use Rattle.reading.proofs.Entries.{counted_accepted}
use Rattle.reading.specs.Readings.{◌▸◌, complete, counted, entries}
use Rattle.read.proofs.AcceptedReads.{read_accepted}
use Rattle.read.proofs.ReadLaws.{tape-by}
use Rattle.read.specs.Read.{read_answer, read_tape, reading_of}
use Rattle.repair.specs.Repair.{cleared}
use Rattle.mending.specs.Fresh.{fresh_by, fresh_call_tape}

-- a tape holds a reading with n entries, and has room for them
pub record Held (text tape : List ℕ) (n : ℕ) : Type 0 where
  pub holds : reading_of text ≡ entries_of n tape ▸ complete
  pub room : n ≤ room_of (length tape)

laid_held : (text t : List ℕ) (n : ℕ) → counted 0 (reading_of text) ≡ Ok n → n ≤ room_of (length t) → Held text (laid (entries (reading_of text)) t) n
unfolding laid
laid_held text t n h l =
    let es : List Entry = entries (reading_of text) in
    let c = counted_accepted (reading_of text) 0 n h in
    let k : length es ≡ n = omega (arith, c.count_is) in
    let is : entries_of n (laid es t) ≡ es = ap (λ (m : ℕ). entries_of m (laid es t)) (sym k) ∙ entries_flat es (drop (width * length es) t) in
    record {
      holds = c.reading_is ∙ ap (λ (x : List Entry). x ▸ complete) (sym is);
      room = omega (arith, length-append (flat es) (drop (width * length es) t), length_flat es, length-drop (width * length es) t);
    }

-- what an accepted read leaves
pub after_read : (text tape : List ℕ) (n : ℕ) → read_answer text (length tape) ≡ Ok n → Held text (read_tape text tape) n
after_read text tape n h =
    let a = read_accepted text (length tape) n h in
    subst (λ (t : List ℕ). Held text t n) (sym (tape-by text tape (Ok n) (sym h))) (laid_held text tape n a.counts a.fits)

-- and what a repair leaves, where it answers as an accepted read
pub after_repair : (text tape : List ℕ) (count n : ℕ) → count ≤ room_of (length tape) → read_answer text (length tape) ≡ Ok n → Held text (fresh_call_tape tape count text) n
unfolding fresh_call_tape cleared
after_repair text tape count n c h =
    let a = read_accepted text (length tape) n h in
    let l : length (cleared count tape) ≡ length tape =
    omega (arith, length-append (replicate (width * count) 0) (drop (width * count) tape), length-replicate {A = ℕ} (width * count) 0, length-drop (width * count) tape) in
    subst (λ (t : List ℕ). Held text t n) (sym (ap (λ (y : Told ℕ). fresh_by y tape count text) h)) (laid_held text (cleared count tape) n a.counts (omega (arith, a.fits)))
