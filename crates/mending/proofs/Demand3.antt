-- The mission's third demand: a repair of the tape of an old text answers what a fresh reading of the new text answers, and leaves its entries. Assumes
-- nothing.
use Rattle.std.proofs.Common.{Ok, Err}
use Prim.Native.Nat.{ℕ, suc, ◌+◌, ◌-◌, ◌≤◌}
use native.Mathlib.Omega.{arith}
use mathlib.Core.Bool.{Bool, true, false, cond}
use mathlib.Core.List.{List}
use mathlib.Core.Path.{◌≡◌, ap, refl, sym, ◌∙◌}
use lib.Dec.{ltb}
use lib.ListN.{length}
use Rattle.text.specs.Refusals.{Told, no_room, not_in_order}
use Rattle.text.specs.declared.refusal.Refusal.{Refusal}
use Rattle.rows.specs.Rows.{room_of, entries_of, laid}
use Rattle.rows.specs.declared.Entry.{Entry}
use Rattle.reading.proofs.Entries.{counted_accepted, counted_complete, entries_complete, read_in_order}
use Rattle.reading.proofs.FallsByOne.{falls_by_one}
use Rattle.reading.specs.Owed.{quiet_byte}
use Rattle.reading.specs.Kept.{KeptThere, kept_before, kept_behind}
use Rattle.reading.specs.Readings.{complete, counted, entries}
use Rattle.tokens.proofs.RonLaws.{kinds, laws}
use Rattle.tokens.specs.Ron.{ron_token}
use Rattle.read.specs.Read.{fitted, read_answer, reading_of, room_for}
use Rattle.read.proofs.ReadLaws.{read_fit, read_refused}
use Rattle.text.specs.Judged.{judged_of}
use Rattle.repair.proofs.Judging.{behind as behind-judged}
use Rattle.repair.specs.Repair.{answer_by, cleared, entries_by, found_of, kept_of, new_end, repair_answer_of, repair_of, repair_tape_of, repaired_tape, tape_by}
use Rattle.repair.specs.declared.repairer.Repaired.{Repaired}
use Rattle.mending.specs.Fresh.{OldText, fresh_answer, fresh_by, fresh_call, fresh_call_tape, fresh_tape, reaching, with_kept}
use Rattle.mending.proofs.Whole.{Whole, before_is, fits, new-end, refused_too, whole}

module _ (old tape : List ℕ) (count a b e : ℕ) (new : List ℕ) (O : OldText old tape count a b e new) where
  abbrev was : List Entry
  was = entries_of count tape

  abbrev j : ℕ
  j = kept_of (entries_of count tape) a new

  abbrev o : ℕ
  o = length old

  abbrev room : ℕ
  room = room_of (length tape)

  abbrev found : Told (ℕ × ℕ)
  found = found_of (entries_of count tape) (kept_of (entries_of count tape) a new) b e new

  abbrev behind : ℕ
  behind = kept_behind (length old) (length new) e (entries_of count tape) (entries (reading_of new))

  -- ---- both answers, by what is found

  ends_alike : new_end o b (length new) ≡ e
  ends_alike = sym (new-end old tape count a b e new O)

  answer-by : (s : Told (ℕ × ℕ)) → found ≡ s → repair_answer_of tape count o a b new ≡ answer_by room count j s
  unfolding repair_answer_of
  answer-by s h =
      ap (λ (c : Bool). cond c (answer_by room count j (found_of was j b (new_end o b (length new)) new)) (Err not_in_order)) (fits old tape count a b e new O)
      ∙ ap (λ (k : ℕ). answer_by room count j (found_of was j b k new)) ends_alike
      ∙ ap (answer_by room count j) h

  tape-by : (r : Told Repaired) (s : Told (ℕ × ℕ)) → repair_answer_of tape count o a b new ≡ r → found ≡ s → repair_tape_of tape count o a b new ≡ tape_by r s tape count j b e new
  unfolding repair_tape_of
  tape-by r s g h =
      ap (λ (x : Told Repaired). tape_by x (found_of was j b (new_end o b (length new)) new) tape count j b (new_end o b (length new)) new) g
      ∙ ap (λ (k : ℕ). tape_by r (found_of was j b k new) tape count j b k new) ends_alike
      ∙ ap (λ (x : Told (ℕ × ℕ)). tape_by r x tape count j b e new) h

  fresh-answer : (x : Told ℕ) → counted 0 (reading_of new) ≡ x → fresh_answer old tape count a e new ≡ with_kept j behind (room_for room x)
  unfolding fresh_answer
  fresh-answer x h =
      ap (λ (k : ℕ). with_kept k behind (room_for room (counted 0 (reading_of new)))) (before_is old tape count a b e new O)
      ∙ ap (λ (y : Told ℕ). with_kept j behind (room_for room y)) h

  fresh-tape : (x : Told ℕ) → counted 0 (reading_of new) ≡ x → fresh_tape tape count new ≡ fresh_by (room_for room x) tape count new
  unfolding fresh_tape
  fresh-tape x h = ap (λ (y : Told ℕ). fresh_by (room_for room y) tape count new) h

  abbrev Alike : Type 0
  Alike = (repair_answer_of tape count (length old) a b new ≡ fresh_answer old tape count a e new) × (repair_tape_of tape count (length old) a b new ≡ fresh_tape tape count new)

  both_refused : (d : Refusal) → found ≡ Err d → Alike
  both_refused d h =
      let c = refused_too old tape count a b e new O d h in
      let g = answer-by (Err d) h in
      (g ∙ sym (fresh-answer (Err d) c), tape-by (Err d) (Err d) g h ∙ sym (fresh-tape (Err d) c))

  module _ (m i : ℕ) (h : found ≡ Ok (m, i)) where
    abbrev W : Whole old tape count a b e new O m i h
    W = whole old tape count a b e new O m i h

    abbrev together : ℕ
    together = j + m + (count - i)

    abbrev done : Repaired
    done = record { count = together; before = j; behind = count - i }

    counts : counted 0 (reading_of new) ≡ Ok together
    counts =
        let z : 0 + length W.all ≡ together = omega (arith, W.size) in
        ap (counted 0) W.reading_is ∙ counted_complete W.all 0 ∙ ap Ok z

    new_rows : entries (reading_of new) ≡ entries_by was j m i b e new
    new_rows = ap entries W.reading_is ∙ entries_complete W.all ∙ sym W.rows

    by-room : (t : Bool) → ltb room together ≡ t → Alike
    by-room true q =
        let g : repair_answer_of tape count o a b new ≡ Err no_room = answer-by (Ok (m, i)) h ∙ ap (λ (c : Bool). cond c (Err no_room) (Ok done)) q in
        let r : room_for room (Ok together) ≡ Err no_room = ap (λ (c : Bool). cond c (Err no_room) (Ok together)) q in
        (g ∙ sym (fresh-answer (Ok together) counts ∙ ap (with_kept j behind) r), tape-by (Err no_room) (Ok (m, i)) g h ∙ sym (fresh-tape (Ok together) counts ∙ ap (λ (y : Told ℕ). fresh_by y tape count new) r))
    by-room false q =
        let g : repair_answer_of tape count o a b new ≡ Ok done = answer-by (Ok (m, i)) h ∙ ap (λ (c : Bool). cond c (Err no_room) (Ok done)) q in
        let r : room_for room (Ok together) ≡ Ok together = ap (λ (c : Bool). cond c (Err no_room) (Ok together)) q in (
          g ∙ sym (fresh-answer (Ok together) counts ∙ ap (with_kept j behind) r ∙ ap (λ (k : ℕ). Ok (record { count = together; before = j; behind = k })) W.kept),
          tape-by (Ok done) (Ok (m, i)) g h
              ∙ ap (λ (l : List Entry). laid l (cleared count tape)) (sym new_rows)
              ∙ sym (fresh-tape (Ok together) counts ∙ ap (λ (y : Told ℕ). fresh_by y tape count new) r),
        )

  -- a repair answers as a fresh reading of the new text with the same room does, with document 01's counts, and leaves the same entries
  pub demand3 : (repair_answer_of tape count (length old) a b new ≡ fresh_answer old tape count a e new) × (repair_tape_of tape count (length old) a b new ≡ fresh_tape tape count new)
  demand3 = go found refl
    where
      go : (s : Told (ℕ × ℕ)) → found ≡ s → Alike
      go (Err d) h = both_refused d h
      go (Ok (m, i)) h = by-room m i h (ltb room (together m i h)) refl

  -- and what is kept behind reaches from the first new entry, at or behind the new bytes' end, that starts where a moved old entry starts, and whose gap agrees,
  -- to the last
  pub reaches : (n : ℕ) → counted 0 (reading_of new) ≡ Ok n
      → kept_behind (length old) (length new) e (entries_of count tape) (entries (reading_of new)) ≡ reaching (length old) (length new) e (entries_of count tape) (entries (reading_of new))
  reaches n h = go found refl
    where
      go : (s : Told (ℕ × ℕ)) → found ≡ s → behind ≡ reaching (length old) (length new) e was (entries (reading_of new))
      go (Err d) g =
          let z : ◌≡◌ {A = Told ℕ} (Err d) (Ok n) = sym (refused_too old tape count a b e new O d g) ∙ h in
          let y : ◌≡◌ {A = ℕ} 0 1 = cc in
          absurd (omega arith)
      go (Ok (m, i)) g = let w = whole old tape count a b e new O m i g in w.kept ∙ sym w.reach

  -- no k that meets document 01's words, which know of no gap, is more than one above it
  pub falls : (n : ℕ) → counted 0 (reading_of new) ≡ Ok n → (k : ℕ) → KeptThere (length old) (length new) e (entries_of count tape) (entries (reading_of new)) k
      → k ≤ suc (kept_behind (length old) (length new) e (entries_of count tape) (entries (reading_of new)))
  falls n h k t =
      let now : List Entry = entries (reading_of new) in
      falls_by_one o (length new) e was now (0 + o) (0 + length new) k
      (read_in_order ron_token quiet_byte laws kinds was 0 old complete O.holds)
      (read_in_order ron_token quiet_byte laws kinds now 0 new complete (counted_accepted (reading_of new) 0 n h).reading_is)
      t

  -- ---- the calls: 1 and 2 come first in both
  abbrev CallsAlike : Type 0
  CallsAlike = (repair_of tape count (length old) a b new ≡ fresh_call old tape count a e new) × (repaired_tape tape count (length old) a b new ≡ fresh_call_tape tape count new)

  calls_fit : judged_of new ≡ Ok tt → CallsAlike
  unfolding fresh_call fresh_call_tape fresh_answer fresh_tape
  calls_fit h =
      let w = behind-judged tape count o a b new (Ok tt) h in
      let r : read_answer new (length tape) ≡ fitted room (reading_of new) = read_fit new (length tape) h in (
        w.0 ∙ demand3.0 ∙ ap (with_kept (kept_before quiet_byte old a was) behind) (sym r),
        w.1 ∙ demand3.1 ∙ ap (λ (y : Told ℕ). fresh_by y tape count new) (sym r),
      )

  calls_refused : (d : Refusal) → judged_of new ≡ Err d → CallsAlike
  unfolding fresh_call fresh_call_tape
  calls_refused d h =
      let w = behind-judged tape count o a b new (Err d) h in
      let r : read_answer new (length tape) ≡ Err d = read_refused new (length tape) d h in (
        w.0 ∙ ap (with_kept (kept_before quiet_byte old a was) behind) (sym r),
        w.1 ∙ ap (λ (y : Told ℕ). fresh_by y tape count new) (sym r),
      )

  pub demand3_call : (repair_of tape count (length old) a b new ≡ fresh_call old tape count a e new) × (repaired_tape tape count (length old) a b new ≡ fresh_call_tape tape count new)
  demand3_call = go (judged_of new) refl
    where
      go : (x : Told Unit) → judged_of new ≡ x → CallsAlike
      go (Ok tt) h = calls_fit h
      go (Err d) h = calls_refused d h
