-- Every repair of a tape that `read` or `repair` left answers as `read` of the new text does. Assumes nothing.
use Rattle.std.proofs.Common.{Ok, Err}
use Prim.Native.Nat.{ℕ, suc, ◌≤◌}
use native.Mathlib.Omega.{arith}
use mathlib.Core.Bool.{Bool}
use mathlib.Core.List.{List, [], ◌∷◌}
use mathlib.Core.Logic.{◌↔◌}
use mathlib.Core.Path.{◌≡◌, ap, refl, subst, sym, ◌∙◌}
use lib.ListN.{length, take}
use lib.Seq.{length-take-le, take_at}
use Rattle.text.proofs.Choices.{cond_cases}
use Rattle.text.specs.Refusals.{Told}
use Rattle.text.specs.declared.refusal.Refusal.{Refusal}
use Rattle.rows.specs.Rows.{entries_of, laid}
use Rattle.rows.specs.declared.Entry.{Entry}
use Rattle.reading.specs.Kept.{Replaced, are_moved, count_of, kept_before, kept_behind, last_of}
use Rattle.reading.specs.Owed.{quiet_byte}
use Rattle.reading.specs.Readings.{counted, entries}
use Rattle.reading.proofs.Entries.{entries_complete}
use Rattle.reading.proofs.KeptLaws.{kept_behind_holds}
use Rattle.read.proofs.AcceptedReads.{read_accepted}
use Rattle.read.specs.Read.{read_answer, read_tape, reading_of}
use Rattle.repair.specs.Repair.{cleared, entries_by, found_of, kept_of, repair_of, repaired_tape}
use Rattle.repair.specs.declared.repairer.Repaired.{Repaired}
use Rattle.mending.specs.Fresh.{OldText, fresh_by, fresh_call, fresh_call_tape, with_kept}
use Rattle.mending.proofs.Again.{Held, after_read, after_repair}
use Rattle.mending.proofs.Demand3.{demand3_call}
use Rattle.mending.proofs.Whole.{before_is, refused_too, whole}
use Rattle.mended.specs.Mended.{AsRead, Left, Mended}
use Rattle.mended.specs.Mended.Left.{by_read, by_repair}

clash : {X : Type 0} {A : Type 0} {a : A} {r : Refusal} → ◌≡◌ {A = Told A} (Err r) (Ok a) → X
clash e = let z : ◌≡◌ {A = ℕ} 0 1 = cc in absurd (omega arith)

-- ---- the answer of a call by the reading's

kept_refused : (x y : ℕ) (t : Told ℕ) (r : Refusal) → with_kept x y t ≡ Err r → t ≡ Err r
kept_refused x y (Ok n) r h = clash (sym h)
kept_refused x y (Err q) r h = let e : q ≡ r = cc in ap Err e

kept_accepted : (x y : ℕ) (t : Told ℕ) (p : Repaired) → with_kept x y t ≡ Ok p → t ≡ Ok p.count
kept_accepted x y (Ok n) p h = let e : record { count = n; before = x; behind = y } ≡ p = cc in ap (λ (q : Repaired). Ok q.count) e
kept_accepted x y (Err q) p h = clash h

-- ---- the rows

held_rows : (text tape : List ℕ) (n : ℕ) → Held text tape n → entries_of n tape ≡ entries (reading_of text)
held_rows text tape n h = sym (ap entries h.holds ∙ entries_complete (entries_of n tape))

read_rows : (text tape : List ℕ) (n : ℕ) → read_answer text (length tape) ≡ Ok n → entries_of n (read_tape text tape) ≡ entries (reading_of text)
read_rows text tape n h = held_rows text (read_tape text tape) n (after_read text tape n h)

-- ---- what is kept

count_le : (p : Entry → Bool) (es : List Entry) → count_of p es ≤ length es
unfolding count_of
count_le p [] = omega arith
count_le p (e ∷ es) =
    let h = count_le p es in
    cond_cases (λ (n : ℕ). n ≤ suc (length es)) (p e) (suc (count_of p es)) (count_of p es) (λ t. omega arith) (λ t. omega arith)

before_le : (text : List ℕ) (a : ℕ) (es : List Entry) → kept_before quiet_byte text a es ≤ length es
unfolding kept_before
before_le text a es = count_le _ es

module _ (old tape : List ℕ) (count a b e : ℕ) (new : List ℕ) (O : OldText old tape count a b e new) where
  abbrev was : List Entry
  was = entries_of count tape

  abbrev rows : List Entry
  rows = entries (reading_of new)

  abbrev before : ℕ
  before = kept_before quiet_byte old a (entries_of count tape)

  abbrev behind : ℕ
  behind = kept_behind (length old) (length new) e (entries_of count tape) (entries (reading_of new))

  -- the new entries begin with the old ones that are kept before
  first_rows : (n : ℕ) → counted 0 (reading_of new) ≡ Ok n → take before rows ≡ take before was
  first_rows n h = go (found_of was (kept_of was a new) b e new) refl
    where
      go : (s : Told (ℕ × ℕ)) → found_of was (kept_of was a new) b e new ≡ s → take before rows ≡ take before was
      go (Err d) g = clash (sym (refused_too old tape count a b e new O d g) ∙ h)
      go (Ok (m, i)) g =
          let w = whole old tape count a b e new O m i g in
          let k : kept_of was a new ≡ before = sym (before_is old tape count a b e new O) in
          let all : rows ≡ entries_by was (kept_of was a new) m i b e new = ap entries w.reading_is ∙ entries_complete w.all ∙ sym w.rows in
          ap (take before) (all ∙ ap (λ (j : ℕ). entries_by was j m i b e new) k) ∙ take_at (take before was) _ before (length-take-le before was (before_le old a was))

  -- the answer and the tape of the call, where `read` of the new text accepts
  accepted_call : (n : ℕ) → read_answer new (length tape) ≡ Ok n → repair_of tape count (length old) a b new ≡ Ok (record { count = n; before = before; behind = behind })
  unfolding fresh_call
  accepted_call n h = (demand3_call old tape count a b e new O).0 ∙ ap (with_kept before behind) h

  accepted_tape : (n : ℕ) → read_answer new (length tape) ≡ Ok n → repaired_tape tape count (length old) a b new ≡ laid rows (cleared count tape)
  unfolding fresh_call_tape
  accepted_tape n h = (demand3_call old tape count a b e new O).1 ∙ ap (λ (y : Told ℕ). fresh_by y tape count new) h

  mended : (n : ℕ) → read_answer new (length tape) ≡ Ok n → Mended old tape count a b e new n (repaired_tape tape count (length old) a b new)
  mended n h =
      let now : List ℕ = repaired_tape tape count (length old) a b new in
      let held : Held new now n = subst (λ (t : List ℕ). Held new t n) (sym (demand3_call old tape count a b e new O).1) (after_repair new tape count n O.room h) in
      let is : entries_of n now ≡ rows = held_rows new now n held in
      record {
        before = before;
        behind = behind;
        answer = accepted_call n h;
        as_read = λ other l. is ∙ sym (read_rows new other n (ap (read_answer new) l ∙ h));
        zeros = accepted_tape n h ∙ ap (λ (es : List Entry). laid es (cleared count tape)) (sym is);
        counts_before = refl;
        counts_behind = ap (kept_behind (length old) (length new) e was) (sym is);
        first_kept = ap (take before) is ∙ first_rows n (read_accepted new (length tape) n h).counts;
        last_kept = ap (λ (es : List Entry). are_moved (last_of behind was) (last_of behind es) (length old) (length new)) is
            ∙ (kept_behind_holds (length old) (length new) e was rows).all_moved;
      }

  refuses : (r : Refusal) → (repair_of tape count (length old) a b new ≡ Err r) ↔ (read_answer new (length tape) ≡ Err r)
  unfolding fresh_call
  refuses r = (
    (λ h. kept_refused before behind (read_answer new (length tape)) r (sym (demand3_call old tape count a b e new O).0 ∙ h)),
    (λ h. (demand3_call old tape count a b e new O).0 ∙ ap (with_kept before behind) h),
  )

  as_read : AsRead old tape count a b e new
  as_read = record { refuses = refuses; accepts = mended }

-- ---- the tapes that calls leave

-- a tape that calls left holds its text's reading
pub left_held : {text tape : List ℕ} {n : ℕ} → Left text tape n → Held text tape n
unfolding fresh_call
left_held (by_read text tape n h) = after_read text tape n h
left_held (by_repair old tape count a b e new p l r h) =
    let held = left_held l in
    let O : OldText old tape count a b e new = record { replaced = r; holds = held.holds; room = held.room } in
    let d = demand3_call old tape count a b e new O in
    subst (λ (t : List ℕ). Held new t p.count) (sym d.1) (after_repair new tape count p.count held.room (kept_accepted _ _ (read_answer new (length tape)) p (sym d.0 ∙ h)))

-- a repair of a tape that `read` or `repair` left answers as `read` of the new text in a tape of that length does
pub repairs_as_read : (old tape : List ℕ) (count a b e : ℕ) (new : List ℕ) → Left old tape count → Replaced old new a b e → AsRead old tape count a b e new
repairs_as_read old tape count a b e new l r = let held = left_held l in as_read old tape count a b e new (record { replaced = r; holds = held.holds; room = held.room })
