-- What demand 3 shuts out (document 01). Assumes nothing.
--     promised                       the promise of `repair` asks what demand 3 does
--     kept-told                      the counts of an accepted repair are the paper's
--     repairs-spelt, rewrites-spelt  where the new text is spelt and there is room, its entries are counted and written
--     first-tape-left                a repair that leaves the first tape standing
--     one-before, one-behind         and counts that are always the same
--     some-repairer                  there is a repairer that meets the promise
use Rattle.std.proofs.Common.{Ok, Err}
use Prim.Native.Nat.{ℕ, ◌*◌, ◌≤◌}
use native.Mathlib.Omega.{arith}
use mathlib.Core.List.{List, [], ◌∷◌}
use mathlib.Core.Path.{◌≡◌, refl, ap, sym, ◌∙◌}
use lib.ListN.{drop, get_or, length}
use Rattle.text.specs.Refusals.{Told}
use Rattle.rows.proofs.RowLaws.{entries_flat}
use Rattle.rows.specs.Rows.{entries_of, flat, laid, room_of, width}
use Rattle.rows.specs.declared.Entry.{Entry}
use Rattle.reading.proofs.Entries.{entries_complete}
use Rattle.reading.specs.Kept.{all_behind, any_quiet, are_kept, are_moved, count_of, is_moved, kept_before, kept_behind, largest}
use Rattle.reading.specs.Owed.{quiet_byte}
use Rattle.reading.specs.Readings.{◌▸◌, complete, entries}
use Rattle.read.specs.Read.{read_answer, reading_of}
use Rattle.repair.specs.Repair.{cleared, repair_of, repaired_tape}
use Rattle.repair.specs.declared.repairer.Repaired.{Repaired}
use Rattle.mending.proofs.Demand3.{demand3_call}
use Rattle.mending.specs.Fresh.{OldText, fresh_call, fresh_call_tape, with_kept}
use Rattle.tiled.specs.Forms.Mark.{round, round_end, square, square_end}
use Rattle.spelt.proofs.SpeltRead.{spelt_answer, spelt_reading}
use Rattle.spelt.specs.Spelt.{Spelt}
use Rattle.spelt.specs.Spelt.Plain.{mark}
use Rattle.spelt.specs.Spelt.Spelt.{none, more}
use Rattle.shutout.specs.ShutOut.{Meets-demand3, Meets-repair, Repairer}

-- the promise of `repair` asks what demand 3 does
pub promised : (g : Repairer) → Meets-repair g → Meets-demand3 g
promised g meets old tape count a b e new O =
    let w = demand3_call old tape count a b e new O in
    ((meets tape count (length old) a b new).0 ∙ w.0, (meets tape count (length old) a b new).1 ∙ w.1)

-- ---- the answers

-- so many entries, and so many of them kept before and behind
abbrev done : ℕ → ℕ → ℕ → Repaired
done n x y = record { count = n; before = x; behind = y }

same_counts : (b k : ℕ) (p : Repaired) (t : Told ℕ) → Ok p ≡ with_kept b k t → (p.before ≡ b) × (p.behind ≡ k)
same_counts b k p (Ok m) h =
    let e : p ≡ done m b k = cc in
    (ap (λ (r : Repaired). r.before) e, ap (λ (r : Repaired). r.behind) e)
same_counts b k p (Err r) h = let z : ◌≡◌ {A = ℕ} 0 1 = cc in absurd (omega arith)

module _ (g : Repairer) (meets : Meets-demand3 g) (old tape : List ℕ) (count a b e : ℕ) (new : List ℕ) (O : OldText old tape count a b e new) where
  -- the counts of an accepted repair are the paper's
  pub kept_told : (p : Repaired) → (g tape count (length old) a b new).0 ≡ Ok p
      → (p.before ≡ kept_before quiet_byte old a (entries_of count tape)) × (p.behind ≡ kept_behind (length old) (length new) e (entries_of count tape) (entries (reading_of new)))
  unfolding fresh_call
  kept_told p h = same_counts _ _ p (read_answer new (length tape)) (sym h ∙ (meets old tape count a b e new O).0)

  -- where the new text is spelt and there is room, its entries are counted and written
  module _ (es : List Entry) (x : Spelt 0 new es) (short : length new ≤ 65536) (room : length es ≤ room_of (length tape)) where
    pub repairs_spelt : (g tape count (length old) a b new).0
        ≡ Ok (done (length es) (kept_before quiet_byte old a (entries_of count tape)) (kept_behind (length old) (length new) e (entries_of count tape) es))
    unfolding fresh_call
    repairs_spelt =
        let all : entries (reading_of new) ≡ es = ap entries (spelt_reading new es x) ∙ entries_complete es in
        (meets old tape count a b e new O).0 ∙ rw (spelt_answer new tape es x short room, all)

    pub rewrites_spelt : entries_of (length es) (g tape count (length old) a b new).1 ≡ es
    unfolding fresh_call_tape laid
    rewrites_spelt =
        let all : entries (reading_of new) ≡ es = ap entries (spelt_reading new es x) ∙ entries_complete es in
        ap (entries_of (length es)) ((meets old tape count a b e new O).1 ∙ rw (spelt_answer new tape es x short room, all)) ∙ entries_flat es (drop (width * length es) (cleared count tape))

-- ---- two repairs: of `( ) ` into `( ] `, and into `[ ) `

abbrev pair : List ℕ
pair = 0x28 ∷ 0x20 ∷ 0x29 ∷ 0x20 ∷ []

abbrev pair_tape : List ℕ
pair_tape = 1 ∷ 0 ∷ 1 ∷ 0 ∷ 0 ∷ 2 ∷ 2 ∷ 3 ∷ 0 ∷ 1 ∷ []

pair_holds : reading_of pair ≡ entries_of 2 pair_tape ▸ complete
unfolding entries_of
pair_holds = spelt_reading pair (entries_of 2 pair_tape) (more (mark round) (more (mark round_end) none))

-- the second mark changed
abbrev last_new : List ℕ
last_new = 0x28 ∷ 0x20 ∷ 0x5D ∷ 0x20 ∷ []

abbrev last_entries : List Entry
last_entries = record { kind = 1; start = 0; end = 1; detail = 0; gap = 0 } ∷ record { kind = 4; start = 2; end = 3; detail = 0; gap = 1 } ∷ []

last_spelt : Spelt 0 last_new last_entries
last_spelt = more (mark round) (more (mark square_end) none)

last_old : OldText pair pair_tape 2 2 3 3 last_new
last_old = record {
  replaced = record { cut = omega arith; bytes = omega arith; in_old = omega arith; in_new = omega arith; front = refl; back = refl };
  holds = pair_holds;
  room = omega arith;
}

-- the first mark changed
abbrev first_new : List ℕ
first_new = 0x5B ∷ 0x20 ∷ 0x29 ∷ 0x20 ∷ []

abbrev first_entries : List Entry
first_entries = record { kind = 3; start = 0; end = 1; detail = 0; gap = 0 } ∷ record { kind = 2; start = 2; end = 3; detail = 0; gap = 1 } ∷ []

first_spelt : Spelt 0 first_new first_entries
first_spelt = more (mark square) (more (mark round_end) none)

first_old : OldText pair pair_tape 2 0 1 1 first_new
first_old = record {
  replaced = record { cut = omega arith; bytes = omega arith; in_old = omega arith; in_new = omega arith; front = refl; back = refl };
  holds = pair_holds;
  room = omega arith;
}

module _ (g : Repairer) (meets : Meets-demand3 g) where
  last_repaired : (g pair_tape 2 4 2 3 last_new).0 ≡ Ok (done 2 1 0)
  unfolding entries_of kept_before count_of any_quiet quiet_byte kept_behind largest are_kept are_moved is_moved all_behind
  last_repaired = repairs_spelt g meets pair pair_tape 2 2 3 3 last_new last_old last_entries last_spelt (omega arith) (omega arith)

  first_repaired : (g pair_tape 2 4 0 1 first_new).0 ≡ Ok (done 2 0 1)
  unfolding entries_of kept_before count_of any_quiet quiet_byte kept_behind largest are_kept are_moved is_moved all_behind
  first_repaired = repairs_spelt g meets pair pair_tape 2 0 1 1 first_new first_old first_entries first_spelt (omega arith) (omega arith)

  -- a repair that leaves the first tape standing
  pub first_tape_left : ((tape : List ℕ) (count o a b : ℕ) (text : List ℕ) (p : Repaired) → (g tape count o a b text).0 ≡ Ok p → (g tape count o a b text).1 ≡ tape) → ⊥
  unfolding entries_of flat
  first_tape_left still =
      let e = still pair_tape 2 4 0 1 first_new (done 2 0 1) first_repaired in
      let w = rewrites_spelt g meets pair pair_tape 2 0 1 1 first_new first_old first_entries first_spelt (omega arith) (omega arith) in
      let k : ◌≡◌ {A = ℕ} 1 3 = ap (λ (l : List Entry). get_or (flat l) 0 0) (sym (ap (entries_of 2) e) ∙ w) in
      omega arith

  -- one number for what is kept before, whatever is repaired
  pub one_before : (x : ℕ) → ((tape : List ℕ) (count o a b : ℕ) (text : List ℕ) (p : Repaired) → (g tape count o a b text).0 ≡ Ok p → p.before ≡ x) → ⊥
  one_before x same = omega (arith, same pair_tape 2 4 2 3 last_new (done 2 1 0) last_repaired, same pair_tape 2 4 0 1 first_new (done 2 0 1) first_repaired)

  -- and one for what is kept behind
  pub one_behind : (y : ℕ) → ((tape : List ℕ) (count o a b : ℕ) (text : List ℕ) (p : Repaired) → (g tape count o a b text).0 ≡ Ok p → p.behind ≡ y) → ⊥
  one_behind y same = omega (arith, same pair_tape 2 4 2 3 last_new (done 2 1 0) last_repaired, same pair_tape 2 4 0 1 first_new (done 2 0 1) first_repaired)

-- ---- there is one that meets the promise

pub some_repairer : (g : Repairer) × Meets-repair g
some_repairer = (
  (λ tape count o a b text. (repair_of tape count o a b text, repaired_tape tape count o a b text)),
  (λ tape count o a b text. (refl, refl)),
)
