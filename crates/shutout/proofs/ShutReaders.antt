-- What the promise of `read` shuts out (document 01, demand 2). Assumes nothing.
--     accepts-spelt, writes-spelt   a reader that meets it accepts every spelt text for which there is room, and writes its entries
--     tells-apart, tapes-differ     and tells two spelt texts apart whose entries differ
--     not-all-refused, not-one-tape, not-nothing-written, not-none-counted
--     some-reader                   there is a reader that meets it
use Rattle.std.proofs.Common.{Ok, Err}
use Prim.Native.Nat.{ℕ, ◌*◌, ◌≤◌, ◌<◌}
use native.Mathlib.Omega.{arith}
use mathlib.Core.List.{List, [], ◌∷◌, ◌++◌}
use mathlib.Core.Path.{◌≡◌, refl, ap, ap₂, sym, ◌∙◌}
use lib.ListN.{drop, get_or, length}
use Rattle.text.proofs.Lists.{head_at}
use Rattle.text.specs.Refusals.{Told}
use Rattle.text.specs.declared.refusal.Refusal.{Refusal}
use Rattle.rows.specs.Rows.{entries_of, entry_of, flat, laid, room_of, width}
use Rattle.rows.specs.declared.Entry.{Entry}
use Rattle.read.specs.Read.{read_answer, read_tape}
use Rattle.tiled.specs.Forms.{Mark}
use Rattle.tiled.specs.Forms.Mark.{round, round_end, square, square_end, curly, curly_end, comma, colon}
use Rattle.spelt.proofs.SpeltRead.{spelt_read, spelt_tape}
use Rattle.spelt.specs.Spelt.{Plain, Spelt}
use Rattle.spelt.specs.Spelt.Plain.{mark, name, integer, string}
use Rattle.spelt.specs.Spelt.Spelt.{none, more}
use Rattle.shutout.specs.ShutOut.{Meets-read, Reader}

-- ---- entries laid one behind the other

mark_kind : {a k : ℕ} → Mark a k → 0 < k
mark_kind round = omega arith
mark_kind round_end = omega arith
mark_kind square = omega arith
mark_kind square_end = omega arith
mark_kind curly = omega arith
mark_kind curly_end = omega arith
mark_kind comma = omega arith
mark_kind colon = omega arith

plain_kind : {k d : ℕ} {w : List ℕ} → Plain k d w → 0 < k
plain_kind (mark m) = mark_kind m
plain_kind (name sc starts x fine) = omega arith
plain_kind (integer x small) = omega arith
plain_kind (string e x) = omega arith

-- the numbers tell the entries, where 0 stands behind them
one_flat : {at at' : ℕ} {s s' : List ℕ} {es es' : List Entry} → Spelt at s es → Spelt at' s' es' → (r r' : List ℕ) → get_or r 0 0 ≡ 0 → get_or r' 0 0 ≡ 0
    → flat es ++ r ≡ flat es' ++ r' → es ≡ es'
unfolding flat
one_flat none none r r' z z' e = refl
one_flat none (more p x) r r' z z' e = absurd (omega (arith, plain_kind p, ap (λ (l : List ℕ). get_or l 0 0) e))
one_flat (more p x) none r r' z z' e = absurd (omega (arith, plain_kind p, ap (λ (l : List ℕ). get_or l 0 0) e))
one_flat (more p x) (more q y) r r' z z' e = ap₂ {C = List Entry} (λ (h : Entry) (l : List Entry). h ∷ l) (ap entry_of e) (one_flat x y r r' z z' (ap (drop width) e))

-- ---- what a reader does that meets the promise

module _ (f : Reader) (meets : Meets-read f) where
  module _ (text tape : List ℕ) (es : List Entry) (x : Spelt 0 text es) (short : length text ≤ 65536) (room : length es ≤ room_of (length tape)) where
    -- it accepts every spelt text for which there is room, with its count
    pub accepts_spelt : (f text tape).0 ≡ Ok (length es)
    accepts_spelt = (meets text tape).0 ∙ (spelt_read text tape es x short room).0

    -- refuses none
    pub refuses_none : (r : Refusal) → (f text tape).0 ≡ Err r → ⊥
    refuses_none r e = let z : ◌≡◌ {A = Told ℕ} (Ok (length es)) (Err r) = sym accepts_spelt ∙ e in let y : ◌≡◌ {A = ℕ} 0 1 = cc in omega arith

    -- and writes its entries
    pub writes_spelt : entries_of (length es) (f text tape).1 ≡ es
    writes_spelt = ap (entries_of (length es)) (meets text tape).1 ∙ (spelt_read text tape es x short room).1

  -- answer and tape tell two spelt texts apart whose entries differ
  pub tells_apart : (text text' tape : List ℕ) (es es' : List Entry) → Spelt 0 text es → Spelt 0 text' es' → length text ≤ 65536 → length text' ≤ 65536
      → length es ≤ room_of (length tape) → length es' ≤ room_of (length tape) → f text tape ≡ f text' tape → es ≡ es'
  tells_apart text text' tape es es' x x' s s' r r' e =
      let z : ◌≡◌ {A = Told ℕ} (Ok (length es)) (Ok (length es')) = sym (accepts_spelt text tape es x s r) ∙ ap (λ p. p.0) e ∙ accepts_spelt text' tape es' x' s' r' in
      let n : length es ≡ length es' = cc in
      sym (writes_spelt text tape es x s r) ∙ ap (entries_of (length es)) (ap (λ p. p.1) e) ∙ ap (λ (k : ℕ). entries_of k (f text' tape).1) n ∙ writes_spelt text' tape es' x' s' r'

  -- and so does the tape alone, where 0 stands behind the entries
  pub tapes_differ : (text text' tape : List ℕ) (es es' : List Entry) → Spelt 0 text es → Spelt 0 text' es' → length text ≤ 65536 → length text' ≤ 65536
      → length es ≤ room_of (length tape) → length es' ≤ room_of (length tape) → get_or tape (width * length es) 0 ≡ 0 → get_or tape (width * length es') 0 ≡ 0
      → (f text tape).1 ≡ (f text' tape).1 → es ≡ es'
  unfolding laid
  tapes_differ text text' tape es es' x x' s s' r r' z z' e =
      one_flat x x' (drop (width * length es) tape) (drop (width * length es') tape) (head_at tape (width * length es) ∙ z) (head_at tape (width * length es') ∙ z')
      (sym ((meets text tape).1 ∙ spelt_tape text tape es x s r) ∙ e ∙ (meets text' tape).1 ∙ spelt_tape text' tape es' x' s' r')

-- ---- four readers that do not meet it

-- `( ` and `) `, and the entry of each
abbrev opens : List ℕ
opens = 0x28 ∷ 0x20 ∷ []

abbrev opened : List Entry
opened = record { kind = 1; start = 0; end = 1; detail = 0; gap = 0 } ∷ []

opens_spelt : Spelt 0 opens opened
opens_spelt = more (mark round) none

abbrev closes : List ℕ
closes = 0x29 ∷ 0x20 ∷ []

abbrev closed : List Entry
closed = record { kind = 2; start = 0; end = 1; detail = 0; gap = 0 } ∷ []

closes_spelt : Spelt 0 closes closed
closes_spelt = more (mark round_end) none

-- a tape with room for one entry
abbrev zeros : List ℕ
zeros = 0 ∷ 0 ∷ 0 ∷ 0 ∷ 0 ∷ []

module _ (f : Reader) (meets : Meets-read f) where
  -- a reader that refuses everything
  pub not_all_refused : ((text tape : List ℕ) → (r : Refusal) × ((f text tape).0 ≡ Err r)) → ⊥
  not_all_refused all = let w = all opens zeros in refuses_none f meets opens zeros opened opens_spelt (omega arith) (omega arith) w.0 w.1

  -- one that gives one tape to all texts
  pub not_one_tape : ((text text' tape : List ℕ) → (f text tape).1 ≡ (f text' tape).1) → ⊥
  unfolding flat
  not_one_tape same =
      let e : opened ≡ closed = tapes_differ f meets opens closes zeros opened closed opens_spelt closes_spelt (omega arith) (omega arith) (omega arith) (omega arith) refl refl (same opens closes zeros) in
      let k : ◌≡◌ {A = ℕ} 1 2 = ap (λ (l : List Entry). get_or (flat l) 0 0) e in
      omega arith

  -- one that accepts and writes nothing
  pub not_nothing_written : ((text tape : List ℕ) (n : ℕ) → (f text tape).0 ≡ Ok n → (f text tape).1 ≡ tape) → ⊥
  unfolding entries_of flat
  not_nothing_written still =
      let e = still opens zeros 1 (accepts_spelt f meets opens zeros opened opens_spelt (omega arith) (omega arith)) in
      let k : ◌≡◌ {A = ℕ} 0 1 = ap (λ (l : List Entry). get_or (flat l) 0 0) (sym (ap (entries_of 1) e) ∙ writes_spelt f meets opens zeros opened opens_spelt (omega arith) (omega arith)) in
      omega arith

  -- one that accepts and counts nothing
  pub not_none_counted : ((text tape : List ℕ) (n : ℕ) → (f text tape).0 ≡ Ok n → n ≡ 0) → ⊥
  not_none_counted idle = let k : ◌≡◌ {A = ℕ} 1 0 = idle opens zeros 1 (accepts_spelt f meets opens zeros opened opens_spelt (omega arith) (omega arith)) in omega arith

-- ---- there is one that meets the promise

pub some_reader : (f : Reader) × Meets-read f
some_reader = ((λ text tape. (read_answer text (length tape), read_tape text tape)), (λ text tape. (refl, refl)))
