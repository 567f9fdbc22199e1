-- A pass: what is left to read gives the whole. Assumes nothing.
use Rattle.std.proofs.Common.{Ok, Err}
use Prim.Native.Nat.{ℕ, suc, zero, ◌+◌, ◌-◌, ◌<◌, ◌≤◌}
use native.Mathlib.Omega.{arith}
use mathlib.Core.Bool.{Bool, true, false, cond}
use mathlib.Core.List.{List, [], ◌∷◌}
use mathlib.Core.Path.{◌≡◌, ap, ap₂, refl, sym, ◌∙◌}
use lib.ListN.{drop, length, take, length-drop, length-take}
use Rattle.reading.proofs.Entries.{read_in_order}
use Rattle.reading.specs.Owed.{quiet_byte}
use Rattle.reading.specs.Readings.{Reading, ◌▸◌, broken, complete, counted, end_of, entries, entry, read_from}
use Rattle.rows.proofs.OrderLaws.{in_order_short}
use Rattle.rows.proofs.RowLaws.{writes, writes_laid}
use Rattle.rows.specs.Rows.{room_of, written}
use Rattle.rows.specs.declared.Entry.{Entry}
use Rattle.text.specs.declared.refusal.Refusal.{Refusal}
use Rattle.tokens.proofs.RonLaws.{kinds, laws}
use Rattle.tokens.specs.Ron.{ron_token}
use Rattle.read.specs.declared.scanned.Scanned.{Scanned}
use Rattle.read.specs.inner.Pass.{ending_of, passed_tape, scanned_from, scanned_on, told_by, up_to}

-- ---- the first entries of a reading

pub entries_up_to : (n : ℕ) (r : Reading) → entries (up_to n r) ≡ take n (entries r)
unfolding up_to entries
entries_up_to zero r = refl
entries_up_to (suc n) complete = refl
entries_up_to (suc n) (broken d) = refl
entries_up_to (suc n) (entry e r) = ap {B = List Entry} (λ (l : List Entry). e ∷ l) (entries_up_to n r)

-- a reading with fewer entries is taken whole
pub up_to_all : (n : ℕ) (r : Reading) → length (entries r) < n → up_to n r ≡ r
unfolding up_to entries
up_to_all zero r h = absurd (omega arith)
up_to_all (suc n) complete h = refl
up_to_all (suc n) (broken d) h = refl
up_to_all (suc n) (entry e r) h = ap (entry e) (up_to_all n r (omega arith))

-- a reading is its entries and how it ends
pub split_reading : (r : Reading) → (d : Reading) × (r ≡ entries r ▸ d)
unfolding entries
split_reading complete = (complete, refl)
split_reading (broken d) = (broken d, refl)
split_reading (entry x r) = let s = split_reading r in (s.0, ap (entry x) s.1)

-- there are no more entries than bytes
pub few_entries : (text : List ℕ) (at : ℕ) → length (entries (read_from ron_token text at)) ≤ length text
few_entries text at =
    let r : Reading = read_from ron_token text at in
    let s = split_reading r in
    let o = read_in_order ron_token quiet_byte laws kinds (entries r) at (drop at text) s.0 s.1 in
    omega (arith, in_order_short (entries r) at (at + length (drop at text)) o, length-drop at text)

-- ---- rows written where the pass is on

-- the tape once the entries of a reading are written from row i on
abbrev pub onto : Bool → ℕ → Reading → List ℕ → List ℕ
onto on i r tape = cond on (writes (entries r) i tape) tape

onto_entry : (on : Bool) (i : ℕ) (e : Entry) (r : Reading) (tape : List ℕ) → onto on i (entry e r) tape ≡ onto on (i + 1) r (cond on (written tape i e) tape)
unfolding writes entries
onto_entry true i e r tape = refl
onto_entry false i e r tape = refl

onto_complete : (on : Bool) (i : ℕ) (tape : List ℕ) → onto on i complete tape ≡ tape
unfolding writes entries
onto_complete true i tape = refl
onto_complete false i tape = refl

onto_broken : (on : Bool) (i : ℕ) (d : Refusal) (tape : List ℕ) → onto on i (broken d) tape ≡ tape
unfolding writes entries
onto_broken true i d tape = refl
onto_broken false i d tape = refl

pub onto_passed : (on : Bool) (n : ℕ) (r : Reading) (tape : List ℕ) → (on ≡ true → n ≤ room_of (length tape)) → onto on 0 (up_to n r) tape ≡ passed_tape on (up_to n r) tape
onto_passed true n r tape h =
    let z = h refl in
    writes_laid (entries (up_to n r)) tape (omega (arith, z, ap length (entries_up_to n r), length-take n (entries r)))
onto_passed false n r tape h = refl

-- ---- what is left gives the whole

-- the pass at row i, the last entry ending at `at` and the one before it at `before`, with the reading r in front of it, comes to what the whole pass over w comes to
pub record Left (on : Bool) (n from : ℕ) (w : Reading) (tape₀ : List ℕ) (i at before : ℕ) (r : Reading) (tape : List ℕ) : Type 0 where
  pub count : scanned_on i at before (up_to (n - i) r) ≡ scanned_from from (up_to n w)
  pub rows : onto on i (up_to (n - i) r) tape ≡ onto on 0 (up_to n w) tape₀

-- an answer and a tape are those of the whole pass
pub record Whole (on : Bool) (n from : ℕ) (w : Reading) (tape₀ : List ℕ) (a : Scanned) (tape : List ℕ) : Type 0 where
  pub answer : a ≡ scanned_from from (up_to n w)
  pub rows : tape ≡ passed_tape on (up_to n w) tape₀

module _ (on : Bool) (n from : ℕ) (w : Reading) (tape₀ : List ℕ) where
  pub left_starts : Left on n from w tape₀ 0 from from w tape₀
  left_starts =
      let z : n - 0 ≡ n = omega arith in
      record { count = ap (λ (k : ℕ). scanned_from from (up_to k w)) z; rows = ap (λ (k : ℕ). onto on 0 (up_to k w) tape₀) z }

  module _ (i at before : ℕ) (r : Reading) (tape : List ℕ) (left : Left on n from w tape₀ i at before r tape) where
    pub left_entry : (e : Entry) (r' : Reading) (tape' : List ℕ) → i < n → r ≡ entry e r' → tape' ≡ cond on (written tape i e) tape → Left on n from w tape₀ (i + 1) e.end at r' tape'
    unfolding up_to scanned_on
    left_entry e r' tape' h q t =
        let z : n - i ≡ suc (n - (i + 1)) = omega arith in
        let here : up_to (n - i) r ≡ entry e (up_to (n - (i + 1)) r') = ap₂ up_to z q in
        record {
          count = sym (ap (scanned_on i at before) here) ∙ left.count;
          rows = ap (onto on (i + 1) (up_to (n - (i + 1)) r')) t
              ∙ sym (ap (λ (x : Reading). onto on i x tape) here ∙ onto_entry on i e (up_to (n - (i + 1)) r') tape)
              ∙ left.rows;
        }

    module _ (room : on ≡ true → n ≤ room_of (length tape₀)) where
      ends : (x : Reading) (a : Scanned) → up_to (n - i) r ≡ x → scanned_on i at before x ≡ a → onto on i x tape ≡ tape → Whole on n from w tape₀ a tape
      ends x a e f g = record {
        answer = sym (ap (scanned_on i at before) e ∙ f) ∙ left.count;
        rows = sym (ap (λ (y : Reading). onto on i y tape) e ∙ g) ∙ left.rows ∙ onto_passed on n w tape₀ room;
      }

      pub left_full : n ≤ i → Whole on n from w tape₀ (record { count = i; end = at; before = before; ending = Ok tt }) tape
      unfolding up_to scanned_on
      left_full h = let z : n - i ≡ 0 = omega arith in ends complete _ (ap (λ (k : ℕ). up_to k r) z) refl (onto_complete on i tape)

      pub left_complete : i < n → r ≡ complete → Whole on n from w tape₀ (record { count = i; end = at; before = before; ending = Ok tt }) tape
      unfolding up_to scanned_on
      left_complete h q = let z : n - i ≡ suc (n - (i + 1)) = omega arith in ends complete _ (ap₂ up_to z q) refl (onto_complete on i tape)

      pub left_broken : (d : Refusal) → i < n → r ≡ broken d → Whole on n from w tape₀ (record { count = i; end = at; before = before; ending = Err d }) tape
      unfolding up_to scanned_on
      left_broken d h q = let z : n - i ≡ suc (n - (i + 1)) = omega arith in ends (broken d) _ (ap₂ up_to z q) refl (onto_broken on i d tape)

-- ---- what is scanned

-- in the paper's words it is what is counted
pub scanned_told : (r : Reading) (count end before : ℕ) → told_by (scanned_on count end before r).ending (scanned_on count end before r).count ≡ counted count r
unfolding scanned_on counted
scanned_told complete count end before = refl
scanned_told (broken d) count end before = refl
scanned_told (entry e r) count end before = scanned_told r (count + 1) e.end end

-- by the entries: the end of all, and of all but the last
abbrev pub before_of : ℕ → ℕ → List Entry → ℕ
before_of end before [] = before
before_of end before (e ∷ es) = end_of end (take (length es) (e ∷ es))

pub scanned_is : (r : Reading) (count end before : ℕ)
    → scanned_on count end before r ≡ record { count = count + length (entries r); end = end_of end (entries r); before = before_of end before (entries r); ending = ending_of r }
unfolding scanned_on entries end_of ending_of
scanned_is complete count end before = numbers (omega arith)
  where
    numbers : {a b : ℕ} → a ≡ b → ◌≡◌ {A = Scanned} (record { count = a; end = end; before = before; ending = Ok tt }) (record { count = b; end = end; before = before; ending = Ok tt })
    numbers p = cc
scanned_is (broken d) count end before = numbers (omega arith)
  where
    numbers : {a b : ℕ} → a ≡ b → ◌≡◌ {A = Scanned} (record { count = a; end = end; before = before; ending = Err d }) (record { count = b; end = end; before = before; ending = Err d })
    numbers p = cc
scanned_is (entry e r) count end before = scanned_is r (count + 1) e.end end ∙ numbers (omega arith) (last (entries r))
  where
    last : (es : List Entry) → before_of e.end end es ≡ end_of end (take (length es) (e ∷ es))
    last [] = refl
    last (x ∷ es) = refl

    numbers : {a b c d : ℕ} → a ≡ b → c ≡ d
        → ◌≡◌ {A = Scanned} (record { count = a; end = end_of e.end (entries r); before = c; ending = ending_of r }) (record { count = b; end = end_of e.end (entries r); before = d; ending = ending_of r })
    numbers p q = cc
