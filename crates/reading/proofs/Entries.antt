-- Entries in front of a reading, how many there are, and that they are in order. Assumes nothing.
use Rattle.std.proofs.Common.{Ok, Err}
use Prim.Native.Nat.{◌+◌, ℕ}
use native.Mathlib.Omega.{arith}
use mathlib.Core.Bool.{Bool, true}
use mathlib.Core.List.{List, [], ◌++◌, ◌∷◌}
use mathlib.Core.Path.{◌∙◌, ◌≡◌, ap, ap₂, refl, sym}
use lib.ListN.{drop, length, length-drop}
use borrow.Author.Tests.{eq-eqb, le-leb, lt-ltb}
use Rattle.reading.proofs.Steps.{first}
use Rattle.reading.specs.Owed.{Laws}
use Rattle.reading.specs.Readings.{◌▸◌, Reading, counted, entries, read_part}
use Rattle.reading.specs.Readings.Reading.{broken, complete, entry}
use Rattle.reading.specs.Tokens.{Answer, Token, reach}
use Rattle.reading.specs.Tokens.Answer.{token}
use Rattle.rows.specs.Order.{in_order_from, orderly}
use Rattle.rows.specs.declared.Entry.{Entry}
use Rattle.text.specs.Classes.{within}
use Rattle.text.specs.declared.refusal.Refusal.{Refusal}

pub ▸-append : (xs ys : List Entry) (r : Reading) → (xs ++ ys) ▸ r ≡ xs ▸ (ys ▸ r)
▸-append [] ys r = refl
▸-append (x ∷ xs) ys r = ap (entry x) (▸-append xs ys r)

-- the entries of a complete reading
pub entries_complete : (es : List Entry) → entries (es ▸ complete) ≡ es
unfolding entries
entries_complete [] = refl
entries_complete (e ∷ es) = ap {B = List Entry} (λ (l : List Entry). e ∷ l) (entries_complete es)

-- ---- the count of a complete reading

pub counted_complete : (es : List Entry) (n : ℕ) → counted n (es ▸ complete) ≡ Ok (n + length es)
unfolding counted
counted_complete [] n = ap Ok (omega arith)
counted_complete (e ∷ es) n = counted_complete es (n + 1) ∙ ap Ok (omega arith)

pub counted_broken : (es : List Entry) (n : ℕ) (d : Refusal) → counted n (es ▸ broken d) ≡ Err d
unfolding counted
counted_broken [] n d = refl
counted_broken (e ∷ es) n d = counted_broken es (n + 1) d

-- a reading that has one is its entries, complete
pub record Complete (n m : ℕ) (r : Reading) : Type 0 where
  pub reading_is : r ≡ entries r ▸ complete
  pub count_is : n + length (entries r) ≡ m

pub counted_accepted : (r : Reading) (n m : ℕ) → counted n r ≡ Ok m → Complete n m r
unfolding counted entries
counted_accepted complete n m h = let z : n ≡ m = cc in record { reading_is = refl; count_is = omega arith }
counted_accepted (broken d) n m h = let z : ◌≡◌ {A = ℕ} 0 1 = cc in absurd (omega arith)
counted_accepted (entry e r) n m h =
    let ih = counted_accepted r (n + 1) m h in
    record { reading_is = ap (entry e) ih.reading_is; count_is = omega (arith, ih.count_is) }

-- ---- what is read is in order

module _ (tok : List ℕ → Answer) (quiet : ℕ → Bool) (laws : Laws tok quiet) (kinds : (s : List ℕ) (t : Token) → tok s ≡ token t → within 1 16 t.kind ≡ true) where
  pub read_in_order : (es : List Entry) (at : ℕ) (s : List ℕ) (r : Reading) → read_part tok at s ≡ es ▸ r → in_order_from es at (at + length s) ≡ true
  unfolding in_order_from orderly
  read_in_order [] at s r h = le-leb at (at + length s) (omega arith)
  read_in_order (e ∷ es) at s r h =
      let f = first tok quiet laws at s e (es ▸ r) h in
      let t : Token = f.this in
      let k : e.kind ≡ t.kind = ap (λ (x : Entry). x.kind) f.entry_is in
      let b : e.start ≡ at + t.gap = ap (λ (x : Entry). x.start) f.entry_is in
      let g : e.gap ≡ t.gap = ap (λ (x : Entry). x.gap) f.entry_is in
      let d : e.end ≡ at + reach t = ap (λ (x : Entry). x.end) f.entry_is in
      let pos = laws.grows s t f.answer in
      let fit = laws.inside s t f.answer in
      let l : at + reach t + length (drop (reach t) s) ≡ at + length s = omega (arith, length-drop (reach t) s) in
      let ih = read_in_order es (at + reach t) (drop (reach t) s) r (sym f.rest_is) in
      let rest : in_order_from es e.end (at + length s) ≡ true = ap₂ (in_order_from es) d (sym l) ∙ ih in
      simp (
        ap (within 1 16) k ∙ kinds s t f.answer,
        lt-ltb e.start e.end (omega arith),
        le-leb at e.start (omega arith),
        eq-eqb (at + e.gap) e.start (omega arith),
        rest,
      )
