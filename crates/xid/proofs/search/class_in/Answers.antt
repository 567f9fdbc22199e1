use Prim.Native.Nat.{ℕ, ◌+◌, ◌*◌, ◌/◌, ◌≤◌, ◌<◌}
use native.Mathlib.Omega.{arith}
use native.Mathlib.Nat.{add-zero}
use mathlib.Core.Path.{◌≡◌, sym, ap, ◌∙◌}
use mathlib.Core.List.{List, []}
use mathlib.Core.Bool.{Bool, true, false}
use lib.Dec.{ltb}
use lib.ListN.{length, get_or}
use borrow.Author.Rules.{rules}
use denote.Param.Members.{Mut}
use denote.Ref.{Bor}
use Rattle.std.specs.Fn.{Called, ComputesKey}
use Rattle.std.specs.List.Sorted.{IsPartitionedBy, IsPartitionPoint}
use Rattle.std.specs.Simd.{first_chunks}
use Rattle.std.proofs.lemmas.List.Sorted.{IsPartitionPoint-from_clause}
use Rattle.xid.specs.Table.{table}
use Rattle.xid.specs.Xid.{class_of, in_order}
use Rattle.xid.proofs.RowArrays.{before_row, in_row, lasts_parted, past_all, row_count, row_number}
use Rattle.xid.proofs.TableLaws.{table_in_order}
use Rattle.xid.proofs.search.class_in.Goals as goal

in-order : (t : List ℕ) → t ≡ table → in_order t ≡ true
in-order t e = ap in_order e ∙ table_in_order

-- what `partition_point` found among the rows of the table
module _ (t : List ℕ) (rows : List (List ℕ)) (c at : ℕ) (same : t ≡ table) (long : length t ≡ 3234) (are : rows ≡ first_chunks 3 (length t / 3) t) where
  rows_are : rows ≡ first_chunks 3 1078 t
  rows_are = are ∙ ap (λ (n : ℕ). first_chunks 3 (n / 3) t) long

  module _ {F : Type 0} {g : Mut F (Bor (List ℕ) × Unit {0}) Bool} {f : F}
      (clause : (q : List ℕ → Bool) → ComputesKey g q f → IsPartitionedBy q rows → IsPartitionPoint (λ (y : List ℕ). q y ≡ true) (λ (y : List ℕ). q y ≡ false) rows at)
      (each : (a : Bor (List ℕ) × Unit {0}) (r : Bool) (q : F) → Called g f a r q → (r ≡ ltb (get_or a.0.now 1 0) c) × (q ≡ f)) where
    point : IsPartitionPoint (λ (y : List ℕ). ltb (get_or y 1 0) c ≡ true) (λ (y : List ℕ). ltb (get_or y 1 0) c ≡ false) (first_chunks 3 1078 t) at
    point = rw rows_are at (IsPartitionPoint-from_clause (λ (y : List ℕ). ltb (get_or y 1 0) c) rows at clause (rw rows_are (lasts_parted t (in-order t same) 1078 long c)) each)

    none_ends : at ≡ length rows → 0 ≡ class_of table c
    none_ends e = sym (past_all t (in-order t same) 1078 long c at point (e ∙ ap length rows_are ∙ row_count 1078 t)) ∙ ap (λ (s : List ℕ). class_of s c) same

    module _ (l : at < length rows) where
      there : at < 1078
      there = omega (arith, ap length rows_are, row_count 1078 t)

      number : (i : ℕ) → i < 3 → get_or (get_or rows at []) i 0 ≡ get_or t (at * 3 + i) 0
      number i h = rw rows_are (row_number 1078 t at i [] there h)

      starts_behind : c < get_or (get_or rows at []) 0 0 → 0 ≡ class_of table c
      starts_behind h = sym (before_row t (in-order t same) 1078 long c at point there (omega (arith, number 0 (omega arith), ap (λ (n : ℕ). get_or t n 0) (add-zero (at * 3))))) ∙ ap (λ (s : List ℕ). class_of s c) same

      holds_it : get_or (get_or rows at []) 0 0 ≤ c → get_or (get_or rows at []) 2 0 ≡ class_of table c
      holds_it h = number 2 (omega arith) ∙ sym (in_row t (in-order t same) 1078 long c at point there (omega (arith, number 0 (omega arith), ap (λ (n : ℕ). get_or t n 0) (add-zero (at * 3))))) ∙ ap (λ (s : List ℕ). class_of s c) same

pub returns-then-at-rows : goal.returns-then-at-rows
returns-then-at-rows c = none_ends _ _ _ _ c.requires c.told-t c.as_chunks.ensures.front c.partition_point-at.ensures.partitioned (λ a r q k. search rules) c.if-at-rows.true

pub returns-then-first-c : goal.returns-then-first-c
returns-then-first-c c = holds_it _ _ _ _ c.requires c.told-t c.as_chunks.ensures.front c.partition_point-at.ensures.partitioned (λ a r q k. search rules) (omega (arith, c.partition_point-at.ensures.bound)) c.if-first-c.true

pub returns-else-first-c : goal.returns-else-first-c
returns-else-first-c c = starts_behind _ _ _ _ c.requires c.told-t c.as_chunks.ensures.front c.partition_point-at.ensures.partitioned (λ a r q k. search rules) (omega (arith, c.partition_point-at.ensures.bound)) c.if-first-c.false
