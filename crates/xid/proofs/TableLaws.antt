-- The table is in order, computed once over all of it, and what follows of every code point. Assumes nothing.
use Prim.Native.Nat.{ℕ, suc, ◌≤◌, ◌<◌}
use mathlib.Core.Path.{◌≡◌, refl}
use mathlib.Core.Bool.{true}
use Rattle.xid.specs.Table.{table}
use Rattle.xid.specs.Xid.{xid_start, xid_continue, in_order, class_of, starts, continues}
use Rattle.xid.specs.Rows.{Lies, Row, class_at, first_at, last_at}
use Rattle.xid.proofs.RowLaws.{apart, first_le, lies_member, member, member_lies, subset, widest}

-- the whole table: ranges, sorted, apart, and no class that starts names without going on in them
pub table_in_order : in_order table ≡ true
unfolding in_order table
table_in_order = refl

-- ---- what that says of its rows

pub table_ranges : (j : ℕ) → Row table j → first_at table j ≤ last_at table j
table_ranges j h = first_le table j table_in_order h

pub table_apart : (i j : ℕ) → i < j → Row table j → last_at table i < first_at table j
table_apart i j l h = apart table i j table_in_order l h

pub table_widest : (j : ℕ) → Row table (suc j) → first_at table (suc j) ≡ suc (last_at table j) → class_at table (suc j) ≡ class_at table j → ⊥
table_widest j h e f = widest table j table_in_order h e f

-- ---- what it says of a code point

-- every start character is also a continue character
pub start_continues : (c : ℕ) → xid_start c ≡ true → xid_continue c ≡ true
unfolding xid_start xid_continue
start_continues c e = subset table c table_in_order e

-- membership is lying in a row
pub start_lies : (c : ℕ) → xid_start c ≡ true → (j : ℕ) × Lies starts table c j
unfolding xid_start
start_lies c e = member_lies starts table c e

pub lies_start : (c j : ℕ) → Lies starts table c j → xid_start c ≡ true
unfolding xid_start
lies_start c j w = lies_member starts table c j w

pub continue_lies : (c : ℕ) → xid_continue c ≡ true → (j : ℕ) × Lies continues table c j
unfolding xid_continue
continue_lies c e = member_lies continues table c e

pub lies_continue : (c j : ℕ) → Lies continues table c j → xid_continue c ≡ true
unfolding xid_continue
lies_continue c j w = lies_member continues table c j w

-- the lookup is membership
pub start_class : (c : ℕ) → xid_start c ≡ starts (class_of table c)
unfolding xid_start
start_class c = member starts refl table c table_in_order

pub continue_class : (c : ℕ) → xid_continue c ≡ continues (class_of table c)
unfolding xid_continue
continue_class c = member continues refl table c table_in_order
