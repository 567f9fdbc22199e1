-- Each entry of a tape in order, the raw names of which fit, has a name in the text. Assumes nothing.
use Prim.Native.Nat.{◌<◌, ◌≤◌, ℕ}
use native.Mathlib.Omega.{arith}
use mathlib.Core.Bool.{true, false}
use mathlib.Core.List.{List}
use mathlib.Core.Path.{◌≡◌, subst}
use lib.Dec.{eqb}
use lib.ListN.{length}
use borrow.Author.Tests.{eqb-true}
use Rattle.text.proofs.Choices.{bool_cases, either}
use Rattle.rows.proofs.RowLaws.{entries_at, length_entries}
use Rattle.rows.specs.Order.{in_order}
use Rattle.rows.specs.Rows.{entries_of, entry_at, room_of}
use Rattle.rows.specs.declared.Entry.{Entry}
use Rattle.fields.specs.Names.{HasName, name_from, raw_fits, raws_fit}
use Rattle.fields.proofs.RawLaws.{fits_each, raw_more, row_at}

-- each of the entries fits
fits_at : (text tape : List ℕ) (count : ℕ) → raws_fit text (entries_of count tape) ≡ true → (i : ℕ) → i < count → raw_fits text (entry_at tape i) ≡ true
fits_at text tape count f i h =
    subst (λ (x : Entry). raw_fits text x ≡ true) (entries_at count i tape (entry_at tape i) h)
    (fits_each text (entries_of count tape) f i (entry_at tape i) (omega (arith, length_entries count tape)))

module _ (text tape : List ℕ) (count : ℕ) (room : count ≤ room_of (length tape)) (ordered : in_order (entries_of count tape) (length text) ≡ true) (fits : raws_fit text (entries_of count tape) ≡ true)
    (i : ℕ) (h : i < count) where
  -- a raw one
  raw_name : eqb (entry_at tape i).kind 10 ≡ true → name_from (entry_at tape i) < (entry_at tape i).end
  raw_name k =
      rw k (raw_more text (entry_at tape i) (eqb-true (entry_at tape i).kind 10 k) (fits_at text tape count fits i h))

  -- any other begins at its start
  other_name : eqb (entry_at tape i).kind 10 ≡ false → name_from (entry_at tape i) < (entry_at tape i).end
  other_name k = rw k (omega (arith, (row_at text tape count ordered i h).some))

  pub has_name : HasName text tape i
  has_name =
      record {
        on_tape = omega arith;
        some = either (bool_cases (eqb (entry_at tape i).kind 10)) raw_name other_name;
        in_text = (row_at text tape count ordered i h).inside;
      }
