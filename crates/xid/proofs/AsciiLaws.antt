-- What the four rows in front say of the code points up to U+007F. Assumes nothing.
use Prim.Native.Nat.{ℕ, ◌<◌}
use native.Mathlib.Omega.{arith}
use mathlib.Core.Path.{◌≡◌, refl, sym, ap, ◌∙◌}
use mathlib.Core.List.{List, ◌∷◌}
use mathlib.Core.Bool.{true, cond}
use lib.ListN.{drop}
use Rattle.xid.specs.Table.{table}
use Rattle.xid.specs.Xid.{within, class_of, in_order}
use Rattle.xid.specs.Rows.{first_at}
use Rattle.xid.proofs.RowLaws.{ordered, none, below_row}
use Rattle.xid.proofs.TableLaws.{table_in_order}

-- the rows up to U+007F, and the others
abbrev wide : List ℕ
wide = drop 12 table

ascii_split : table ≡ 0x30 ∷ 0x39 ∷ 2 ∷ 0x41 ∷ 0x5a ∷ 3 ∷ 0x5f ∷ 0x5f ∷ 2 ∷ 0x61 ∷ 0x7a ∷ 3 ∷ wide
unfolding table
ascii_split = refl

wide_first : first_at wide 0 ≡ 0xaa
unfolding table
wide_first = refl

wide_in_order : in_order wide ≡ true
wide_in_order =
    let o = sym (ap in_order ascii_split) ∙ table_in_order in
    (ordered 0x61 0x7a 3 wide (ordered 0x5f 0x5f 2 (0x61 ∷ 0x7a ∷ 3 ∷ wide) (ordered 0x41 0x5a 3 (0x5f ∷ 0x5f ∷ 2 ∷ 0x61 ∷ 0x7a ∷ 3 ∷ wide) (ordered 0x30 0x39 2 (0x41 ∷ 0x5a ∷ 3 ∷ 0x5f ∷ 0x5f ∷ 2 ∷ 0x61 ∷ 0x7a ∷ 3 ∷ wide) o).rest).rest).rest).rest

wide_none : (c : ℕ) → c < 0x80 → class_of wide c ≡ 0
wide_none c h = none wide c 0 (λ j l. absurd (omega arith)) (below_row wide c 0 wide_in_order (omega (arith, wide_first)))

pub ascii-class : (c : ℕ) → c < 0x80 → class_of table c ≡ cond (within 0x30 0x39 c) 2 (cond (within 0x41 0x5a c) 3 (cond (within 0x5f 0x5f c) 2 (cond (within 0x61 0x7a c) 3 0)))
unfolding class_of
ascii-class c h =
    ap (λ (t : List ℕ). class_of t c) ascii_split
    ∙ ap (λ (n : ℕ). cond (within 0x30 0x39 c) 2 (cond (within 0x41 0x5a c) 3 (cond (within 0x5f 0x5f c) 2 (cond (within 0x61 0x7a c) 3 n)))) (wide_none c h)
