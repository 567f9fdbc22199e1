-- Every integer of an accepted read can be read again by `integers`: no list of them is refused where both buffers have room. Assumes nothing.
use Rattle.std.proofs.Common.{Ok}
use Prim.Native.Nat.{ℕ, ◌≤◌, ◌<◌}
use native.Mathlib.Omega.{arith}
use mathlib.Core.Bool.{true}
use mathlib.Core.List.{List}
use mathlib.Core.Path.{◌≡◌, ap, sym, ◌∙◌}
use lib.ListN.{length, get_or}
use borrow.Author.Tests.{eq-eqb, lt-ltb}
use Rattle.text.proofs.ClassLaws.{inside}
use Rattle.text.specs.Judged.{judged_of, place_fits}
use Rattle.text.specs.Utf8.{In}
use Rattle.integers.specs.Width.{code_of, width_at}
use Rattle.integers.specs.declared.width.Width.{Width}
use Rattle.integers.specs.declared.width.Width.TheVariants.{I8, I16, I32, I64, U8, U16, U32, U64}
use Rattle.rows.specs.Rows.{entry_at}
use Rattle.read.specs.Read.{read_answer, read_tape}
use Rattle.mending.proofs.Again.{Held, after_read}
use Rattle.sarridok.specs.declared.items.Coded.{Coded}
use Rattle.sarridok.specs.Integers.{code_for, entry_integer, integers_of, item_of, names_integer}
use Rattle.sarridok.specs.inner.Items.{verdict_of}
use Rattle.sarridok.proofs.IntegersLaws.{by-room}
use Rattle.sarridok.proofs.IntegersMeans.{makes_all}
use Rattle.integers.proofs.WidthRows.{width_of}
use Rattle.reread.proofs.EntryTokens.{accepted_fit, row_token}
use Rattle.reread.proofs.Retyped.{held_integer}
use Rattle.reread.proofs.TokenKinds.{entry_fits, entry-integer, reread}

-- every width has a number of 1 to 8
code_in : (w : Width) → In 1 8 (code_of w)
code_in I8 = (omega arith, omega arith)
code_in I16 = (omega arith, omega arith)
code_in I32 = (omega arith, omega arith)
code_in I64 = (omega arith, omega arith)
code_in U8 = (omega arith, omega arith)
code_in U16 = (omega arith, omega arith)
code_in U32 = (omega arith, omega arith)
code_in U64 = (omega arith, omega arith)

-- over a tape that holds the reading of a text
module _ (text tape : List ℕ) (count : ℕ) (fit : judged_of text ≡ Ok tt) (held : Held text tape count) where
  module _ (i : ℕ) (below : i < count) (kind : (entry_at tape i).kind ≡ 11) where
    width_in : In 1 8 (entry_at tape i).detail
    width_in =
        let t = row_token text tape count i held below in
        let a = entry-integer text (entry_at tape i) t kind in
        let c = code_in a.width in
        (omega (arith, c.0, a.width_is), omega (arith, c.1, a.width_is))

    width_is : code_of (width_at (entry_at tape i).detail) ≡ (entry_at tape i).detail
    width_is =
        let t = row_token text tape count i held below in
        let a = entry-integer text (entry_at tape i) t kind in
        ap (λ (d : ℕ). code_of (width_at d)) (sym a.width_is) ∙ ap code_of (width_of a.width) ∙ a.width_is

    names : names_integer (entry_at tape i) ≡ true
    names = rw (eq-eqb (entry_at tape i).kind 11 kind, inside 1 8 (entry_at tape i).detail width_in.0 width_in.1)

    placed : place_fits text (entry_at tape i).start ≡ true
    placed = entry_fits text (entry_at tape i) (row_token text tape count i held below) (ap reread kind)

    -- an item that is an integer's entry reads
    item_again : (c : Coded) × (item_of text tape count i ≡ Ok c)
    unfolding item_of entry_integer
    item_again =
        let single = held_integer text tape count i (width_at (entry_at tape i).detail) fit held below kind width_is in
        (record { magnitude = single.0.magnitude; code = code_for (entry_at tape i).detail single.0 }, rw (lt-ltb i count below, placed, names, single.1))

  pub held_integers : (items : List ℕ) (m c : ℕ) → ((k : ℕ) → k < length items → (get_or items k 0 < count) × ((entry_at tape (get_or items k 0)).kind ≡ 11))
      → length items ≤ m → length items ≤ c → (cs : List Coded) × (integers_of text tape count items m c ≡ Ok cs)
  held_integers items m c each a b =
      let all = makes_all text tape count items 0 (λ k l. item_again (get_or items k 0) (each k l).0 (each k l).1) in
      (all.0, by-room text tape count items m c fit held.room (ap verdict_of all.1) a b ∙ all.1)

-- over the tape that an accepted read leaves
pub read_integers : (text tape : List ℕ) (count : ℕ) (items : List ℕ) (m c : ℕ) → read_answer text (length tape) ≡ Ok count
    → ((k : ℕ) → k < length items → (get_or items k 0 < count) × ((entry_at (read_tape text tape) (get_or items k 0)).kind ≡ 11))
    → length items ≤ m → length items ≤ c → (cs : List Coded) × (integers_of text (read_tape text tape) count items m c ≡ Ok cs)
read_integers text tape count items m c e each a b =
    held_integers text (read_tape text tape) count (accepted_fit text (length tape) count e) (after_read text tape count e) items m c each a b
