-- Every integer of an accepted read can be read again by `integer`, in the width that its detail says, up to the entry's end. Assumes nothing.
use Rattle.std.proofs.Common.{Ok}
use Prim.Native.Nat.{ℕ, ◌<◌}
use mathlib.Core.List.{List}
use mathlib.Core.Path.{◌≡◌, ap, sym, ◌∙◌}
use lib.ListN.{length, drop}
use Rattle.text.specs.Judged.{judged_of}
use Rattle.integers.specs.Width.{code_of}
use Rattle.integers.specs.declared.integer.Integer.TheVariants as integer
use Rattle.integers.specs.declared.integer.Value.{Value}
use Rattle.integers.specs.declared.width.Width.{Width}
use Rattle.rows.specs.Rows.{entry_at}
use Rattle.rows.specs.declared.Entry.{Entry}
use Rattle.read.specs.Read.{read_answer, read_tape}
use Rattle.mending.proofs.Again.{Held, after_read}
use Rattle.sarridok.specs.Typed.{integer_at, integer_of}
use Rattle.reread.proofs.EntryTokens.{accepted_fit, row_token}
use Rattle.written.proofs.IntegerWritten.{front_answered}
use Rattle.reread.proofs.TokenKinds.{entry_fits, entry-integer, reread}
use Rattle.written.proofs.TypedWritten.{one_width}

-- over a tape that holds the reading of a text
pub held_integer : (text tape : List ℕ) (count k : ℕ) (width : Width) → judged_of text ≡ Ok tt → Held text tape count → k < count
    → (entry_at tape k).kind ≡ 11 → code_of width ≡ (entry_at tape k).detail
    → (v : Value) × (integer_of text (entry_at tape k).start width ≡ Ok (record { number = v; end = (entry_at tape k).end }))
held_integer text tape count k width fit held i kind c =
    let e : Entry = entry_at tape k in
    let t = row_token text tape count k held i in
    let a = entry-integer text e t kind in
    let s : List ℕ = drop e.start text in
    let here : integer_at width s ≡ integer.Read a.value t.len = ap (λ (w : Width). integer_at w s) (one_width width a.width (c ∙ sym a.width_is)) ∙ a.read in (
      a.value,
      front_answered text e.start width a.value t.len fit (entry_fits text e t (ap reread kind)) here
          ∙ ap (λ (n : ℕ). Ok (record { number = a.value; end = n })) (sym t.ends),
    )

-- over the tape that an accepted read leaves
pub read_integer : (text tape : List ℕ) (count k : ℕ) (width : Width) → read_answer text (length tape) ≡ Ok count → k < count
    → (entry_at (read_tape text tape) k).kind ≡ 11 → code_of width ≡ (entry_at (read_tape text tape) k).detail
    → (v : Value) × (integer_of text (entry_at (read_tape text tape) k).start width ≡ Ok (record { number = v; end = (entry_at (read_tape text tape) k).end }))
read_integer text tape count k width e i kind c =
    held_integer text (read_tape text tape) count k width (accepted_fit text (length tape) count e) (after_read text tape count e) i kind c
