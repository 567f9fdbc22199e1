-- The tape that an accepted read leaves is in order within the text, so that `walk` never answers 23 of its order. Assumes nothing.
use Rattle.std.proofs.Common.{Ok}
use Prim.Native.Nat.{ℕ, ◌+◌}
use native.Mathlib.Omega.{arith}
use mathlib.Core.Bool.{true}
use mathlib.Core.List.{List}
use mathlib.Core.Path.{◌≡◌, subst}
use lib.ListN.{length}
use Rattle.rows.specs.Order.{in_order, in_order_from}
use Rattle.rows.specs.Rows.{entries_of}
use Rattle.rows.specs.declared.Entry.{Entry}
use Rattle.reading.proofs.Entries.{read_in_order}
use Rattle.reading.specs.Owed.{quiet_byte}
use Rattle.reading.specs.Readings.{complete}
use Rattle.tokens.proofs.RonLaws.{kinds, laws}
use Rattle.tokens.specs.Ron.{ron_token}
use Rattle.read.specs.Read.{read_answer, read_tape}
use Rattle.mending.proofs.Again.{after_read}

pub read_walkable : (text tape : List ℕ) (n : ℕ) → read_answer text (length tape) ≡ Ok n → in_order (entries_of n (read_tape text tape)) (length text) ≡ true
unfolding in_order
read_walkable text tape n e =
    let es : List Entry = entries_of n (read_tape text tape) in
    let z : 0 + length text ≡ length text = omega arith in
    subst (λ (m : ℕ). in_order_from es 0 m ≡ true) z (read_in_order ron_token quiet_byte laws kinds es 0 text complete (after_read text tape n e).holds)
