-- Calls one after the other (document 02, change request 3): "We want to hand over each piece and get the entries decided so far." The host puts each piece behind
-- what is kept in its buffer; what stands behind the piece there, and how much room there is, is its own.
use Rattle.std.specs.Prelude.{Ok, Err, ℕ, List, [], ◌∷◌, ◌++◌, ◌≡◌, length}
use Rattle.text.specs.declared.refusal.Refusal.{Refusal}
use Rattle.rows.specs.declared.Entry.{Entry}
use Rattle.pieces.specs.Pieces.{Outcome, begun, piece_of}
use Rattle.pieces.specs.declared.state.Arrival.{Arrival}

-- `Calls state kept pieces entries state' kept'`: from a state, with these bytes kept, the pieces were handed over one after the other; the calls gave these entries
-- and left this state and these bytes. A refused call took nothing: its piece may be handed over again.
pub data Calls : Arrival → List ℕ → List (List ℕ) → List Entry → Arrival → List ℕ → Type 0 where
  none : {a : Arrival} {kept : List ℕ} → Calls a kept [] [] a kept
  gives : {a : Arrival} {kept : List ℕ} (w junk : List ℕ) (room : ℕ) (o : Outcome) {ps : List (List ℕ)} {es : List Entry} {b : Arrival} {left : List ℕ}
      → piece_of a (kept ++ (w ++ junk)) (length w) room ≡ Ok o → Calls o.next o.kept ps es b left → Calls a kept (w ∷ ps) (o.entries ++ es) b left
  refuses : {a : Arrival} {kept : List ℕ} (w junk : List ℕ) (room : ℕ) (d : Refusal) {ps : List (List ℕ)} {es : List Entry} {b : Arrival} {left : List ℕ}
      → piece_of a (kept ++ (w ++ junk)) (length w) room ≡ Err d → Calls a kept ps es b left → Calls a kept ps es b left

-- The calls for a text from its beginning.
abbrev pub FromBegin : List (List ℕ) → List Entry → Arrival → List ℕ → Type 0
FromBegin ps es a kept = Calls begun [] ps es a kept
