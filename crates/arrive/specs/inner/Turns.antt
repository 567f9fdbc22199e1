-- One reading of the input, and what follows it.
use Rattle.std.specs.Prelude.{ℕ, ◌+◌, ◌<◌, ◌≤◌, true, List, ◌≡◌, length, take}
use Rattle.lines.specs.Out.{put}
use Rattle.pieces.specs.Ends.{Rest}
use Rattle.pieces.specs.Pieces.{Outcome, kept_in, piece_of}
use Rattle.pieces.specs.declared.state.Arrival.{Arrival}
use Rattle.text.specs.Refusals.{Told}
use Rattle.arrive.specs.Printed.{end_text, goes_on, next_of, piece_text}
use Rattle.arrive.specs.declared.Standing.{Standing}

-- Where the program stands behind a piece.
abbrev pub behind_piece : Arrival → Told Outcome → Standing
behind_piece s told = record { state = next_of s told; on = goes_on told }

-- The output buffer behind a piece's lines.
abbrev pub piece_output : List ℕ → Told Outcome → List ℕ
piece_output o told = (put (o, 0) (piece_text told)).0

-- The output buffer behind the lines of the end.
abbrev pub end_output : List ℕ → Told Rest → List ℕ
end_output o told = (put (o, 0) (end_text told)).0

-- A reading after which there is more to do: bytes have come behind what is kept, and all is as they leave it as a piece.
abbrev pub Turned : Arrival → (were are : List ℕ) → ℕ → Standing → Type 0
Turned s were are room r =
    r.on ≡ true → (held : List ℕ) × (n : ℕ) × (0 < n) × (s.kept + n ≤ length held) × (take s.kept held ≡ take s.kept were)
    × (r ≡ behind_piece s (piece_of s held n room)) × (are ≡ kept_in (piece_of s held n room) held)
