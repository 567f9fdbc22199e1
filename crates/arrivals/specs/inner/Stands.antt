-- Between two pieces of a text.
use Rattle.std.specs.Prelude.{ℕ, ◌+◌, ◌≤◌, List, ◌++◌, ◌≡◌, take, drop}
use Rattle.lines.specs.Ascii.{ascii}
use Rattle.pieces.specs.Pieces.{Outcome, piece_of}
use Rattle.pieces.specs.declared.state.Arrival.{Arrival}
use Rattle.pieces.specs.declared.state.Arrived.{Arrived}
use Rattle.pieces.specs.declared.state.Arrived.TheVariants as arrived
use Rattle.text.specs.Refusals.{Told}
use Rattle.arrivals.specs.Arrives.{piece_text, next_of, kept_behind}
use Rattle.arrivals.specs.declared.arrive_text.Stand.{Stand}

-- The state behind a piece, by the code's answer.
abbrev pub next_by : Arrival → Arrived → Arrival
next_by s (arrived.Given n a) = a
next_by s (arrived.Stopped n r a) = a
next_by s (arrived.Refused r) = s

-- What is kept, and the next n bytes of the text.
unfoldable pub held_in : Stand → ℕ → List ℕ → List ℕ
held_in s n text = take s.kept text ++ take n (drop s.from text)

-- What they give as a piece.
abbrev pub told_in : Stand → ℕ → List ℕ → ℕ → Told Outcome
told_in s n text room = piece_of s.state (held_in s n text) n room

-- What is said of it.
abbrev pub said_text : Stand → ℕ → List ℕ → ℕ → List ℕ
said_text s n text room = piece_text (told_in s n text room) ++ ascii " | "

-- Where the text stands behind it: the state, what is kept, and the rest.
abbrev pub Turned : Stand → ℕ → List ℕ → ℕ → Stand → List ℕ → Type 0
Turned s n text room r after =
    (r.state ≡ next_of s.state (told_in s n text room)) × (take r.kept after ≡ kept_behind s.state (told_in s n text room) (held_in s n text))
    × (r.from ≡ s.from + n) × (r.kept ≤ r.from) × (drop r.from after ≡ drop (s.from + n) text)
