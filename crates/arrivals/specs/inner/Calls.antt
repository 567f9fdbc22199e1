-- A call over a state of which the first k bytes of a text are kept.
use Rattle.std.specs.Prelude.{ℕ, ◌+◌, ◌≤◌, List, take}
use Rattle.pieces.specs.Ends.{finish_of}
use Rattle.pieces.specs.declared.state.Arrival.{Arrival}
use Rattle.show.specs.Answers.{bad_text}
use Rattle.arrivals.specs.Arrives.{end_text}
use Rattle.arrivals.specs.Any.{piece_line}
use Rattle.arrivals.specs.declared.arrive_any.Last.{Last}
use Rattle.arrivals.specs.declared.arrive_any.Last.TheVariants as last

-- The kept bytes and the piece are there.
abbrev pub Holds : Last → ℕ → ℕ → Type 0
Holds (last.Piece n) k space = k + n ≤ space
Holds last.End k space = Unit
Holds last.Bad k space = Unit

-- What is said of it.
abbrev pub called_text : Last → Arrival → ℕ → List ℕ → ℕ → List ℕ
called_text (last.Piece n) a k text room = piece_line a (take (k + n) text) n room
called_text last.End a k text room = end_text (finish_of a (take k text) room)
called_text last.Bad a k text room = bad_text
