-- Standard input through a lent buffer: what is not yet used goes to the front, and the system puts bytes behind it. Which and how many, nothing here says.
use Rattle.std.specs.Prelude.{ℕ, ◌-◌, ◌≤◌, Bool, true, ◌&&◌, List, ◌≡◌, eqb, leb, ltb, length, take}
use Rattle.lines.specs.declared.input.Input.{Input}

-- nothing stands there, and nothing more is read
abbrev pub ended_input : Input
ended_input = record { from = 0; to = 0; ended = true }

-- from..to is a part of n bytes, and leaves room
unfoldable pub leaves_room : ℕ → ℕ → ℕ → Bool
leaves_room from to n = leb from to && (leb to n && ltb (to - from) n)

-- n bytes stand at the front as they were, and behind them what one reading gave: nothing where the input has ended
abbrev pub ReadBehind : ℕ → List ℕ → List ℕ → Input → Type 0
ReadBehind n were are r = (r.from ≡ 0) × (n ≤ r.to) × (r.to ≤ length are) × (r.ended ≡ eqb r.to n) × (take n are ≡ take n were)
