-- What the code goes through at the end of a text.
use Rattle.std.specs.Prelude.{ℕ, ◌-◌, ◌≤◌, true, cond, List, map, ◌≡◌, eqb}
use Rattle.text.specs.Refusals.{eof, unclosed_block_comment}
use Rattle.text.specs.declared.refusal.Refusal.{Refusal}
use Rattle.gaps.specs.declared.state.Open.{Open}
use Rattle.gaps.specs.declared.state.Open.TheVariants.{Clear, Slash, Line, Block}
use Rattle.reading.specs.Readings.{entries, read_from}
use Rattle.tokens.specs.Ron.{ron_token}
use Rattle.pieces.specs.Ends.{Rest, ending_of, last_of, placed_last}
use Rattle.pieces.specs.Orders.{in_order}
use Rattle.pieces.specs.Pieces.{gapped, moved_to}
use Rattle.pieces.specs.declared.state.Arrival.{Arrival}
use Rattle.pieces.specs.declared.state.Ended.{Ended}
use Rattle.pieces.specs.declared.state.Ended.TheVariants as ended

-- How a text ends inside a gap.
abbrev pub ends_with : Open → ℕ → Ended
ends_with Clear end = ended.Given 0
ends_with Slash end = ended.Stopped 0 (eof end)
ends_with Line end = ended.Given 0
ends_with (Block level last) end = ended.Stopped 0 (unclosed_block_comment end)

-- So many entries, and a refusal behind them where it has a number.
abbrev pub ended_by : ℕ → Refusal → Ended
ended_by count d = cond (eqb d.number 0) (ended.Given count) (ended.Stopped count d)

-- The entries of what is kept from where a token begins, and how their reading ends.
abbrev pub last_from : Arrival → List ℕ → ℕ → Rest
last_from a s from =
    let r = read_from ron_token s from in
    let base = a.taken - a.kept in
    record { entries = gapped a.former (map (moved_to base) (entries r)); refusal = placed_last base (last_of r) }

-- The rest of a state.
abbrev pub rest_in : Arrival → List ℕ → Rest
rest_in a s = ending_of a s

-- A state in order and not refused, what is kept of it, and a place there.
pub record Fits (a : Arrival) (kept from : ℕ) : Type 0 where
  pub order : in_order a ≡ true
  pub unrefused : eqb a.refusal.number 0 ≡ true
  pub all : kept ≡ a.kept
  pub inside : from ≤ kept
