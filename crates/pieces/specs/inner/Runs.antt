-- What bytes come to, told as numbers: over the bytes one by one.
use Rattle.std.specs.Prelude.{ℕ, ◌+◌, ◌-◌, List, drop, length, take}
use Rattle.reading.specs.Readings.{end_of}
use Rattle.gaps.specs.Passes.{passed_of}
use Rattle.gaps.specs.declared.state.Open.TheVariants.{Clear}
use Rattle.gaps.specs.declared.pass.Passed.{Passed}
use Rattle.gaps.specs.declared.pass.Passed.TheVariants.{Begins, Within, Unexpected}
use Rattle.arriving.specs.Arrivals.{Coming, Given, going, halted, shut}
use Rattle.pieces.specs.Bars.{bytes_give}
use Rattle.pieces.specs.Come.{later}
use Rattle.pieces.specs.declared.run.Ran.{Ran}
use Rattle.pieces.specs.declared.turn.Stands.{Stands}
use Rattle.pieces.specs.declared.turn.Stands.TheVariants as stands

-- Where the text stands behind an entry that ended at a place, by where the gap behind it ends.
abbrev pub stands_by : Passed → ℕ → Stands
stands_by (Within o) at = stands.Within o
stands_by (Begins k) at = stands.Begun (at + k)
stands_by (Unexpected p) at = stands.Held at

-- The same for an arrival whose last `cut` bytes belong to a character that has not come whole.
abbrev pub stands_in : Coming → ℕ → Stands
stands_in (going at rest) cut = stands_by (passed_of Clear (take (length rest - cut) rest)) at
stands_in (shut d) cut = stands.Stopped d
stands_in (halted d) cut = stands.Stopped d

-- What was given.
abbrev pub ran_by : ℕ → ℕ → ℕ → Given → Ran
ran_by from seen cut g = record { count = length g.entries; end = end_of from g.entries; bytes = seen + g.bytes; stands = stands_in g.next cut }

-- What the bytes of s give from where a token begins.
unfoldable pub ran_of : List ℕ → ℕ → ℕ → ℕ → Ran
ran_of s from kept whole = ran_by from (later from kept) (length s - whole) (bytes_give (going from (drop from (take kept s))) (drop (later from kept) s))
