-- The state that the calls keep for a text of which so much has come (document 02, change request 3): "23, a state out of order, first and never for one that
-- these calls made". Behind the last entry given stands `rest`, which begins with whitespace and comments; of these only what is open is kept.
use Rattle.std.specs.Prelude.{ℕ, ◌+◌, ◌-◌, ◌≤◌, true, false, List, [], ◌++◌, ◌≡◌, drop, length, take}
use Rattle.text.specs.declared.refusal.Refusal.{Refusal}
use Rattle.comments.specs.Gaps.{gap_of}
use Rattle.comments.specs.declared.gap.Gap.TheVariants as gap
use Rattle.octets.specs.Octets.{allowed_of}
use Rattle.octets.specs.declared.answer.Allowed.TheVariants.{All}
use Rattle.gaps.specs.Opens.{kept_of, open_of}
use Rattle.gaps.specs.declared.state.Open.TheVariants.{Clear}
use Rattle.arriving.specs.Arrivals.{Coming, going, halted, shut}
use Rattle.settled.specs.Settled.{ron_once}
use Rattle.pieces.specs.Bars.{most_held}
use Rattle.pieces.specs.Orders.{is_given, most_taken}
use Rattle.pieces.specs.Pieces.{no_refusal}
use Rattle.pieces.specs.declared.state.Arrival.{Arrival}

-- The whole characters of what has come, where the last `part` bytes belong to one that has not come whole.
abbrev pub whole_of : List ℕ → ℕ → List ℕ
whole_of rest part = take (length rest - part) rest

-- Those bytes.
abbrev pub part_of : List ℕ → ℕ → List ℕ
part_of rest part = drop (length rest - part) rest

-- What is kept of it.
abbrev pub held_of : List ℕ → ℕ → List ℕ
held_of rest part = kept_of (whole_of rest part) ++ part_of rest part

-- The state where the last entry ended at `at` and `rest` has come behind it.
abbrev pub going_state : ℕ → List ℕ → ℕ → Arrival
going_state at rest part = record {
  taken = at + length rest;
  kept = length (held_of rest part);
  part = part;
  former = at;
  gap = open_of (whole_of rest part);
  refusal = no_refusal;
}

-- The state behind a refusal.
abbrev pub stopped_state : ℕ → ℕ → Refusal → Arrival
stopped_state taken former d = record { taken = taken; kept = 0; part = 0; former = former; gap = Clear; refusal = d }

-- What has come behind the last entry may go on so: it is UTF-8 but for the front of a character at its end, no character of it is refused at once, and from where
-- something has begun no more has come than may be held.
pub record GoesOn (at : ℕ) (rest : List ℕ) (part : ℕ) : Type 0 where
  pub utf8 : allowed_of rest ≡ All part
  pub calm : ron_once rest ≡ false
  pub size : at + length rest ≤ most_taken
  pub held : (g : ℕ) → gap_of rest ≡ gap.Clear g → length rest ≤ g + most_held

-- A refusal that may have been given.
pub record StopsSo (taken former : ℕ) (d : Refusal) : Type 0 where
  pub given : is_given d taken ≡ true
  pub late : former ≤ taken
  pub size : taken ≤ most_taken

-- `Shows arrival taken state kept`: behind so many bytes that were taken, the state and the bytes kept stand for the arrival.
pub data Shows : Coming → ℕ → Arrival → List ℕ → Type 0 where
  shows_going : (at : ℕ) (rest : List ℕ) (part : ℕ) → GoesOn at rest part → Shows (going at rest) (at + length rest) (going_state at rest part) (held_of rest part)
  shows_shut : (taken former : ℕ) (d : Refusal) → StopsSo taken former d → Shows (shut d) taken (stopped_state taken former d) []
  shows_halted : (taken former : ℕ) (d : Refusal) → StopsSo taken former d → Shows (halted d) taken (stopped_state taken former d) []
