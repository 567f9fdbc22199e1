-- What the code goes through behind a run of bytes.
use Rattle.std.specs.Prelude.{ℕ, ◌+◌, ◌-◌, ◌≤◌, ◌<◌, ◌^◌, Bool, true, cond, List, ◌≡◌, eqb, ltb, drop, take}
use Rattle.text.specs.Refusals.{entry_too_long, placed_behind}
use Rattle.text.specs.declared.refusal.Refusal.{Refusal}
use Rattle.gaps.specs.declared.state.Open.{Open}
use Rattle.gaps.specs.declared.state.Open.TheVariants.{Clear}
use Rattle.pieces.specs.Bars.{most_held}
use Rattle.pieces.specs.Orders.{in_order}
use Rattle.pieces.specs.Pieces.{Outcome, no_refusal, outcome_of}
use Rattle.pieces.specs.declared.state.Arrival.{Arrival}
use Rattle.pieces.specs.declared.turn.Stands.{Stands}
use Rattle.pieces.specs.declared.turn.Stands.TheVariants as stands

-- What bars a byte, if one follows.
abbrev pub barred_of : Bool → Refusal → Refusal
barred_of follows why = cond follows why no_refusal

-- The refusal behind a run of bytes that ends at a place.
abbrev pub stop_of : Stands → ℕ → ℕ → Bool → Refusal → Refusal
stop_of (stands.Stopped d) end base follows why = placed_behind base d
stop_of (stands.Within o) end base follows why = barred_of follows why
stop_of (stands.Held at) end base follows why = barred_of follows why
stop_of (stands.Begun start) end base follows why = barred_of follows (cond (ltb (end - start) most_held) why (entry_too_long (base + start)))

-- Its numbers are small enough.
abbrev pub StopFits : Stands → ℕ → ℕ → Type 0
StopFits (stands.Stopped d) end base = base + d.place < 2 ^ 64
StopFits (stands.Within o) end base = Unit {0}
StopFits (stands.Held at) end base = Unit {0}
StopFits (stands.Begun start) end base = (start ≤ end) × (base + start < 2 ^ 64)

-- Where what is kept begins.
abbrev pub kept_from : Stands → ℕ → ℕ
kept_from (stands.Within o) whole = whole
kept_from (stands.Begun start) whole = start
kept_from (stands.Held at) whole = at
kept_from (stands.Stopped d) whole = whole

-- What is open.
abbrev pub open_in : Stands → Open
open_in (stands.Within o) = o
open_in (stands.Begun start) = Clear
open_in (stands.Held at) = Clear
open_in (stands.Stopped d) = Clear

-- The state behind a refusal.
abbrev pub stopped_state : ℕ → ℕ → Refusal → Arrival
stopped_state taken former d = record { taken = taken; kept = 0; part = 0; former = former; gap = Clear; refusal = d }

-- Where the last entry ends.
abbrev pub former_of : ℕ → ℕ → ℕ → ℕ
former_of former count end = cond (eqb count 0) former end

-- A state in order and not refused, and a piece that is there.
pub record Fit (a : Arrival) (buffer n : ℕ) : Type 0 where
  pub order : in_order a ≡ true
  pub unrefused : eqb a.refusal.number 0 ≡ true
  pub some : 0 < n
  pub there : a.kept + n ≤ buffer

-- What a piece of n bytes in a buffer gives.
abbrev pub outcome_in : Arrival → List ℕ → ℕ → Outcome
outcome_in a buffer n = outcome_of a (take a.kept buffer) (take n (drop a.kept buffer))
