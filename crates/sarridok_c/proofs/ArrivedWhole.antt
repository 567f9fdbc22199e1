-- Nothing is cut off of a text that arrives.
--     begin-whole, piece-whole, finish-whole    a host gets every refusal back from the number that is answered, whatever numbers are lent as the state
--     lent_again, piece-again, finish-again     and a state in order from the numbers that it was stored as: over them the calls do what they do over the state
-- Assumes nothing.
use Rattle.std.proofs.Common.{Ok, Err, Some, None, Option}
use Prim.Native.Nat.{ℕ, ◌≤◌}
use native.Mathlib.Omega.{arith}
use mathlib.Core.Bool.{true}
use mathlib.Core.List.{List}
use mathlib.Core.Path.{◌≡◌, ap, sym, ◌∙◌}
use lib.Dec.{leb}
use lib.ListN.{drop, length, length-append, length-drop}
use borrow.Author.Tests.{eq-eqb, ne_eqb}
use Rattle.pieces.specs.Ends.{Rest, finish_of}
use Rattle.pieces.specs.Orders.{in_order, most_taken}
use Rattle.pieces.specs.Pieces.{Outcome, piece_of}
use Rattle.pieces.specs.declared.state.Arrival.{Arrival}
use Rattle.stored.proofs.Bounds.{Small}
use Rattle.stored.proofs.RoundTrip.{round_trip_in}
use Rattle.stored.proofs.StoreLaws.{stored_long}
use Rattle.stored.specs.Numbers.{numbers_of, stored_in}
use Rattle.text.proofs.Choices.{cond_cases}
use Rattle.text.specs.Refusals.{Told}
use Rattle.text.specs.declared.refusal.Refusal.{Refusal}
use Rattle.sarridok_c.proofs.ArrivedLaws.{end_known, lent_long, piece_known}
use Rattle.sarridok_c.proofs.ArrivedPlaces.{Finish-small, Piece-small, finish_small, own_small, piece_small}
use Rattle.sarridok_c.proofs.Unpacking.{unpack_pair, unpack_refusal}
use Rattle.sarridok_c.specs.Arrivals.{begin_numbered, behind_word, finish_by, finish_numbered, lent_state, outcome_refusal, outcome_word, piece_by, piece_numbered, rest_word}
use Rattle.sarridok_c.specs.Packed.{at_most, pair_of, refusal_word}
use Rattle.sarridok_c.specs.Whole.{Refuses, Tells, Whole, WholeBehind, done_parts}
use Rattle.sarridok_c.specs.Words.{done_word}

-- ---- a refusal

small_refuses : (d : Refusal) → Small most_taken d → Refuses (refusal_word d) d
small_refuses d s = unpack_refusal d (omega (arith, s.number), s.reason) (omega (arith, s.place))

-- behind entries
small_tells : (d : Refusal) → Small most_taken d → Tells (behind_word d) d
small_tells d s = record { none = λ e. rw (eq-eqb d.number 0 e); some = λ e. rw (ne_eqb d.number 0 e) (small_refuses d s) }

piece_told : (t : Told Outcome) → Piece-small t → WholeBehind outcome_word outcome_refusal t
piece_told (Ok o) s = small_tells o.next.refusal s
piece_told (Err r) s = small_refuses r s

finish_told : (t : Told Rest) → Finish-small t → WholeBehind rest_word (λ e. e.refusal) t
finish_told (Ok e) s = small_tells e.refusal s
finish_told (Err r) s = small_refuses r s

-- ---- the calls

-- over any numbers, in order or not
pub piece_whole : (state buffer : List ℕ) (n room : ℕ) → WholeBehind outcome_word outcome_refusal (piece_numbered state buffer n room)
unfolding piece_numbered
piece_whole state buffer n room = piece_told (piece_by (lent_state state) buffer n room) (go (lent_state state))
  where
    go : (s : Option Arrival) → Piece-small (piece_by s buffer n room)
    go (Some a) = piece_small a buffer n room
    go None = own_small 23 (omega arith)

pub finish_whole : (state buffer : List ℕ) (room : ℕ) → WholeBehind rest_word (λ e. e.refusal) (finish_numbered state buffer room)
unfolding finish_numbered
finish_whole state buffer room = finish_told (finish_by (lent_state state) buffer room) (go (lent_state state))
  where
    go : (s : Option Arrival) → Finish-small (finish_by s buffer room)
    go (Some a) = finish_small a buffer room
    go None = own_small 23 (omega arith)

pub begin_whole : (n : ℕ) → Whole done_word done_parts (begin_numbered n)
unfolding pair_of at_most
begin_whole n =
    cond_cases (Whole done_word done_parts) (leb 10 n) _ _ (λ t. unpack_pair 0 0 (omega arith) (omega arith)) (λ t. small_refuses _ (own_small 22 (omega arith)))

-- ---- the state

-- from the numbers that a state in order was stored as
module _ (a : Arrival) (h : in_order a ≡ true) (s : List ℕ) (l : 10 ≤ length s) where
  stored_length : 10 ≤ length (stored_in a s)
  unfolding numbers_of
  stored_length = omega (arith, ap length (stored_long a s l), length-append (numbers_of a) (drop 10 s), length-drop 10 s)

  pub lent_again : lent_state (stored_in a s) ≡ Some a
  lent_again = sym (lent_long (stored_in a s) stored_length) ∙ round_trip_in a h s l

  pub piece_again : (buffer : List ℕ) (n room : ℕ) → piece_numbered (stored_in a s) buffer n room ≡ piece_of a buffer n room
  piece_again buffer n room = sym (piece_known (stored_in a s) buffer n room a lent_again)

  pub finish_again : (buffer : List ℕ) (room : ℕ) → finish_numbered (stored_in a s) buffer room ≡ finish_of a buffer room
  finish_again buffer room = sym (end_known (stored_in a s) buffer room a lent_again)
