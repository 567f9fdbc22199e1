-- A text that arrives, over lent numbers: the cases of the definitions. Assumes nothing.
use Rattle.std.proofs.Common.{Ok, Err, Some, None, Option}
use Prim.Native.Nat.{ℕ, ◌<◌, ◌≤◌}
use mathlib.Core.Bool.{Bool, true, false, cond}
use mathlib.Core.List.{List}
use mathlib.Core.Path.{◌≡◌, ap, refl, sym, ◌∙◌}
use lib.Dec.{eqb}
use lib.ListN.{get_or, length}
use borrow.Author.Tests.{le-leb, lt-leb}
use Rattle.pieces.specs.Ends.{Rest, ended_of, finish_of, rest_laid}
use Rattle.pieces.specs.Pieces.{Outcome, arrived_of, begun, kept_in, laid_in, piece_of}
use Rattle.pieces.specs.declared.state.Arrival.{Arrival}
use Rattle.pieces.specs.declared.state.Arrived.{Arrived}
use Rattle.pieces.specs.declared.state.Arrived.TheVariants as arrived
use Rattle.pieces.specs.declared.state.Ended.{Ended}
use Rattle.pieces.specs.declared.state.Ended.TheVariants as ended
use Rattle.rows.specs.Rows.{room_of}
use Rattle.stored.proofs.StoreLaws.{stored_short}
use Rattle.stored.specs.Numbers.{state_of, stored_in}
use Rattle.text.specs.Refusals.{Told, no_room, not_in_order}
use Rattle.text.specs.declared.refusal.Refusal.{Refusal}
use Rattle.sarridok_c.specs.Arrivals.{begin_numbered, finish_by, finish_numbered, lent_state, outcome_count, outcome_word, piece_by, piece_numbered, rest_count, rest_word, state_after}
use Rattle.sarridok_c.specs.Packed.{lent_after, packed, refusal_word}
use Rattle.sarridok_c.specs.Words.{done_word}
use Rattle.sarridok_c.specs.inner.Answered.{arrived_count, arrived_state, arrived_word, ended_count, ended_word}

-- ---- the state

pub lent_short : (s : List ℕ) → length s < 10 → None ≡ lent_state s
unfolding lent_state
lent_short s h = rw (lt-leb 10 (length s) h)

pub lent_long : (s : List ℕ) → 10 ≤ length s → state_of s (get_or s 9 0) ≡ lent_state s
unfolding lent_state
lent_long s h = rw (le-leb 10 (length s) h)

-- ---- the code's answer and the definition's

module _ (o : Outcome) where
  abbrev given : Bool → Arrived
  given b = cond b (arrived.Given (length o.entries) o.next) (arrived.Stopped (length o.entries) o.next.refusal o.next)

  given_word : (b : Bool) → arrived_word (given b) ≡ cond b 0 (refusal_word o.next.refusal)
  given_word true = refl
  given_word false = refl

  given_count : (b : Bool) (n : ℕ) → arrived_count (given b) n ≡ length o.entries
  given_count true n = refl
  given_count false n = refl

  given_state : (b : Bool) (s : List ℕ) → arrived_state (given b) s ≡ stored_in o.next s
  given_state true s = refl
  given_state false s = refl

-- what is answered and written for a piece is what the definition says
pub piece_word : (t : Told Outcome) → arrived_word (arrived_of t) ≡ packed outcome_word t
piece_word (Ok o) = given_word o (eqb o.next.refusal.number 0)
piece_word (Err r) = refl

pub piece_count : (t : Told Outcome) (n : ℕ) → arrived_count (arrived_of t) n ≡ lent_after outcome_count t n
piece_count (Ok o) n = given_count o (eqb o.next.refusal.number 0) n
piece_count (Err r) n = refl

pub piece_state : (t : Told Outcome) (s : List ℕ) → arrived_state (arrived_of t) s ≡ state_after t s
piece_state (Ok o) s = given_state o (eqb o.next.refusal.number 0) s
piece_state (Err r) s = refl

module _ (e : Rest) where
  abbrev rest : Bool → Ended
  rest b = cond b (ended.Given (length e.entries)) (ended.Stopped (length e.entries) e.refusal)

  rest-word : (b : Bool) → ended_word (rest b) ≡ cond b 0 (refusal_word e.refusal)
  rest-word true = refl
  rest-word false = refl

  rest-count : (b : Bool) (n : ℕ) → ended_count (rest b) n ≡ length e.entries
  rest-count true n = refl
  rest-count false n = refl

-- and so for the end
pub end_word : (t : Told Rest) → ended_word (ended_of t) ≡ packed rest_word t
end_word (Ok e) = rest-word e (eqb e.refusal.number 0)
end_word (Err r) = refl

pub end_count : (t : Told Rest) (n : ℕ) → ended_count (ended_of t) n ≡ lent_after rest_count t n
end_count (Ok e) n = rest-count e (eqb e.refusal.number 0) n
end_count (Err r) n = refl

-- ---- by the state that is lent

module _ (state buffer : List ℕ) (n room : ℕ) where
  pub piece_known : (a : Arrival) → lent_state state ≡ Some a → piece_of a buffer n room ≡ piece_numbered state buffer n room
  unfolding piece_numbered
  piece_known a e = sym (ap (λ (x : Option Arrival). piece_by x buffer n room) e)

  pub piece_unfit : lent_state state ≡ None → Err not_in_order ≡ piece_numbered state buffer n room
  unfolding piece_numbered
  piece_unfit e = sym (ap (λ (x : Option Arrival). piece_by x buffer n room) e)

module _ (state buffer : List ℕ) (room : ℕ) where
  pub end_known : (a : Arrival) → lent_state state ≡ Some a → finish_of a buffer room ≡ finish_numbered state buffer room
  unfolding finish_numbered
  end_known a e = sym (ap (λ (x : Option Arrival). finish_by x buffer room) e)

  pub end_unfit : lent_state state ≡ None → Err not_in_order ≡ finish_numbered state buffer room
  unfolding finish_numbered
  end_unfit e = sym (ap (λ (x : Option Arrival). finish_by x buffer room) e)

-- ---- the beginning

pub begin_short : (n : ℕ) → n < 10 → begin_numbered n ≡ Err no_room
begin_short n h = rw (lt-leb 10 n h)

pub begin_long : (n : ℕ) → 10 ≤ n → begin_numbered n ≡ Ok tt
begin_long n h = rw (le-leb 10 n h)

-- ---- what the code does, all of it

module _ (state buffer : List ℕ) (n : ℕ) (tape : List ℕ) (count : ℕ) (lent : Option Arrival) (l : lent ≡ lent_state state) where
  abbrev told : Told Outcome
  told = piece_numbered state buffer n (room_of (length tape))

  -- the answer, the state's numbers, the buffer, the tape and the count behind a piece
  abbrev AfterPiece : (word : ℕ) (state' buffer' tape' : List ℕ) (count' : ℕ) → Type 0
  AfterPiece word state' buffer' tape' count' =
      (word ≡ packed outcome_word (piece_numbered state buffer n (room_of (length tape))))
      × ((state' ≡ state_after (piece_numbered state buffer n (room_of (length tape))) state)
      × ((buffer' ≡ kept_in (piece_numbered state buffer n (room_of (length tape))) buffer)
      × ((tape' ≡ laid_in (piece_numbered state buffer n (room_of (length tape))) tape)
      × (count' ≡ lent_after outcome_count (piece_numbered state buffer n (room_of (length tape))) count))))

  pub piece_done : (a : Arrival) → lent ≡ Some a → (answer : Arrived) (buffer' tape' : List ℕ)
      → answer ≡ arrived_of (piece_of a buffer n (room_of (length tape))) → buffer' ≡ kept_in (piece_of a buffer n (room_of (length tape))) buffer
      → tape' ≡ laid_in (piece_of a buffer n (room_of (length tape))) tape → (word : ℕ) (state' : List ℕ) (count' : ℕ)
      → word ≡ arrived_word answer → state' ≡ arrived_state answer state → count' ≡ arrived_count answer count → AfterPiece word state' buffer' tape' count'
  piece_done a f answer buffer' tape' p q r word state' count' x y z =
      let e : piece_of a buffer n (room_of (length tape)) ≡ told = piece_known state buffer n (room_of (length tape)) a (sym l ∙ f) in
      let g : answer ≡ arrived_of told = p ∙ ap (λ (t : Told Outcome). arrived_of t) e in (
        x ∙ ap arrived_word g ∙ piece_word told,
        (
          y ∙ ap (λ (t : Arrived). arrived_state t state) g ∙ piece_state told state,
          (
            q ∙ ap (λ (t : Told Outcome). kept_in t buffer) e,
            (
              r ∙ ap (λ (t : Told Outcome). laid_in t tape) e,
              z ∙ ap (λ (t : Arrived). arrived_count t count) g ∙ piece_count told count,
            ),
          ),
        ),
      )

  -- numbers that no state has
  pub piece_none : lent ≡ None → (r : Refusal) → r ≡ not_in_order → (word : ℕ) → word ≡ refusal_word r → AfterPiece word state buffer tape count
  piece_none f r p word x =
      let e : Err not_in_order ≡ told = piece_unfit state buffer n (room_of (length tape)) (sym l ∙ f) in (
        x ∙ ap refusal_word p ∙ ap (packed outcome_word) e,
        (
          ap (λ (t : Told Outcome). state_after t state) e,
          (
            ap (λ (t : Told Outcome). kept_in t buffer) e,
            (
              ap (λ (t : Told Outcome). laid_in t tape) e,
              ap (λ (t : Told Outcome). lent_after outcome_count t count) e,
            ),
          ),
        ),
      )

module _ (state buffer tape : List ℕ) (count : ℕ) (lent : Option Arrival) (l : lent ≡ lent_state state) where
  abbrev told_rest : Told Rest
  told_rest = finish_numbered state buffer (room_of (length tape))

  -- the answer, the tape and the count behind the end
  abbrev AfterEnd : (word : ℕ) (tape' : List ℕ) (count' : ℕ) → Type 0
  AfterEnd word tape' count' =
      (word ≡ packed rest_word (finish_numbered state buffer (room_of (length tape))))
      × ((tape' ≡ rest_laid (finish_numbered state buffer (room_of (length tape))) tape)
      × (count' ≡ lent_after rest_count (finish_numbered state buffer (room_of (length tape))) count))

  pub end_done : (a : Arrival) → lent ≡ Some a → (answer : Ended) (tape' : List ℕ) → answer ≡ ended_of (finish_of a buffer (room_of (length tape)))
      → tape' ≡ rest_laid (finish_of a buffer (room_of (length tape))) tape → (word count' : ℕ) → word ≡ ended_word answer → count' ≡ ended_count answer count
      → AfterEnd word tape' count'
  end_done a f answer tape' p r word count' x z =
      let e : finish_of a buffer (room_of (length tape)) ≡ told_rest = end_known state buffer (room_of (length tape)) a (sym l ∙ f) in
      let g : answer ≡ ended_of told_rest = p ∙ ap (λ (t : Told Rest). ended_of t) e in (
        x ∙ ap ended_word g ∙ end_word told_rest,
        (
          r ∙ ap (λ (t : Told Rest). rest_laid t tape) e,
          z ∙ ap (λ (t : Ended). ended_count t count) g ∙ end_count told_rest count,
        ),
      )

  pub end_none : lent ≡ None → (r : Refusal) → r ≡ not_in_order → (word : ℕ) → word ≡ refusal_word r → AfterEnd word tape count
  end_none f r p word x =
      let e : Err not_in_order ≡ told_rest = end_unfit state buffer (room_of (length tape)) (sym l ∙ f) in
      (x ∙ ap refusal_word p ∙ ap (packed rest_word) e, (ap (λ (t : Told Rest). rest_laid t tape) e, ap (λ (t : Told Rest). lent_after rest_count t count) e))

module _ (state : List ℕ) where
  pub begin_done : (a : Arrival) → a ≡ begun → 10 ≤ length state → (state' : List ℕ) → state' ≡ stored_in a state → (0 ≡ packed done_word (begin_numbered (length state))) × (state' ≡ stored_in begun state)
  begin_done a b h state' e = (sym (ap (packed done_word) (begin_long (length state) h)), e ∙ ap (λ (x : Arrival). stored_in x state) b)

  pub begin_none : length state < 10 → (r : Refusal) → r ≡ no_room → (word : ℕ) → word ≡ refusal_word r → (word ≡ packed done_word (begin_numbered (length state))) × (state ≡ stored_in begun state)
  begin_none h r p word x = (x ∙ ap refusal_word p ∙ sym (ap (packed done_word) (begin_short (length state) h)), stored_short begun state h)
