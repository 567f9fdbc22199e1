-- What is said of a call is what its definition gives: the entries stand at the tape's front. Assumes nothing.
use Rattle.std.proofs.Common.{Ok, Err}
use Prim.Native.Nat.{ℕ, min, ◌+◌, ◌-◌, ◌*◌, ◌≤◌}
use native.Mathlib.Omega.{arith}
use mathlib.Core.Bool.{Bool, true, false, cond}
use mathlib.Core.List.{List, [], ◌∷◌, ◌++◌, append-nil}
use mathlib.Core.Path.{◌≡◌, refl, sym, ap, ◌∙◌}
use lib.Dec.{eqb}
use lib.ListN.{length, take, drop, length-append, length-take, length-drop}
use Rattle.lines.specs.Decimal.{decimal}
use Rattle.lines.specs.Out.{put}
use Rattle.lines.proofs.OutLaws.{then}
use Rattle.pieces.specs.Ends.{Rest, ended_of, finish_of, rest_laid}
use Rattle.pieces.specs.Pieces.{Outcome, arrived_of, kept_in, laid_in, piece_of}
use Rattle.pieces.specs.declared.state.Arrival.{Arrival}
use Rattle.pieces.specs.declared.state.Arrived.{Arrived}
use Rattle.pieces.specs.declared.state.Arrived.TheVariants as arrived
use Rattle.pieces.specs.declared.state.Ended.{Ended}
use Rattle.pieces.specs.declared.state.Ended.TheVariants as ended
use Rattle.rows.specs.Rows.{width, room_of, entries_of, flat, laid}
use Rattle.rows.specs.declared.Entry.{Entry}
use Rattle.rows.proofs.RowLaws.{length_flat, entries_flat}
use Rattle.show.specs.Answers.{bad_text, refused_text}
use Rattle.show.specs.Readings.{entries_text, tape_text}
use Rattle.text.specs.Refusals.{Told}
use Rattle.text.specs.declared.refusal.Refusal.{Refusal}
use Rattle.arrivals.specs.Arrives.{given_text, piece_text, end_text}
use Rattle.arrivals.specs.Any.{left_text, piece_line, room_for}
use Rattle.arrivals.specs.States.{stands_text}
use Rattle.arrivals.specs.declared.arrive_any.Last.{Last}
use Rattle.arrivals.specs.declared.arrive_any.Last.TheVariants as last
use Rattle.arrivals.specs.inner.Calls.{called_text}
use Rattle.arrivals.specs.inner.Says.{counted_text, stopped_text, ended_text, leaves_text, without_state}

-- ---- entries at a tape's front

module _ (es : List Entry) (tape left : List ℕ) (l : left ≡ laid es tape) (same : length left ≡ length tape) where
  -- a slice keeps its length: there is room for them
  pub rows_fit : width * length es ≤ length tape
  unfolding laid
  rows_fit =
      let long : length left ≡ width * length es + length (drop (width * length es) tape) =
      ap length l ∙ length-append (flat es) (drop (width * length es) tape) ∙ ap (λ (n : ℕ). n + length (drop (width * length es) tape)) (length_flat es) in
      omega (arith, long, same, length-drop (width * length es) tape)

  few : min (length es) (room_of (length left)) ≡ length es
  few = omega (arith, rows_fit, same)

  rows_are : entries_of (length es) left ≡ es
  unfolding laid
  rows_are = ap (entries_of (length es)) l ∙ entries_flat es (drop (width * length es) tape)

  rows_said : tape_text 59 left (length es) ≡ entries_text 59 es
  unfolding tape_text
  rows_said = ap (λ (n : ℕ). entries_text 59 (entries_of n left)) few ∙ ap (entries_text 59) rows_are

  counted_said : counted_text (length es) left ≡ decimal (length es) ++ entries_text 59 es
  unfolding counted_text
  counted_said = ap (λ (t : List ℕ). decimal (length es) ++ t) rows_said

  -- behind them a refusal, or none
  given_said : (d : Refusal) (z : Bool) → eqb d.number 0 ≡ z
      → ended_text (cond z (ended.Given (length es)) (ended.Stopped (length es) d)) left ≡ given_text es d
  unfolding given_text stopped_text
  given_said d true e =
      counted_said ∙ sym (append-nil (decimal (length es) ++ entries_text 59 es))
      ∙ sym (ap (λ (b : Bool). decimal (length es) ++ entries_text 59 es ++ cond b [] (59 ∷ refused_text d)) e)
  given_said d false e =
      ap (λ (t : List ℕ). t ++ (59 ∷ refused_text d)) counted_said
      ∙ sym (ap (λ (b : Bool). decimal (length es) ++ entries_text 59 es ++ cond b [] (59 ∷ refused_text d)) e)

-- ---- the end

pub end_says : (told : Told Rest) (tape left : List ℕ) → left ≡ rest_laid told tape → length left ≡ length tape → ended_text (ended_of told) left ≡ end_text told
end_says (Ok e) tape left l same = given_said e.entries tape left l same e.refusal (eqb e.refusal.number 0) refl
end_says (Err r) tape left l same = refl

pub end_said : (told : Told Rest) (tape left : List ℕ) (out end : List ℕ × ℕ) (r : Ended) → r ≡ ended_of told → left ≡ rest_laid told tape
    → length left ≡ length tape → end ≡ put out (ended_text r left) → end ≡ put out (end_text told)
end_said told tape left out end r e l same p =
    p ∙ ap (λ (x : Ended). put out (ended_text x left)) e ∙ ap (put out) (end_says told tape left l same)

-- ---- a piece

-- the state left out, and then the choice, or the other way
pub without_choice : (z : Bool) (n : ℕ) (d : Refusal) (a : Arrival)
    → without_state (cond z (arrived.Given n a) (arrived.Stopped n d a)) ≡ cond z (ended.Given n) (ended.Stopped n d)
without_choice true n d a = refl
without_choice false n d a = refl

leaves_choice : (z : Bool) (n : ℕ) (d : Refusal) (a : Arrival) (buffer : List ℕ)
    → leaves_text (cond z (arrived.Given n a) (arrived.Stopped n d a)) buffer ≡ stands_text a buffer
leaves_choice true n d a buffer = refl
leaves_choice false n d a buffer = refl

pub piece_says : (told : Told Outcome) (tape left : List ℕ) → left ≡ laid_in told tape → length left ≡ length tape
    → ended_text (without_state (arrived_of told)) left ≡ piece_text told
piece_says (Ok o) tape left l same =
    let d : Refusal = o.next.refusal in
    ap (λ (x : Ended). ended_text x left) (without_choice (eqb d.number 0) (length o.entries) d o.next)
    ∙ given_said o.entries tape left l same d (eqb d.number 0) refl
piece_says (Err r) tape left l same = refl

leaves_says : (told : Told Outcome) (buffer : List ℕ) → leaves_text (arrived_of told) (kept_in told buffer) ≡ left_text told buffer
leaves_says (Ok o) buffer = leaves_choice (eqb o.next.refusal.number 0) (length o.entries) o.next.refusal o.next (kept_in (Ok o) buffer)
leaves_says (Err r) buffer = refl

module _ (told : Told Outcome) (buffer after tape left : List ℕ) (r : Arrived) (e : r ≡ arrived_of told) (k : after ≡ kept_in told buffer)
    (l : left ≡ laid_in told tape) (same : length left ≡ length tape) (out mid : List ℕ × ℕ) (p : mid ≡ put out (ended_text (without_state r) left)) where
  pub piece_said : mid ≡ put out (piece_text told)
  piece_said = p ∙ ap (λ (x : Arrived). put out (ended_text (without_state x) left)) e ∙ ap (put out) (piece_says told tape left l same)

  pub left_said : (end : List ℕ × ℕ) → end ≡ put mid (leaves_text r after) → end ≡ put out (piece_text told ++ left_text told buffer)
  left_said end q =
      then out mid end (piece_text told) (left_text told buffer) piece_said
      (q ∙ ap (λ (x : Arrived). put mid (leaves_text x after)) e ∙ ap (λ (x : List ℕ). put mid (leaves_text (arrived_of told) x)) k
      ∙ ap (put mid) (leaves_says told buffer))

pub piece-line : (a : Arrival) (buffer : List ℕ) (n room : ℕ) (out end : List ℕ × ℕ)
    → end ≡ put out (piece_text (piece_of a buffer n room) ++ left_text (piece_of a buffer n room) buffer) → end ≡ put out (piece_line a buffer n room)
unfolding piece_line
piece-line a buffer n room out end e = e

-- ---- a call over what a line has

-- a part from the front
pub whole_part : (k : ℕ) (s : List ℕ) → take (k - 0) s ≡ take k s
whole_part k s = let all : k - 0 ≡ k = omega arith in ap (λ (n : ℕ). take n s) all

module _ (l : Last) (a : Arrival) (k : ℕ) (text : List ℕ) (room : ℕ) (out end : List ℕ × ℕ) where
  pub called_piece : (n : ℕ) → l ≡ last.Piece n → end ≡ put out (piece_line a (take (k + n - 0) text) n room) → end ≡ put out (called_text l a k text room)
  called_piece n e p =
      p ∙ ap (λ (s : List ℕ). put out (piece_line a s n room)) (whole_part (k + n) text) ∙ sym (ap (λ (x : Last). put out (called_text x a k text room)) e)

  pub called_end : l ≡ last.End → (kept : List ℕ) → kept ≡ take (k - 0) text → end ≡ put out (end_text (finish_of a kept room))
      → end ≡ put out (called_text l a k text room)
  called_end e kept s p =
      p ∙ ap (λ (x : List ℕ). put out (end_text (finish_of a x room))) (s ∙ whole_part k text) ∙ sym (ap (λ (x : Last). put out (called_text x a k text room)) e)

  pub called_bad : l ≡ last.Bad → end ≡ put out bad_text → end ≡ put out (called_text l a k text room)
  called_bad e p = p ∙ sym (ap (λ (x : Last). put out (called_text x a k text room)) e)

-- the tape has so many numbers, or all that are there
pub lent_room : (n m : ℕ) (tape : List ℕ) → m ≡ min n (length tape) → room_of (length (take (m - 0) tape)) ≡ room_for n (length tape)
unfolding room_for
lent_room n m tape e =
    let long : length (take (m - 0) tape) ≡ min n (length tape) = length-take (m - 0) tape ∙ omega (arith, e) in ap room_of long

-- the end, over a text of which the first k bytes are kept
pub end_kept : (a : Arrival) (k : ℕ) (text kept tape left : List ℕ) (out end : List ℕ × ℕ) (r : Ended) → kept ≡ take (k - 0) text
    → r ≡ ended_of (finish_of a kept (room_of (length tape))) → left ≡ rest_laid (finish_of a kept (room_of (length tape))) tape → length left ≡ length tape
    → end ≡ put out (ended_text r left) → end ≡ put out (end_text (finish_of a (take k text) (room_of (length tape))))
end_kept a k text kept tape left out end r s e l same p =
    end_said (finish_of a kept (room_of (length tape))) tape left out end r e l same p
    ∙ ap (λ (x : List ℕ). put out (end_text (finish_of a x (room_of (length tape))))) (s ∙ whole_part k text)
