-- What is printed of a call is what its definition gives: the entries stand at the tape's front. Assumes nothing.
use Rattle.std.proofs.Common.{Ok, Err}
use Prim.Native.Nat.{ℕ, min, ◌+◌, ◌*◌, ◌≤◌}
use native.Mathlib.Omega.{arith}
use mathlib.Core.Bool.{Bool, true, false, cond}
use mathlib.Core.List.{List, [], ◌++◌, append-nil}
use mathlib.Core.Path.{◌≡◌, refl, sym, ap, ◌∙◌}
use lib.Dec.{eqb}
use lib.ListN.{length, drop, length-append, length-drop}
use Rattle.lines.specs.Out.{put}
use Rattle.pieces.specs.Ends.{Rest, ended_of, rest_laid}
use Rattle.pieces.specs.Pieces.{Outcome, arrived_of, laid_in}
use Rattle.pieces.specs.declared.state.Arrival.{Arrival}
use Rattle.pieces.specs.declared.state.Arrived.{Arrived}
use Rattle.pieces.specs.declared.state.Arrived.TheVariants as arrived
use Rattle.pieces.specs.declared.state.Ended.{Ended}
use Rattle.pieces.specs.declared.state.Ended.TheVariants as ended
use Rattle.rows.specs.Rows.{width, room_of, entries_of, flat, laid}
use Rattle.rows.specs.declared.Entry.{Entry}
use Rattle.rows.proofs.RowLaws.{length_flat, entries_flat}
use Rattle.text.specs.Refusals.{Told}
use Rattle.text.specs.declared.refusal.Refusal.{Refusal}
use Rattle.arrive.specs.Printed.{lines_text, refusal_text, given_text, piece_text, end_text, next_of, goes_on}
use Rattle.arrive.specs.inner.Said.{tape_lines, stopped_text, ended_text, without_state, next_by, on_by}

-- ---- entries at a tape's front

module _ (es : List Entry) (tape left : List ℕ) (l : left ≡ laid es tape) (same : length left ≡ length tape) where
  -- a slice keeps its length: there is room for them
  rows_fit : width * length es ≤ length tape
  unfolding laid
  rows_fit =
      let long : length left ≡ width * length es + length (drop (width * length es) tape) =
      ap length l ∙ length-append (flat es) (drop (width * length es) tape) ∙ ap (λ (n : ℕ). n + length (drop (width * length es) tape)) (length_flat es) in
      omega (arith, long, same, length-drop (width * length es) tape)

  few : min (length es) (room_of (length left)) ≡ length es
  few = omega (arith, rows_fit, same)

  rows_are : entries_of (length es) left ≡ es
  unfolding laid
  rows_are = ap (entries_of (length es)) l ∙ entries_flat es (drop (width * length es) tape)

  rows_said : tape_lines left (length es) ≡ lines_text es
  unfolding tape_lines
  rows_said = ap (λ (n : ℕ). lines_text (entries_of n left)) few ∙ ap lines_text rows_are

  -- behind them a refusal, or none
  given_said : (d : Refusal) (z : Bool) → eqb d.number 0 ≡ z
      → ended_text (cond z (ended.Given (length es)) (ended.Stopped (length es) d)) left ≡ given_text es d
  unfolding given_text stopped_text
  given_said d true e =
      rows_said ∙ sym (append-nil (lines_text es)) ∙ sym (ap (λ (b : Bool). lines_text es ++ cond b [] (refusal_text d)) e)
  given_said d false e =
      ap (λ (t : List ℕ). t ++ refusal_text d) rows_said ∙ sym (ap (λ (b : Bool). lines_text es ++ cond b [] (refusal_text d)) e)

-- ---- the end

end_says : (told : Told Rest) (tape left : List ℕ) → left ≡ rest_laid told tape → length left ≡ length tape → ended_text (ended_of told) left ≡ end_text told
end_says (Ok e) tape left l same = given_said e.entries tape left l same e.refusal (eqb e.refusal.number 0) refl
end_says (Err r) tape left l same = refl

pub end_said : (told : Told Rest) (tape left : List ℕ) (r : Ended) → r ≡ ended_of told → left ≡ rest_laid told tape → length left ≡ length tape
    → (out end : List ℕ × ℕ) → end ≡ put out (ended_text r left) → end ≡ put out (end_text told)
end_said told tape left r e l same out end p =
    p ∙ ap (λ (x : Ended). put out (ended_text x left)) e ∙ ap (put out) (end_says told tape left l same)

-- ---- a piece

-- the state left out, and then the choice, or the other way
without_choice : (z : Bool) (n : ℕ) (d : Refusal) (a : Arrival)
    → without_state (cond z (arrived.Given n a) (arrived.Stopped n d a)) ≡ cond z (ended.Given n) (ended.Stopped n d)
without_choice true n d a = refl
without_choice false n d a = refl

next_choice : (z : Bool) (n : ℕ) (d : Refusal) (s a : Arrival) → next_by s (cond z (arrived.Given n a) (arrived.Stopped n d a)) ≡ a
next_choice true n d s a = refl
next_choice false n d s a = refl

on_choice : (z : Bool) (n : ℕ) (d : Refusal) (a : Arrival) → on_by (cond z (arrived.Given n a) (arrived.Stopped n d a)) ≡ z
on_choice true n d a = refl
on_choice false n d a = refl

piece_says : (told : Told Outcome) (tape left : List ℕ) → left ≡ laid_in told tape → length left ≡ length tape
    → ended_text (without_state (arrived_of told)) left ≡ piece_text told
piece_says (Ok o) tape left l same =
    let d : Refusal = o.next.refusal in
    ap (λ (x : Ended). ended_text x left) (without_choice (eqb d.number 0) (length o.entries) d o.next)
    ∙ given_said o.entries tape left l same d (eqb d.number 0) refl
piece_says (Err r) tape left l same = refl

next_says : (s : Arrival) (told : Told Outcome) → next_by s (arrived_of told) ≡ next_of s told
next_says s (Ok o) = next_choice (eqb o.next.refusal.number 0) (length o.entries) o.next.refusal s o.next
next_says s (Err r) = refl

on_says : (told : Told Outcome) → on_by (arrived_of told) ≡ goes_on told
on_says (Ok o) = on_choice (eqb o.next.refusal.number 0) (length o.entries) o.next.refusal o.next
on_says (Err r) = refl

module _ (told : Told Outcome) (r : Arrived) (e : r ≡ arrived_of told) where
  pub piece_said : (tape left : List ℕ) → left ≡ laid_in told tape → length left ≡ length tape
      → (out end : List ℕ × ℕ) → end ≡ put out (ended_text (without_state r) left) → end ≡ put out (piece_text told)
  piece_said tape left l same out end p =
      p ∙ ap (λ (x : Arrived). put out (ended_text (without_state x) left)) e ∙ ap (put out) (piece_says told tape left l same)

  pub next_said : (s a : Arrival) → a ≡ next_by s r → a ≡ next_of s told
  next_said s a p = p ∙ ap (next_by s) e ∙ next_says s told

  pub on_said : (b : Bool) → b ≡ on_by r → b ≡ goes_on told
  on_said b p = p ∙ ap on_by e ∙ on_says told
