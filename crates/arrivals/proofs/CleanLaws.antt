-- A call over a marked tape leaves every mark behind the entries that it gives. Assumes nothing.
use Rattle.std.proofs.Common.{Ok, Err}
use Prim.Native.Nat.{ℕ, zero, suc, min, ◌+◌, ◌*◌, ◌<◌, ◌≤◌}
use native.Mathlib.Omega.{arith}
use mathlib.Core.Bool.{Bool, true, false, cond, ◌&&◌}
use mathlib.Core.List.{List, [], ◌∷◌}
use mathlib.Core.Path.{◌≡◌, refl, sym, ap, ◌∙◌}
use lib.Dec.{eqb}
use lib.ListN.{length, get_or, set, drop, length-drop, length-set}
use lib.Seq.{get_or-set_same, get_or-set_other, get_or-drop, drop_at}
use borrow.Author.Tests.{eq-eqb}
use Rattle.lent.specs.Marks.{mark_at, marked, kept_from}
use Rattle.lent.proofs.MarkLaws.{marked_length}
use Rattle.lines.specs.Out.{put}
use Rattle.pieces.specs.Ends.{Rest, ended_of, rest_laid}
use Rattle.pieces.specs.Pieces.{Outcome, arrived_of, laid_in}
use Rattle.pieces.specs.declared.state.Arrived.{Arrived}
use Rattle.pieces.specs.declared.state.Ended.{Ended}
use Rattle.pieces.specs.declared.state.Ended.TheVariants as ended
use Rattle.rows.specs.Rows.{width, room_of, flat, laid}
use Rattle.rows.specs.declared.Entry.{Entry}
use Rattle.rows.proofs.RowLaws.{length_flat}
use Rattle.show.specs.Answers.{clean_text}
use Rattle.text.specs.Refusals.{Told}
use Rattle.text.specs.declared.refusal.Refusal.{Refusal}
use Rattle.text.proofs.Choices.{either, lt_or_le}
use Rattle.arrivals.specs.inner.Says.{without_state, is_clean}
use Rattle.arrivals.proofs.CallLaws.{rows_fit, without_choice}

-- ---- marks

module _ (mark : ℕ → ℕ) where
  -- what stands before them is as it was
  marked_before : (n i : ℕ) (s : List ℕ) (j : ℕ) → j < i → get_or (marked mark n i s) j 0 ≡ get_or s j 0
  unfolding marked
  marked_before zero i s j h = refl
  marked_before (suc n) i s j h =
      marked_before n (i + 1) (set s i (mark i)) j (omega arith) ∙ get_or-set_other s i j (mark i) 0 (λ e. absurd (omega (arith, e)))

  marked_at : (n i : ℕ) (s : List ℕ) (j : ℕ) → i ≤ j → j < i + n → j < length s → get_or (marked mark n i s) j 0 ≡ mark j
  unfolding marked
  marked_at zero i s j h k l = absurd (omega arith)
  marked_at (suc n) i s j h k l =
      either (lt_or_le i j)
      (λ m. marked_at n (i + 1) (set s i (mark i)) j (omega arith) (omega arith) (omega (arith, length-set s i (mark i))))
      (λ m. let same : j ≡ i = omega arith in
      marked_before n (i + 1) (set s i (mark i)) j (omega arith) ∙ ap (λ (x : ℕ). get_or (set s i (mark i)) x 0) same
      ∙ get_or-set_same s i (mark i) 0 (omega (arith, same)) ∙ ap mark (sym same))

  -- numbers that all have their marks
  kept_all : (s : List ℕ) (i : ℕ) → ((j : ℕ) → j < length s → get_or s j 0 ≡ mark (i + j)) → kept_from mark s i ≡ true
  unfolding kept_from
  kept_all [] i f = refl
  kept_all (a ∷ s) i f =
      let here : i + 0 ≡ i = omega arith in
      let rest : kept_from mark s (i + 1) ≡ true =
      kept_all s (i + 1) (λ j h. let there : i + suc j ≡ i + 1 + j = omega arith in f (suc j) (omega arith) ∙ ap mark there) in
      ap (λ (b : Bool). b && kept_from mark s (i + 1)) (eq-eqb a (mark i) (f 0 (omega arith) ∙ ap mark here)) ∙ rest

  marks_kept : (s : List ℕ) (k : ℕ) → kept_from mark (drop k (marked mark (length s) 0 s)) k ≡ true
  marks_kept s k =
      kept_all (drop k (marked mark (length s) 0 s)) k
      (λ j h. get_or-drop k (marked mark (length s) 0 s) j 0
      ∙ marked_at (length s) 0 s (k + j) (omega arith) (omega (arith, h, length-drop k (marked mark (length s) 0 s), marked_length mark (length s) 0 s))
      (omega (arith, h, length-drop k (marked mark (length s) 0 s), marked_length mark (length s) 0 s)))

-- ---- entries over marks

module _ (tape before left : List ℕ) (m : before ≡ marked mark_at (length tape) 0 tape) (same : length left ≡ length before) where
  -- so many entries were given
  abbrev Clean : ℕ → Type 0
  Clean n = kept_from mark_at (drop (width * min n (room_of (length left))) left) (width * min n (room_of (length left))) ≡ true

  laid_clean : (es : List Entry) → left ≡ laid es before → Clean (length es)
  unfolding laid
  laid_clean es l =
      let k : ℕ = width * length es in
      let all : width * min (length es) (room_of (length left)) ≡ k = omega (arith, rows_fit es before left l same, same) in
      ap (λ (x : ℕ). kept_from mark_at (drop x left) x) all
      ∙ ap (λ (x : List ℕ). kept_from mark_at (drop k x) k) l
      ∙ ap (λ (x : List ℕ). kept_from mark_at x k) (drop_at (flat es) (drop k before) k (length_flat es))
      ∙ ap (λ (x : List ℕ). kept_from mark_at (drop k x) k) m ∙ marks_kept mark_at tape k

  kept_clean : left ≡ before → Clean 0
  kept_clean l =
      let none : width * min 0 (room_of (length left)) ≡ 0 = omega arith in
      ap (λ (x : ℕ). kept_from mark_at (drop x left) x) none ∙ ap (λ (x : List ℕ). kept_from mark_at x 0) (l ∙ m) ∙ marks_kept mark_at tape 0

  given_clean : (z : Bool) (n : ℕ) (d : Refusal) → Clean n → is_clean (cond z (ended.Given n) (ended.Stopped n d)) left ≡ true
  unfolding is_clean
  given_clean true n d c = c
  given_clean false n d c = c

  refused_clean : (r : Refusal) → Clean 0 → is_clean (ended.Refused r) left ≡ true
  unfolding is_clean
  refused_clean r c = c

  end_clean : (told : Told Rest) → left ≡ rest_laid told before → is_clean (ended_of told) left ≡ true
  end_clean (Ok e) l = given_clean (eqb e.refusal.number 0) (length e.entries) e.refusal (laid_clean e.entries l)
  end_clean (Err r) l = refused_clean r (kept_clean l)

  piece_clean : (told : Told Outcome) → left ≡ laid_in told before → is_clean (without_state (arrived_of told)) left ≡ true
  piece_clean (Ok o) l =
      ap (λ (x : Ended). is_clean x left) (without_choice (eqb o.next.refusal.number 0) (length o.entries) o.next.refusal o.next)
      ∙ given_clean (eqb o.next.refusal.number 0) (length o.entries) o.next.refusal (laid_clean o.entries l)
  piece_clean (Err r) l = refused_clean r (kept_clean l)

  -- so nothing is said of it
  module _ (out mid end : List ℕ × ℕ) (said : List ℕ) (p : mid ≡ put out said) (b : Bool) (z : end ≡ put mid (clean_text b)) where
    nothing_more : b ≡ true → end ≡ put out said
    unfolding put
    nothing_more t = z ∙ ap (λ (x : Bool). put mid (clean_text x)) t ∙ p

    pub end_stands : (told : Told Rest) (r : Ended) → r ≡ ended_of told → left ≡ rest_laid told before → b ≡ is_clean r left → end ≡ put out said
    end_stands told r e l f = nothing_more (f ∙ ap (λ (x : Ended). is_clean x left) e ∙ end_clean told l)

    pub piece_stands : (told : Told Outcome) (r : Arrived) → r ≡ arrived_of told → left ≡ laid_in told before → b ≡ is_clean (without_state r) left → end ≡ put out said
    piece_stands told r e l f = nothing_more (f ∙ ap (λ (x : Arrived). is_clean (without_state x) left) e ∙ piece_clean told l)
