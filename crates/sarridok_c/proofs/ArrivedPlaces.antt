-- The refusals of a text that arrives are small, over any state in order and any bytes: 30 at most, a reason of 8 at most, and within the first 65,536 bytes.
--     piece-small, finish-small
-- Assumes nothing.
use Rattle.std.proofs.Common.{Ok, Err}
use Prim.Native.Nat.{ℕ, ◌+◌, ◌-◌, ◌≤◌}
use native.Mathlib.Omega.{arith}
use mathlib.Core.Bool.{Bool, true, ◌&&◌}
use mathlib.Core.List.{List, ◌++◌}
use mathlib.Core.Path.{◌≡◌, ap, refl, subst, sym}
use lib.Dec.{eqb, leb, ltb}
use lib.ListN.{drop, length, length-append, length-drop, length-take, take, take-append-drop}
use borrow.Author.Tests.{eqb-true, leb-false, leb-true}
use Rattle.arriving.proofs.Came.{Stood, stood_behind}
use Rattle.arriving.specs.Arrivals.{Coming, Passing, halt, pass}
use Rattle.gaps.specs.Passes.{passed_of}
use Rattle.gaps.specs.declared.pass.Passed.{Passed}
use Rattle.gaps.specs.declared.pass.Passed.TheVariants.{Begins, Within, Unexpected}
use Rattle.gaps.specs.declared.state.Open.{Open}
use Rattle.gaps.specs.declared.state.Open.TheVariants.{Clear, Slash, Line, Block}
use Rattle.given.proofs.Front.{number-in, reason-fits}
use Rattle.given.proofs.Readings.{Inner-reading, reading_inner}
use Rattle.given.proofs.Tokens.{ron_inner}
use Rattle.given.specs.Given.{Inner, reasoned, within}
use Rattle.inner.proofs.Tokens.{refused_inner}
use Rattle.octets.specs.Octets.{allowed_of}
use Rattle.octets.specs.declared.answer.Allowed.{Allowed}
use Rattle.pieces.proofs.LimitLaws.{bad_from_most}
use Rattle.pieces.proofs.OrderLaws.{Numbers, numbers}
use Rattle.pieces.proofs.PassedLaws.{begins_inside, unexpected_inside}
use Rattle.pieces.proofs.StandLaws.{bar_halts}
use Rattle.pieces.proofs.TakenLaws.{sooner_le}
use Rattle.pieces.specs.Bars.{bar_of}
use Rattle.pieces.specs.Come.{Came, Standing, behind, came_by, came_of, later, stands_at, stopped, within as inside}
use Rattle.pieces.specs.Ends.{Rest, ending_of, finish_of, last_of, rest_by, rest_of}
use Rattle.pieces.specs.Orders.{in_order, most_taken}
use Rattle.pieces.specs.Pieces.{Outcome, bad_at, bad_from, barred_by, behind_bytes, by_bar, came_in, cut_off, may_take, no_refusal, outcome_of, piece_of, stop_by}
use Rattle.pieces.specs.declared.state.Arrival.{Arrival}
use Rattle.reading.specs.Readings.{Reading, broken, complete, entry, read_from}
use Rattle.settled.proofs.Owed.{ron}
use Rattle.settled.specs.Settled.{ron_reader}
use Rattle.stored.proofs.Bounds.{Small, order_small}
use Rattle.text.proofs.Choices.{bool_cases, cond_cases, and_true, either, lt_or_le}
use Rattle.text.proofs.ClassLaws.{within_true}
use Rattle.text.specs.Refusals.{Told, not_utf8, placed_behind, too_long}
use Rattle.text.specs.declared.refusal.Refusal.{Refusal}
use Rattle.tokens.proofs.RonLaws.{refused_within}
use Rattle.tokens.specs.Ron.{ron_token}
use Rattle.sarridok_c.proofs.ReadPlaces.{Stops, stops}

-- ---- one refusal

-- no refusal
none_small : Small most_taken no_refusal
none_small = record { number = omega arith; reason = omega arith; place = omega arith }

-- a reason is at most 8
reason_low : (d : Refusal) → reasoned d ≡ true → d.reason ≤ 8
reason_low d h =
    either (bool_cases (eqb d.number 13))
    (λ t. let w : within 1 8 d.reason ≡ true = rw t at h in (within_true 1 8 d.reason w).1)
    (λ t. let z : eqb d.reason 0 ≡ true = rw t at h in omega (arith, eqb-true d.reason 0 z))

-- a refusal of reading at a place
inner_small : (d : Refusal) (n : ℕ) → Inner d → d.place ≤ n → Small n d
inner_small d n h l = record { number = omega (arith, (number-in 4 21 d h).1); reason = reason_low d (reason-fits 4 21 d h); place = l }

-- seen from further in front
behind_small : (base n : ℕ) (d : Refusal) → Small n d → base + n ≤ most_taken → Small most_taken (placed_behind base d)
behind_small base n d s h = record { number = s.number; reason = s.reason; place = omega (arith, s.place) }

-- ---- where the text stands

-- it stands within n bytes
abbrev Stands-small : ℕ → Standing → Type 0
Stands-small n (inside o) = Unit {0}
Stands-small n (behind at rest) = at + length rest ≤ n
Stands-small n (stopped d) = Small n d

-- 30 at the start of what has begun
barred_small : (at b : ℕ) (rest : List ℕ) (d : Refusal) (n : ℕ) → bar_of at rest b ≡ halt d → at + length rest ≤ n → Small n d
barred_small at b rest d n e l =
    let q = bar_halts at b rest d e in
    let number : d.number ≡ 30 = ap (λ (r : Refusal). r.number) q.2 in
    let reason : d.reason ≡ 0 = ap (λ (r : Refusal). r.reason) q.2 in
    let place : d.place ≡ at + q.0 = ap (λ (r : Refusal). r.place) q.2 in
    record { number = omega arith; reason = omega arith; place = omega (arith, q.1) }

stood_small : (k : ℕ) (v : List ℕ) (n : ℕ) → k + length v ≤ n → {a : Coming} → Stood ron_reader ron bar_of k v a → Stands-small n (stands_at a)
stood_small k v n h (Stood.goes at lo hi) = omega (arith, length-drop (at - k) v)
stood_small k v n h (Stood.shuts p left d e l) =
    let s = inner_small d (length left) (refused_inner left d e) (refused_within left d e) in
    record { number = s.number; reason = s.reason; place = omega (arith, s.place) }
stood_small k v n h (Stood.halts p rest b d e l) = barred_small p b rest d n e (omega arith)

-- the later of two places
later_ge : (a b : ℕ) → (a ≤ later a b) × (b ≤ later a b)
unfolding later
later_ge a b = cond_cases (λ (n : ℕ). (a ≤ n) × (b ≤ n)) (leb a b) b a (λ t. (leb-true a b t, omega arith)) (λ t. let l = leb-false a b t in (omega arith, omega arith))

-- the bytes from k on, those that were kept and the others
from_few : (k kept : ℕ) (s : List ℕ) → k ≤ length s → k + length (drop k (take kept s) ++ drop (later k kept) s) ≤ length s
from_few k kept s h =
    let l = later_ge k kept in
    either (lt_or_le (length s) (later k kept))
    (λ p. omega (arith, length-append (drop k (take kept s)) (drop (later k kept) s), length-drop k (take kept s), length-drop (later k kept) s, length-take kept s))
    (λ p. omega (arith, length-append (drop k (take kept s)) (drop (later k kept) s), length-drop k (take kept s), length-drop (later k kept) s, length-take kept s))

came-by : (p : Passed) (kept : ℕ) (s : List ℕ) → ((k : ℕ) → p ≡ Begins k → k ≤ length s) → ((q : ℕ) → p ≡ Unexpected q → q ≤ length s) → Stands-small (length s) (came_by p kept s).standing
came-by (Begins k) kept s b u =
    let x : List ℕ = drop k (take kept s) in
    let w : List ℕ = drop (later k kept) s in
    stood_small k (x ++ w) (length s) (from_few k kept s (b k refl)) (stood_behind ron_reader ron bar_of w x k)
came-by (Within o) kept s b u = tt
came-by (Unexpected q) kept s b u = record { number = omega arith; reason = omega arith; place = u q refl }

came_small : (o : Open) (kept : ℕ) (s : List ℕ) (m : ℕ) → Stands-small (length s) (came_of o kept (take m s) (drop m s)).standing
unfolding came_of
came_small o kept s m =
    let all : take m s ++ drop m s ≡ s = take-append-drop m s in
    let few : length (take m s) ≤ length s = omega (arith, length-take m s) in
    subst (λ (x : List ℕ). Stands-small (length s) (came_by (passed_of o (take m s)) kept x).standing) (sym all)
    (came-by (passed_of o (take m s)) kept s (λ k e. omega (arith, begins_inside o (take m s) k e)) (λ q e. omega (arith, unexpected_inside o (take m s) q e)))

-- ---- what stops the text

stop_small : (t : Standing) (n base : ℕ) (follows : Bool) (why : Refusal) → Stands-small n t → base + n ≤ most_taken → Small most_taken why → Small most_taken (stop_by t base follows why)
stop_small (stopped d) n base follows why s h w = behind_small base n d s h
stop_small (inside o) n base follows why s h w = cond_cases (Small most_taken) follows why no_refusal (λ t. w) (λ t. none_small)
stop_small (behind at rest) n base follows why s h w =
    cond_cases (Small most_taken) follows (by_bar (bar_of at rest 0) base why) no_refusal (λ t. go (bar_of at rest 0) refl) (λ t. none_small)
  where
    go : (p : Passing) → bar_of at rest 0 ≡ p → Small most_taken (by_bar p base why)
    go pass e = w
    go (halt d) e = behind_small base n d (barred_small at 0 rest d n e s) h

-- 1 or 2 at the byte that is not taken
why_small : (a : Arrival) → Numbers a → (s : List ℕ) (n : ℕ) → Small most_taken (barred_by a (allowed_of s) n)
why_small a k s n =
    cond_cases (Small most_taken) (leb (most_taken - a.taken) (bad_at (allowed_of s) a.part n)) too_long (not_utf8 (a.taken - a.part + bad_from (allowed_of s)))
    (λ t. record { number = omega arith; reason = omega arith; place = omega arith })
    (λ t. let l = leb-false (most_taken - a.taken) (bad_at (allowed_of s) a.part n) t in
    record { number = omega arith; reason = omega arith; place = omega (arith, bad_from_most s a.part n, k.short, k.part, k.former) })

-- ---- a piece

module _ (a : Arrival) (h : in_order a ≡ true) where
  bytes_small : (n m : ℕ) (part : List ℕ) (why : Refusal) (c : Came) → Small most_taken (stop_by c.standing (a.taken - a.kept) (ltb m n) why)
      → Small most_taken (behind_bytes a n m part why c).next.refusal
  unfolding behind_bytes
  bytes_small n m part why c s =
      cond_cases (λ (o : Outcome). Small most_taken o.next.refusal) (eqb (stop_by c.standing (a.taken - a.kept) (ltb m n) why).number 0) _ _ (λ t. none_small) (λ t. s)

  outcome_small : (kept w : List ℕ) → length kept ≤ a.kept → Small most_taken (outcome_of a kept w).next.refusal
  unfolding outcome_of
  outcome_small kept w l =
      let k = numbers a h in
      let begun : List ℕ = drop (a.kept - a.part) kept in
      let allowed : Allowed = allowed_of (begun ++ w) in
      let m : ℕ = may_take a.taken (bad_at allowed a.part (length w)) in
      let s : List ℕ = kept ++ take m w in
      let cut : ℕ = cut_off (allowed_of (begun ++ take m w)) in
      let few = sooner_le (most_taken - a.taken) (bad_at allowed a.part (length w)) in
      let long : a.taken - a.kept + length s ≤ most_taken = omega (arith, length-append kept (take m w), length-take m w, few.0, k.short, k.former) in
      bytes_small (length w) m (drop (length s - cut) s) (barred_by a allowed (length w)) (came_in a s cut)
      (stop_small (came_in a s cut).standing (length s) (a.taken - a.kept) (ltb m (length w)) (barred_by a allowed (length w))
      (came_small a.gap a.kept s (length s - cut)) long (why_small a k (begun ++ w) (length w)))

-- the refusal of a piece, alone or in the state behind it
abbrev pub Piece-small : Told Outcome → Type 0
Piece-small (Ok o) = Small most_taken o.next.refusal
Piece-small (Err r) = Small most_taken r

-- 22 and 23 stand at 0
pub own_small : (r : ℕ) → r ≤ 30 → Small most_taken (record { number = r; reason = 0; place = 0 })
own_small r h = record { number = h; reason = omega arith; place = omega arith }

pub piece_small : (a : Arrival) (buffer : List ℕ) (n room : ℕ) → Piece-small (piece_of a buffer n room)
unfolding piece_of
piece_small a buffer n room =
    let kept : List ℕ = take a.kept buffer in
    let o : Outcome = outcome_of a kept (take n (drop a.kept buffer)) in
    cond_cases Piece-small (in_order a && leb (a.kept + n) (length buffer)) _ _
    (λ t. let h = (and_true (in_order a) (leb (a.kept + n) (length buffer)) t).0 in
    cond_cases Piece-small (eqb a.refusal.number 0 && ltb 0 n) _ _
    (λ u. cond_cases Piece-small (ltb room (length o.entries)) _ _ (λ v. own_small 22 (omega arith))
    (λ v. outcome_small a h kept (take n (drop a.kept buffer)) (omega (arith, length-take a.kept buffer))))
    (λ u. order_small a h))
    (λ t. own_small 23 (omega arith))

-- ---- the end

-- how a reading ends
last_small : (r : Reading) (n : ℕ) → Stops n r → Inner-reading r → n ≤ most_taken → Small n (last_of r)
unfolding last_of
last_small complete n h i l = record { number = omega arith; reason = omega arith; place = omega arith }
last_small (broken d) n h i l = inner_small d n i h
last_small (entry e r) n h i l = last_small r n h i l

rest-by : (p : Passed) (s : List ℕ) → length s ≤ most_taken → ((k : ℕ) → p ≡ Begins k → k ≤ length s) → ((q : ℕ) → p ≡ Unexpected q → q ≤ length s) → Small (length s) (last_of (rest_by p s))
unfolding last_of
rest-by (Begins k) s l b u = last_small (read_from ron_token s k) (length s) (stops s k (b k refl)) (reading_inner ron_token ron_inner k (drop k s)) l
rest-by (Within Clear) s l b u = record { number = omega arith; reason = omega arith; place = omega arith }
rest-by (Within Slash) s l b u = record { number = omega arith; reason = omega arith; place = omega arith }
rest-by (Within Line) s l b u = record { number = omega arith; reason = omega arith; place = omega arith }
rest-by (Within (Block level last)) s l b u = record { number = omega arith; reason = omega arith; place = omega arith }
rest-by (Unexpected q) s l b u = record { number = omega arith; reason = omega arith; place = u q refl }

module _ (a : Arrival) (h : in_order a ≡ true) where
  ending_small : (kept : List ℕ) → length kept ≤ a.kept → Small most_taken (ending_of a kept).refusal
  unfolding ending_of rest_of
  ending_small kept l =
      let k = numbers a h in
      let d : Refusal = last_of (rest_by (passed_of a.gap kept) kept) in
      let s : Small (length kept) (last_of (rest_by (passed_of a.gap kept) kept)) =
      rest-by (passed_of a.gap kept) kept (omega (arith, k.short, k.former)) (λ j e. omega (arith, begins_inside a.gap kept j e)) (λ q e. omega (arith, unexpected_inside a.gap kept q e)) in
      cond_cases (λ (e : Rest). Small most_taken e.refusal) (ltb 0 a.part) _ _
      (λ t. record { number = omega arith; reason = omega arith; place = omega (arith, k.short) })
      (λ t. cond_cases (Small most_taken) (eqb d.number 0) no_refusal (placed_behind (a.taken - a.kept) d) (λ u. none_small)
      (λ u. behind_small (a.taken - a.kept) (length kept) d s (omega (arith, k.short, k.former))))

-- the refusal of the end, alone or behind entries
abbrev pub Finish-small : Told Rest → Type 0
Finish-small (Ok e) = Small most_taken e.refusal
Finish-small (Err r) = Small most_taken r

pub finish_small : (a : Arrival) (buffer : List ℕ) (room : ℕ) → Finish-small (finish_of a buffer room)
unfolding finish_of
finish_small a buffer room =
    let kept : List ℕ = take a.kept buffer in
    let e : Rest = ending_of a kept in
    cond_cases Finish-small (in_order a && leb a.kept (length buffer)) _ _
    (λ t. let h = (and_true (in_order a) (leb a.kept (length buffer)) t).0 in
    cond_cases Finish-small (eqb a.refusal.number 0) _ _
    (λ u. cond_cases Finish-small (ltb room (length e.entries)) _ _ (λ v. own_small 22 (omega arith)) (λ v. ending_small a h kept (omega (arith, length-take a.kept buffer))))
    (λ u. order_small a h))
    (λ t. own_small 23 (omega arith))
