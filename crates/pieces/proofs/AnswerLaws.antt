-- The call `piece`, from what the code has found to its answer, what is kept and the tape.
--     Limited, limited     the bytes that are taken
--     Found, found         what they give
--     no_room, stopped_there, given_there     the three answers
--     not_ordered, state_refused, nothing_there, piece_there     the whole call
-- Assumes nothing.
use Rattle.std.proofs.Common.{Ok, Err}
use Prim.Native.Nat.{ℕ, ◌+◌, ◌-◌, ◌<◌, ◌≤◌}
use native.Mathlib.Omega.{arith}
use mathlib.Core.Bool.{Bool, true, false, cond, not, ◌&&◌}
use mathlib.Core.List.{List, [], ◌++◌, map}
use mathlib.Core.Path.{◌≡◌, ap, ap₂, refl, subst, sym, ◌∙◌}
use lib.Dec.{eqb, leb, ltb}
use lib.ListN.{drop, length, length-drop, take, take-append-drop}
use lib.Seq.{drop_at, length-take-le, take-add}
use borrow.Author.Tests.{eq-eqb, eqb-false, eqb-true, le-ltb, leb-true, lt-ltb, ne_eqb, not-false, not-true}
use Rattle.text.proofs.Choices.{and_true, bool_cases, either, lt_or_le}
use Rattle.text.specs.Refusals.{Told, no_room, not_in_order}
use Rattle.text.specs.declared.refusal.Refusal.{Refusal}
use Rattle.rows.specs.Rows.{flat, laid, room_of}
use Rattle.rows.specs.declared.Entry.{Entry}
use Rattle.reading.specs.Readings.{entries, read_from}
use Rattle.tokens.specs.Ron.{ron_token}
use Rattle.octets.specs.Octets.{Cut}
use Rattle.gaps.specs.Passes.{passed_of}
use Rattle.gaps.specs.declared.state.Open.{Open}
use Rattle.pieces.proofs.OutcomeLaws.{Meets, length_moved, meets, ran_outcome, ran-outcome}
use Rattle.pieces.proofs.StandLaws.{GoesOn}
use Rattle.pieces.proofs.TakenLaws.{Ordered, end_inside, end_small, limit_there, ordered, outcome_is, text_length, whole_cut, whole_inside, why_number}
use Rattle.pieces.specs.Come.{came_by}
use Rattle.pieces.specs.Orders.{in_order, most_taken}
use Rattle.pieces.specs.Pieces.{Outcome, arrived_of, gapped, goes_on, in_room, kept_in, laid_in, moved_to, no_refusal, piece_of, stops, unchanged}
use Rattle.pieces.specs.inner.Comes.{come_of}
use Rattle.pieces.specs.inner.Limits.{limit_of}
use Rattle.pieces.specs.inner.Steps.{Fit, StopFits, former_of, kept_from, open_in, outcome_in, stop_of, stopped_state}
use Rattle.pieces.specs.declared.come.Reached.{Reached}
use Rattle.pieces.specs.declared.limit.Most.{Most}
use Rattle.pieces.specs.declared.state.Arrival.{Arrival}
use Rattle.pieces.specs.declared.state.Arrived.{Arrived}
use Rattle.pieces.specs.declared.state.Arrived.TheVariants as arrived

-- ---- the bytes that are taken

pub record Limited (a : Arrival) (buffer : List ℕ) (n : ℕ) (most : Most) : Type 0 where
  pub held : a.kept ≤ most.end
  pub few : most.end ≤ a.kept + n
  pub inside : most.end ≤ length buffer
  pub long : length (take most.end buffer) ≡ most.end
  pub small : a.taken - a.kept + most.end ≤ most_taken
  pub whole_inside : most.whole ≤ most.end
  pub cut : Cut (drop most.whole (take most.end buffer))

limited_there : (a : Arrival) (buffer : List ℕ) (n : ℕ) → Fit a (length buffer) n → Limited a buffer n (limit_there a buffer n)
limited_there a buffer n f = record {
  held = (end_inside a buffer n f).0;
  few = (end_inside a buffer n f).1;
  inside = omega (arith, (end_inside a buffer n f).1);
  long = text_length a buffer n f;
  small = end_small a buffer n f;
  whole_inside = omega (arith, whole_inside a buffer n f, text_length a buffer n f);
  cut = whole_cut a buffer n f;
}

pub limited : (a : Arrival) (buffer : List ℕ) (n : ℕ) → Fit a (length buffer) n → (most : Most) → most ≡ limit_of (take (a.kept + n) buffer) a.taken a.kept a.part → Limited a buffer n most
limited a buffer n f most e = subst (Limited a buffer n) (sym e) (limited_there a buffer n f)

-- ---- what they give

module _ (a : Arrival) (buffer : List ℕ) (n : ℕ) (most : Most) (r : Reached) where
  -- the entries that are laid, where the last of them ends, and the refusal behind them
  abbrev pub laid_there : List Entry
  laid_there = gapped a.former (map (moved_to (a.taken - a.kept)) (take r.ran.count (entries (read_from ron_token (take most.end buffer) r.from))))

  abbrev pub former_there : ℕ
  former_there = former_of a.former r.ran.count (a.taken - a.kept + r.ran.end)

  abbrev pub stop_there : Refusal
  stop_there = stop_of r.ran.stands most.end (a.taken - a.kept) (ltb most.end (a.kept + n)) most.why

  abbrev pub from_there : ℕ
  from_there = kept_from r.ran.stands most.whole

  -- the state where the text goes on
  abbrev pub next_there : Arrival
  next_there = record {
    taken = a.taken - a.kept + most.end;
    kept = most.end - from_there;
    part = most.end - most.whole;
    former = former_there;
    gap = open_in r.ran.stands;
    refusal = no_refusal;
  }

  -- both outcomes
  abbrev going_there : Outcome
  going_there = record { entries = laid_there; next = next_there; kept = take (most.end - from_there) (drop from_there buffer) }

  abbrev stopping_there : Outcome
  stopping_there = stops laid_there (a.taken - a.kept + r.ran.bytes) former_there stop_there

  pub record Found : Type 0 where
    pub inside : most.end ≤ length buffer
    pub from_in : r.from ≤ most.end
    pub many : r.ran.count ≤ length (entries (read_from ron_token (take most.end buffer) r.from))
    pub end_in : r.ran.end ≤ most.end
    pub bytes_in : r.ran.bytes ≤ most.end
    pub fits : StopFits r.ran.stands most.end (a.taken - a.kept)
    pub kept-in : stop_there.number ≡ 0 → from_there ≤ most.end
    pub none : stop_there.number ≡ 0 → stop_there ≡ no_refusal
    pub goes : stop_there.number ≡ 0 → outcome_in a buffer n ≡ going_there
    pub stays : (stop_there.number ≡ 0 → ⊥) → outcome_in a buffer n ≡ stopping_there

-- the part of a buffer up to a place, from another place on
part_is : (buffer : List ℕ) (from end : ℕ) → from ≤ end → end ≤ length buffer → drop from (take end buffer) ≡ take (end - from) (drop from buffer)
part_is buffer from end h l =
    let e : end ≡ from + (end - from) = omega arith in
    ap (λ (k : ℕ). drop from (take k buffer)) e
    ∙ ap (drop from) (take-add from (end - from) buffer)
    ∙ drop_at (take from buffer) (take (end - from) (drop from buffer)) from (length-take-le from buffer (omega arith))

same_test : (end kept n : ℕ) → kept ≤ end → ltb (end - kept) n ≡ ltb end (kept + n)
same_test end kept n h =
    either (lt_or_le (end - kept) n) (λ l. lt-ltb (end - kept) n l ∙ sym (lt-ltb end (kept + n) (omega arith))) (λ l. le-ltb (end - kept) n l ∙ sym (le-ltb end (kept + n) (omega arith)))

module _ (a : Arrival) (buffer : List ℕ) (n : ℕ) (f : Fit a (length buffer) n) where
  abbrev most : Most
  most = limit_there a buffer n

  abbrev s : List ℕ
  s = take (limit_there a buffer n).end buffer

  abbrev r : Reached
  r = come_of a.gap (take (limit_there a buffer n).end buffer) a.kept (limit_there a buffer n).whole

  abbrev base : ℕ
  base = a.taken - a.kept

  l : Limited a buffer n (limit_there a buffer n)
  l = limited_there a buffer n f

  has : a.kept ≤ length s
  has = omega (arith, l.held, l.long)

  inside : (limit_there a buffer n).whole ≤ length s
  inside = omega (arith, l.whole_inside, l.long)

  m : Meets s a.kept (limit_there a buffer n).whole has inside l.cut (came_by (passed_of a.gap (take (limit_there a buffer n).whole s)) a.kept s) r
  m = meets s a.kept (limit_there a buffer n).whole has inside l.cut a.gap

  order : Ordered a
  order = ordered a f.order

  stop_long : stop_of r.ran.stands (length s) base (ltb most.end (a.kept + n)) most.why ≡ stop_there a buffer n most r
  stop_long = ap (λ (k : ℕ). stop_of r.ran.stands k base (ltb most.end (a.kept + n)) most.why) l.long

  goes_there : (stop_there a buffer n most r).number ≡ 0 → GoesOn s most.whole (came_by (passed_of a.gap (take (limit_there a buffer n).whole s)) a.kept s).standing r.ran.stands
      (ltb most.end (a.kept + n)) (stop_of r.ran.stands (length s) base (ltb most.end (a.kept + n)) most.why)
  goes_there e = m.agrees.goes base (ltb most.end (a.kept + n)) most.why (why_number a buffer n f) (ap (λ (d : Refusal). d.number) stop_long ∙ e)

  from_in : (stop_there a buffer n most r).number ≡ 0 → from_there a buffer n most r ≤ most.end
  from_in e = omega (arith, (goes_there e).on.from, l.long)

  outcome_code : outcome_in a buffer n ≡ ran_outcome a s most.whole (ltb most.end (a.kept + n)) most.why r
  outcome_code =
      let long : length s ≡ a.kept + (most.end - a.kept) = omega (arith, l.long, l.held) in
      outcome_is a buffer n f
      ∙ ran-outcome a s most.whole n (most.end - a.kept) has inside l.cut most.why (why_number a buffer n f) (omega (arith, order.behind)) long (omega (arith, l.few))
      (came_by (passed_of a.gap (take (limit_there a buffer n).whole s)) a.kept s) r m
      ∙ ap (λ (t : Bool). ran_outcome a s most.whole t most.why r) (same_test most.end a.kept n l.held)

  goes_code : (stop_there a buffer n most r).number ≡ 0 → outcome_in a buffer n ≡ going_there a buffer n most r
  unfolding ran_outcome
  goes_code e =
      let from : ℕ = from_there a buffer n most r in
      let es : List Entry = laid_there a buffer n most r in
      let former : ℕ = former_there a buffer n most r in
      let o : Open = open_in r.ran.stands in
      let low : from ≤ most.end = from_in e in
      let part : drop from s ≡ take (most.end - from) (drop from buffer) = part_is buffer from most.end low l.inside in
      let many : length (take (most.end - from) (drop from buffer)) ≡ most.end - from = ap length (sym part) ∙ length-drop from s ∙ ap (λ (k : ℕ). k - from) l.long in
      outcome_code
      ∙ ap (λ (d : Refusal). cond (eqb d.number 0) (goes_on es (base + length s) former o (drop from s) (length s - most.whole)) (stops es (base + r.ran.bytes) former d)) stop_long
      ∙ ap (λ (t : Bool). cond t (goes_on es (base + length s) former o (drop from s) (length s - most.whole)) (stops es (base + r.ran.bytes) former (stop_there a buffer n most r)))
      (eq-eqb (stop_there a buffer n most r).number 0 e)
      ∙ ap (λ (k : ℕ). goes_on es (base + k) former o (drop from s) (k - most.whole)) l.long
      ∙ ap (λ (x : List ℕ). goes_on es (base + most.end) former o x (most.end - most.whole)) part
      ∙ ap (λ (k : ℕ). outcome es (base + most.end) k (most.end - most.whole) former o (take (most.end - from) (drop from buffer))) many
    where
      outcome : List Entry → ℕ → ℕ → ℕ → ℕ → Open → List ℕ → Outcome
      outcome es taken kept part former o x = record { entries = es; next = record { taken = taken; kept = kept; part = part; former = former; gap = o; refusal = no_refusal }; kept = x }

  stays_code : ((stop_there a buffer n most r).number ≡ 0 → ⊥) → outcome_in a buffer n ≡ stopping_there a buffer n most r
  unfolding ran_outcome
  stays_code e =
      let from : ℕ = from_there a buffer n most r in
      let es : List Entry = laid_there a buffer n most r in
      let former : ℕ = former_there a buffer n most r in
      let o : Open = open_in r.ran.stands in
      outcome_code
      ∙ ap (λ (d : Refusal). cond (eqb d.number 0) (goes_on es (base + length s) former o (drop from s) (length s - most.whole)) (stops es (base + r.ran.bytes) former d)) stop_long
      ∙ ap (λ (t : Bool). cond t (goes_on es (base + length s) former o (drop from s) (length s - most.whole)) (stops es (base + r.ran.bytes) former (stop_there a buffer n most r)))
      (ne_eqb (stop_there a buffer n most r).number 0 e)

  found_there : Found a buffer n most r
  found_there = record {
    inside = l.inside;
    from_in = omega (arith, m.from, l.long);
    many = m.many;
    end_in = omega (arith, m.end_in, l.long);
    bytes_in = omega (arith, m.bytes_in, l.long);
    fits = subst (λ (k : ℕ). StopFits r.ran.stands k base) l.long (m.agrees.fits base (omega (arith, l.small, l.long)));
    kept-in = from_in;
    none = λ e. sym stop_long ∙ (goes_there e).none;
    goes = goes_code;
    stays = stays_code;
  }

pub found : (a : Arrival) (buffer : List ℕ) (n : ℕ) → Fit a (length buffer) n → (most : Most) → most ≡ limit_of (take (a.kept + n) buffer) a.taken a.kept a.part
    → (r : Reached) → r ≡ come_of a.gap (take most.end buffer) a.kept most.whole → Found a buffer n most r
found a buffer n f most e r g =
    subst (Found a buffer n most) (sym g) (subst (λ (k : Most). Found a buffer n k (come_of a.gap (take k.end buffer) a.kept k.whole)) (sym e) (found_there a buffer n f))

-- what is kept begins within the bytes that were taken
pub kept_inside : (a : Arrival) (buffer : List ℕ) (n : ℕ) (most : Most) (r : Reached) → Found a buffer n most r → (d : Refusal) → d ≡ stop_there a buffer n most r → d.number ≡ 0
    → from_there a buffer n most r ≤ most.end
kept_inside a buffer n most r h d e zero = h.kept-in (ap (λ (x : Refusal). x.number) (sym e) ∙ zero)

-- ---- the answers

-- what a call answers, with the buffer and the tape behind it
abbrev pub Answers : Arrived → List ℕ → List ℕ → Told Outcome → List ℕ → List ℕ → Type 0
Answers x b t told buffer tape = (x ≡ arrived_of told) × (b ≡ kept_in told buffer) × (t ≡ laid_in told tape)

answers_by : (x : Arrived) (b t : List ℕ) (told other : Told Outcome) (buffer tape : List ℕ) → told ≡ other → Answers x b t other buffer tape → Answers x b t told buffer tape
answers_by x b t told other buffer tape e h = subst (λ (o : Told Outcome). Answers x b t o buffer tape) (sym e) h

module _ (a : Arrival) (buffer : List ℕ) (n : ℕ) (most : Most) (r : Reached) (h : Found a buffer n most r) (tape : List ℕ) where
  abbrev told : Told Outcome
  told = in_room (room_of (length tape)) (outcome_in a buffer n)

  laid_many : length (laid_there a buffer n most r) ≡ r.ran.count
  laid_many =
      length_moved (take r.ran.count (entries (read_from ron_token (take most.end buffer) r.from))) (a.taken - a.kept) a.former
      ∙ length-take-le r.ran.count (entries (read_from ron_token (take most.end buffer) r.from)) h.many

  all_many : length (outcome_in a buffer n).entries ≡ r.ran.count
  all_many =
      either (bool_cases (eqb (stop_there a buffer n most r).number 0))
      (λ e. ap (λ (o : Outcome). length o.entries) (h.goes (eqb-true (stop_there a buffer n most r).number 0 e)) ∙ laid_many)
      (λ e. ap (λ (o : Outcome). length o.entries) (h.stays (eqb-false (stop_there a buffer n most r).number 0 e)) ∙ laid_many)

  -- 22
  pub no-room : room_of (length tape) < r.ran.count → (d : Refusal) → d ≡ no_room → Answers (arrived.Refused d) buffer tape told buffer tape
  no-room l d e =
      answers_by (arrived.Refused d) buffer tape told (Err no_room) buffer tape
      (ap (λ (t : Bool). cond t (Err no_room) (Ok (outcome_in a buffer n))) (lt-ltb (room_of (length tape)) (length (outcome_in a buffer n).entries) (omega (arith, all_many))))
      (ap arrived.Refused e, refl, refl)

  roomy : r.ran.count ≤ room_of (length tape) → (o : Outcome) → outcome_in a buffer n ≡ o → told ≡ Ok o
  roomy l o e =
      ap (λ (t : Bool). cond t (Err no_room) (Ok (outcome_in a buffer n))) (le-ltb (room_of (length tape)) (length (outcome_in a buffer n).entries) (omega (arith, all_many)))
      ∙ ap Ok e

  module _ (fit : r.ran.count ≤ room_of (length tape)) (d : Refusal) (stop : d ≡ stop_there a buffer n most r) (former : ℕ) (ends : former ≡ former_there a buffer n most r)
      (t : List ℕ) (lay : t ≡ laid (laid_there a buffer n most r) tape) where
    -- a refusal behind the entries
    pub stopped_there : (d.number ≡ 0 → ⊥) → (next : Arrival) → next ≡ stopped_state (a.taken - a.kept + r.ran.bytes) former d → Answers (arrived.Stopped r.ran.count d next) buffer t told buffer tape
    stopped_there some next e =
        let not : (stop_there a buffer n most r).number ≡ 0 → ⊥ = λ q. some (ap (λ (x : Refusal). x.number) stop ∙ q) in
        let state : Arrival = stopped_state (a.taken - a.kept + r.ran.bytes) (former_there a buffer n most r) (stop_there a buffer n most r) in
        let is : next ≡ state = e ∙ ap₂ (stopped_state (a.taken - a.kept + r.ran.bytes)) ends stop in
        answers_by (arrived.Stopped r.ran.count d next) buffer t told (Ok (stopping_there a buffer n most r)) buffer tape (roomy fit (stopping_there a buffer n most r) (h.stays not)) (
          ap (λ (k : ℕ). arrived.Stopped k d next) (sym laid_many) ∙ ap₂ (arrived.Stopped (length (laid_there a buffer n most r))) stop is
              ∙ ap (λ (q : Bool). cond q (arrived.Given (length (laid_there a buffer n most r)) state) (arrived.Stopped (length (laid_there a buffer n most r)) (stop_there a buffer n most r) state))
              (sym (ne_eqb (stop_there a buffer n most r).number 0 not)),
          refl,
          lay,
        )

    -- the text goes on
    pub given_there : d.number ≡ 0 → (o : Open) → o ≡ open_in r.ran.stands → (from : ℕ) → from ≡ from_there a buffer n most r
        → (b : List ℕ) → b ≡ take (most.end - from) (drop from buffer) ++ drop (most.end - from) buffer
        → Answers (arrived.Given r.ran.count (record { taken = a.taken - a.kept + most.end; kept = most.end - from; part = most.end - most.whole; former = former; gap = o; refusal = d }))
        b t told buffer tape
    given_there zero o open_is from from_is b kept_is =
        let num : (stop_there a buffer n most r).number ≡ 0 = ap (λ (x : Refusal). x.number) (sym stop) ∙ zero in
        let low : from_there a buffer n most r ≤ most.end = h.kept-in num in
        let many : length (take (most.end - from_there a buffer n most r) (drop (from_there a buffer n most r) buffer)) ≡ most.end - from_there a buffer n most r =
        length-take-le (most.end - from_there a buffer n most r) (drop (from_there a buffer n most r) buffer) (omega (arith, h.inside, length-drop (from_there a buffer n most r) buffer)) in
        answers_by (arrived.Given r.ran.count (state from former o d)) b t told (Ok (going_there a buffer n most r)) buffer tape (roomy fit (going_there a buffer n most r) (h.goes num)) (
          ap (λ (k : ℕ). arrived.Given k (state from former o d)) (sym laid_many)
              ∙ ap (λ (k : ℕ). arrived.Given (length (laid_there a buffer n most r)) (state k former o d)) from_is
              ∙ ap (λ (k : ℕ). arrived.Given (length (laid_there a buffer n most r)) (state (from_there a buffer n most r) k o d)) ends
              ∙ ap₂ (λ (p : Open) (x : Refusal). arrived.Given (length (laid_there a buffer n most r)) (state (from_there a buffer n most r) (former_there a buffer n most r) p x)) open_is (stop ∙ h.none num),
          kept_is ∙ ap (λ (k : ℕ). take (most.end - k) (drop k buffer) ++ drop (most.end - k) buffer) from_is
              ∙ ap (λ (k : ℕ). take (most.end - from_there a buffer n most r) (drop (from_there a buffer n most r) buffer) ++ drop k buffer) (sym many),
          lay,
        )
      where
        state : ℕ → ℕ → Open → Refusal → Arrival
        state from former o d = record { taken = a.taken - a.kept + most.end; kept = most.end - from; part = most.end - most.whole; former = former; gap = o; refusal = d }

-- ---- the whole call

module _ (a : Arrival) (buffer : List ℕ) (n : ℕ) (tape : List ℕ) where
  abbrev room : ℕ
  room = room_of (length tape)

  abbrev whole : Told Outcome
  whole = piece_of a buffer n (room_of (length tape))

  -- 23
  pub not_ordered : (t : Bool) → t ≡ (in_order a && leb (a.kept + n) (length buffer)) → not t ≡ true → (d : Refusal) → d ≡ not_in_order → Answers (arrived.Refused d) buffer tape whole buffer tape
  unfolding piece_of
  not_ordered t e h d q =
      answers_by (arrived.Refused d) buffer tape whole (Err not_in_order) buffer tape
      (ap (λ (x : Bool). cond x (cond (eqb a.refusal.number 0 && ltb 0 n) (in_room room (outcome_in a buffer n)) (Ok (unchanged a (take a.kept buffer)))) (Err not_in_order))
      (sym e ∙ not-true t h))
      (ap arrived.Refused q, refl, refl)

  module _ (t : Bool) (e : t ≡ (in_order a && leb (a.kept + n) (length buffer))) (h : not t ≡ false) where
    both_true : (in_order a ≡ true) × (leb (a.kept + n) (length buffer) ≡ true)
    both_true = and_true (in_order a) (leb (a.kept + n) (length buffer)) (sym e ∙ not-false t h)

    -- by whether anything is read
    by_need : (b : Bool) → (eqb a.refusal.number 0 && ltb 0 n) ≡ b → whole ≡ cond b (in_room room (outcome_in a buffer n)) (Ok (unchanged a (take a.kept buffer)))
    unfolding piece_of
    by_need b q =
        ap (λ (x : Bool). cond x (cond (eqb a.refusal.number 0 && ltb 0 n) (in_room room (outcome_in a buffer n)) (Ok (unchanged a (take a.kept buffer)))) (Err not_in_order))
        (sym e ∙ not-false t h)
        ∙ ap (λ (x : Bool). cond x (in_room room (outcome_in a buffer n)) (Ok (unchanged a (take a.kept buffer)))) q

    -- what is kept stays
    stays_kept : buffer ≡ take a.kept buffer ++ drop (length (take a.kept buffer)) buffer
    stays_kept =
        let l = leb-true (a.kept + n) (length buffer) both_true.1 in
        sym (take-append-drop a.kept buffer)
        ∙ ap (λ (k : ℕ). take a.kept buffer ++ drop k buffer) (sym (length-take-le a.kept buffer (omega arith)))

    stays_laid : tape ≡ laid [] tape
    unfolding laid flat
    stays_laid = refl

    -- the state's own refusal
    pub state_refused : (a.refusal.number ≡ 0 → ⊥) → Answers (arrived.Stopped 0 a.refusal a) buffer tape whole buffer tape
    state_refused some =
        let z : eqb a.refusal.number 0 ≡ false = ne_eqb a.refusal.number 0 some in
        answers_by (arrived.Stopped 0 a.refusal a) buffer tape whole (Ok (unchanged a (take a.kept buffer))) buffer tape (by_need false (ap (λ (x : Bool). x && ltb 0 n) z))
        (ap (λ (x : Bool). cond x (arrived.Given 0 a) (arrived.Stopped 0 a.refusal a)) (sym z), stays_kept, stays_laid)

    -- an empty piece
    pub nothing_there : a.refusal.number ≡ 0 → n ≡ 0 → Answers (arrived.Given 0 a) buffer tape whole buffer tape
    nothing_there zero none =
        let z : eqb a.refusal.number 0 ≡ true = eq-eqb a.refusal.number 0 zero in
        answers_by (arrived.Given 0 a) buffer tape whole (Ok (unchanged a (take a.kept buffer))) buffer tape
        (by_need false (ap (λ (x : Bool). x && ltb 0 n) z ∙ ap (λ (k : ℕ). ltb 0 k) none))
        (ap (λ (x : Bool). cond x (arrived.Given 0 a) (arrived.Stopped 0 a.refusal a)) (sym z), stays_kept, stays_laid)

    -- a piece that is read
    pub fit_there : a.refusal.number ≡ 0 → (n ≡ 0 → ⊥) → Fit a (length buffer) n
    fit_there zero some = record {
      order = both_true.0;
      unrefused = eq-eqb a.refusal.number 0 zero;
      some = omega arith;
      there = leb-true (a.kept + n) (length buffer) both_true.1;
    }

    pub piece_there : a.refusal.number ≡ 0 → (n ≡ 0 → ⊥) → (x : Arrived) (b l : List ℕ) → Answers x b l (in_room (room_of (length tape)) (outcome_in a buffer n)) buffer tape → Answers x b l whole buffer tape
    piece_there zero some x b l q =
        answers_by x b l whole (in_room room (outcome_in a buffer n)) buffer tape
        (by_need true (ap (λ (y : Bool). y && ltb 0 n) (eq-eqb a.refusal.number 0 zero) ∙ lt-ltb 0 n (omega arith))) q
