-- The end by the calls is the end by the text: `finish-shows`. Assumes nothing.
use Rattle.std.proofs.Common.{Ok}
use Prim.Native.Nat.{ℕ, zero, suc, ◌+◌, ◌-◌, ◌≤◌}
use native.Mathlib.Omega.{arith}
use mathlib.Core.Bool.{true, false, cond}
use mathlib.Core.List.{List, [], ◌++◌, append-nil, map}
use mathlib.Core.Path.{◌≡◌, ap, ap₂, refl, subst, sym, ◌∙◌}
use lib.Dec.{eqb, leb}
use lib.ListN.{drop, length, length-append, take}
use lib.Seq.{drop-append-add, drop-length, take-append_seam, take-length}
use borrow.Author.Tests.{le-leb, le-ltb, lt-ltb, ne_eqb}
use Rattle.text.specs.Refusals.{eof, not_utf8, placed_behind, unclosed_block_comment}
use Rattle.text.specs.Utf8.{Text}
use Rattle.text.specs.declared.refusal.Refusal.{Refusal}
use Rattle.comments.specs.Gaps.{gap_of}
use Rattle.comments.specs.declared.gap.Gap.TheVariants as gap
use Rattle.rows.specs.declared.Entry.{Entry}
use Rattle.gaps.proofs.Canon.{Ways, kept_is, ways}
use Rattle.gaps.specs.Opens.{kept_of, open_of}
use Rattle.gaps.specs.Passes.{passed_of}
use Rattle.gaps.specs.declared.pass.Passed.{Passed}
use Rattle.gaps.specs.declared.state.Open.{Open}
use Rattle.gaps.specs.declared.state.Open.TheVariants.{Clear, Slash, Line, Block}
use Rattle.octets.proofs.Exactly.{text_all}
use Rattle.octets.specs.Octets.{allowed_of}
use Rattle.octets.specs.declared.answer.Allowed.{Allowed}
use Rattle.octets.specs.declared.answer.Allowed.TheVariants.{All}
use Rattle.given.proofs.Front.{number-in}
use Rattle.given.proofs.Readings.{Inner-reading, reading_inner}
use Rattle.given.proofs.Tokens.{ron_inner}
use Rattle.reading.proofs.Steps.{read_refuse, read_stop}
use Rattle.reading.specs.Kept.{AllThere}
use Rattle.reading.specs.Readings.{Reading, entries, read_part}
use Rattle.reading.specs.Readings.Reading.{broken, complete}
use Rattle.reading.specs.Tokens.Answer.{stop}
use Rattle.tokens.proofs.RonLaws.{gap_end}
use Rattle.tokens.specs.Ron.{by_gap, ron_token}
use Rattle.arriving.proofs.Fronts.{all_entries}
use Rattle.arriving.proofs.Fronts.{last_of as tail}
use Rattle.arriving.proofs.Meets.{ComingThere, ReadThere, ended_there}
use Rattle.arriving.specs.Arrivals.{Coming}
use Rattle.arriving.specs.Arrivals.Coming.{going}
use Rattle.settled.proofs.Owed.{ron}
use Rattle.settled.proofs.RonArrives.{ron_laws}
use Rattle.settled.specs.Bytes.{stops_byte}
use Rattle.settled.specs.Settled.{ron_reader}
use Rattle.pieces.proofs.RonAlike.{bar_moves, ron_alike_clear}
use Rattle.pieces.specs.Bars.{bar_of}
use Rattle.pieces.specs.Ends.{Rest, ending_of, ends_in, finish_of, fitting, last_of, placed_last, rest_by, rest_of}
use Rattle.pieces.specs.Orders.{in_order}
use Rattle.pieces.specs.Pieces.{gapped, moved_to}
use Rattle.pieces.specs.declared.state.Arrival.{Arrival}
use Rattle.arrived.specs.Ruled.{end_by, end_gives, rule_bar}
use Rattle.arrived.specs.Shown.{GoesOn, Shows, going_state, held_of, part_of, stopped_state, whole_of}
use Rattle.arrived.proofs.Came.{Passes, before, passes, rest_back, rest_long}
use Rattle.arrived.proofs.PieceLaws.{read_gapped}
use Rattle.arrived.proofs.PieceShows.{moved_gapped, placed_there}
use Rattle.arrived.proofs.States.{given_number, no_five, parts, shown_in_order}
use Rattle.arrived.proofs.Waiting.{Within, within_clear, within_odd}

-- ---- two readings at places that differ by the same

module _ (o n : ℕ) where
  read_entries : {r s : Reading} → ReadThere o n r s → AllThere o n (entries r) (entries s)
  unfolding entries
  read_entries ReadThere.completes = AllThere.none
  read_entries (ReadThere.breaks y x h) = AllThere.none
  read_entries (ReadThere.enters y x r s m h) = AllThere.more m (read_entries h)

-- how they end, where a refusal has its number
read_last : (base : ℕ) {r s : Reading} → ReadThere 0 base r s → Inner-reading s → placed_last base (last_of r) ≡ last_of s
unfolding last_of
read_last base ReadThere.completes k = refl
read_last base (ReadThere.breaks y x h) k =
    let n : eqb y.number 0 ≡ false = ne_eqb y.number 0 (λ z. omega (arith, (number-in 4 21 x k).0, h.number)) in
    rw n (placed_there base y x h)
read_last base (ReadThere.enters y x r s m h) k = read_last base h k

-- ---- what is kept where all characters have come whole

module _ (at : ℕ) (rest : List ℕ) (k : GoesOn at rest 0) where
  all_long : length rest - 0 ≡ length rest
  all_long = omega arith

  whole_rest : whole_of rest 0 ≡ rest
  whole_rest = ap (λ (n : ℕ). take n rest) all_long ∙ take-length rest

  part_none : part_of rest 0 ≡ []
  part_none = ap (λ (n : ℕ). drop n rest) all_long ∙ drop-length rest

  nothing : allowed_of (part_of rest 0 ++ []) ≡ All 0
  nothing = ap allowed_of (append-nil (part_of rest 0) ∙ part_none) ∙ text_all [] Text.none

  abbrev more : List ℕ
  more = whole_of (part_of rest 0 ++ []) 0

  more_none : whole_of (part_of rest 0 ++ []) 0 ≡ part_of rest 0
  more_none =
      ap (λ (t : List ℕ). whole_of (t ++ []) 0) part_none ∙ sym part_none

  now_rest : whole_of rest 0 ++ whole_of (part_of rest 0 ++ []) 0 ≡ rest
  now_rest = ap (λ (t : List ℕ). whole_of rest 0 ++ t) (more_none ∙ part_none) ∙ append-nil (whole_of rest 0) ∙ whole_rest

  abbrev base : ℕ
  base = at + before at rest 0 k

  -- where something begins
  begins_there : (g : ℕ) → gap_of rest ≡ gap.Clear g → before at rest 0 k ≤ g
      → ReadThere 0 (at + before at rest 0 k) (read_part ron_token (g - before at rest 0 k) (drop (g - before at rest 0 k) (held_of rest 0))) (read_part ron_token at rest)
  begins_there g e late =
      let b : ℕ = before at rest 0 k in
      let f : List ℕ = take b (whole_of rest 0) in
      let lf : length f ≡ b = omega (arith, rest_long at rest 0 k, ap length (rest_back at rest 0 k), length-append f (held_of rest 0)) in
      let j : g ≡ length f + (g - b) = omega arith in
      let same : drop g rest ≡ drop (g - b) (held_of rest 0) = ap₂ drop j (rest_back at rest 0 k) ∙ drop-append-add f (held_of rest 0) (g - b) in
      subst (λ (t : List ℕ). ReadThere 0 (at + b) (read_part ron_token (g - b) t) (read_part ron_token at rest)) same
      (ended_there ron_reader bar_of ron bar_moves 0 (at + b) (ComingThere.goes g (drop g rest) rest (g - b) at (ron_alike_clear rest g e) (omega arith)))

  -- a comment at the end
  open_there : (r : Refusal) (n : ℕ) → gap_of rest ≡ gap.Refused r → r.place ≡ length rest → kept_of rest ≡ [] → n ≡ length (held_of rest 0)
      → ReadThere 0 (at + before at rest 0 k) (broken (record { number = r.number; reason = r.reason; place = n })) (read_part ron_token at rest)
  unfolding ron_token
  open_there r n e p q m =
      let none : length (held_of rest 0) ≡ 0 = ap length (ap₂ (λ (s t : List ℕ). kept_of s ++ t) whole_rest part_none ∙ append-nil (kept_of rest) ∙ q) in
      let read : read_part ron_token at rest ≡ broken (placed_behind at r) = read_refuse ron_token stops_byte ron_laws at rest r (ap (by_gap rest) e) in
      rw read (ReadThere.breaks (record { number = r.number; reason = r.reason; place = n }) (placed_behind at r)
      (record { number = refl; reason = refl; place = omega (arith, rest_long at rest 0 k) }))

  stop_there : ron_token rest ≡ stop → ReadThere 0 (at + before at rest 0 k) complete (read_part ron_token at rest)
  stop_there e = rw (read_stop ron_token stops_byte ron_laws at rest e) ReadThere.completes

  within_there : Within rest → ReadThere 0 (at + before at rest 0 k) (ends_in (open_of rest) (length (held_of rest 0))) (read_part ron_token at rest)
  unfolding ron_token
  within_there w = by (ways rest)
    where
      to : (o : Open) → open_of rest ≡ o → ReadThere 0 (at + before at rest 0 k) (ends_in o (length (held_of rest 0))) (read_part ron_token at rest)
          → ReadThere 0 (at + before at rest 0 k) (ends_in (open_of rest) (length (held_of rest 0))) (read_part ron_token at rest)
      to o f h = subst (λ (x : Open). ReadThere 0 (at + before at rest 0 k) (ends_in x (length (held_of rest 0))) (read_part ron_token at rest)) (sym f) h

      by : Ways rest → ReadThere 0 (at + before at rest 0 k) (ends_in (open_of rest) (length (held_of rest 0))) (read_part ron_token at rest)
      by (Ways.clear g l e f) =
          let full : length rest ≤ g = omega (arith, within_clear rest g w e) in
          to Clear f (stop_there (ap (by_gap rest) e ∙ gap_end rest g full))
      by (Ways.ended e f) = to Slash f (open_there (eof (length rest)) (length (held_of rest 0)) e refl (kept_is rest (gap.Refused (eof (length rest))) e) refl)
      by (Ways.line e f) = to Line f (stop_there (ap (by_gap rest) e))
      by (Ways.block level last b e f) =
          to (Block level last) f (open_there (unclosed_block_comment (length rest)) (length (held_of rest 0)) e refl (kept_is rest (gap.Refused (unclosed_block_comment (length rest))) e) refl)
      by (Ways.odd p e f) = absurd (within_odd rest p w e)

  by_passes : {p : Passed} → Passes at rest 0 k [] 0 nothing p → ReadThere 0 (at + before at rest 0 k) (rest_by p (held_of rest 0)) (read_part ron_token at rest)
  by_passes (Passes.begins g e l late) = begins_there g (ap gap_of (sym now_rest) ∙ e) late
  by_passes (Passes.waits w) =
      subst (λ (t : List ℕ). ReadThere 0 (at + before at rest 0 k) (ends_in (open_of t) (length (held_of rest 0))) (read_part ron_token at rest)) (sym now_rest)
      (within_there (subst Within now_rest w))
  by_passes (Passes.odd p e) = absurd (no_five rest 0 p (parts at rest 0 k) k.calm (ap gap_of (whole_rest ∙ sym now_rest) ∙ e))

  -- the reading of what is kept is the reading of what has come
  rest_there : ReadThere 0 (at + before at rest 0 k) (rest_of (open_of (whole_of rest 0)) (held_of rest 0)) (read_part ron_token at rest)
  unfolding rest_of
  rest_there =
      subst (λ (t : List ℕ). ReadThere 0 (at + before at rest 0 k) (rest_by (passed_of (open_of (whole_of rest 0)) (kept_of (whole_of rest 0) ++ t)) (held_of rest 0)) (read_part ron_token at rest)) more_none
      (by_passes (passes at rest 0 k [] 0 nothing))

-- ---- the end

-- what a reading gives: its entries, and its refusal behind them
abbrev pub rest_given : Reading → Rest
rest_given r = record { entries = entries r; refusal = last_of r }

whole_ending : (at : ℕ) (rest : List ℕ) (k : GoesOn at rest 0) → ending_of (going_state at rest 0) (held_of rest 0) ≡ rest_given (read_part ron_token at rest)
unfolding ending_of
whole_ending at rest k =
    let b : at + length rest - length (held_of rest 0) ≡ at + before at rest 0 k = omega (arith, rest_long at rest 0 k) in
    let r : Reading = rest_of (open_of (whole_of rest 0)) (held_of rest 0) in
    let t : Reading = read_part ron_token at rest in
    let there = rest_there at rest k in
    let es : gapped at (map (moved_to (at + length rest - length (held_of rest 0))) (entries r)) ≡ entries t =
    ap (λ (n : ℕ). gapped at (map (moved_to n) (entries r))) b
    ∙ moved_gapped (at + before at rest 0 k) (entries r) (entries t) at (read_entries 0 (at + before at rest 0 k) there)
    ∙ read_gapped ron_reader rule_bar ron (entries t) at rest (tail t) (all_entries t) in
    let d : placed_last (at + length rest - length (held_of rest 0)) (last_of r) ≡ last_of t =
    ap (λ (n : ℕ). placed_last n (last_of r)) b ∙ read_last (at + before at rest 0 k) there (reading_inner ron_token ron_inner at rest) in
    ap₂ (λ (fs : List Entry) (c : Refusal). record { entries = fs; refusal = c }) es d

-- 2, where a character is cut off
part_ending : (at : ℕ) (rest : List ℕ) (m : ℕ) → suc m ≤ length rest → ending_of (going_state at rest (suc m)) (held_of rest (suc m)) ≡ rest_given (broken (not_utf8 (at + (length rest - suc m))))
unfolding ending_of entries last_of
part_ending at rest m l =
    let p : at + length rest - suc m ≡ at + (length rest - suc m) = omega arith in
    rw (lt-ltb 0 (suc m) (omega arith)) (ap (λ (n : ℕ). record { entries = []; refusal = not_utf8 n }) p)

ending_is : (at : ℕ) (rest : List ℕ) (part : ℕ) → GoesOn at rest part → ending_of (going_state at rest part) (held_of rest part) ≡ rest_given (end_gives (going at rest))
ending_is at rest zero k = whole_ending at rest k ∙ ap (λ (a : Allowed). rest_given (end_by a at rest)) (sym k.utf8)
ending_is at rest (suc m) k = part_ending at rest m (parts at rest (suc m) k).few ∙ ap (λ (a : Allowed). rest_given (end_by a at rest)) (sym k.utf8)

pub finish_is : (a : Arrival) (kept junk : List ℕ) (room : ℕ) → a.kept ≡ length kept → in_order a ≡ true
    → finish_of a (kept ++ junk) room ≡ cond (eqb a.refusal.number 0) (fitting room (ending_of a kept)) (Ok (record { entries = []; refusal = a.refusal }))
unfolding finish_of
finish_is a kept junk room n h =
    let s : List ℕ = kept ++ junk in
    let one : take a.kept s ≡ kept = ap (λ (j : ℕ). take j s) n ∙ take-append_seam kept junk in
    let fits : leb a.kept (length s) ≡ true = le-leb a.kept (length s) (omega (arith, length-append kept junk)) in
    rw (h, fits) (ap (λ (x : List ℕ). cond (eqb a.refusal.number 0) (fitting room (ending_of a x)) (Ok (record { entries = []; refusal = a.refusal }))) one)

stopped_end : (n former : ℕ) (d : Refusal) (junk : List ℕ) (room : ℕ) → in_order (stopped_state n former d) ≡ true → eqb d.number 0 ≡ false
    → finish_of (stopped_state n former d) ([] ++ junk) room ≡ fitting room (rest_given (broken d))
unfolding entries last_of
stopped_end n former d junk room h e =
    finish_is (stopped_state n former d) [] junk room refl h ∙ rw (e, le-ltb room 0 (omega arith))

-- document 02: the end gives the rest of the reading, or that a character is cut off; 22 where its entries don't fit
pub finish_shows : {c : Coming} {t : ℕ} {a : Arrival} {kept : List ℕ} → Shows c t a kept → (junk : List ℕ) (room : ℕ)
    → finish_of a (kept ++ junk) room ≡ fitting room (rest_given (end_gives c))
finish_shows (Shows.shows_going at rest part k) junk room =
    finish_is (going_state at rest part) (held_of rest part) junk room refl (shown_in_order (Shows.shows_going at rest part k)) ∙ ap (fitting room) (ending_is at rest part k)
finish_shows (Shows.shows_shut n former d k) junk room = stopped_end n former d junk room (shown_in_order (Shows.shows_shut n former d k)) (given_number d n k.given)
finish_shows (Shows.shows_halted n former d k) junk room = stopped_end n former d junk room (shown_in_order (Shows.shows_halted n former d k)) (given_number d n k.given)
