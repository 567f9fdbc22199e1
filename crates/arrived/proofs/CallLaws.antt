-- However a text is cut: what the calls give together, and the state behind them (`calls-show`, `calls-cut`); the only refusal of a call is 22 (`only-no-room`); a refusal
-- that was given comes again (`refusal-again`, `refusal-at-the-end`). Assumes nothing.
use Rattle.std.proofs.Common.{Ok, Err}
use Prim.Native.Nat.{ℕ, ◌+◌, ◌≤◌}
use native.Mathlib.Nat.{add-zero}
use native.Mathlib.Omega.{arith}
use mathlib.Core.Bool.{Bool, true, false, cond}
use mathlib.Core.List.{List, [], ◌++◌}
use mathlib.Core.Path.{◌≡◌, ap, ap₂, refl, subst, sym, ◌∙◌}
use lib.Dec.{eqb, ltb}
use lib.ListN.{length}
use Rattle.text.specs.Refusals.{Told, no_room}
use Rattle.text.specs.declared.refusal.Refusal.{Refusal}
use Rattle.rows.specs.declared.Entry.{Entry}
use Rattle.octets.specs.Octets.{allowed_of}
use Rattle.reading.specs.Readings.{end_of, entries}
use Rattle.arriving.proofs.Whole.{cut}
use Rattle.arriving.specs.Arrivals.{Coming, Given, joined, piece}
use Rattle.arriving.specs.Arrivals.Coming.{going, halted, shut}
use Rattle.settled.specs.Settled.{ron_reader}
use Rattle.pieces.specs.Bars.{most_held}
use Rattle.pieces.specs.Ends.{Rest, finish_of}
use Rattle.pieces.specs.Orders.{in_order}
use Rattle.pieces.specs.Pieces.{Outcome, cut_off, in_room, piece_of, unchanged}
use Rattle.pieces.specs.declared.state.Arrival.{Arrival}
use Rattle.arrived.specs.Calls.{Calls, FromBegin}
use Rattle.arrived.specs.Ruled.{end_gives, rule_bar, text_gives}
use Rattle.arrived.specs.Shown.{Shows, going_state, held_of, stopped_state}
use Rattle.arrived.proofs.PieceLaws.{end_append}
use Rattle.arrived.proofs.FinishShows.{finish_is, finish_shows, rest_given}
use Rattle.arrived.proofs.PieceShows.{Answers, call_is, called}
use Rattle.arrived.proofs.States.{begun_shows, shown_in_order, shown_kept}

-- ---- one call

-- an accepted call is its outcome
room_accepted : (room : ℕ) (o q : Outcome) → in_room room o ≡ Ok q → o ≡ q
room_accepted room o q = go (ltb room (length o.entries))
  where
    go : (t : Bool) → ◌≡◌ {A = Told Outcome} (cond t (Err no_room) (Ok o)) (Ok q) → o ≡ q
    go true e = let z : ◌≡◌ {A = ℕ} 0 1 = cc in absurd (omega arith)
    go false e = cc

room_refused : (room : ℕ) (o : Outcome) (d : Refusal) → in_room room o ≡ Err d → d ≡ no_room
room_refused room o d = go (ltb room (length o.entries))
  where
    go : (t : Bool) → ◌≡◌ {A = Told Outcome} (cond t (Err no_room) (Ok o)) (Err d) → d ≡ no_room
    go true e = let z : no_room ≡ d = cc in sym z
    go false e = let z : ◌≡◌ {A = ℕ} 0 1 = cc in absurd (omega arith)

module _ {c : Coming} {t : ℕ} {a : Arrival} {kept : List ℕ} (s : Shows c t a kept) (w junk : List ℕ) (room : ℕ) where
  pub call_answers : (o : Outcome) → piece_of a (kept ++ (w ++ junk)) (length w) room ≡ Ok o → Answers (piece ron_reader rule_bar c w) t a.former o
  call_answers o e =
      let k = called s w junk room in
      subst (Answers (piece ron_reader rule_bar c w) t a.former) (room_accepted room k.outcome o (sym k.is ∙ e)) k.answers

  -- document 02: 23 "never for [a state] that these calls made": a call over one is refused with 22, or not at all
  pub only_no_room : (d : Refusal) → piece_of a (kept ++ (w ++ junk)) (length w) room ≡ Err d → d ≡ no_room
  only_no_room d e = let k = called s w junk room in room_refused room k.outcome d (sym k.is ∙ e)

-- nor is the end
pub end_no_room : {c : Coming} {t : ℕ} {a : Arrival} {kept : List ℕ} → Shows c t a kept → (junk : List ℕ) (room : ℕ) (d : Refusal) → finish_of a (kept ++ junk) room ≡ Err d → d ≡ no_room
end_no_room {c} s junk room d e = go (ltb room (length (entries (end_gives c)))) (sym (finish_shows s junk room) ∙ e)
  where
    go : (t : Bool) → ◌≡◌ {A = Told Rest} (cond t (Err no_room) (Ok (rest_given (end_gives c)))) (Err d) → d ≡ no_room
    go true h = let z : no_room ≡ d = cc in sym z
    go false h = let z : ◌≡◌ {A = ℕ} 0 1 = cc in absurd (omega arith)

-- ---- calls

-- what they give together, and the state behind them, beside the text
pub record Gave (c : Coming) (t f : ℕ) (text : List ℕ) (es : List Entry) (b : Arrival) (left : List ℕ) : Type 0 where
  pub entries_are : es ≡ (piece ron_reader rule_bar c text).entries
  pub shows : Shows (piece ron_reader rule_bar c text).next (t + (piece ron_reader rule_bar c text).bytes) b left
  pub former_is : b.former ≡ end_of f es

pub calls_show : {a : Arrival} {kept : List ℕ} {ps : List (List ℕ)} {es : List Entry} {b : Arrival} {left : List ℕ} → Calls a kept ps es b left → {c : Coming} {t : ℕ} → Shows c t a kept
    → Gave c t a.former (joined ps) es b left
unfolding joined piece end_of
calls_show (Calls.none {a} {kept}) {c} {t} s = record { entries_are = refl; shows = subst (λ (n : ℕ). Shows c n a kept) (sym (add-zero t)) s; former_is = refl }
calls_show (Calls.refuses w junk room d e k) s = calls_show k s
calls_show (Calls.gives {a} {kept} w junk room o {ps} {es} {b} {left} e k) {c} {t} s =
    let h = call_answers s w junk room o e in
    let g : Given = piece ron_reader rule_bar c w in
    let n : Given = piece ron_reader rule_bar g.next (joined ps) in
    let r = calls_show k h.shows in
    let all : piece ron_reader rule_bar c (w ++ joined ps) ≡ record { entries = g.entries ++ n.entries; next = n.next; bytes = g.bytes + n.bytes } = cut ron_reader rule_bar w (joined ps) c in
    let sum : t + g.bytes + n.bytes ≡ t + (g.bytes + n.bytes) = omega arith in
    record {
      entries_are = ap₂ {C = List Entry} (λ (x z : List Entry). x ++ z) h.entries_are r.entries_are ∙ sym (ap (λ (x : Given). x.entries) all);
      shows = subst (λ (x : Given). Shows x.next (t + x.bytes) b left) (sym all) (subst (λ (m : ℕ). Shows n.next m b left) sum r.shows);
      former_is = r.former_is ∙ ap (λ (m : ℕ). end_of m es) (h.former_is ∙ ap (end_of a.former) (sym h.entries_are)) ∙ sym (end_append o.entries es a.former);
    }

-- from the beginning of a text
pub begun_calls : {ps : List (List ℕ)} {es : List Entry} {a : Arrival} {kept : List ℕ} → FromBegin ps es a kept → Gave (going 0 []) 0 0 (joined ps) es a kept
begun_calls k = calls_show k begun_shows

-- ---- an arrival has one state

-- the state by the arrival, behind n bytes, the last entry having ended at f
abbrev state_by : Coming → ℕ → ℕ → Arrival
state_by (going at rest) n f = going_state at rest (cut_off (allowed_of rest))
state_by (shut d) n f = stopped_state n f d
state_by (halted d) n f = stopped_state n f d

-- and what is kept
abbrev kept_by : Coming → List ℕ
kept_by (going at rest) = held_of rest (cut_off (allowed_of rest))
kept_by (shut d) = []
kept_by (halted d) = []

shown_is : {c : Coming} {t : ℕ} {a : Arrival} {k : List ℕ} → Shows c t a k → (a ≡ state_by c t a.former) × (k ≡ kept_by c)
shown_is (Shows.shows_going at rest part g) =
    let e : part ≡ cut_off (allowed_of rest) = sym (ap cut_off g.utf8) in
    (ap (going_state at rest) e, ap (held_of rest) e)
shown_is (Shows.shows_shut n former d g) = (refl, refl)
shown_is (Shows.shows_halted n former d g) = (refl, refl)

-- document 02: "However the text is cut": the same entries, and behind them the same state with the same bytes kept
pub calls_cut : {ps qs : List (List ℕ)} {es fs : List Entry} {a b : Arrival} {k l : List ℕ} → FromBegin ps es a k → FromBegin qs fs b l → joined ps ≡ joined qs → (es ≡ fs) × (a ≡ b) × (k ≡ l)
calls_cut {ps} {qs} {es} {fs} {a} {b} {k} {l} x y e =
    let g = begun_calls x in
    let h = begun_calls y in
    let same : es ≡ fs = g.entries_are ∙ ap (λ (t : List ℕ). (text_gives t).entries) e ∙ sym h.entries_are in
    let s = shown_is g.shows in
    let r = shown_is (subst (λ (t : List ℕ). Shows (text_gives t).next (0 + (text_gives t).bytes) b l) (sym e) h.shows) in
    let f : a.former ≡ b.former = g.former_is ∙ ap (end_of 0) same ∙ sym h.former_is in
    (same, s.0 ∙ ap (state_by (text_gives (joined ps)).next (0 + (text_gives (joined ps)).bytes)) f ∙ sym r.0, s.1 ∙ sym r.1)

-- never more bytes are kept than may be held, and the state says how many
pub calls_kept : {ps : List (List ℕ)} {es : List Entry} {a : Arrival} {kept : List ℕ} → FromBegin ps es a kept → (a.kept ≡ length kept) × (length kept ≤ most_held)
calls_kept k = shown_kept (begun_calls k).shows

-- and it is in order
pub calls_in_order : {ps : List (List ℕ)} {es : List Entry} {a : Arrival} {kept : List ℕ} → FromBegin ps es a kept → in_order a ≡ true
calls_in_order k = shown_in_order (begun_calls k).shows

-- ---- a refusal that was given

module _ {c : Coming} {t : ℕ} {a : Arrival} {kept : List ℕ} (s : Shows c t a kept) (given : eqb a.refusal.number 0 ≡ false) where
  -- document 02: "After a refusal every later piece gets the same one"
  pub refusal_again : (w junk : List ℕ) (room : ℕ) → piece_of a (kept ++ (w ++ junk)) (length w) room ≡ Ok (unchanged a kept)
  refusal_again w junk room = call_is a kept w junk room (shown_kept s).0 (shown_in_order s) ∙ rw given

  pub refusal_at_the_end : (junk : List ℕ) (room : ℕ) → finish_of a (kept ++ junk) room ≡ Ok (record { entries = []; refusal = a.refusal })
  refusal_at_the_end junk room = finish_is a kept junk room (shown_kept s).0 (shown_in_order s) ∙ rw given
