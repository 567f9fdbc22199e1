-- What the calls give against one reading of the whole text. Document 02: "However the text is cut, the entries (of a refused text, those before the refusal) and the
-- last answer are those of one reading with room enough, with three exceptions".
--     calls-read       over a sound text, unless 30 was given: entries and last answer are those of one reading
--     only-30          over a sound text no byte is left but for 30
--     calls-front      in any case: the entries given are the front of the reading of what was taken, whatever follows it
--     calls-unsealed   no entry is given late
--     calls-sealed     nor too early
-- Assumes nothing.
use Rattle.std.proofs.Common.{Ok, Err, Some, None, Option}
use Prim.Native.Nat.{ℕ, ◌+◌, ◌-◌, ◌<◌, ◌≤◌}
use native.Mathlib.Nat.{add-zero, zero-add}
use native.Mathlib.Omega.{arith}
use mathlib.Core.Bool.{Bool, true, false, cond}
use mathlib.Core.List.{List, [], ◌++◌, ◌∷◌, append-nil}
use mathlib.Core.Logic.{◌⊎◌, inl, inr}
use mathlib.Core.Path.{◌≡◌, ap, ap₂, refl, subst, sym, ◌∙◌}
use lib.Dec.{eqb, ltb}
use lib.ListN.{drop, length, take}
use lib.Seq.{take-append_seam, take-length}
use borrow.Author.Tests.{eqb-false, le-leb, lt-leb}
use Rattle.text.proofs.Choices.{bool_cases, either}
use Rattle.text.proofs.JudgeLaws.{fit_short}
use Rattle.text.specs.Judged.{by_utf8, judged_of}
use Rattle.text.specs.Refusals.{Told, entry_too_long, no_room, not_utf8, placed_behind, too_long}
use Rattle.text.specs.Utf8.{utf8_of}
use Rattle.text.specs.declared.refusal.Refusal.{Refusal}
use Rattle.rows.specs.declared.Entry.{Entry}
use Rattle.octets.proofs.Cutting.{all_good}
use Rattle.octets.specs.Octets.{allowed_of}
use Rattle.octets.specs.declared.answer.Allowed.{Allowed}
use Rattle.octets.specs.declared.answer.Allowed.TheVariants.{All, Bad}
use Rattle.reading.specs.Readings.{Reading, end_of, entries, read_part, ◌▸◌}
use Rattle.reading.specs.Readings.Reading.{broken, entry}
use Rattle.tokens.specs.Ron.{ron_token}
use Rattle.read.specs.Read.{reading_of}
use Rattle.arriving.proofs.Fronts.{entries_front}
use Rattle.arriving.proofs.Ruled.{rest_unsealed}
use Rattle.arriving.proofs.Sealed.{LastIs, NotShut, Sealed, given_sealed}
use Rattle.arriving.proofs.Whole.{Taken, both, cut, front, one_reading}
use Rattle.arriving.specs.Arrivals.{Coming, Given, Passing, by_passing, ended, joined, piece, taken}
use Rattle.arriving.specs.Arrivals.Passing.{halt, pass}
use Rattle.arriving.specs.Arrivals.Coming.{going, halted, shut}
use Rattle.arriving.specs.Rule.{sealed_in}
use Rattle.settled.proofs.Owed.{ron}
use Rattle.settled.specs.Settled.{ron_reader}
use Rattle.comments.specs.Gaps.{gap_of}
use Rattle.comments.specs.declared.gap.Gap.{Gap}
use Rattle.comments.specs.declared.gap.Gap.TheVariants as gap
use Rattle.pieces.specs.Bars.{bar_by, bar_of, most_held}
use Rattle.pieces.specs.Ends.{Rest, finish_of, fitting, last_of}
use Rattle.pieces.specs.Orders.{most_taken}
use Rattle.pieces.specs.Pieces.{no_refusal}
use Rattle.pieces.specs.declared.state.Arrival.{Arrival}
use Rattle.arrived.specs.Calls.{FromBegin}
use Rattle.arrived.specs.Ruled.{Barred, end_by, end_gives, first_bar, rule_bar, size_bar, text_ends, text_gives}
use Rattle.arrived.specs.Shown.{Shows}
use Rattle.arrived.proofs.Bounds.{entries_keep}
use Rattle.arrived.proofs.CallLaws.{begun_calls}
use Rattle.arrived.proofs.FinishShows.{finish_shows, rest_given}
use Rattle.arrived.proofs.Halting.{halts_at, halts_why}
use Rattle.arrived.proofs.PieceLaws.{Stepped, halted_piece, left_by, piece_none, piece_rest, piece_step, shut_piece, step_view, then}
use Rattle.arrived.proofs.States.{given_number}

-- ---- a sound text

pub fit_utf8 : (text : List ℕ) → judged_of text ≡ Ok tt → allowed_of text ≡ All 0
unfolding judged_of
fit_utf8 text h =
    either (bool_cases (ltb 65536 (length text)))
    (λ t. let q : ◌≡◌ {A = Told Unit} (Err too_long) (Ok tt) = rw t at h in let z : ◌≡◌ {A = ℕ} 0 1 = cc in absurd (omega arith))
    (λ t. let q : by_utf8 (utf8_of text) ≡ Ok tt = rw t at h in (all_good text).1 (by (utf8_of text) q))
  where
    by : (a : Option ℕ) → by_utf8 a ≡ Ok tt → a ≡ None
    by None e = refl
    by (Some p) e = let z : ◌≡◌ {A = ℕ} 0 1 = cc in absurd (omega arith)

-- over a sound text no byte is left but for 30
pub only_30 : (text : List ℕ) (d : Refusal) → judged_of text ≡ Ok tt → (text_gives text).next ≡ halted d → d.number ≡ 30
only_30 text d h e = let w = halts_why text d e in by w.0 w.1
  where
    by : {n : ℕ} {c : Refusal} → Barred text n c → n < length text → c.number ≡ 30
    by (Barred.long_entry at g rest s q m) l = refl
    by (Barred.long_text m) l = absurd (omega (arith, fit_short text h))
    by {n} (Barred.bad_utf8 p q) l = let c : All 0 ≡ Bad n p = sym (fit_utf8 text h) ∙ q in let z : ◌≡◌ {A = ℕ} 0 1 = cc in absurd (omega arith)

-- ---- the end of a text whose characters have come whole

whole_end : (text : List ℕ) (c : Coming) → (text_gives text).next ≡ c → allowed_of text ≡ All 0 → end_gives c ≡ ended ron_reader c
whole_end text (shut d) e h = refl
whole_end text (halted d) e h = refl
whole_end text (going at rest) e h =
    let l = piece_rest ron_reader rule_bar ron text [] 0 at rest e in
    let read = front ron_reader ron rule_bar text [] (going 0 []) at rest e in
    let er : allowed_of rest ≡ All 0 =
    ap allowed_of (l.rest_is ∙ ap₂ (λ (m : ℕ) (t : List ℕ). drop (m - 0) t) l.end_is (sym (append-nil text)))
    ∙ entries_keep (text_gives text).entries 0 (text ++ []) (read_part ron_token at (rest ++ [])) read 0 (ap allowed_of (append-nil text) ∙ h) in
    ap (λ (a : Allowed). end_by a at rest) er

-- all that the bytes of a sound text and its end give is its reading
pub text_reading : (text : List ℕ) → Taken (text_gives text).next → allowed_of text ≡ All 0 → (text_gives text).entries ▸ text_ends text ≡ reading_of text
text_reading text t h =
    ap (λ (r : Reading). (text_gives text).entries ▸ r) (whole_end text (text_gives text).next refl h) ∙ one_reading ron_reader ron rule_bar text (going 0 []) t

-- ---- the calls

last_front : (es : List Entry) (r : Reading) → last_of (es ▸ r) ≡ last_of r
unfolding last_of
last_front [] r = refl
last_front (e ∷ es) r = last_front es r

pub fitting_accepted : (room : ℕ) (e q : Rest) → fitting room e ≡ Ok q → e ≡ q
fitting_accepted room e q = go (ltb room (length e.entries))
  where
    go : (t : Bool) → ◌≡◌ {A = Told Rest} (cond t (Err no_room) (Ok e)) (Ok q) → e ≡ q
    go true h = let z : ◌≡◌ {A = ℕ} 0 1 = cc in absurd (omega arith)
    go false h = cc

-- the refusal of the state is that of the arrival
pub shown_refusal : {t : ℕ} {a : Arrival} {kept : List ℕ} (c : Coming) (d : Refusal) → Shows c t a kept → c ≡ halted d → a.refusal ≡ d
shown_refusal c d (Shows.shows_going at rest part k) e = let z : ◌≡◌ {A = ℕ} 0 1 = cc in absurd (omega arith)
shown_refusal c d (Shows.shows_shut n former x k) e = let z : ◌≡◌ {A = ℕ} 0 1 = cc in absurd (omega arith)
shown_refusal c d (Shows.shows_halted n former x k) e = cc

pub shut_refusal : {t : ℕ} {a : Arrival} {kept : List ℕ} (c : Coming) (d : Refusal) → Shows c t a kept → c ≡ shut d → a.refusal ≡ d
shut_refusal c d (Shows.shows_going at rest part k) e = let z : ◌≡◌ {A = ℕ} 0 1 = cc in absurd (omega arith)
shut_refusal c d (Shows.shows_shut n former x k) e = cc
shut_refusal c d (Shows.shows_halted n former x k) e = let z : ◌≡◌ {A = ℕ} 0 1 = cc in absurd (omega arith)

going_none : {t : ℕ} {a : Arrival} {kept : List ℕ} (c : Coming) (at : ℕ) (rest : List ℕ) → Shows c t a kept → c ≡ going at rest → a.refusal ≡ no_refusal
going_none c to r (Shows.shows_going at rest part k) e = refl
going_none c to r (Shows.shows_shut n former x k) e = let z : ◌≡◌ {A = ℕ} 0 1 = cc in absurd (omega arith)
going_none c to r (Shows.shows_halted n former x k) e = let z : ◌≡◌ {A = ℕ} 0 1 = cc in absurd (omega arith)

taken_all : (c : Coming) → ((d : Refusal) → c ≡ halted d → ⊥) → Taken c
taken_all (going at rest) h = tt
taken_all (shut d) h = tt
taken_all (halted d) h = h d refl

module _ {ps : List (List ℕ)} {es : List Entry} {a : Arrival} {kept : List ℕ} (k : FromBegin ps es a kept) where
  -- document 02: "However the text is cut, the entries .. and the last answer are those of one reading"
  pub calls_read : judged_of (joined ps) ≡ Ok tt → (a.refusal.number ≡ 30 → ⊥) → (junk : List ℕ) (room : ℕ) (e : Rest) → finish_of a (kept ++ junk) room ≡ Ok e
      → (es ++ e.entries ≡ entries (reading_of (joined ps))) × (e.refusal ≡ last_of (reading_of (joined ps)))
  calls_read fit no-30 junk room e h =
      let text : List ℕ = joined ps in
      let g = begun_calls k in
      let end : e ≡ rest_given (text_ends text) = sym (fitting_accepted room (rest_given (text_ends text)) e (sym (finish_shows g.shows junk room) ∙ h)) in
      let all : Taken (text_gives text).next =
      taken_all (text_gives text).next
      (λ d q. no-30 (ap (λ (x : Refusal). x.number) (shown_refusal (text_gives text).next d g.shows q) ∙ only_30 text d fit q)) in
      let read = text_reading text all (fit_utf8 text fit) in (
        ap₂ {C = List Entry} (λ (x z : List Entry). x ++ z) g.entries_are (ap (λ (r : Rest). r.entries) end) ∙ sym (entries_front (text_gives text).entries (text_ends text)) ∙ ap entries read,
        ap (λ (r : Rest). r.refusal) end ∙ sym (last_front (text_gives text).entries (text_ends text)) ∙ ap last_of read,
      )

-- ---- what was taken

-- the bytes up to a refusal of the reading, with the byte that gave it
record Shuts (at : ℕ) (x w : List ℕ) (d : Refusal) : Type 0 where
  before : List ℕ
  back : List ℕ
  is : w ≡ before ++ back
  shuts : (piece ron_reader rule_bar (going at x) before).next ≡ shut d
  entries_same : (piece ron_reader rule_bar (going at x) w).entries ≡ (piece ron_reader rule_bar (going at x) before).entries
  bytes_are : (piece ron_reader rule_bar (going at x) w).bytes ≡ length before

shuts_at : (w x : List ℕ) (at : ℕ) (d : Refusal) → (piece ron_reader rule_bar (going at x) w).next ≡ shut d → Shuts at x w d
shuts_at [] x at d e =
    let z : going at x ≡ shut d = ap (λ (g : Given). g.next) (sym (piece_none ron_reader rule_bar (going at x))) ∙ e in
    let k : ◌≡◌ {A = ℕ} 0 1 = cc in absurd (omega arith)
shuts_at (b ∷ w) x at d e = go (step_view ron_reader rule_bar ron at x b) (λ z. piece_step ron_reader rule_bar (going at x) b z) (λ y a h. shuts_at w y a d h)
  where
    go : {g : Given} → Stepped ron_reader rule_bar at x b g → ((z : List ℕ) → piece ron_reader rule_bar (going at x) (b ∷ z) ≡ then ron_reader rule_bar g z)
        → ((y : List ℕ) (a : ℕ) → (piece ron_reader rule_bar (going a y) w).next ≡ shut d → Shuts a y w d) → Shuts at x (b ∷ w) d
    go (Stepped.halts c p) f ih =
        let z : halted c ≡ shut d = sym (ap (λ (g : Given). g.next) (f w) ∙ ap (λ (g : Given). g.next) (halted_piece ron_reader rule_bar w c)) ∙ e in
        let k : ◌≡◌ {A = ℕ} 0 1 = cc in absurd (omega arith)
    go (Stepped.shuts es c p q r) f ih =
        let c' : Refusal = placed_behind (end_of at es) c in
        let one : (z : List ℕ) → piece ron_reader rule_bar (going at x) (b ∷ z) ≡ record { entries = es ++ []; next = shut c'; bytes = 1 } =
        λ z. f z ∙ ap (λ (g : Given). record { entries = es ++ g.entries; next = g.next; bytes = 1 + g.bytes }) (shut_piece ron_reader rule_bar z c') in
        let z : shut c' ≡ shut d = sym (ap (λ (g : Given). g.next) (one w)) ∙ e in
        record {
          before = b ∷ [];
          back = w;
          is = refl;
          shuts = ap (λ (g : Given). g.next) (one []) ∙ z;
          entries_same = ap (λ (g : Given). g.entries) (one w) ∙ sym (ap (λ (g : Given). g.entries) (one []));
          bytes_are = ap (λ (g : Given). g.bytes) (one w);
        }
    go (Stepped.goes es p q c) f ih =
        let y : List ℕ = left_by ron_reader rule_bar at x b es in
        let h = ih y (end_of at es) (sym (ap (λ (g : Given). g.next) (f w)) ∙ e) in
        record {
          before = b ∷ h.before;
          back = h.back;
          is = ap {B = List ℕ} (λ (t : List ℕ). b ∷ t) h.is;
          shuts = ap (λ (g : Given). g.next) (f h.before) ∙ h.shuts;
          entries_same = ap (λ (g : Given). g.entries) (f w) ∙ ap (λ (fs : List Entry). es ++ fs) h.entries_same ∙ sym (ap (λ (g : Given). g.entries) (f h.before));
          bytes_are = ap (λ (g : Given). g.bytes) (f w) ∙ ap (λ (n : ℕ). 1 + n) h.bytes_are ∙ omega arith;
        }

-- what a text gave whose reading was refused is the reading of what was taken, whatever follows
pub shut_front : (text v : List ℕ) (d : Refusal) → (text_gives text).next ≡ shut d → read_part ron_token 0 (take (text_gives text).bytes text ++ v) ≡ (text_gives text).entries ▸ broken d
shut_front text v d e =
    let h = shuts_at text [] 0 d e in
    let u : List ℕ = h.before in
    let g : Given = text_gives u in
    let same : take (text_gives text).bytes text ≡ u = ap₂ take h.bytes_are h.is ∙ take-append_seam u h.back in
    let on : text_gives (u ++ v) ≡ record { entries = g.entries ++ []; next = shut d; bytes = g.bytes + 0 } =
    cut ron_reader rule_bar u v (going 0 []) ∙ ap (λ (c : Coming). both (record { entries = g.entries; next = c; bytes = g.bytes }) (λ (x : Coming). piece ron_reader rule_bar x v)) h.shuts
    ∙ ap (λ (k : Given). record { entries = g.entries ++ k.entries; next = k.next; bytes = g.bytes + k.bytes }) (shut_piece ron_reader rule_bar v d) in
    let next : (text_gives (u ++ v)).next ≡ shut d = ap (λ (k : Given). k.next) on in
    let all : Taken (text_gives (u ++ v)).next = subst Taken (sym next) tt in
    ap (λ (t : List ℕ). read_part ron_token 0 (t ++ v)) same
    ∙ sym (one_reading ron_reader ron rule_bar (u ++ v) (going 0 []) all)
    ∙ ap₂ (λ (fs : List Entry) (c : Coming). fs ▸ ended ron_reader c) (ap (λ (k : Given). k.entries) on ∙ append-nil g.entries ∙ sym h.entries_same) next

-- and of one that goes on, or of which a byte was not taken, its front
pub halted_front : (text v : List ℕ) (d : Refusal) → (text_gives text).next ≡ halted d
    → (r : Reading) × (read_part ron_token 0 (take (text_gives text).bytes text ++ v) ≡ (text_gives text).entries ▸ r)
halted_front text v d e =
    let h = halts_at ron_reader rule_bar ron text [] 0 d e in
    let u : List ℕ = h.before in
    let same : take (text_gives text).bytes text ≡ u = ap₂ take h.bytes_are h.is ∙ take-append_seam u (h.byte ∷ h.back) in (
      read_part ron_token h.to (h.rest ++ v),
      ap (λ (t : List ℕ). read_part ron_token 0 (t ++ v)) same ∙ front ron_reader ron rule_bar u v (going 0 []) h.to h.rest h.goes
          ∙ ap (λ (fs : List Entry). fs ▸ read_part ron_token h.to (h.rest ++ v)) (sym h.entries_same),
    )

pub going_front : (text v : List ℕ) (at : ℕ) (rest : List ℕ) → (text_gives text).next ≡ going at rest
    → read_part ron_token 0 (take (text_gives text).bytes text ++ v) ≡ (text_gives text).entries ▸ read_part ron_token at (rest ++ v)
going_front text v at rest e =
    let l = piece_rest ron_reader rule_bar ron text [] 0 at rest e in
    let same : take (text_gives text).bytes text ≡ text = ap (λ (n : ℕ). take n text) l.bytes_are ∙ take-length text in
    ap (λ (t : List ℕ). read_part ron_token 0 (t ++ v)) same ∙ front ron_reader ron rule_bar text v (going 0 []) at rest e

shown_taken : {c : Coming} {t : ℕ} {a : Arrival} {kept : List ℕ} → Shows c t a kept → a.taken ≡ t
shown_taken (Shows.shows_going at rest part k) = refl
shown_taken (Shows.shows_shut n former d k) = refl
shown_taken (Shows.shows_halted n former d k) = refl

-- the state of a text that goes on
goes-on : {t : ℕ} {a : Arrival} {kept : List ℕ} (c : Coming) → Shows c t a kept → a.refusal.number ≡ 0 → (at : ℕ) × (rest : List ℕ) × (c ≡ going at rest)
goes-on c (Shows.shows_going at rest part k) e = (at, rest, refl)
goes-on c (Shows.shows_shut n former d k) e = absurd (eqb-false d.number 0 (given_number d n k.given) e)
goes-on c (Shows.shows_halted n former d k) e = absurd (eqb-false d.number 0 (given_number d n k.given) e)

module _ {ps : List (List ℕ)} {es : List Entry} {a : Arrival} {kept : List ℕ} (k : FromBegin ps es a kept) where
  taken_is : a.taken ≡ (text_gives (joined ps)).bytes
  taken_is = shown_taken (begun_calls k).shows ∙ zero-add (text_gives (joined ps)).bytes

  -- document 02: "of a refused text, those before the refusal": what was given is the front of the reading of what was taken, whatever follows it
  pub calls_front : (v : List ℕ) → (r : Reading) × (read_part ron_token 0 (take a.taken (joined ps) ++ v) ≡ es ▸ r)
  calls_front v = by (text_gives (joined ps)).next refl
    where
      to : (r : Reading) → read_part ron_token 0 (take (text_gives (joined ps)).bytes (joined ps) ++ v) ≡ (text_gives (joined ps)).entries ▸ r
          → (r : Reading) × (read_part ron_token 0 (take a.taken (joined ps) ++ v) ≡ es ▸ r)
      to r h = (r, ap (λ (n : ℕ). read_part ron_token 0 (take n (joined ps) ++ v)) taken_is ∙ h ∙ ap (λ (fs : List Entry). fs ▸ r) (sym (begun_calls k).entries_are))

      by : (c : Coming) → (text_gives (joined ps)).next ≡ c → (r : Reading) × (read_part ron_token 0 (take a.taken (joined ps) ++ v) ≡ es ▸ r)
      by (going at rest) e = to (read_part ron_token at (rest ++ v)) (going_front (joined ps) v at rest e)
      by (shut d) e = to (broken d) (shut_front (joined ps) v d e)
      by (halted d) e = let h = halted_front (joined ps) v d e in to h.0 h.1

  -- document 02: no entry is given later than its rule says: of what is not given, nothing is sealed by what has come
  pub calls_unsealed : a.refusal.number ≡ 0 → (v : List ℕ) (fs : List Entry) (e : Entry) (r : Reading) → read_part ron_token 0 (joined ps ++ v) ≡ (es ++ fs) ▸ entry e r
      → e.end ≤ length (joined ps) → sealed_in ron_reader 0 (joined ps) e ≡ false
  calls_unsealed n v fs e r h l =
      let g = begun_calls k in
      let (at, rest, s) = goes-on (text_gives (joined ps)).next g.shows n in
      rest_unsealed ron_reader ron rule_bar (joined ps) v at rest s fs e r (h ∙ ap (λ (xs : List Entry). (xs ++ fs) ▸ entry e r) g.entries_are) l

  -- nor earlier: the last entry given is sealed by what has come, and the others came with it or before
  pub calls_sealed : a.refusal.number ≡ 0 → LastIs (Sealed ron_reader ron rule_bar (joined ps)) es
  calls_sealed n =
      let g = begun_calls k in
      let (at, rest, s) = goes-on (text_gives (joined ps)).next g.shows n in
      subst (LastIs (Sealed ron_reader ron rule_bar (joined ps))) (sym g.entries_are) (given_sealed ron_reader ron rule_bar (joined ps) (subst NotShut (sym s) tt))

  -- a refusal that was given is that of the reading of what was taken, whatever follows; or a byte follows that is not taken, for one of the three reasons
  pub calls_refused : eqb a.refusal.number 0 ≡ false → ((v : List ℕ) → read_part ron_token 0 (take a.taken (joined ps) ++ v) ≡ es ▸ broken a.refusal)
      ⊎ (Barred (joined ps) a.taken a.refusal × (a.taken < length (joined ps)))
  calls_refused n = by (text_gives (joined ps)).next refl (begun_calls k).shows
    where
      by : (c : Coming) → (text_gives (joined ps)).next ≡ c → Shows (text_gives (joined ps)).next (0 + (text_gives (joined ps)).bytes) a kept
          → ((v : List ℕ) → read_part ron_token 0 (take a.taken (joined ps) ++ v) ≡ es ▸ broken a.refusal) ⊎ (Barred (joined ps) a.taken a.refusal × (a.taken < length (joined ps)))
      by (going at rest) e s = absurd (eqb-false a.refusal.number 0 n (ap (λ (x : Refusal). x.number) (going_none (text_gives (joined ps)).next at rest s e)))
      by (shut d) e s =
          let r = shut_refusal (text_gives (joined ps)).next d s e in
          inl (λ v. ap (λ (m : ℕ). read_part ron_token 0 (take m (joined ps) ++ v)) taken_is ∙ shut_front (joined ps) v d e
          ∙ ap₂ (λ (fs : List Entry) (c : Refusal). fs ▸ broken c) (sym (begun_calls k).entries_are) (sym r))
      by (halted d) e s =
          let r = shown_refusal (text_gives (joined ps)).next d s e in
          let w = halts_why (joined ps) d e in
          inr (subst (λ (m : ℕ). Barred (joined ps) m a.refusal) (sym taken_is) (subst (Barred (joined ps) (text_gives (joined ps)).bytes) (sym r) w.0), omega (arith, taken_is, w.1))

-- ---- and each of the three is given

-- a byte that the rule bars is not taken, and nothing behind it
pub barred_halts : (u z : List ℕ) (b at : ℕ) (rest : List ℕ) (d : Refusal) → (text_gives u).next ≡ going at rest → rule_bar at rest b ≡ halt d
    → ((text_gives (u ++ b ∷ z)).next ≡ halted d) × ((text_gives (u ++ b ∷ z)).entries ≡ (text_gives u).entries) × ((text_gives (u ++ b ∷ z)).bytes ≡ (text_gives u).bytes)
barred_halts u z b at rest d e h =
    let g : Given = text_gives u in
    let last : piece ron_reader rule_bar g.next (b ∷ z) ≡ record { entries = []; next = halted d; bytes = 0 } =
    ap (λ (c : Coming). piece ron_reader rule_bar c (b ∷ z)) e ∙ piece_step ron_reader rule_bar (going at rest) b z
    ∙ ap (λ (p : Passing). then ron_reader rule_bar (by_passing p (taken ron_reader at (rest ++ b ∷ []) b)) z) h
    ∙ ap (λ (k : Given). record { entries = k.entries; next = k.next; bytes = 0 + k.bytes }) (halted_piece ron_reader rule_bar z d) in
    let all : text_gives (u ++ b ∷ z) ≡ record { entries = g.entries ++ []; next = halted d; bytes = g.bytes + 0 } =
    cut ron_reader rule_bar u (b ∷ z) (going 0 []) ∙ ap (λ (k : Given). record { entries = g.entries ++ k.entries; next = k.next; bytes = g.bytes + k.bytes }) last in
    (ap (λ (k : Given). k.next) all, ap (λ (k : Given). k.entries) all ∙ append-nil g.entries, ap (λ (k : Given). k.bytes) all ∙ add-zero g.bytes)

-- 30 "undecided when 4,096 bytes from its start have come and another follows, at its start"
pub bars_30 : (at : ℕ) (rest : List ℕ) (b g : ℕ) → gap_of rest ≡ gap.Clear g → g + most_held ≤ length rest → rule_bar at rest b ≡ halt (entry_too_long (at + g))
unfolding rule_bar bar_of
bars_30 at rest b g e l = ap (λ (x : Gap). first_bar (bar_by at rest x) (size_bar at rest b)) e ∙ rw (le-leb (g + most_held) (length rest) l)

-- 1, "the byte after the 65,536th", where 30 is not given
pub bars_1 : (at : ℕ) (rest : List ℕ) (b : ℕ) → bar_of at rest b ≡ pass → most_taken ≤ at + length rest → rule_bar at rest b ≡ halt too_long
unfolding rule_bar size_bar
bars_1 at rest b e l = ap (λ (p : Passing). first_bar p (size_bar at rest b)) e ∙ rw (le-leb most_taken (at + length rest) l)

-- 2, "bad UTF-8", where neither is
pub bars_2 : (at : ℕ) (rest : List ℕ) (b n k : ℕ) → bar_of at rest b ≡ pass → at + length rest < most_taken → allowed_of (rest ++ b ∷ []) ≡ Bad n k → rule_bar at rest b ≡ halt (not_utf8 (at + k))
unfolding rule_bar size_bar
bars_2 at rest b n k e l h = ap (λ (p : Passing). first_bar p (size_bar at rest b)) e ∙ rw (lt-leb most_taken (at + length rest) l, h)
