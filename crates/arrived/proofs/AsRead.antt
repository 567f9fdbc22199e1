-- The calls beside the call `read`, and the three exceptions at the calls. Document 02: "However the text is cut, the entries .. and the last answer are those of one
-- reading with room enough, with three exceptions: bad UTF-8 and the byte after the 65,536th are told when met, after the entries decided before, and a long entry has
-- its own refusal."
--     calls-accept    a text whose end accepts it is accepted by `read`, with these entries on its tape
--     calls-refuse    a text that is refused, but for 30, 1 and 2, is refused so by `read`
--     calls-numbers, end-numbers    no other number than 1, 2, 4 to 21 and 30 is given
--     calls-30, calls-1, calls-2    each of the three is given where it is said to be
--     calls_last      the last entry given is sealed by what has come
-- Assumes nothing.
use Rattle.std.proofs.Common.{Ok, Err}
use Prim.Native.Nat.{ℕ, zero, suc, ◌+◌, ◌<◌, ◌≤◌}
use native.Mathlib.Nat.{zero-add}
use native.Mathlib.Omega.{arith}
use mathlib.Core.Bool.{false, true, true≢false}
use mathlib.Core.List.{List, [], ◌++◌, ◌∷◌}
use mathlib.Core.Logic.{◌⊎◌, inl, inr}
use mathlib.Core.Path.{◌≡◌, ap, refl, subst, sym, ◌∙◌}
use lib.Dec.{eqb, ltb}
use lib.ListN.{length, take}
use borrow.Author.Tests.{le-ltb, ne_eqb}
use Rattle.text.proofs.Choices.{and_true}
use Rattle.text.specs.Judged.{behind_judged, judged_of}
use Rattle.text.specs.Refusals.{Told, entry_too_long, not_utf8, too_long}
use Rattle.text.specs.declared.refusal.Refusal.{Refusal}
use Rattle.rows.specs.Rows.{laid, room_of}
use Rattle.rows.specs.declared.Entry.{Entry}
use Rattle.octets.specs.Octets.{allowed_of}
use Rattle.octets.specs.declared.answer.Allowed.{Allowed}
use Rattle.octets.specs.declared.answer.Allowed.TheVariants.{All, Bad}
use Rattle.reading.specs.Readings.{Reading, counted, entries, read_part, ◌▸◌}
use Rattle.reading.specs.Readings.Reading.{broken, complete, entry}
use Rattle.tokens.specs.Ron.{ron_token}
use Rattle.inner.specs.Inner.{Inner}
use Rattle.read.specs.Read.{fitted, laid_by, read_answer, read_tape, reading_of, room_for}
use Rattle.given.specs.Given.{Given, given, reasoned, within}
use Rattle.given.proofs.Calls.{read_given}
use Rattle.given.proofs.Readings.{Inner-reading, reading_inner}
use Rattle.given.proofs.Tokens.{ron_inner}
use Rattle.comments.specs.Gaps.{gap_of}
use Rattle.comments.specs.declared.gap.Gap.TheVariants as gap
use Rattle.arriving.proofs.Sealed.{LastIs, Sealed}
use Rattle.arriving.specs.Rule.{sealed_in}
use Rattle.settled.proofs.Owed.{ron}
use Rattle.settled.specs.Settled.{ron_reader}
use Rattle.arriving.specs.Arrivals.{Coming, joined}
use Rattle.arriving.specs.Arrivals.Coming.{going, halted, shut}
use Rattle.arriving.specs.Arrivals.Passing.{halt, pass}
use Rattle.pieces.specs.Bars.{bar_of, most_held}
use Rattle.pieces.specs.Ends.{Rest, finish_of, fitting, last_of}
use Rattle.pieces.specs.Orders.{most_taken}
use Rattle.pieces.specs.Pieces.{no_refusal}
use Rattle.pieces.specs.declared.state.Arrival.{Arrival}
use Rattle.arrived.specs.Calls.{FromBegin}
use Rattle.arrived.specs.Ruled.{Arrives, Barred, arrives, end_by, end_gives, rule_bar, text_ends, text_gives}
use Rattle.arrived.specs.Shown.{Shows}
use Rattle.arrived.proofs.CallLaws.{begun_calls}
use Rattle.arrived.proofs.FinishShows.{finish_shows, rest_given}
use Rattle.arrived.proofs.OneReading.{bars_1, bars_2, bars_30, barred_halts, calls_read, calls_refused, calls_sealed, fitting_accepted, shown_refusal, shut_refusal}

-- ---- the answer of read by how a reading ends

-- so many entries behind n others and no refusal, or the refusal
abbrev Counts : ℕ → Reading → Told ℕ → Type 0
Counts n r (Ok m) = (m ≡ n + length (entries r)) × (last_of r ≡ no_refusal)
Counts n r (Err d) = last_of r ≡ d

counts : (r : Reading) (n : ℕ) → Counts n r (counted n r)
unfolding counted entries last_of
counts complete n = (omega arith, refl)
counts (broken d) n = refl
counts (entry e r) n = go (counted (n + 1) r) (counts r (n + 1))
  where
    go : (t : Told ℕ) → Counts (n + 1) r t → Counts n (entry e r) t
    go (Ok m) h = (omega (arith, h.0), h.1)
    go (Err d) h = h

-- a refusal that a call gives has a number
given_some : (r : Refusal) → Given r → r.number ≡ 0 → ⊥
unfolding given within
given_some r h e = true≢false (sym (and_true (given r.number) (reasoned r) h).0 ∙ ap given e)

module _ (text : List ℕ) (fit : judged_of text ≡ Ok tt) where
  answers : (numbers : ℕ) (t : Told ℕ) → counted 0 (reading_of text) ≡ t → read_answer text numbers ≡ room_for (room_of numbers) t
  unfolding read_answer
  answers numbers t h = ap (λ (j : Told Unit). behind_judged j (fitted (room_of numbers) (reading_of text))) fit ∙ ap (room_for (room_of numbers)) h

  -- the reading is not refused, and there is room
  accepts : (tape : List ℕ) → (last_of (reading_of text)).number ≡ 0 → length (entries (reading_of text)) ≤ room_of (length tape)
      → (read_answer text (length tape) ≡ Ok (length (entries (reading_of text)))) × (read_tape text tape ≡ laid (entries (reading_of text)) tape)
  unfolding read_tape
  accepts tape n l = go (counted 0 (reading_of text)) refl (counts (reading_of text) 0)
    where
      go : (t : Told ℕ) → counted 0 (reading_of text) ≡ t → Counts 0 (reading_of text) t
          → (read_answer text (length tape) ≡ Ok (length (entries (reading_of text)))) × (read_tape text tape ≡ laid (entries (reading_of text)) tape)
      go (Ok m) q h =
          let fits : ltb (room_of (length tape)) m ≡ false = le-ltb (room_of (length tape)) m (omega (arith, h.0)) in
          let is : read_answer text (length tape) ≡ Ok m = answers (length tape) (Ok m) q ∙ rw fits in
          (is ∙ ap (λ (k : ℕ). Ok k) (h.0 ∙ zero-add (length (entries (reading_of text)))), ap (λ (t : Told ℕ). laid_by t (reading_of text) tape) is)
      go (Err d) q h = absurd (given_some d (read_given text (length tape) d (answers (length tape) (Err d) q)) (ap (λ (r : Refusal). r.number) (sym h) ∙ n))

  -- the reading is refused
  refuses : (numbers : ℕ) → ((last_of (reading_of text)).number ≡ 0 → ⊥) → read_answer text numbers ≡ Err (last_of (reading_of text))
  refuses numbers n = go (counted 0 (reading_of text)) refl (counts (reading_of text) 0)
    where
      go : (t : Told ℕ) → counted 0 (reading_of text) ≡ t → Counts 0 (reading_of text) t → read_answer text numbers ≡ Err (last_of (reading_of text))
      go (Ok m) q h = absurd (n (ap (λ (r : Refusal). r.number) h.1))
      go (Err d) q h = answers numbers (Err d) q ∙ ap (λ (r : Refusal). Err r) (sym h)

-- ---- the calls beside read

-- the end of the text gives what the rule has for it
pub calls_end : {ps : List (List ℕ)} {es : List Entry} {a : Arrival} {kept : List ℕ} → FromBegin ps es a kept → (junk : List ℕ) (room : ℕ)
    → finish_of a (kept ++ junk) room ≡ fitting room (rest_given (text_ends (joined ps)))
calls_end k = finish_shows (begun_calls k).shows

module _ {ps : List (List ℕ)} {es : List Entry} {a : Arrival} {kept : List ℕ} (k : FromBegin ps es a kept) (fit : judged_of (joined ps) ≡ Ok tt) (no-30 : a.refusal.number ≡ 30 → ⊥)
    (junk : List ℕ) (room : ℕ) (e : Rest) (h : finish_of a (kept ++ junk) room ≡ Ok e) where
  -- the text is accepted: so it is by read, with room enough, and all entries are those on its tape
  pub calls_accept : e.refusal.number ≡ 0 → (tape : List ℕ) → length (es ++ e.entries) ≤ room_of (length tape)
      → (read_answer (joined ps) (length tape) ≡ Ok (length (es ++ e.entries))) × (read_tape (joined ps) tape ≡ laid (es ++ e.entries) tape)
  calls_accept n tape l =
      let c = calls_read k fit no-30 junk room e h in
      subst (λ (xs : List Entry). (read_answer (joined ps) (length tape) ≡ Ok (length xs)) × (read_tape (joined ps) tape ≡ laid xs tape)) (sym c.0)
      (accepts (joined ps) fit tape (ap (λ (r : Refusal). r.number) (sym c.1) ∙ n) (omega (arith, ap length c.0)))

  -- the text is refused: read refuses it so, whatever its room
  pub calls_refuse : (e.refusal.number ≡ 0 → ⊥) → (numbers : ℕ) → read_answer (joined ps) numbers ≡ Err e.refusal
  calls_refuse n numbers =
      let c = calls_read k fit no-30 junk room e h in
      refuses (joined ps) fit numbers (λ q. n (ap (λ (r : Refusal). r.number) c.1 ∙ q)) ∙ ap (λ (r : Refusal). Err r) (sym c.1)

-- ---- the three exceptions are given where they are said to be

-- the byte b behind u is not taken: the calls give what u gives, and this refusal
module _ {ps : List (List ℕ)} {es : List Entry} {a : Arrival} {kept : List ℕ} (k : FromBegin ps es a kept) (u z : List ℕ) (b at : ℕ) (rest : List ℕ)
    (text_is : joined ps ≡ u ++ b ∷ z) (goes : (text_gives u).next ≡ going at rest) where
  barred_calls : (d : Refusal) → rule_bar at rest b ≡ halt d → (a.refusal ≡ d) × (es ≡ (text_gives u).entries)
  barred_calls d h =
      let s = barred_halts u z b at rest d goes h in
      let g = begun_calls k in
      (shown_refusal (text_gives (joined ps)).next d g.shows (ap (λ (t : List ℕ). (text_gives t).next) text_is ∙ s.0), g.entries_are ∙ ap (λ (t : List ℕ). (text_gives t).entries) text_is ∙ s.1)

  -- document 02: 30, "an entry undecided when 4,096 bytes from its start have come and another follows, at its start"
  pub calls_30 : (g : ℕ) → gap_of rest ≡ gap.Clear g → g + most_held ≤ length rest → (a.refusal ≡ entry_too_long (at + g)) × (es ≡ (text_gives u).entries)
  calls_30 g e l = barred_calls (entry_too_long (at + g)) (bars_30 at rest b g e l)

  -- "the byte after the 65,536th"
  pub calls_1 : bar_of at rest b ≡ pass → most_taken ≤ at + length rest → (a.refusal ≡ too_long) × (es ≡ (text_gives u).entries)
  calls_1 p l = barred_calls too_long (bars_1 at rest b p l)

  -- "bad UTF-8": the first byte of its sequence
  pub calls_2 : (n p : ℕ) → bar_of at rest b ≡ pass → at + length rest < most_taken → allowed_of (rest ++ b ∷ []) ≡ Bad n p → (a.refusal ≡ not_utf8 (at + p)) × (es ≡ (text_gives u).entries)
  calls_2 n p q l h = barred_calls (not_utf8 (at + p)) (bars_2 at rest b n p q l h)

-- ---- the numbers

inner_arrives : (r : Refusal) → Inner r → Arrives r
unfolding arrives
inner_arrives r h = let w = and_true (within 4 21 r.number) (reasoned r) h in rw (w.0, w.1)

barred_arrives : {text : List ℕ} {n : ℕ} {d : Refusal} → Barred text n d → Arrives d
unfolding arrives within
barred_arrives (Barred.long_entry at g rest s q m) = refl
barred_arrives (Barred.long_text m) = refl
barred_arrives (Barred.bad_utf8 p q) = refl

broken_inner : (es : List Entry) (d : Refusal) → Inner-reading (es ▸ broken d) → Inner d
broken_inner [] d h = h
broken_inner (e ∷ es) d h = broken_inner es d h

-- a reading has no refusal, or one of reading
last_inner : (r : Reading) → Inner-reading r → ((last_of r).number ≡ 0 → ⊥) → Arrives (last_of r)
unfolding last_of
last_inner complete h n = absurd (n refl)
last_inner (broken d) h n = inner_arrives d h
last_inner (entry e r) h n = last_inner r h n

module _ {ps : List (List ℕ)} {es : List Entry} {a : Arrival} {kept : List ℕ} (k : FromBegin ps es a kept) where
  -- a text that arrives is refused with 1, 2, one of 4 to 21, or 30
  pub calls_numbers : eqb a.refusal.number 0 ≡ false → Arrives a.refusal
  calls_numbers n = go (calls_refused k n)
    where
      go : ((v : List ℕ) → read_part ron_token 0 (take a.taken (joined ps) ++ v) ≡ es ▸ broken a.refusal) ⊎ (Barred (joined ps) a.taken a.refusal × (a.taken < length (joined ps))) → Arrives a.refusal
      go (inl f) =
          inner_arrives a.refusal (broken_inner es a.refusal (subst Inner-reading (f []) (reading_inner ron_token ron_inner 0 (take a.taken (joined ps) ++ []))))
      go (inr w) = barred_arrives w.0

  -- and so is its end
  pub end_numbers : (junk : List ℕ) (room : ℕ) (e : Rest) → finish_of a (kept ++ junk) room ≡ Ok e → (e.refusal.number ≡ 0 → ⊥) → Arrives e.refusal
  unfolding last_of arrives within
  end_numbers junk room e h n =
      let text : List ℕ = joined ps in
      let g = begun_calls k in
      let end : e ≡ rest_given (text_ends text) = sym (fitting_accepted room (rest_given (text_ends text)) e (sym (finish_shows g.shows junk room) ∙ h)) in
      let is : e.refusal ≡ last_of (text_ends text) = ap (λ (r : Rest). r.refusal) end in
      subst Arrives (sym is) (by (text_gives text).next refl g.shows (λ z. n (ap (λ (r : Refusal). r.number) is ∙ z)))
    where
      own : (d : Refusal) → a.refusal ≡ d → ((last_of (broken d)).number ≡ 0 → ⊥) → Arrives (last_of (broken d))
      own d q m = subst Arrives q (calls_numbers (ne_eqb a.refusal.number 0 (λ z. m (ap (λ (r : Refusal). r.number) (sym q) ∙ z))))

      rests : (at : ℕ) (rest : List ℕ) (s : Allowed) → ((last_of (end_by s at rest)).number ≡ 0 → ⊥) → Arrives (last_of (end_by s at rest))
      rests at rest (All zero) m = last_inner (read_part ron_token at rest) (reading_inner ron_token ron_inner at rest) m
      rests at rest (All (suc c)) m = refl
      rests at rest (Bad x y) m = last_inner (read_part ron_token at rest) (reading_inner ron_token ron_inner at rest) m

      by : (c : Coming) → (text_gives (joined ps)).next ≡ c → Shows (text_gives (joined ps)).next (0 + (text_gives (joined ps)).bytes) a kept
          → ((last_of (end_gives (text_gives (joined ps)).next)).number ≡ 0 → ⊥) → Arrives (last_of (end_gives (text_gives (joined ps)).next))
      by (going at rest) q s m = subst (λ (c : Coming). Arrives (last_of (end_gives c))) (sym q) (rests at rest (allowed_of rest) (subst (λ (c : Coming). (last_of (end_gives c)).number ≡ 0 → ⊥) q m))
      by (shut d) q s m =
          subst (λ (c : Coming). Arrives (last_of (end_gives c))) (sym q) (own d (shut_refusal (text_gives (joined ps)).next d s q) (subst (λ (c : Coming). (last_of (end_gives c)).number ≡ 0 → ⊥) q m))
      by (halted d) q s m =
          subst (λ (c : Coming). Arrives (last_of (end_gives c))) (sym q) (own d (shown_refusal (text_gives (joined ps)).next d s q) (subst (λ (c : Coming). (last_of (end_gives c)).number ≡ 0 → ⊥) q m))

-- ---- the last entry given

last_is : (P : Entry → Type 0) (fs : List Entry) (e : Entry) → LastIs P (fs ++ e ∷ []) → P e
last_is P [] e h = h
last_is P (f ∷ []) e h = h
last_is P (f ∷ g ∷ fs) e h = last_is P (g ∷ fs) e h

-- it has come, and is sealed by what has come
pub calls_last : {ps : List (List ℕ)} {es : List Entry} {a : Arrival} {kept : List ℕ} → FromBegin ps es a kept → a.refusal.number ≡ 0 → (fs : List Entry) (e : Entry) → es ≡ fs ++ e ∷ []
    → (sealed_in ron_reader 0 (joined ps) e ≡ true) × (e.end ≤ length (joined ps))
calls_last {ps} k n fs e h =
    let s = last_is (Sealed ron_reader ron rule_bar (joined ps)) fs e (subst (LastIs (Sealed ron_reader ron rule_bar (joined ps))) h (calls_sealed k n)) in
    (s.0, s.2)
