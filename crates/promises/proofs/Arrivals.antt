-- What is promised of `begin`, `piece` and `finish`, over a text that arrives (document 02, change request 3). `FromBegin ps es a kept` is said of any calls that a host makes
-- from the beginning of a text: the pieces `ps` were handed over, `es` was given, and the state `a` was left with the bytes `kept`; a refused call took nothing, and its piece
-- may have been handed over again. The text is `joined ps`; `text_gives` is the rule of docs/ARRIVAL.md, byte by byte. Each line is a theorem's statement; its proof only says
-- where it is proved. Assumes nothing.
use Rattle.std.proofs.Common.{Ok, Err}
use Prim.Native.Nat.{ℕ, ◌+◌, ◌<◌, ◌≤◌}
use mathlib.Core.Bool.{false, true}
use mathlib.Core.List.{List, [], ◌++◌, ◌∷◌}
use mathlib.Core.Logic.{◌↔◌, ◌⊎◌}
use mathlib.Core.Path.{◌≡◌}
use lib.Dec.{eqb}
use lib.ListN.{length, take}
use Rattle.text.specs.Judged.{judged_of}
use Rattle.text.specs.Refusals.{entry_too_long, no_room, not_utf8, too_long}
use Rattle.text.specs.declared.refusal.Refusal.{Refusal}
use Rattle.comments.specs.Gaps.{gap_of}
use Rattle.comments.specs.declared.gap.Gap.TheVariants as gap
use Rattle.octets.specs.Octets.{Broken, Whole, allowed_of}
use Rattle.octets.specs.declared.answer.Allowed.TheVariants.{All, Bad}
use Rattle.octets.proofs.Exactly as octets
use Rattle.rows.specs.Rows.{laid, room_of}
use Rattle.rows.specs.declared.Entry.{Entry}
use Rattle.reading.specs.Readings.{Reading, broken, entry, read_part, ◌▸◌}
use Rattle.tokens.specs.Ron.{ron_token}
use Rattle.read.specs.Read.{read_answer, read_tape}
use Rattle.arriving.specs.Arrivals.{going, joined, pass}
use Rattle.arriving.specs.Rule.{sealed_in}
use Rattle.settled.specs.Settled.{ron_reader}
use Rattle.pieces.specs.Bars.{bar_of, most_held}
use Rattle.pieces.specs.Ends.{Rest, finish_of, fitting}
use Rattle.pieces.specs.Orders.{in_order, most_taken}
use Rattle.pieces.specs.Pieces.{piece_of, unchanged}
use Rattle.pieces.specs.declared.state.Arrival.{Arrival}
use Rattle.arrived.specs.Calls.{FromBegin}
use Rattle.arrived.specs.Ruled.{Arrives, Barred, text_ends, text_gives}
use Rattle.arrived.specs.Texts.{AllHold, texts}
use Rattle.arrived.proofs.AsRead as as_read
use Rattle.arrived.proofs.CallLaws as laws
use Rattle.arrived.proofs.FinishShows.{rest_given}
use Rattle.arrived.proofs.OneReading as one
use Rattle.arrived.proofs.Worked as examples

-- ---- however the text is cut

-- The same text gives the same entries and leaves the same state, with the same bytes kept.
pub arrival_cut : {ps qs : List (List ℕ)} {es fs : List Entry} {a b : Arrival} {k l : List ℕ} → FromBegin ps es a k → FromBegin qs fs b l → joined ps ≡ joined qs → (es ≡ fs) × (a ≡ b) × (k ≡ l)
arrival_cut = laws.calls_cut

module _ {ps : List (List ℕ)} {es : List Entry} {a : Arrival} {kept : List ℕ} (k : FromBegin ps es a kept) where
  -- What is given is what the rule gives, byte by byte,
  pub arrival_gives : es ≡ (text_gives (joined ps)).entries
  arrival_gives = (laws.begun_calls k).entries_are

  -- and the end of the text gives what the rule has for it; 22 where its entries do not fit.
  pub arrival_ends : (junk : List ℕ) (room : ℕ) → finish_of a (kept ++ junk) room ≡ fitting room (rest_given (text_ends (joined ps)))
  arrival_ends = as_read.calls_end k

  -- ---- beside one reading

  module _ (fit : judged_of (joined ps) ≡ Ok tt) (no-30 : a.refusal.number ≡ 30 → ⊥) (junk : List ℕ) (room : ℕ) (e : Rest) (h : finish_of a (kept ++ junk) room ≡ Ok e) where
    -- A text of at most 65,536 bytes of UTF-8 that is accepted in pieces is accepted by `read`, and its entries are those on the tape,
    pub arrival_accepted : e.refusal.number ≡ 0 → (tape : List ℕ) → length (es ++ e.entries) ≤ room_of (length tape)
        → (read_answer (joined ps) (length tape) ≡ Ok (length (es ++ e.entries))) × (read_tape (joined ps) tape ≡ laid (es ++ e.entries) tape)
    arrival_accepted = as_read.calls_accept k fit no-30 junk room e h

    -- and one that is refused, but for 30, is refused so by `read`.
    pub arrival_refused : (e.refusal.number ≡ 0 → ⊥) → (numbers : ℕ) → read_answer (joined ps) numbers ≡ Err e.refusal
    arrival_refused = as_read.calls_refuse k fit no-30 junk room e h

  -- In any case what was given is the front of the reading of what was taken, whatever follows it: of a refused text, the entries before the refusal.
  pub arrival_front : (v : List ℕ) → (r : Reading) × (read_part ron_token 0 (take a.taken (joined ps) ++ v) ≡ es ▸ r)
  arrival_front = one.calls_front k

  -- A refusal is that of the reading of what was taken, whatever follows; or a byte follows that is not taken, for 30, 1 or 2, each in its own case (`Barred`).
  pub arrival_why : eqb a.refusal.number 0 ≡ false → ((v : List ℕ) → read_part ron_token 0 (take a.taken (joined ps) ++ v) ≡ es ▸ broken a.refusal)
      ⊎ (Barred (joined ps) a.taken a.refusal × (a.taken < length (joined ps)))
  arrival_why = one.calls_refused k

  -- ---- the three exceptions, the other way round: b follows u, behind which something stands that is not refused

  module _ (u z : List ℕ) (b at : ℕ) (rest : List ℕ) (text_is : joined ps ≡ u ++ b ∷ z) (goes : (text_gives u).next ≡ going at rest) where
    -- 30 at s, the start of what is undecided, where 4,096 bytes from s have come,
    pub arrival_30 : (g : ℕ) → gap_of rest ≡ gap.Clear g → g + most_held ≤ length rest → (a.refusal ≡ entry_too_long (at + g)) × (es ≡ (text_gives u).entries)
    arrival_30 = as_read.calls_30 k u z b at rest text_is goes

    -- else 1, where 65,536 bytes have come,
    pub arrival_1 : bar_of at rest b ≡ pass → most_taken ≤ at + length rest → (a.refusal ≡ too_long) × (es ≡ (text_gives u).entries)
    arrival_1 = as_read.calls_1 k u z b at rest text_is goes

    -- else 2 at the first byte of its sequence, where with b no UTF-8 goes on.
    pub arrival_2 : (n p : ℕ) → bar_of at rest b ≡ pass → at + length rest < most_taken → allowed_of (rest ++ b ∷ []) ≡ Bad n p → (a.refusal ≡ not_utf8 (at + p)) × (es ≡ (text_gives u).entries)
    arrival_2 = as_read.calls_2 k u z b at rest text_is goes

  -- No other number is given than 1, 2, 4 to 21 and 30, by a piece
  pub arrival_numbers : eqb a.refusal.number 0 ≡ false → Arrives a.refusal
  arrival_numbers = as_read.calls_numbers k

  -- or by the end.
  pub end_numbers : (junk : List ℕ) (room : ℕ) (e : Rest) → finish_of a (kept ++ junk) room ≡ Ok e → (e.refusal.number ≡ 0 → ⊥) → Arrives e.refusal
  end_numbers = as_read.end_numbers k

  -- ---- an entry is given exactly when it is decided

  -- No entry is given late: of those that the text will have, however it goes on, none is decided by what has come (`sealed_in`) and not given.
  pub arrival_prompt : a.refusal.number ≡ 0 → (v : List ℕ) (fs : List Entry) (e : Entry) (r : Reading) → read_part ron_token 0 (joined ps ++ v) ≡ (es ++ fs) ▸ entry e r
      → e.end ≤ length (joined ps) → sealed_in ron_reader 0 (joined ps) e ≡ false
  arrival_prompt = one.calls_unsealed k

  -- Nor early: the last that was given is decided by what has come, and the others with it.
  pub arrival_patient : a.refusal.number ≡ 0 → (fs : List Entry) (e : Entry) → es ≡ fs ++ e ∷ [] → (sealed_in ron_reader 0 (joined ps) e ≡ true) × (e.end ≤ length (joined ps))
  arrival_patient = as_read.calls_last k

  -- ---- what is held

  -- At most 4,096 bytes are kept, and the state says how many.
  pub arrival_held : (a.kept ≡ length kept) × (length kept ≤ most_held)
  arrival_held = laws.calls_kept k

  -- No state that the calls made is out of order,
  pub arrival_in_order : in_order a ≡ true
  arrival_in_order = laws.calls_in_order k

  -- and so no call over one is refused but with 22, neither a piece nor the end: then nothing was taken.
  pub arrival_22 : (w junk : List ℕ) (room : ℕ) (d : Refusal) → piece_of a (kept ++ (w ++ junk)) (length w) room ≡ Err d → d ≡ no_room
  arrival_22 = laws.only_no_room (laws.begun_calls k).shows

  pub end_22 : (junk : List ℕ) (room : ℕ) (d : Refusal) → finish_of a (kept ++ junk) room ≡ Err d → d ≡ no_room
  end_22 = laws.end_no_room (laws.begun_calls k).shows

  -- After a refusal every later piece gets the same one, and the end too; nothing changes.
  pub refusal_stays : eqb a.refusal.number 0 ≡ false → (w junk : List ℕ) (room : ℕ) → piece_of a (kept ++ (w ++ junk)) (length w) room ≡ Ok (unchanged a kept)
  refusal_stays = laws.refusal_again (laws.begun_calls k).shows

  pub refusal_ends : eqb a.refusal.number 0 ≡ false → (junk : List ℕ) (room : ℕ) → finish_of a (kept ++ junk) room ≡ Ok (record { entries = []; refusal = a.refusal })
  refusal_ends = laws.refusal_at_the_end (laws.begun_calls k).shows

-- ---- bytes that may be taken

-- All bytes of a text may be taken exactly where it is whole characters and the front of one more,
pub octets_all : (s : List ℕ) (m : ℕ) → (allowed_of s ≡ All m) ↔ Whole s m
octets_all = octets.allowed_all

-- and n of them exactly where such a front stands there, and behind it a byte with which no character goes on.
pub octets_bad : (s : List ℕ) (n k : ℕ) → (allowed_of s ≡ Bad n k) ↔ Broken s n k
octets_bad = octets.allowed_bad

-- ---- worked texts

-- 21 rows of docs/ARRIVAL.md: what each byte gives.
pub arrivals_hold : AllHold texts
arrivals_hold = examples.worked
