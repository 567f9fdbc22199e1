-- The call `piece` (document 02, change request 3): "We want to hand over each piece and get the entries decided so far. .. bad UTF-8 and the byte after the
-- 65,536th are told when met, after the entries decided before, and a long entry has its own refusal. .. One answer may carry entries with a refusal behind them
-- .. After a refusal every later piece gets the same one, but for 22: then nothing of the piece was taken, and it may be given again. Refusals: 23, a state out of
-- order, first ..; 30 ..; 22, the piece's entries don't fit, ahead of the rest."
use Rattle.std.specs.Prelude.{ℕ, ◌+◌, ◌-◌, Bool, cond, ◌&&◌, List, [], ◌∷◌, ◌++◌, map, eqb, leb, ltb, drop, length, take, Ok, Err}
use Rattle.text.specs.Refusals.{Told, no_room, not_in_order, not_utf8, placed_behind, refusal, too_long}
use Rattle.text.specs.declared.refusal.Refusal.{Refusal}
use Rattle.rows.specs.Rows.{laid}
use Rattle.rows.specs.declared.Entry.{Entry}
use Rattle.octets.specs.Octets.{allowed_of}
use Rattle.octets.specs.declared.answer.Allowed.{Allowed}
use Rattle.octets.specs.declared.answer.Allowed.TheVariants.{All, Bad}
use Rattle.gaps.specs.Opens.{kept_of, open_of}
use Rattle.gaps.specs.declared.state.Open.{Open}
use Rattle.gaps.specs.declared.state.Open.TheVariants.{Clear}
use Rattle.reading.specs.Readings.{end_of}
use Rattle.arriving.specs.Arrivals.{Passing, halt, pass}
use Rattle.pieces.specs.Bars.{bar_of}
use Rattle.pieces.specs.Come.{Came, Standing, behind, came_of, sooner, stopped, within}
use Rattle.pieces.specs.Orders.{in_order, most_taken}
use Rattle.pieces.specs.declared.state.Arrival.{Arrival}
use Rattle.pieces.specs.declared.state.Arrived.{Arrived}
use Rattle.pieces.specs.declared.state.Arrived.TheVariants as arrived

-- No refusal.
abbrev pub no_refusal : Refusal
no_refusal = refusal 0 0

-- The state before a text's first byte.
abbrev pub begun : Arrival
begun = record { taken = 0; kept = 0; part = 0; former = 0; gap = Clear; refusal = no_refusal }

-- ---- how many bytes are taken

-- The first byte of a piece of n bytes with which no UTF-8 goes on, behind `part` bytes of a character; n where there is none.
abbrev pub bad_at : Allowed → ℕ → ℕ → ℕ
bad_at (All m) part n = n
bad_at (Bad k from) part n = k - part

-- Where that byte's sequence begins.
abbrev pub bad_from : Allowed → ℕ
bad_from (All m) = 0
bad_from (Bad k from) = from

-- How many bytes at the end belong to a character that has not come whole.
abbrev pub cut_off : Allowed → ℕ
cut_off (All m) = m
cut_off (Bad k from) = 0

-- How many bytes of a piece are taken behind `taken` others, the first bad one standing at `bad`: up to the 65,536th of the text.
abbrev pub may_take : ℕ → ℕ → ℕ
may_take taken bad = sooner (most_taken - taken) bad

-- What bars the byte behind those: 1 comes before 2.
abbrev pub barred_by : Arrival → Allowed → ℕ → Refusal
barred_by a allowed n = cond (leb (most_taken - a.taken) (bad_at allowed a.part n)) too_long (not_utf8 (a.taken - a.part + bad_from allowed))

-- ---- entries at their places

-- An entry whose places are counted from a place of the text.
abbrev pub moved_to : ℕ → Entry → Entry
moved_to base e = record { kind = e.kind; start = base + e.start; end = base + e.end; detail = e.detail; gap = e.gap }

-- Entries with their gaps: each the bytes from the former entry's end to its own start.
unfoldable pub gapped : ℕ → List Entry → List Entry
gapped former [] = []
gapped former (e ∷ es) = record { kind = e.kind; start = e.start; end = e.end; detail = e.detail; gap = e.start - former } ∷ gapped e.end es

-- The entries that were given, at their places in the text.
abbrev pub given_by : Arrival → Came → List Entry
given_by a c = gapped a.former (map (moved_to (a.taken - a.kept)) c.entries)

-- ---- what stops the text

-- 30 before 1 and 2 at the byte that follows.
abbrev pub by_bar : Passing → ℕ → Refusal → Refusal
by_bar (halt d) base why = placed_behind base d
by_bar pass base why = why

-- The refusal behind what bytes gave, 0 where there is none: their own, or, where a byte follows that is not taken, that byte's.
abbrev pub stop_by : Standing → ℕ → Bool → Refusal → Refusal
stop_by (stopped d) base follows why = placed_behind base d
stop_by (within o) base follows why = cond follows why no_refusal
stop_by (behind at rest) base follows why = cond follows (by_bar (bar_of at rest 0) base why) no_refusal

-- ---- the state behind a piece

-- What a piece gives: entries, the state behind them, and what is kept.
pub record Outcome : Type 0 where
  pub entries : List Entry
  pub next : Arrival
  pub kept : List ℕ

-- What is open where the text stands, with so many bytes of a character that has not come whole at its end.
abbrev pub open_at : Standing → ℕ → Open
open_at (within o) part = o
open_at (behind at rest) part = open_of (take (length rest - part) rest)
open_at (stopped d) part = Clear

-- What is kept there: what has begun, and the bytes of that character.
abbrev pub kept_at : Standing → List ℕ → List ℕ
kept_at (within o) part = part
kept_at (behind at rest) part = kept_of (take (length rest - length part) rest) ++ part
kept_at (stopped d) part = []

-- The state going on: these bytes are kept.
abbrev pub goes_on : List Entry → ℕ → ℕ → Open → List ℕ → ℕ → Outcome
goes_on es taken former o kept part =
    record { entries = es; next = record { taken = taken; kept = length kept; part = part; former = former; gap = o; refusal = no_refusal }; kept = kept }

-- The state refused: nothing is kept.
abbrev pub stops : List Entry → ℕ → ℕ → Refusal → Outcome
stops es taken former d =
    record { entries = es; next = record { taken = taken; kept = 0; part = 0; former = former; gap = Clear; refusal = d }; kept = [] }

-- What a piece of n bytes gives of which m were taken, by what these gave, the bytes of a character at their end, and what bars the byte behind them.
unfoldable pub behind_bytes : Arrival → ℕ → ℕ → List ℕ → Refusal → Came → Outcome
behind_bytes a n m part why c =
    let es = given_by a c in
    let former = end_of a.former es in
    let d = stop_by c.standing (a.taken - a.kept) (ltb m n) why in
    cond (eqb d.number 0)
    (goes_on es (a.taken + n) former (open_at c.standing (length part)) (kept_at c.standing part) (length part))
    (stops es (a.taken + c.bytes) former d)

-- What the first m bytes of a piece give, the last `cut` bytes with them being those of a character that has not come whole.
abbrev pub came_in : Arrival → List ℕ → ℕ → Came
came_in a s cut = came_of a.gap a.kept (take (length s - cut) s) (drop (length s - cut) s)

-- What a piece w gives behind what was kept.
unfoldable pub outcome_of : Arrival → List ℕ → List ℕ → Outcome
outcome_of a kept w =
    let begun = drop (a.kept - a.part) kept in
    let allowed = allowed_of (begun ++ w) in
    let m = may_take a.taken (bad_at allowed a.part (length w)) in
    let s = kept ++ take m w in
    let cut = cut_off (allowed_of (begun ++ take m w)) in
    behind_bytes a (length w) m (drop (length s - cut) s) (barred_by a allowed (length w)) (came_in a s cut)

-- ---- the call

-- 22, "the piece's entries don't fit".
abbrev pub in_room : ℕ → Outcome → Told Outcome
in_room room o = cond (ltb room (length o.entries)) (Err no_room) (Ok o)

-- Nothing is given, and the state stays as it is.
abbrev pub unchanged : Arrival → List ℕ → Outcome
unchanged a kept = record { entries = []; next = a; kept = kept }

-- The whole answer, with what is kept at the buffer's front and a piece of n bytes behind it: 23; the state's own refusal; an empty piece, which gives nothing; 22.
unfoldable pub piece_of : Arrival → List ℕ → ℕ → ℕ → Told Outcome
piece_of a buffer n room =
    let kept = take a.kept buffer in
    let given = in_room room (outcome_of a kept (take n (drop a.kept buffer))) in
    cond (in_order a && leb (a.kept + n) (length buffer))
    (cond (eqb a.refusal.number 0 && ltb 0 n) given (Ok (unchanged a kept)))
    (Err not_in_order)

-- The code's answer: the refusal stands in the state too.
abbrev pub arrived_of : Told Outcome → Arrived
arrived_of (Ok o) =
    cond (eqb o.next.refusal.number 0) (arrived.Given (length o.entries) o.next) (arrived.Stopped (length o.entries) o.next.refusal o.next)
arrived_of (Err r) = arrived.Refused r

-- The buffer afterwards: what is kept, and then what stood there.
abbrev pub kept_in : Told Outcome → List ℕ → List ℕ
kept_in (Ok o) buffer = o.kept ++ drop (length o.kept) buffer
kept_in (Err r) buffer = buffer

-- The tape afterwards: the entries, and then what stood there.
abbrev pub laid_in : Told Outcome → List ℕ → List ℕ
laid_in (Ok o) tape = laid o.entries tape
laid_in (Err r) tape = tape
