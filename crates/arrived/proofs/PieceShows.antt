-- A piece by the calls is the piece by the text: `piece-shows`; with too little room nothing is taken: `piece-no-room`. Assumes nothing.
use Rattle.std.proofs.Common.{Ok, Err}
use Prim.Native.Nat.{ℕ, suc, ◌+◌, ◌-◌, ◌<◌, ◌≤◌}
use native.Mathlib.Nat.{add-zero}
use native.Mathlib.Omega.{arith}
use mathlib.Core.Bool.{Bool, true, false, cond, ◌&&◌}
use mathlib.Core.List.{List, [], ◌++◌, ◌∷◌, append_assoc, append-nil, map}
use mathlib.Core.Logic.{◌⊎◌, inl, inr}
use mathlib.Core.Path.{◌≡◌, ap, ap₂, refl, subst, sym, ◌∙◌}
use lib.Dec.{eqb, leb, ltb}
use lib.ListN.{drop, drop_of_length-le, get_or, length, length-append, length-drop, take, take-append-drop}
use lib.Seq.{drop-append_seam, drop_at, drop-cons, length-take-le, take-append_seam}
use borrow.Author.Tests.{le-leb, le-ltb, lt-ltb}
use Rattle.text.proofs.Choices.{either, lt_or_le}
use Rattle.text.specs.Refusals.{no_room, placed_behind}
use Rattle.text.specs.declared.refusal.Refusal.{Refusal}
use Rattle.rows.specs.declared.Entry.{Entry}
use Rattle.gaps.specs.Opens.{kept_of, open_of}
use Rattle.gaps.specs.declared.state.Open.{Open}
use Rattle.octets.proofs.Cutting.{all_bound}
use Rattle.octets.specs.Octets.{allowed_of}
use Rattle.octets.specs.declared.answer.Allowed.TheVariants.{All}
use Rattle.reading.specs.Kept.{AllThere}
use Rattle.reading.specs.Readings.{end_of, read_part}
use Rattle.tokens.specs.Ron.{ron_token}
use Rattle.arriving.proofs.Meets.{PassThere, RefusalThere}
use Rattle.arriving.proofs.Whole.{both}
use Rattle.arriving.proofs.Whole.{cut as cut-piece, front as front-reading}
use Rattle.arriving.specs.Arrivals.{Coming, Given, Passing, by_passing, piece, taken}
use Rattle.arriving.specs.Arrivals.Coming.{going, halted, shut}
use Rattle.arriving.specs.Arrivals.Passing.{halt, pass}
use Rattle.settled.proofs.Owed.{ron}
use Rattle.settled.specs.Settled.{ron_reader}
use Rattle.pieces.specs.Bars.{bar_of}
use Rattle.pieces.specs.Come.{Came, Standing as Stands, behind, stopped, within}
use Rattle.pieces.specs.Orders.{in_order}
use Rattle.pieces.specs.Pieces.{Outcome, barred_by, bad_at, behind_bytes, came_in, cut_off, gapped, given_by, goes_on, in_room, kept_at, may_take, moved_to, no_refusal, open_at, outcome_of, piece_of, stop_by, stops, unchanged}
use Rattle.pieces.specs.declared.state.Arrival.{Arrival}
use Rattle.arrived.specs.Ruled.{first_bar, rule_bar, size_bar}
use Rattle.arrived.specs.Shown.{GoesOn, Shows, StopsSo, going_state, held_of, part_of, stopped_state, whole_of}
use Rattle.arrived.proofs.Bounds.{entries_keep}
use Rattle.arrived.proofs.Came.{Agrees, Meets, before, came_meets, rest_long}
use Rattle.arrived.proofs.Fits.{Fits, fits_piece}
use Rattle.arrived.proofs.Parts.{parted}
use Rattle.arrived.proofs.PieceLaws.{Left, halted_piece, piece_gapped, piece_none, piece_rest, piece_step, shut_piece, staying, then}
use Rattle.arrived.proofs.States.{given_number, going_in_order, parts, shown_in_order, shown_kept}
use Rattle.arrived.proofs.Taken.{barred, cut, here_all, judged, many, many_le, many_size, part_append, same_taken, whole_all}

-- ---- entries at their places

-- told from the front of what was kept, and with their gaps
pub moved_gapped : (base : ℕ) (es fs : List Entry) (at : ℕ) → AllThere 0 base es fs → gapped at (map (moved_to base) es) ≡ gapped at fs
unfolding gapped
moved_gapped base [] [] at AllThere.none = refl
moved_gapped base (e ∷ es) (f ∷ fs) at (AllThere.more m t) =
    let s : base + e.start ≡ f.start = omega (arith, m.start) in
    let n : base + e.end ≡ f.end = omega (arith, m.end) in
    let mine : Entry = record { kind = e.kind; start = base + e.start; end = base + e.end; detail = e.detail; gap = base + e.start - at } in
    let other : Entry = record { kind = f.kind; start = f.start; end = f.end; detail = f.detail; gap = f.start - at } in
    let one : mine ≡ other =
    ap₂ (λ (k d : ℕ). record { kind = k; start = base + e.start; end = base + e.end; detail = d; gap = base + e.start - at }) (sym m.kind) (sym m.detail)
    ∙ ap₂ (λ (a b : ℕ). record { kind = f.kind; start = a; end = b; detail = f.detail; gap = a - at }) s n in
    ap₂ {C = List Entry} (λ (x : Entry) (xs : List Entry). x ∷ xs) one (ap (λ (i : ℕ). gapped i (map (moved_to base) es)) n ∙ moved_gapped base es fs f.end t)
moved_gapped base [] (f ∷ fs) at x'' = elim x'' [ ]
moved_gapped base (e ∷ es) [] at x3 = elim x3 [ ]

-- a refusal at its place
pub placed_there : (base : ℕ) (d c : Refusal) → RefusalThere 0 base d c → placed_behind base d ≡ c
placed_there base d c m =
    let p : base + d.place ≡ c.place = omega (arith, m.place) in
    ap₂ (λ (n r : ℕ). record { number = n; reason = r; place = base + d.place }) (sym m.number) (sym m.reason)
    ∙ ap (λ (q : ℕ). record { number = c.number; reason = c.reason; place = q }) p

-- ---- the answer behind the bytes

-- what a call answers, beside what the text gives behind t bytes, where the last entry ended at f
pub record Answers (g : Given) (t f : ℕ) (o : Outcome) : Type 0 where
  pub entries_are : o.entries ≡ g.entries
  pub shows : Shows g.next (t + g.bytes) o.next o.kept
  pub former_is : o.next.former ≡ end_of f g.entries

module _ (at : ℕ) (rest : List ℕ) (part : ℕ) (k : GoesOn at rest part) (w : List ℕ) where
  abbrev state : Arrival
  state = going_state at rest part

  -- the bytes that are taken
  abbrev y : List ℕ
  y = take (many at rest part k w) w

  -- how many bytes at their end belong to a character that has not come whole
  abbrev i : ℕ
  i = cut at rest part k w

  -- what the text gives: with the bytes taken, and with the whole piece
  abbrev front : Given
  front = piece ron_reader rule_bar (going at rest) (take (many at rest part k w) w)

  abbrev whole : Given
  whole = piece ron_reader rule_bar (going at rest) w

  front_same : front ≡ piece ron_reader bar_of (going at rest) y
  front_same = same_taken y rest at i (whole_all at rest part k w)
      (omega (arith, many_size at rest part k w, length-append rest y, length-take-le (many at rest part k w) w (many_le at rest part k w)))

  whole_both : whole ≡ both front (λ (c : Coming). piece ron_reader rule_bar c (drop (many at rest part k w) w))
  whole_both = ap (piece ron_reader rule_bar (going at rest)) (sym (take-append-drop (many at rest part k w) w)) ∙ cut-piece ron_reader rule_bar y (drop (many at rest part k w) w) (going at rest)

  fit : Fits whole.next (at + length rest + whole.bytes) (end_of at whole.entries)
  fit = fits_piece w (going at rest) (at + length rest) at (refl, refl, (part, k))

  abbrev Answered : Outcome → Given → Type 0
  Answered o g = Answers g (at + length rest) at o

  -- behind a refusal
  stopped_so : (d : Refusal) → (whole.next ≡ shut d) ⊎ (whole.next ≡ halted d) → StopsSo (at + length rest + whole.bytes) (end_of at whole.entries) d
  stopped_so d (inl e) = subst (λ (c : Coming). Fits c (at + length rest + whole.bytes) (end_of at whole.entries)) e fit
  stopped_so d (inr e) = subst (λ (c : Coming). Fits c (at + length rest + whole.bytes) (end_of at whole.entries)) e fit

  stop_shows : (d : Refusal) → (whole.next ≡ shut d) ⊎ (whole.next ≡ halted d)
      → Shows whole.next (at + length rest + whole.bytes) (stopped_state (at + length rest + whole.bytes) (end_of at whole.entries) d) []
  stop_shows d (inl e) =
      subst (λ (c : Coming). Shows c (at + length rest + whole.bytes) (stopped_state (at + length rest + whole.bytes) (end_of at whole.entries) d) []) (sym e)
      (Shows.shows_shut (at + length rest + whole.bytes) (end_of at whole.entries) d (stopped_so d (inl e)))
  stop_shows d (inr e) =
      subst (λ (c : Coming). Shows c (at + length rest + whole.bytes) (stopped_state (at + length rest + whole.bytes) (end_of at whole.entries) d) []) (sym e)
      (Shows.shows_halted (at + length rest + whole.bytes) (end_of at whole.entries) d (stopped_so d (inr e)))

  -- the answer as specs/Pieces puts it together
  abbrev closing : List Entry → Stands → ℕ → List ℕ → Refusal → ℕ → Outcome
  closing es st bytes p why m =
      let d = stop_by st (at + length rest - length (held_of rest part)) (ltb m (length w)) why in
      cond (eqb d.number 0)
      (goes_on es (at + length rest + length w) (end_of at es) (open_at st (length p)) (kept_at st p) (length p))
      (stops es (at + length rest + bytes) (end_of at es) d)

  answer_stop : (es : List Entry) (st : Stands) (bytes : ℕ) (p : List ℕ) (why : Refusal) (m : ℕ) (d : Refusal)
      → stop_by st (at + length rest - length (held_of rest part)) (ltb m (length w)) why ≡ d → (whole.next ≡ shut d) ⊎ (whole.next ≡ halted d) → es ≡ whole.entries → bytes ≡ whole.bytes
      → Answered (closing es st bytes p why m) whole
  answer_stop es st bytes p why m d e s q b =
      let some : eqb d.number 0 ≡ false = given_number d (at + length rest + whole.bytes) (stopped_so d s).given in
      let o : closing es st bytes p why m ≡ stops whole.entries (at + length rest + whole.bytes) (end_of at whole.entries) d =
      ap (λ (r : Refusal). cond (eqb r.number 0)
      (goes_on es (at + length rest + length w) (end_of at es) (open_at st (length p)) (kept_at st p) (length p)) (stops es (at + length rest + bytes) (end_of at es) r)) e
      ∙ ap (λ (t : Bool). cond t
      (goes_on es (at + length rest + length w) (end_of at es) (open_at st (length p)) (kept_at st p) (length p)) (stops es (at + length rest + bytes) (end_of at es) d)) some
      ∙ ap₂ (λ (fs : List Entry) (n : ℕ). stops fs (at + length rest + n) (end_of at fs) d) q b in
      subst (λ (x : Outcome). Answered x whole) (sym o) (record { entries_are = refl; shows = stop_shows d s; former_is = refl })

  answer_going : (es : List Entry) (st : Stands) (bytes : ℕ) (p : List ℕ) (why : Refusal) (m to : ℕ) (r : List ℕ)
      → stop_by st (at + length rest - length (held_of rest part)) (ltb m (length w)) why ≡ no_refusal → whole.next ≡ going to r → es ≡ whole.entries → whole.bytes ≡ length w
      → end_of at whole.entries ≡ to → allowed_of r ≡ All i → open_at st (length p) ≡ open_of (whole_of r i) → kept_at st p ≡ held_of r i → length p ≡ i
      → Answered (closing es st bytes p why m) whole
  answer_going es st bytes p why m to r e s q b f u o kp lp =
      let t : ℕ = at + length rest + length w in
      let h : Fits (going to r) (at + length rest + whole.bytes) (end_of at whole.entries) = subst (λ (c : Coming). Fits c (at + length rest + whole.bytes) (end_of at whole.entries)) s fit in
      let j : ℕ = h.2.0 in
      let same : All j ≡ All i = sym h.2.1.utf8 ∙ u in
      let ji : j ≡ i = cc in
      let g : GoesOn to r i = subst (GoesOn to r) ji h.2.1 in
      let long : t ≡ to + length r = omega (arith, h.0) in
      let closed : closing es st bytes p why m ≡ record { entries = whole.entries; next = going_state to r i; kept = held_of r i } =
      ap (λ (d : Refusal). cond (eqb d.number 0)
      (goes_on es t (end_of at es) (open_at st (length p)) (kept_at st p) (length p)) (stops es (at + length rest + bytes) (end_of at es) d)) e
      ∙ ap₂ (λ (fs : List Entry) (o : Open). goes_on fs t (end_of at fs) o (kept_at st p) (length p)) q o
      ∙ ap₂ (λ (l : List ℕ) (n : ℕ). goes_on whole.entries t (end_of at whole.entries) (open_of (whole_of r i)) l n) kp lp
      ∙ ap₂ (λ (n a : ℕ). goes_on whole.entries n a (open_of (whole_of r i)) (held_of r i) i) long f in
      let taken_is : to + length r ≡ at + length rest + whole.bytes = sym h.0 in
      subst (λ (x : Outcome). Answered x whole) (sym closed) record {
        entries_are = refl;
        shows = subst (λ (c : Coming). Shows c (at + length rest + whole.bytes) (going_state to r i) (held_of r i)) (sym s)
            (subst (λ (n : ℕ). Shows (going to r) n (going_state to r i) (held_of r i)) taken_is (Shows.shows_going to r i g));
        former_is = sym f;
      }

  -- ---- what follows the bytes that are taken
  abbrev last : List ℕ
  last = drop (many at rest part k w) w

  record Follows (c : Coming) : Type 0 where
    entries_same : whole.entries ≡ front.entries
    next_is : whole.next ≡ c
    bytes_same : whole.bytes ≡ front.bytes

  follows : (c : Coming) → piece ron_reader rule_bar front.next last ≡ staying ron_reader rule_bar c → Follows c
  follows c e =
      let all : whole ≡ record { entries = front.entries ++ []; next = c; bytes = front.bytes + 0 } =
      whole_both ∙ ap (λ (h : Given). record { entries = front.entries ++ h.entries; next = h.next; bytes = front.bytes + h.bytes }) e in
      record {
        entries_same = ap (λ (g : Given). g.entries) all ∙ append-nil front.entries;
        next_is = ap (λ (g : Given). g.next) all;
        bytes_same = ap (λ (g : Given). g.bytes) all ∙ add-zero front.bytes;
      }

  -- what is left of the text, where it goes on
  module _ (to : ℕ) (r : List ℕ) (e : front.next ≡ going to r) where
    left : Left ron_reader rule_bar at rest y front to r
    left = piece_rest ron_reader rule_bar ron y rest at to r e

    left_all : allowed_of r ≡ All i
    left_all =
        let read = front-reading ron_reader ron rule_bar y [] (going at rest) to r e in
        let here : allowed_of (rest ++ (y ++ [])) ≡ All i = ap (λ (t : List ℕ). allowed_of (rest ++ t)) (append-nil y) ∙ whole_all at rest part k w in
        ap allowed_of (left.rest_is ∙ ap₂ (λ (n : ℕ) (t : List ℕ). drop (n - at) (rest ++ t)) left.end_is (sym (append-nil y)))
        ∙ entries_keep front.entries at (rest ++ (y ++ [])) (read_part ron_token to (r ++ [])) read i here

    left_split : rest ++ y ≡ take (to - at) (rest ++ y) ++ r
    left_split = sym (take-append-drop (to - at) (rest ++ y)) ∙ ap (λ (t : List ℕ). take (to - at) (rest ++ y) ++ t) (sym left.rest_is)

    y_long : length y ≡ many at rest part k w
    y_long = length-take-le (many at rest part k w) w (many_le at rest part k w)

    left_long : to + length r ≡ at + length rest + many at rest part k w
    left_long = omega (arith, ap length left.rest_is, length-drop (to - at) (rest ++ y), left.late, left.within, length-append rest y, y_long)

    -- the bytes of a character that has not come whole
    part_is : part_of (held_of rest part ++ y) i ≡ part_of r i
    part_is =
        let le : i ≤ length r = (all_bound r i left_all).0 in
        let p : List ℕ = part_of rest part ++ y in
        let lp : i ≤ length p = (all_bound p i (here_all at rest part k w)).0 in
        let one : part_of (held_of rest part ++ y) i ≡ part_of p i =
        ap (λ (t : List ℕ). part_of t i) (append_assoc (kept_of (whole_of rest part)) (part_of rest part) y) ∙ part_append (kept_of (whole_of rest part)) p i lp in
        let two : part_of (rest ++ y) i ≡ part_of p i =
        ap (λ (t : List ℕ). part_of t i) (ap (λ (t : List ℕ). t ++ y) (sym (parts at rest part k).split) ∙ append_assoc (whole_of rest part) (part_of rest part) y) ∙ part_append (whole_of rest part) p i lp in
        one ∙ sym two ∙ ap (λ (t : List ℕ). part_of t i) left_split ∙ part_append (take (to - at) (rest ++ y)) r i le

    part_long : length (part_of (held_of rest part ++ y) i) ≡ i
    part_long = ap length part_is ∙ (parted r i left_all).many

    -- the next byte, which is not taken
    halts : (b : ℕ) (z : List ℕ) (d : Refusal) → last ≡ b ∷ z → rule_bar to r b ≡ halt d → Follows (halted d)
    halts b z d q h =
        follows (halted d)
        (ap₂ (λ (c : Coming) (t : List ℕ). piece ron_reader rule_bar c t) e q
        ∙ piece_step ron_reader rule_bar (going to r) b z
        ∙ ap (λ (p : Passing). then ron_reader rule_bar (by_passing p (taken ron_reader to (r ++ b ∷ []) b)) z) h
        ∙ ap (λ (g : Given). record { entries = g.entries; next = g.next; bytes = 0 + g.bytes }) (halted_piece ron_reader rule_bar z d))

    size_halts : (b : ℕ) (z : List ℕ) → last ≡ b ∷ z → many at rest part k w < length w → size_bar to r b ≡ halt (barred_by state (judged at rest part k w) (length w))
    size_halts b z q l = barred at rest part k w l b z q to r (take (to - at) (rest ++ y)) left_split left_long left_all

    -- there is none
    ends : length w ≤ many at rest part k w → Follows (going to r)
    ends l =
        follows (going to r)
        (ap₂ (λ (c : Coming) (t : List ℕ). piece ron_reader rule_bar c t) e (drop_of_length-le w {i = many at rest part k w} l) ∙ piece_none ron_reader rule_bar (going to r))

    bytes_all : length w ≤ many at rest part k w → whole.bytes ≡ length w
    bytes_all l = (ends l).bytes_same ∙ left.bytes_are ∙ omega (arith, y_long, many_le at rest part k w)

  -- ---- all ways
  abbrev why : Refusal
  why = barred_by (going_state at rest part) (judged at rest part k w) (length w)

  base_is : at + length rest - length (held_of rest part) ≡ at + before at rest part k
  base_is = omega (arith, rest_long at rest part k)

  -- the rule by its parts
  rule_by : (to : ℕ) (r : List ℕ) (b : ℕ) (p : Passing) (d : Refusal) → bar_of to r b ≡ p → size_bar to r b ≡ halt d → rule_bar to r b ≡ first_bar p (halt d)
  unfolding rule_bar
  rule_by to r b p d e f = ap₂ first_bar e f

  bar_any : (to : ℕ) (r : List ℕ) (b c : ℕ) → bar_of to r b ≡ bar_of to r c
  unfolding bar_of
  bar_any to r b c = refl

  next-byte : many at rest part k w < length w → last ≡ get_or w (many at rest part k w) 0 ∷ drop (suc (many at rest part k w)) w
  next-byte l = drop-cons w (many at rest part k w) 0 l

  module _ (es : List Entry) (bytes : ℕ) (q : es ≡ front.entries) (n : bytes ≡ front.bytes) where
    abbrev answer : Stands → Outcome
    answer st = closing es st bytes (part_of (held_of rest part ++ y) i) why (many at rest part k w)

    refused_so : (st : Stands) (d : Refusal) → stop_by st (at + length rest - length (held_of rest part)) (ltb (many at rest part k w) (length w)) why ≡ d
        → (Follows (shut d)) ⊎ (Follows (halted d)) → Answered (answer st) whole
    refused_so st d e (inl f) =
        answer_stop es st bytes (part_of (held_of rest part ++ y) i) why (many at rest part k w) d e (inl f.next_is) (q ∙ sym f.entries_same) (n ∙ sym f.bytes_same)
    refused_so st d e (inr f) =
        answer_stop es st bytes (part_of (held_of rest part ++ y) i) why (many at rest part k w) d e (inr f.next_is) (q ∙ sym f.entries_same) (n ∙ sym f.bytes_same)

    goes_so : (st : Stands) (to : ℕ) (r : List ℕ) → front.next ≡ going to r → length w ≤ many at rest part k w
        → stop_by st (at + length rest - length (held_of rest part)) (ltb (many at rest part k w) (length w)) why ≡ no_refusal
        → open_at st i ≡ open_of (whole_of r i) → kept_at st (part_of r i) ≡ held_of r i → Answered (answer st) whole
    goes_so st to r e l s o h =
        let f = ends to r e l in
        answer_going es st bytes (part_of (held_of rest part ++ y) i) why (many at rest part k w) to r s f.next_is (q ∙ sym f.entries_same) (bytes_all to r e l)
        (ap (end_of at) f.entries_same ∙ sym (left to r e).end_is) (left_all to r e)
        (ap (open_at st) (part_long to r e) ∙ o) (ap (kept_at st) (part_is to r e) ∙ h) (part_long to r e)

    behind_halts : (a : ℕ) (s : List ℕ) (to : ℕ) (r : List ℕ) → front.next ≡ going to r → many at rest part k w < length w
        → {x x' : Passing} → PassThere 0 (at + before at rest part k) x x' → bar_of a s 0 ≡ x → bar_of to r 0 ≡ x' → Answered (answer (behind a s)) whole
    behind_halts a s to r e l PassThere.passes bx bx' =
        let b : ℕ = get_or w (many at rest part k w) 0 in
        let z : List ℕ = drop (suc (many at rest part k w)) w in
        let h = rule_by to r b pass why (bar_any to r b 0 ∙ bx') (size_halts to r e b z (next-byte l) l) in
        refused_so (behind a s) why (rw (lt-ltb (many at rest part k w) (length w) l, bx)) (inr (halts to r e b z why (next-byte l) h))
    behind_halts a s to r e l (PassThere.halts d c m) bx bx' =
        let b : ℕ = get_or w (many at rest part k w) 0 in
        let z : List ℕ = drop (suc (many at rest part k w)) w in
        let h = rule_by to r b (halt c) why (bar_any to r b 0 ∙ bx') (size_halts to r e b z (next-byte l) l) in
        refused_so (behind a s) c
        (rw (lt-ltb (many at rest part k w) (length w) l, bx) (ap (λ (j : ℕ). placed_behind j d) base_is ∙ placed_there (at + before at rest part k) d c m))
        (inr (halts to r e b z c (next-byte l) h))

    by_agrees : {st : Stands} {c : Coming} → Agrees (at + before at rest part k) i st c → front.next ≡ c → Answered (answer st) whole
    by_agrees (Agrees.agrees_shut d c m) e =
        refused_so (stopped d) c (ap (λ (j : ℕ). placed_behind j d) base_is ∙ placed_there (at + before at rest part k) d c m)
        (inl (follows (shut c) (ap (λ (x : Coming). piece ron_reader rule_bar x last) e ∙ shut_piece ron_reader rule_bar last c)))
    by_agrees (Agrees.agrees_halted d c m) e =
        refused_so (stopped d) c (ap (λ (j : ℕ). placed_behind j d) base_is ∙ placed_there (at + before at rest part k) d c m)
        (inr (follows (halted c) (ap (λ (x : Coming). piece ron_reader rule_bar x last) e ∙ halted_piece ron_reader rule_bar last c)))
    by_agrees (Agrees.agrees_within o to r eo ek free) e =
        either (lt_or_le (many at rest part k w) (length w))
        (λ l. let b : ℕ = get_or w (many at rest part k w) 0 in
        let z : List ℕ = drop (suc (many at rest part k w)) w in
        let h = rule_by to r b pass why (free b) (size_halts to r e b z (next-byte l) l) in
        refused_so (within o) why (rw (lt-ltb (many at rest part k w) (length w) l)) (inr (halts to r e b z why (next-byte l) h)))
        (λ l. goes_so (within o) to r e l (rw (le-ltb (many at rest part k w) (length w) l)) (sym eo) (ap (λ (t : List ℕ). t ++ part_of r i) (sym ek)))
    by_agrees (Agrees.agrees_behind a s to r eo ek bars) e =
        either (lt_or_le (many at rest part k w) (length w))
        (λ l. behind_halts a s to r e l (bars 0) refl refl)
        (λ l. goes_so (behind a s) to r e l (rw (le-ltb (many at rest part k w) (length w) l)) eo
        (ap (λ (n : ℕ). kept_of (whole_of s n) ++ part_of r i) (parted r i (left_all to r e)).many ∙ ap (λ (t : List ℕ). t ++ part_of r i) ek))

  -- ---- the outcome of the piece
  abbrev came : Came
  came = came_in (going_state at rest part) (held_of rest part ++ y) i

  meets : Meets (at + before at rest part k) i came (piece ron_reader bar_of (going at rest) y)
  meets = came_meets at rest part k y i (here_all at rest part k w)

  given_same : given_by (going_state at rest part) came ≡ front.entries
  given_same =
      ap (λ (n : ℕ). gapped at (map (moved_to n) came.entries)) base_is
      ∙ moved_gapped (at + before at rest part k) came.entries (piece ron_reader bar_of (going at rest) y).entries at meets.entries_are
      ∙ piece_gapped ron_reader bar_of ron y rest at
      ∙ sym (ap (λ (g : Given). g.entries) front_same)

  -- the state's outcome, by what stands of a character before the piece
  abbrev outcome_by : List ℕ → Outcome
  outcome_by b =
      let allowed = allowed_of (b ++ w) in
      let m = may_take (at + length rest) (bad_at allowed part (length w)) in
      let s = held_of rest part ++ take m w in
      let c = cut_off (allowed_of (b ++ take m w)) in
      behind_bytes (going_state at rest part) (length w) m (drop (length s - c) s) (barred_by (going_state at rest part) allowed (length w)) (came_in (going_state at rest part) s c)

  begun_is : drop (length (held_of rest part) - part) (held_of rest part) ≡ part_of rest part
  begun_is =
      let m : length (part_of rest part) ≡ part = (parts at rest part k).many in
      drop_at (kept_of (whole_of rest part)) (part_of rest part) (length (held_of rest part) - part) (omega (arith, length-append (kept_of (whole_of rest part)) (part_of rest part)))

  outcome_is : outcome_of (going_state at rest part) (held_of rest part) w ≡ outcome_by (part_of rest part)
  unfolding outcome_of
  outcome_is = ap outcome_by begun_is

  behind_is : outcome_by (part_of rest part) ≡ answer (given_by (going_state at rest part) came) came.bytes given_same (meets.bytes_are ∙ sym (ap (λ (g : Given). g.bytes) front_same)) came.standing
  unfolding behind_bytes
  behind_is = refl

  pub outcome_shows : Answers (piece ron_reader rule_bar (going at rest) w) (at + length rest) at (outcome_of (going_state at rest part) (held_of rest part) w)
  outcome_shows =
      subst (λ (o : Outcome). Answered o whole) (sym (outcome_is ∙ behind_is))
      (by_agrees (given_by (going_state at rest part) came) came.bytes given_same (meets.bytes_are ∙ sym (ap (λ (g : Given). g.bytes) front_same))
      (subst (λ (g : Given). Agrees (at + before at rest part k) i came.standing g.next) (sym front_same) meets.stands) refl)

-- ---- the call

-- over a state in order, with what is kept and the piece in the buffer
pub call_is : (a : Arrival) (kept w junk : List ℕ) (room : ℕ) → a.kept ≡ length kept → in_order a ≡ true
    → piece_of a (kept ++ (w ++ junk)) (length w) room ≡ cond (eqb a.refusal.number 0 && ltb 0 (length w)) (in_room room (outcome_of a kept w)) (Ok (unchanged a kept))
unfolding piece_of
call_is a kept w junk room n h =
    let s : List ℕ = kept ++ (w ++ junk) in
    let one : take a.kept s ≡ kept = ap (λ (j : ℕ). take j s) n ∙ take-append_seam kept (w ++ junk) in
    let two : take (length w) (drop a.kept s) ≡ w = ap (take (length w)) (ap (λ (j : ℕ). drop j s) n ∙ drop-append_seam kept (w ++ junk)) ∙ take-append_seam w junk in
    let fits : leb (a.kept + length w) (length s) ≡ true = le-leb (a.kept + length w) (length s) (omega (arith, length-append kept (w ++ junk), length-append w junk)) in
    rw (h, fits) (ap₂ (λ (x z : List ℕ). cond (eqb a.refusal.number 0 && ltb 0 (length w)) (in_room room (outcome_of a x z)) (Ok (unchanged a x))) one two)

-- room for nothing is always there
no_entries : (room : ℕ) (a : Arrival) (kept : List ℕ) → Ok (unchanged a kept) ≡ in_room room (unchanged a kept)
no_entries room a kept = rw (le-ltb room 0 (omega arith))

-- what a piece comes to, up to its room: any bytes behind what is kept, with any bytes behind them
pub record Called (c : Coming) (t : ℕ) (a : Arrival) (kept w junk : List ℕ) (room : ℕ) : Type 0 where
  pub outcome : Outcome
  pub is : piece_of a (kept ++ (w ++ junk)) (length w) room ≡ in_room room outcome
  pub answers : Answers (piece ron_reader rule_bar c w) t a.former outcome

-- nothing is given, and nothing changes
idle : (c : Coming) (t : ℕ) (a : Arrival) (kept w junk : List ℕ) (room : ℕ) → Shows c t a kept → (eqb a.refusal.number 0 && ltb 0 (length w)) ≡ false
    → piece ron_reader rule_bar c w ≡ staying ron_reader rule_bar c → Called c t a kept w junk room
unfolding end_of
idle c t a kept w junk room s e p = record {
  outcome = unchanged a kept;
  is = call_is a kept w junk room (shown_kept s).0 (shown_in_order s) ∙ rw e (no_entries room a kept);
  answers = subst (λ (g : Given). Answers g t a.former (unchanged a kept)) (sym p)
      (record { entries_are = refl; shows = subst (λ (n : ℕ). Shows c n a kept) (sym (add-zero t)) s; former_is = refl });
}

pub called : {c : Coming} {t : ℕ} {a : Arrival} {kept : List ℕ} → Shows c t a kept → (w junk : List ℕ) (room : ℕ) → Called c t a kept w junk room
called (Shows.shows_shut n former d k) w junk room =
    idle (shut d) n (stopped_state n former d) [] w junk room (Shows.shows_shut n former d k) (rw (given_number d n k.given)) (shut_piece ron_reader rule_bar w d)
called (Shows.shows_halted n former d k) w junk room =
    idle (halted d) n (stopped_state n former d) [] w junk room (Shows.shows_halted n former d k) (rw (given_number d n k.given)) (halted_piece ron_reader rule_bar w d)
called (Shows.shows_going at rest part k) [] junk room =
    idle (going at rest) (at + length rest) (going_state at rest part) (held_of rest part) [] junk room (Shows.shows_going at rest part k) refl (piece_none ron_reader rule_bar (going at rest))
called (Shows.shows_going at rest part k) (b ∷ w) junk room = record {
  outcome = outcome_of (going_state at rest part) (held_of rest part) (b ∷ w);
  is = call_is (going_state at rest part) (held_of rest part) (b ∷ w) junk room refl (going_in_order at rest part k)
      ∙ ap (λ (t : Bool). cond t (in_room room (outcome_of (going_state at rest part) (held_of rest part) (b ∷ w))) (Ok (unchanged (going_state at rest part) (held_of rest part))))
      (lt-ltb 0 (length (b ∷ w)) (omega arith));
  answers = outcome_shows at rest part k (b ∷ w);
}

-- document 02: the calls give what the text gives, and their state stands for what has come
pub piece_shows : {c : Coming} {t : ℕ} {a : Arrival} {kept : List ℕ} → Shows c t a kept → (w junk : List ℕ) (room : ℕ) → length (piece ron_reader rule_bar c w).entries ≤ room
    → (o : Outcome) × (piece_of a (kept ++ (w ++ junk)) (length w) room ≡ Ok o) × Answers (piece ron_reader rule_bar c w) t a.former o
piece_shows s w junk room l =
    let k = called s w junk room in
    (k.outcome, k.is ∙ rw (le-ltb room (length k.outcome.entries) (omega (arith, ap length k.answers.entries_are))), k.answers)

-- 22, "the piece's entries don't fit": nothing was taken
pub piece_no_room : {c : Coming} {t : ℕ} {a : Arrival} {kept : List ℕ} → Shows c t a kept → (w junk : List ℕ) (room : ℕ) → room < length (piece ron_reader rule_bar c w).entries
    → piece_of a (kept ++ (w ++ junk)) (length w) room ≡ Err no_room
piece_no_room s w junk room l =
    let k = called s w junk room in
    k.is ∙ rw (lt-ltb room (length k.outcome.entries) (omega (arith, ap length k.answers.entries_are)))
