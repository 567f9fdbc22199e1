-- What the bytes that are taken of a piece give by the state (crate pieces, specs/Come) is what they give by the text (`came-meets`). Assumes nothing.
use Prim.Native.Nat.{ℕ, ◌+◌, ◌-◌, ◌<◌, ◌≤◌}
use native.Mathlib.Omega.{arith}
use mathlib.Core.Bool.{true, false, cond}
use mathlib.Core.List.{List, [], ◌++◌, ◌∷◌, append_assoc, append-nil}
use mathlib.Core.Logic.{inl}
use mathlib.Core.Path.{◌≡◌, ap, ap₂, refl, subst, sym, ◌∙◌}
use lib.Dec.{eqb}
use lib.ListN.{drop, drop_of_length-le, length, length-append, length-drop, take, take-append-drop}
use lib.Seq.{drop-append-add, drop-append-le, drop-drop, drop-length, length-take-le, take-append_seam, take_at}
use borrow.Author.Tests.{eqb-true, le-leb, le-ltb, lt-leb, lt-ltb}
use Rattle.text.proofs.Choices.{bool_cases, either, lt_or_le}
use Rattle.text.specs.Classes.{one_of}
use Rattle.text.specs.Refusals.{at_place, eof, unclosed_block_comment, unexpected_char}
use Rattle.text.specs.Utf8.{Text}
use Rattle.text.specs.declared.refusal.Refusal.{Refusal}
use Rattle.comments.proofs.GapLaws.{EndsBy, gap_bounded, gap_restarts}
use Rattle.comments.specs.Gaps.{gap_of}
use Rattle.comments.specs.declared.gap.Gap.{Gap}
use Rattle.comments.specs.declared.gap.Gap.TheVariants as gap
use Rattle.rows.specs.declared.Entry.{Entry}
use Rattle.gapped.proofs.Exactly.{clear_exactly}
use Rattle.gaps.proofs.Canon.{Ways, canon_gap, canon_short, kept_is, open_on, ways}
use Rattle.gaps.specs.Opens.{canon, front, kept_of, later_by, open_of}
use Rattle.gaps.specs.Passes.{passed_by, passed_of}
use Rattle.gaps.specs.declared.pass.Passed.{Passed}
use Rattle.gaps.specs.declared.pass.Passed.TheVariants as passed
use Rattle.gaps.specs.declared.state.Open.{Open}
use Rattle.gaps.specs.declared.state.Open.TheVariants.{Clear}
use Rattle.octets.proofs.Cutting.{all_text, front_all, text_append}
use Rattle.octets.proofs.Exactly.{text_all}
use Rattle.octets.specs.Octets.{allowed_of}
use Rattle.octets.specs.declared.answer.Allowed.TheVariants.{All}
use Rattle.reading.specs.Kept.{AllThere}
use Rattle.reading.specs.Readings.{end_of}
use Rattle.arriving.proofs.Meets.{ComingThere, GivenThere, PassThere, RefusalThere, piece_there}
use Rattle.arriving.proofs.Waits.{keeping}
use Rattle.arriving.proofs.Whole.{both}
use Rattle.arriving.proofs.Whole.{cut as cut-piece}
use Rattle.arriving.specs.Arrivals.{Coming, Given, piece, step}
use Rattle.arriving.specs.Arrivals.Coming.{going, halted, shut}
use Rattle.arriving.specs.Arrivals.Passing.{pass}
use Rattle.arriving.specs.Owing.{tells_end}
use Rattle.settled.proofs.GapEnds.{gap_char}
use Rattle.settled.proofs.Owed.{ron}
use Rattle.settled.specs.Settled.{ron_once, ron_reader}
use Rattle.pieces.proofs.RonAlike.{bar_moves, ron_alike_clear}
use Rattle.pieces.specs.Bars.{bar_of, bytes_give}
use Rattle.pieces.specs.Come.{Came, Standing as Stands, behind, came_by, came_of, later, sooner, stands_at, stopped, within}
use Rattle.arrived.specs.Shown.{GoesOn, held_of, part_of, whole_of}
use Rattle.arrived.proofs.Bounds.{gap_keeps}
use Rattle.arrived.proofs.Fives.{FiveFront, five_front, five_step}
use Rattle.arrived.proofs.GapCuts.{front_of, gap_cut}
use Rattle.arrived.proofs.Parts.{Parted, char_some, cut_allowed, parted}
use Rattle.arrived.proofs.PieceLaws.{piece_none, piece_rest, piece_step, shut_piece, then}
use Rattle.arrived.proofs.States.{Standing, five_once, parts, standing}
use Rattle.arrived.proofs.Waiting.{Within, bar_part, five_is, gap_kept, within_clear}

-- ---- when the state and the text agree

-- where the text stands by the state, and the arrival, whose places are `base` more; the last i bytes belong to a character that has not come whole
pub data Agrees (base i : ℕ) : Stands → Coming → Type 0 where
  agrees_within : (o : Open) (at : ℕ) (x : List ℕ) → open_of (whole_of x i) ≡ o → kept_of (whole_of x i) ≡ [] → ((b : ℕ) → bar_of at x b ≡ pass) → Agrees base i (within o) (going at x)
  agrees_behind : (a : ℕ) (y : List ℕ) (at : ℕ) (x : List ℕ) → open_of (whole_of y i) ≡ open_of (whole_of x i) → kept_of (whole_of y i) ≡ kept_of (whole_of x i)
      → ((b : ℕ) → PassThere 0 base (bar_of a y b) (bar_of at x b)) → Agrees base i (behind a y) (going at x)
  agrees_shut : (d c : Refusal) → RefusalThere 0 base d c → Agrees base i (stopped d) (shut c)
  agrees_halted : (d c : Refusal) → RefusalThere 0 base d c → Agrees base i (stopped d) (halted c)

-- what bytes give by the state, and by the text
pub record Meets (base i : ℕ) (s : Came) (g : Given) : Type 0 where
  pub entries_are : AllThere 0 base s.entries g.entries
  pub bytes_are : s.bytes ≡ g.bytes
  pub stands : Agrees base i s.standing g.next

-- ---- numbers and lists

later_low : (a b : ℕ) → a ≤ b → later a b ≡ b
unfolding later
later_low a b l = rw (le-leb a b l)

later_high : (a b : ℕ) → b < a → later a b ≡ a
unfolding later
later_high a b l = rw (lt-leb a b l)

sooner_low : (a b : ℕ) → a ≤ b → sooner a b ≡ a
unfolding sooner
sooner_low a b l = rw (le-leb a b l)

-- 5 does not say that the text has ended
not_five : (s : List ℕ) (r : Refusal) → tells_end r ≡ true → cond (eqb r.number 5) s [] ≡ []
unfolding tells_end
not_five s r t =
    either (bool_cases (eqb r.number 5))
    (λ e. let z : true ≡ false = sym t ∙ ap (λ (n : ℕ). one_of (4 ∷ 6 ∷ 17 ∷ []) n) (eqb-true r.number 5 e) in let k : ◌≡◌ {A = ℕ} 0 1 = cc in absurd (omega arith))
    (λ e. rw e)

-- where entries end that differ in their places only
pub all-end : (o n : ℕ) (es es' : List Entry) (a a' : ℕ) → AllThere o n es es' → a' + o ≡ a + n → end_of a' es' + o ≡ end_of a es + n
unfolding end_of
all-end o n [] [] a a' AllThere.none h = h
all-end o n (e ∷ es) (f ∷ fs) a a' (AllThere.more m t) h = all-end o n es fs e.end f.end t m.end
all-end o n [] (f ∷ fs) a a' x4 h = elim x4 [ ]
all-end o n (e ∷ es) [] a a' x4 h = elim x4 [ ]

-- ---- what is left of a text beside what is kept of it

module _ (at : ℕ) (rest : List ℕ) (part : ℕ) (k : GoesOn at rest part) where
  -- how many bytes of whitespace and comments are not kept
  abbrev pub before : ℕ
  before = length (whole_of rest part) - length (kept_of (whole_of rest part))

  kept_back : (before ≤ length (whole_of rest part)) × (kept_of (whole_of rest part) ≡ drop before (whole_of rest part))
  kept_back = by (standing at rest part k)
    where
      by : Standing (whole_of rest part) → (before ≤ length (whole_of rest part)) × (kept_of (whole_of rest part) ≡ drop before (whole_of rest part))
      by (Standing.at_gap g l e f q) =
          let n : before ≡ g = omega (arith, ap length q, length-drop g (whole_of rest part)) in
          (omega arith, q ∙ ap (λ (m : ℕ). drop m (whole_of rest part)) (sym n))
      by (Standing.inside i o q) =
          let n : before ≡ length (whole_of rest part) = omega (arith, ap length q) in
          (omega arith, q ∙ sym (ap (λ (m : ℕ). drop m (whole_of rest part)) n ∙ drop-length (whole_of rest part)))

  -- the gap that a text with more bytes begins with ends behind them
  gap_late : (v : List ℕ) (g : ℕ) → gap_of (whole_of rest part ++ v) ≡ gap.Clear g → before ≤ g
  gap_late v g e = either (lt_or_le (length (whole_of rest part)) g) (λ l. omega (arith, kept_back.0)) (λ l. by (standing at rest part k) (gap_cut (whole_of rest part) v g e l))
    where
      by : Standing (whole_of rest part) → gap_of (whole_of rest part) ≡ gap.Clear g → before ≤ g
      by (Standing.at_gap h l a f q) c =
          let z : gap.Clear h ≡ gap.Clear g = sym a ∙ c in
          let y : h ≡ g = cc in
          omega (arith, ap length q, length-drop h (whole_of rest part))
      by (Standing.inside i o q) c = omega (arith, within_clear (whole_of rest part) g i c, kept_back.0)

  pub front_bytes : List ℕ
  front_bytes = take before (whole_of rest part)

  front_long : length (take before (whole_of rest part)) ≡ before
  front_long = length-take-le before (whole_of rest part) kept_back.0

  pub rest_back : rest ≡ take before (whole_of rest part) ++ held_of rest part
  rest_back =
      let w : List ℕ = whole_of rest part in
      sym (parts at rest part k).split
      ∙ ap (λ (t : List ℕ). t ++ part_of rest part) (sym (take-append-drop before w) ∙ ap (λ (t : List ℕ). take before w ++ t) (sym kept_back.1))
      ∙ append_assoc (take before w) (kept_of w) (part_of rest part)

  pub rest_long : length rest ≡ before + length (held_of rest part)
  rest_long = ap length rest_back ∙ length-append (take before (whole_of rest part)) (held_of rest part) ∙ ap (λ (n : ℕ). n + length (held_of rest part)) front_long

  module _ (y : List ℕ) (i : ℕ) (eh : allowed_of (part_of rest part ++ y) ≡ All i) where
    -- the whole characters that come with the bytes y, all that have come, and the front of one behind them
    abbrev pub come : List ℕ
    come = whole_of (part_of rest part ++ y) i

    abbrev pub now : List ℕ
    now = whole_of rest part ++ whole_of (part_of rest part ++ y) i

    abbrev pub cutoff : List ℕ
    cutoff = part_of (part_of rest part ++ y) i

    new : Parted (part_of rest part ++ y) i
    new = parted (part_of rest part ++ y) i eh

    pub rest_split : rest ++ y ≡ now ++ cutoff
    rest_split =
        ap (λ (t : List ℕ). t ++ y) (sym (parts at rest part k).split)
        ∙ append_assoc (whole_of rest part) (part_of rest part) y
        ∙ ap (λ (t : List ℕ). whole_of rest part ++ t) (sym new.split)
        ∙ sym (append_assoc (whole_of rest part) come cutoff)

    pub held_split : held_of rest part ++ y ≡ (kept_of (whole_of rest part) ++ come) ++ cutoff
    held_split =
        append_assoc (kept_of (whole_of rest part)) (part_of rest part) y
        ∙ ap (λ (t : List ℕ). kept_of (whole_of rest part) ++ t) (sym new.split)
        ∙ sym (append_assoc (kept_of (whole_of rest part)) come cutoff)

    now_text : Text now
    now_text = text_append (parts at rest part k).text come new.text

    now_all : allowed_of now ≡ All 0
    now_all = text_all now now_text

    -- a list with these bytes at its end
    whole_front : (t : List ℕ) → whole_of (t ++ cutoff) i ≡ t
    whole_front t =
        let m : length cutoff ≡ i = new.many in
        take_at t cutoff (length (t ++ cutoff) - i) (omega (arith, length-append t cutoff))

    pub now_whole : whole_of (rest ++ y) i ≡ now
    now_whole = ap (λ (t : List ℕ). whole_of t i) rest_split ∙ whole_front now

    -- ---- where its whitespace and comments end
    pub data Passes : Passed → Type 0 where
      begins : (g : ℕ) → gap_of now ≡ gap.Clear g → g < length now → before ≤ g → Passes (passed.Begins (g - before))
      waits : Within now → Passes (passed.Within (open_of now))
      odd : (p : ℕ) → gap_of now ≡ gap.Refused (unexpected_char p) → Passes (passed.Unexpected (p - before))

    -- the shortest text for it
    abbrev short : List ℕ
    short = canon (whole_of rest part) ++ come

    -- how much shorter it is
    abbrev less : ℕ
    less = length (whole_of rest part) - length (canon (whole_of rest part))

    canon_long : length (canon (whole_of rest part)) ≡ length (front (open_of (whole_of rest part))) + length (kept_of (whole_of rest part))
    unfolding canon
    canon_long = length-append (front (open_of (whole_of rest part))) (kept_of (whole_of rest part))

    less_is : less + length (front (open_of (whole_of rest part))) ≡ before
    less_is = omega (arith, canon_long, canon_short (whole_of rest part))

    now_long : length now ≡ less + length short
    now_long = omega (arith, canon_short (whole_of rest part), length-append (whole_of rest part) come, length-append (canon (whole_of rest part)) come)

    now_gap : (g : Gap) → gap_of short ≡ g → gap_of now ≡ later_by less g
    now_gap g e = canon_gap (whole_of rest part) come ∙ ap (later_by less) e

    now_open : open_of now ≡ open_of short
    now_open = open_on (whole_of rest part) come

    -- a gap that is passed leaves nothing open
    clear_open : (s : List ℕ) (g : ℕ) → gap_of s ≡ gap.Clear g → open_of s ≡ Clear
    clear_open s g e = by (ways s)
      where
        by : Ways s → open_of s ≡ Clear
        by (Ways.clear h l a f) = f
        by (Ways.ended a f) = let z : ◌≡◌ {A = ℕ} 0 1 = cc in absurd (omega arith)
        by (Ways.line a f) = let z : ◌≡◌ {A = ℕ} 0 1 = cc in absurd (omega arith)
        by (Ways.block level last b a f) = let z : ◌≡◌ {A = ℕ} 0 1 = cc in absurd (omega arith)
        by (Ways.odd p a f) = f

    -- a refusal that is not 5 says that the text has ended
    ends_else : (s : List ℕ) (r : Refusal) → gap_of s ≡ gap.Refused r → eqb r.number 5 ≡ false → tells_end r ≡ true
    unfolding tells_end
    ends_else s r e n = by (ways s)
      where
        by : Ways s → tells_end r ≡ true
        by (Ways.clear h l a f) = let z : ◌≡◌ {A = ℕ} 0 1 = cc in absurd (omega arith)
        by (Ways.ended a f) = let q : eof (length s) ≡ r = cc in ap tells_end (sym q)
        by (Ways.line a f) = let z : ◌≡◌ {A = ℕ} 0 1 = cc in absurd (omega arith)
        by (Ways.block level last b a f) = let q : unclosed_block_comment (length s) ≡ r = cc in ap tells_end (sym q)
        by (Ways.odd p a f) =
            let q : unexpected_char p ≡ r = cc in
            let z : true ≡ false = ap (λ (x : Refusal). eqb x.number 5) q ∙ n in
            let y : ◌≡◌ {A = ℕ} 0 1 = cc in absurd (omega arith)

    by-gap : (g : Gap) → gap_of short ≡ g → Passes (passed_by g (open_of short) (length (front (open_of (whole_of rest part)))) (length short))
    unfolding tells_end
    by-gap (gap.Clear g) e =
        let f : ℕ = length (front (open_of (whole_of rest part))) in
        let c : gap_of now ≡ gap.Clear (less + g) = now_gap (gap.Clear g) e in
        let bound : g ≤ length short = subst (EndsBy (length short)) e (gap_bounded short) in
        either (lt_or_le g (length short))
        (λ l. rw (lt-ltb g (length short) l)
        (subst (λ (n : ℕ). Passes (passed.Begins n)) (omega (arith, less_is)) (begins (less + g) c (omega (arith, now_long)) (gap_late come (less + g) c))))
        (λ l. let all : gap_of now ≡ gap.Clear (length now) = c ∙ ap gap.Clear (omega (arith, now_long)) in
        rw (le-ltb g (length short) l) (subst (λ (o : Open). Passes (passed.Within o)) (clear_open now (length now) all) (waits (Within.all all))))
    by-gap (gap.InLine n) e = subst (λ (o : Open). Passes (passed.Within o)) now_open (waits (Within.in_line (less + n) (now_gap (gap.InLine n) e)))
    by-gap (gap.Refused r) e =
        let c : gap_of now ≡ gap.Refused (at_place r (less + r.place)) = now_gap (gap.Refused r) e in
        either (bool_cases (eqb r.number 5))
        (λ t. let is = five_is short r e (eqb-true r.number 5 t) in
        let five : gap_of now ≡ gap.Refused (unexpected_char (less + r.place)) = c ∙ ap (λ (x : Refusal). gap.Refused (at_place x (less + r.place))) is in
        rw t (subst (λ (n : ℕ). Passes (passed.Unexpected n)) (omega (arith, less_is)) (odd (less + r.place) five)))
        (λ t. rw t (subst (λ (o : Open). Passes (passed.Within o)) now_open (waits (Within.unclosed (at_place r (less + r.place)) c (ends_else short r e t)))))

    pub passes : Passes (passed_of (open_of (whole_of rest part)) (kept_of (whole_of rest part) ++ come))
    unfolding passed_of canon
    passes =
        let o : Open = open_of (whole_of rest part) in
        let same : short ≡ front o ++ (kept_of (whole_of rest part) ++ come) = append_assoc (front o) (kept_of (whole_of rest part)) come in
        subst (λ (t : List ℕ). Passes (passed_by (gap_of t) (open_of t) (length (front o)) (length t))) same (by-gap (gap_of short) refl)

    -- ---- nothing has begun
    abbrev base : ℕ
    base = at + before

    within_meets : Within now → Meets (at + before) i (came_by (passed.Within (open_of now)) (length (held_of rest part)) (held_of rest part ++ y)) (piece ron_reader bar_of (going at rest) y)
    within_meets w =
        let kept : piece ron_reader bar_of (going at rest) y ≡ keeping at (rest ++ y) (length y) = gap_kept at now cutoff rest y w now_text new.cut rest_split in
        subst (λ (g : Given). Meets (at + before) i (came_by (passed.Within (open_of now)) (length (held_of rest part)) (held_of rest part ++ y)) g) (sym kept) record {
          entries_are = AllThere.none;
          bytes_are = omega (arith, length-append (held_of rest part) y);
          stands = agrees_within (open_of now) at (rest ++ y) (ap open_of now_whole) (ap kept_of now_whole ∙ none_kept w)
              (λ b. ap (λ (t : List ℕ). bar_of at t b) rest_split ∙ bar_part at now cutoff b w new.cut);
        }
      where
        none_kept : Within now → kept_of now ≡ []
        none_kept (Within.all e) = kept_is now (gap.Clear (length now)) e ∙ drop-length now
        none_kept (Within.in_line n e) = kept_is now (gap.InLine n) e
        none_kept (Within.unclosed r e t) = kept_is now (gap.Refused r) e ∙ not_five now r t

    -- ---- 5 behind a `/`
    -- its place lies behind all that had come
    five_new : (p : ℕ) → FiveFront now p → length rest < p
    five_new p f =
        either (lt_or_le (length rest) p) (λ l. l)
        (λ l. let x : List ℕ = (f.front ++ f.part) ++ f.last ∷ [] in
        let whole : x ++ (f.back ++ cutoff) ≡ rest ++ y =
        append_assoc (f.front ++ f.part) (f.last ∷ []) (f.back ++ cutoff) ∙ sym (append_assoc (f.front ++ f.part) (f.last ∷ f.back) cutoff)
        ∙ ap (λ (t : List ℕ). t ++ cutoff) (sym f.is) ∙ sym rest_split in
        let lx : length x ≡ p = length-append (f.front ++ f.part) (f.last ∷ []) ∙ f.long in
        let q = front_of x (f.back ++ cutoff) rest y whole (omega arith) in
        let z : true ≡ false = sym (five_once x (drop (length x) rest) p f.whole f.here) ∙ ap ron_once (sym q.0) ∙ k.calm in
        let c : ◌≡◌ {A = ℕ} 0 1 = cc in absurd (omega arith))

    odd_piece : (p : ℕ) → FiveFront now p → piece ron_reader bar_of (going at rest) y ≡ record { entries = []; next = shut (unexpected_char (at + p)); bytes = p - length rest }
    odd_piece p f =
        let x : List ℕ = f.front ++ f.part in
        let b : ℕ = f.last in
        let z : List ℕ = f.back ++ cutoff in
        let all : rest ++ y ≡ x ++ b ∷ z = rest_split ∙ ap (λ (t : List ℕ). t ++ cutoff) f.is ∙ append_assoc x (b ∷ f.back) cutoff in
        let new-five = five_new p f in
        let q = front_of rest y x (b ∷ z) all (omega (arith, f.long)) in
        let u : List ℕ = drop (length rest) x in
        let lu : length u ≡ p - length rest - 1 = omega (arith, length-drop (length rest) x, f.long) in
        let kept : piece ron_reader bar_of (going at rest) u ≡ keeping at x (length u) =
        gap_kept at f.front f.part rest u f.within f.text f.cut (sym q.0) ∙ ap (λ (t : List ℕ). keeping at t (length u)) (sym q.0) in
        let stop : step ron_reader bar_of (going at x) b ≡ record { entries = []; next = shut (unexpected_char (at + p)); bytes = 1 } =
        five_step at x b p f.whole f.here (bar_part at f.front f.part b f.within f.cut) in
        let last : piece ron_reader bar_of (going at x) (b ∷ z) ≡ record { entries = []; next = shut (unexpected_char (at + p)); bytes = 1 } =
        piece_step ron_reader bar_of (going at x) b z ∙ ap (λ (g : Given). then ron_reader bar_of g z) stop
        ∙ ap (λ (g : Given). record { entries = g.entries; next = g.next; bytes = 1 + g.bytes }) (shut_piece ron_reader bar_of z (unexpected_char (at + p))) in
        ap (piece ron_reader bar_of (going at rest)) q.1
        ∙ cut-piece ron_reader bar_of u (b ∷ z) (going at rest)
        ∙ ap (λ (g : Given). both g (λ (c : Coming). piece ron_reader bar_of c (b ∷ z))) kept
        ∙ ap (λ (g : Given). record { entries = g.entries; next = g.next; bytes = length u + g.bytes }) last
        ∙ ap (λ (n : ℕ). record { entries = []; next = shut (unexpected_char (at + p)); bytes = n }) (omega arith)

    odd_meets : (p : ℕ) → gap_of now ≡ gap.Refused (unexpected_char p)
        → Meets (at + before) i (came_by (passed.Unexpected (p - before)) (length (held_of rest part)) (held_of rest part ++ y)) (piece ron_reader bar_of (going at rest) y)
    odd_meets p e =
        let f = five_front now p now_text e in
        let late = five_new p f in
        let q : ℕ = length (held_of rest part) in
        let n : ℕ = p - before in
        let far : p ≤ length (rest ++ y) =
        omega (arith, f.long, ap length rest_split, length-append now cutoff, ap length f.is, length-append (f.front ++ f.part) (f.last ∷ f.back)) in
        let l : later n (q + 1) ≡ n =
        either (lt_or_le (q + 1) n) (λ h. later_high n (q + 1) h) (λ h. later_low n (q + 1) h ∙ omega (arith, rest_long)) in
        let c : sooner (later n (q + 1)) (length (held_of rest part ++ y)) - q ≡ p - length rest =
        ap (λ (m : ℕ). sooner m (length (held_of rest part ++ y)) - q) l
        ∙ ap (λ (m : ℕ). m - q) (sooner_low n (length (held_of rest part ++ y)) (omega (arith, length-append (held_of rest part) y, length-append rest y, rest_long)))
        ∙ omega (arith, rest_long) in
        subst (λ (g : Given). Meets (at + before) i (came_by (passed.Unexpected n) q (held_of rest part ++ y)) g) (sym (odd_piece p f)) record {
          entries_are = AllThere.none;
          bytes_are = c;
          stands = agrees_shut (unexpected_char n) (unexpected_char (at + p)) (record { number = refl; reason = refl; place = omega (arith, rest_long) });
        }

    -- ---- something begins
    module _ (g : ℕ) (e : gap_of now ≡ gap.Clear g) (l : g < length now) (late : before ≤ g) where
      -- where it begins in what was kept and has come, and how many bytes of the piece stand before it
      abbrev first : ℕ
      first = g - before

      abbrev held : ℕ
      held = length (held_of rest part)

      abbrev fed : ℕ
      fed = later (g - before) (length (held_of rest part)) - length (held_of rest part)

      -- what has come with them, and what follows
      abbrev x : List ℕ
      x = rest ++ take (later (g - before) (length (held_of rest part)) - length (held_of rest part)) y

      abbrev v : List ℕ
      v = drop (later (g - before) (length (held_of rest part)) - length (held_of rest part)) y

      later_is : later first held ≡ held + fed
      later_is = either (lt_or_le held first) (λ h. omega (arith, later_high first held h)) (λ h. omega (arith, later_low first held h))

      come_long : length (held_of rest part ++ y) ≡ held + length y
      come_long = length-append (held_of rest part) y

      whole_long : length (rest ++ y) ≡ length now + length cutoff
      whole_long = ap length rest_split ∙ length-append now cutoff

      fed_le : fed ≤ length y
      fed_le =
          either (lt_or_le held first)
          (λ h. omega (arith, later_high first held h, whole_long, length-append rest y, rest_long))
          (λ h. omega (arith, later_low first held h))

      fed_long : length (take fed y) ≡ fed
      fed_long = length-take-le fed y fed_le

      x_all : x ++ v ≡ rest ++ y
      x_all = append_assoc rest (take fed y) v ∙ ap (λ (t : List ℕ). rest ++ t) (take-append-drop fed y)

      x_long : length x ≡ length rest + fed
      x_long = length-append rest (take fed y) ∙ ap (λ (n : ℕ). length rest + n) fed_long

      x_reach : g ≤ length x
      x_reach = either (lt_or_le held first) (λ h. omega (arith, later_high first held h, x_long, rest_long)) (λ h. omega (arith, x_long, rest_long))

      -- the gap ends there for good
      all_gap : gap_of (rest ++ y) ≡ gap.Clear g
      all_gap =
          let here : allowed_of (drop g now) ≡ All 0 = gap_keeps ((clear_exactly now g).0 e).1.0 0 now_all in
          ap gap_of rest_split ∙ gap_char now cutoff g e (char_some (drop g now) 0 here (omega (arith, length-drop g now)))

      x_gap : gap_of x ≡ gap.Clear g
      x_gap = gap_cut x v g (ap gap_of x_all ∙ all_gap) x_reach

      -- the bytes before it are kept
      fed_kept : piece ron_reader bar_of (going at rest) (take fed y) ≡ keeping at x (length (take fed y))
      fed_kept =
          either (lt_or_le held first)
          (λ h. let full : g ≡ length x = omega (arith, later_high first held h, x_long, rest_long) in
          let f = front_all (rest ++ y) i all_ok (length x) in
          let ax : allowed_of x ≡ All f.0 = ap allowed_of (sym (take-append_seam x v) ∙ ap (take (length x)) x_all) ∙ f.1 in
          let none : allowed_of [] ≡ All f.0 = ap allowed_of (sym (drop_of_length-le x {i = g} (omega arith))) ∙ gap_keeps ((clear_exactly x g).0 x_gap).1.0 f.0 ax in
          let zero_is : All 0 ≡ All f.0 = sym (text_all [] Text.none) ∙ none in
          let tx : Text x = (all_text x).0 (ax ∙ sym zero_is) in
          gap_kept at x [] rest (take fed y) (Within.all (x_gap ∙ ap gap.Clear full)) tx (inl refl) (sym (append-nil x)))
          (λ h. let n : fed ≡ 0 = omega (arith, later_low first held h) in
          let t : take fed y ≡ [] = ap (λ (m : ℕ). take m y) n in
          ap (piece ron_reader bar_of (going at rest)) t ∙ piece_none ron_reader bar_of (going at rest)
          ∙ ap₂ (λ (u : List ℕ) (m : ℕ). keeping at u m) (sym (ap (λ (u : List ℕ). rest ++ u) t ∙ append-nil rest)) (sym (ap length t)))
        where
          all_ok : allowed_of (rest ++ y) ≡ All i
          all_ok = ap allowed_of rest_split ∙ cut_allowed now cutoff now_text new.cut ∙ ap All new.many

      -- so the text gives what it gives from there on
      text_gives : piece ron_reader bar_of (going at rest) y
          ≡ record { entries = (piece ron_reader bar_of (going at x) v).entries; next = (piece ron_reader bar_of (going at x) v).next; bytes = fed + (piece ron_reader bar_of (going at x) v).bytes }
      text_gives =
          ap (piece ron_reader bar_of (going at rest)) (sym (take-append-drop fed y))
          ∙ cut-piece ron_reader bar_of (take fed y) v (going at rest)
          ∙ ap (λ (h : Given). both h (λ (c : Coming). piece ron_reader bar_of c v)) fed_kept
          ∙ ap (λ (n : ℕ). record { entries = (piece ron_reader bar_of (going at x) v).entries; next = (piece ron_reader bar_of (going at x) v).next; bytes = n + (piece ron_reader bar_of (going at x) v).bytes }) fed_long

      -- and the state what it gives from there on
      start_same : drop first (held_of rest part) ≡ drop g x
      start_same =
          either (lt_or_le held first)
          (λ h. drop_of_length-le (held_of rest part) {i = first} (omega arith) ∙ sym (drop_of_length-le x {i = g} (omega (arith, later_high first held h, x_long, rest_long))))
          (λ h. let n : fed ≡ 0 = omega (arith, later_low first held h) in
          let xr : x ≡ rest = ap (λ (m : ℕ). rest ++ take m y) n ∙ append-nil rest in
          let j : g ≡ length (take before (whole_of rest part)) + first = omega (arith, front_long) in
          sym (ap (drop g) (xr ∙ rest_back) ∙ ap (λ (m : ℕ). drop m (take before (whole_of rest part) ++ held_of rest part)) j
          ∙ drop-append-add (take before (whole_of rest part)) (held_of rest part) first))

      kept_front : take held (held_of rest part ++ y) ≡ held_of rest part
      kept_front = take-append_seam (held_of rest part) y

      follows : drop (later first held) (held_of rest part ++ y) ≡ v
      follows = ap (λ (m : ℕ). drop m (held_of rest part ++ y)) later_is ∙ drop-append-add (held_of rest part) y fed

      state_gives : bytes_give (going first (drop first (take held (held_of rest part ++ y)))) (drop (later first held) (held_of rest part ++ y)) ≡ piece ron_reader bar_of (going first (drop g x)) v
      state_gives = ap₂ (λ (s t : List ℕ). bytes_give (going first s) t) (ap (drop first) kept_front ∙ start_same) follows

      there : GivenThere ron_reader bar_of 0 (at + before) (piece ron_reader bar_of (going first (drop g x)) v) (piece ron_reader bar_of (going at x) v)
      there = piece_there ron_reader bar_of ron bar_moves 0 (at + before) v (going first (drop g x)) (going at x)
          (ComingThere.goes g (drop g x) x first at (ron_alike_clear x g x_gap) (omega arith))

      -- ---- what is left behind them
      starts : drop g x ++ v ≡ drop g (rest ++ y)
      starts = sym (drop-append-le g x v x_reach) ∙ ap (drop g) x_all

      begun_whole : whole_of (drop g (rest ++ y)) i ≡ drop g now
      begun_whole = ap (λ (t : List ℕ). whole_of (drop g t) i) rest_split ∙ ap (λ (t : List ℕ). whole_of t i) (drop-append-le g now cutoff (omega arith)) ∙ whole_front (drop g now)

      -- the same is open and kept of two lists
      abbrev Same : List ℕ → List ℕ → Type 0
      Same s t = (open_of (whole_of s i) ≡ open_of (whole_of t i)) × (kept_of (whole_of s i) ≡ kept_of (whole_of t i))

      -- no entry was given: what has begun is all that is kept
      none_given : Same (drop g (rest ++ y)) (rest ++ y)
      none_given =
          let c : gap_of (drop g now) ≡ gap.Clear 0 = gap_restarts now g e in (
            ap open_of begun_whole ∙ clear_open (drop g now) 0 c ∙ sym (ap open_of now_whole ∙ clear_open now g e),
            ap kept_of begun_whole ∙ kept_is (drop g now) (gap.Clear 0) c ∙ sym (ap kept_of now_whole ∙ kept_is now (gap.Clear g) e),
          )

      left_same : (es es' : List Entry) → AllThere 0 (at + before) es es' → (a a' : ℕ) (s t : List ℕ) → a ≡ end_of first es → a' ≡ end_of at es' → first ≤ a
          → s ≡ drop (a - first) (drop g (rest ++ y)) → t ≡ drop (a' - at) (rest ++ y) → Same s t
      unfolding end_of
      left_same [] [] AllThere.none a a' s t p q lo es et =
          let js : a - first ≡ 0 = omega arith in
          let jt : a' - at ≡ 0 = omega arith in
          let hs : s ≡ drop g (rest ++ y) = es ∙ ap (λ (n : ℕ). drop n (drop g (rest ++ y))) js in
          let ht : t ≡ rest ++ y = et ∙ ap (λ (n : ℕ). drop n (rest ++ y)) jt in
          subst (λ (z : List ℕ). Same z t) (sym hs) (subst (Same (drop g (rest ++ y))) (sym ht) none_given)
      left_same (f ∷ fs) (h ∷ hs) (AllThere.more m r) a a' s t p q lo es et =
          let ends = all-end 0 (at + before) fs hs f.end h.end r m.end in
          let j : g + (a - first) ≡ a' - at = omega arith in
          let st : s ≡ t = es ∙ drop-drop (a - first) g (rest ++ y) ∙ ap (λ (n : ℕ). drop n (rest ++ y)) j ∙ sym et in
          subst (Same s) st (refl, refl)
      left_same [] (h ∷ hs) x13 a a' s t p q lo es et = elim x13 [ ]
      left_same (f ∷ fs) [] x9 a a' s t p q lo es et = elim x9 [ ]

      stand_by : (c c' : Coming) → (piece ron_reader bar_of (going first (drop g x)) v).next ≡ c → (piece ron_reader bar_of (going at x) v).next ≡ c'
          → ComingThere ron_reader bar_of 0 (at + before) c c' → Agrees (at + before) i (stands_at c) c'
      stand_by c c' es et (ComingThere.goes d s t a a' al h) =
          let ls = piece_rest ron_reader bar_of ron v (drop g x) first a s es in
          let lt = piece_rest ron_reader bar_of ron v x at a' t et in
          let same = left_same (piece ron_reader bar_of (going first (drop g x)) v).entries (piece ron_reader bar_of (going at x) v).entries there.entries_are a a' s t
          ls.end_is lt.end_is ls.late (ls.rest_is ∙ ap (drop (a - first)) starts) (lt.rest_is ∙ ap (drop (a' - at)) x_all) in
          agrees_behind a s a' t same.0 same.1
          (λ b. subst (λ (z : List ℕ). PassThere 0 (at + before) (bar_of a z b) (bar_of a' t b)) (append-nil s)
          (subst (λ (z : List ℕ). PassThere 0 (at + before) (bar_of a (s ++ []) b) (bar_of a' z b)) (append-nil t) (al.bars [] b 0 (at + before) a a' h)))
      stand_by c c' es et (ComingThere.shuts d d' m) = agrees_shut d d' m
      stand_by c c' es et (ComingThere.stays_halted d d' m) = agrees_halted d d' m

      begins_meets : Meets (at + before) i (came_by (passed.Begins (g - before)) (length (held_of rest part)) (held_of rest part ++ y)) (piece ron_reader bar_of (going at rest) y)
      begins_meets =
          let s : Given = piece ron_reader bar_of (going first (drop g x)) v in
          let t : Given = piece ron_reader bar_of (going at x) v in
          let m : Meets (at + before) i (record { entries = s.entries; standing = stands_at s.next; bytes = fed + s.bytes }) (record { entries = t.entries; next = t.next; bytes = fed + t.bytes }) =
          record { entries_are = there.entries_are; bytes_are = ap (λ (n : ℕ). fed + n) there.bytes_are; stands = stand_by s.next t.next refl refl there.next_is } in
          subst (λ (u : Given). Meets (at + before) i (came_by (passed.Begins (g - before)) (length (held_of rest part)) (held_of rest part ++ y)) u) (sym text_gives)
          (subst (λ (u : Given). Meets (at + before) i (record { entries = u.entries; standing = stands_at u.next; bytes = fed + u.bytes })
          (record { entries = t.entries; next = t.next; bytes = fed + t.bytes })) (sym state_gives) m)

    -- ---- all ways
    by_passes : {p : Passed} → Passes p → Meets (at + before) i (came_by p (length (held_of rest part)) (held_of rest part ++ y)) (piece ron_reader bar_of (going at rest) y)
    by_passes (begins g e l late) = begins_meets g e l late
    by_passes (waits w) = within_meets w
    by_passes (odd p e) = odd_meets p e

    -- what the state says of these bytes is what they give
    pub came_meets : Meets (at + before) i (came_of (open_of (whole_of rest part)) (length (held_of rest part)) (whole_of (held_of rest part ++ y) i) (part_of (held_of rest part ++ y) i))
        (piece ron_reader bar_of (going at rest) y)
    unfolding came_of
    came_meets =
        let s : List ℕ = held_of rest part ++ y in
        let w : whole_of s i ≡ kept_of (whole_of rest part) ++ come = ap (λ (t : List ℕ). whole_of t i) held_split ∙ whole_front (kept_of (whole_of rest part) ++ come) in
        let all : whole_of s i ++ part_of s i ≡ s = take-append-drop (length s - i) s in
        subst (λ (t : List ℕ). Meets (at + before) i (came_by (passed_of (open_of (whole_of rest part)) (whole_of s i)) (length (held_of rest part)) t) (piece ron_reader bar_of (going at rest) y)) (sym all)
        (subst (λ (t : List ℕ). Meets (at + before) i (came_by (passed_of (open_of (whole_of rest part)) t) (length (held_of rest part)) s) (piece ron_reader bar_of (going at rest) y)) (sym w)
        (by_passes passes))
