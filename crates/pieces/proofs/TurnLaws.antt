-- One decision of the code, as bytes give it one by one: where nothing has begun, and where something has. Assumes nothing.
use Prim.Native.Nat.{ℕ, suc, zero, ◌+◌, ◌-◌, ◌<◌, ◌≤◌}
use native.Mathlib.Nat.{sub_self}
use native.Mathlib.Omega.{arith}
use mathlib.Core.Bool.{true, false, cond}
use mathlib.Core.List.{List, [], ◌++◌, ◌∷◌, append_assoc, append-nil}
use mathlib.Core.Path.{◌≡◌, ap, ap₂, refl, subst, sym, ◌∙◌}
use lib.Dec.{eqb, leb, ltb}
use lib.ListN.{drop, drop_of_length-le, get_or, length, length-append, length-drop, take, take-append-drop}
use lib.Seq.{drop-append-le, get_or-drop, get_or-take, length-take-le}
use borrow.Author.Tests.{eq-eqb, ne_eqb, le-leb, lt-leb, lt-ltb, le-ltb, eqb-true}
use Rattle.text.proofs.Choices.{bool_cases, either, lt_or_le}
use Rattle.text.specs.Refusals.{entry_too_long, placed_behind, unexpected_char}
use Rattle.text.specs.declared.refusal.Refusal.{Refusal}
use Rattle.rows.specs.declared.Entry.{Entry}
use Rattle.comments.specs.Gaps.{gap_of}
use Rattle.comments.specs.declared.gap.Gap.{Gap}
use Rattle.comments.specs.declared.gap.Gap.TheVariants as gap
use Rattle.comments.proofs.GapLaws.{EndsBy, gap_bounded, gap_restarts}
use Rattle.gapped.proofs.Exactly.{five_exactly}
use Rattle.gapped.proofs.Passing.{gap_passed}
use Rattle.gaps.proofs.Cuts.{begins_told, unexpected_told}
use Rattle.gaps.specs.Opens.{front, open_of}
use Rattle.gaps.specs.Passes.{passed_by, passed_of}
use Rattle.gaps.specs.declared.pass.Passed.{Passed}
use Rattle.gaps.specs.declared.pass.Passed.TheVariants.{Begins, Within, Unexpected}
use Rattle.gaps.specs.declared.state.Open.{Open}
use Rattle.gaps.specs.declared.state.Open.TheVariants.{Clear}
use Rattle.octets.specs.Octets.{Cut}
use Rattle.reading.proofs.Steps.{drop_on}
use Rattle.reading.specs.Kept.{AllThere}
use Rattle.reading.specs.Kept.AllThere.{none, more}
use Rattle.reading.specs.Readings.{end_of}
use Rattle.arriving.proofs.Keeps.{piece_keeps}
use Rattle.arriving.proofs.Meets.{Alike, ComingThere, GivenThere, RefusalThere, goes, piece_there, shuts, stays_halted}
use Rattle.arriving.proofs.Waits.{keeping}
use Rattle.arriving.proofs.Whole.{both, cut}
use Rattle.arriving.specs.Arrivals.{Coming, Given, Passing, by_passing, piece, taken}
use Rattle.arriving.specs.Arrivals.Coming.{going, halted, shut}
use Rattle.arriving.specs.Arrivals.Passing.{halt}
use Rattle.settled.proofs.Owed.{ron}
use Rattle.settled.specs.Settled.{ron_reader}
use Rattle.pieces.specs.Bars.{bar_by, bar_of, bytes_give, most_held}
use Rattle.pieces.specs.Come.{later, sooner}
use Rattle.pieces.specs.inner.Runs.{stands_by, stands_in}
use Rattle.pieces.specs.inner.Turns.{behind_slash_at, between, decided_at, turn_by, turn_of, turn_passed, undecided_at}
use Rattle.pieces.specs.inner.Waiting.{stridden}
use Rattle.pieces.proofs.StrideLaws.{stridden_gives}
use Rattle.pieces.specs.declared.turn.Stands.{Stands}
use Rattle.pieces.specs.declared.turn.Stands.TheVariants as stands
use Rattle.pieces.specs.declared.turn.Turned.{Turned}
use Rattle.pieces.specs.declared.turn.Turned.TheVariants.{On, Over}
use Rattle.pieces.specs.declared.verdict.Verdict.{Verdict}
use Rattle.pieces.specs.declared.verdict.Verdict.TheVariants.{Nothing, Gives, Shuts}
use Rattle.pieces.specs.declared.waiting.Waited.{Waited}
use Rattle.pieces.proofs.GapCuts.{front_clear}
use Rattle.pieces.proofs.GapKeeps.{clear_with_part, cut_bytes, high_at, passed_keeps, within_keeps}
use Rattle.settled.proofs.WordEnds.{stop_ascii}
use Rattle.pieces.proofs.OddGaps.{odd_keeps, odd_shuts}
use Rattle.pieces.proofs.PlaceLaws.{later_left, later_right, sooner_left, sooner_right}
use Rattle.pieces.proofs.Rests.{halted_rest, shut_rest}
use Rattle.pieces.proofs.RonAlike.{bar_moves, ron_alike_clear}
use Rattle.pieces.proofs.WaitedRuns.{Decided, Gave, Stopping, gives, shuts as shut_by, waits}

-- ---- bytes between two places

nil_take : (n : ℕ) → ◌≡◌ {A = List ℕ} [] (take n [])
nil_take zero = refl
nil_take (suc n) = refl

pub between_take : (s : List ℕ) (a b : ℕ) → drop a (take b s) ≡ take (b - a) (drop a s)
between_take s zero b = let e : b ≡ b - 0 = omega arith in ap (λ (n : ℕ). take n s) e
between_take [] (suc a) zero = nil_take (0 - suc a)
between_take [] (suc a) (suc b) = nil_take (suc b - suc a)
between_take (x ∷ s) (suc a) zero = let e : 0 ≡ 0 - suc a = omega arith in ap (λ (n : ℕ). take n (drop a s)) e
between_take (x ∷ s) (suc a) (suc b) = let e : b - a ≡ suc b - suc a = omega arith in between_take s a b ∙ ap (λ (n : ℕ). take n (drop a s)) e

pub between_join : (s : List ℕ) (a b c : ℕ) → a ≤ b → b ≤ c → between a b s ++ between b c s ≡ between a c s
between_join s a b c h k =
    let ab : between a b s ≡ take (b - a) (drop a s) = between_take s a b in
    let ac : between a c s ≡ take (c - a) (drop a s) = between_take s a c in
    let bc : between b c s ≡ drop (b - a) (between a c s) = sym (drop_on a (b - a) b (take c s) (omega arith)) in
    let front : between a b s ≡ take (b - a) (between a c s) =
    ab ∙ sym (ap (take (b - a)) ac ∙ take-take (b - a) (c - a) (drop a s) (omega arith)) in
    ap₂ ◌++◌ front bc ∙ take-append-drop (b - a) (between a c s)
  where
    take-take : (n m : ℕ) (l : List ℕ) → n ≤ m → take n (take m l) ≡ take n l
    take-take zero m l h = refl
    take-take (suc n) zero l h = absurd (omega arith)
    take-take (suc n) (suc m) [] h = refl
    take-take (suc n) (suc m) (x ∷ l) h = ap {B = List ℕ} (λ (y : List ℕ). x ∷ y) (take-take n m l (omega arith))

pub between_rest : (s : List ℕ) (a b : ℕ) → a ≤ b → between a b s ++ drop b s ≡ drop a s
between_rest s a b h =
    ap₂ ◌++◌ (between_take s a b) (sym (drop_on a (b - a) b s (omega arith))) ∙ take-append-drop (b - a) (drop a s)

pub between_length : (s : List ℕ) (a b : ℕ) → b ≤ length s → length (between a b s) ≡ b - a
between_length s a b h = length-drop a (take b s) ∙ ap (λ (n : ℕ). n - a) (length-take-le b s h)

pub between_all : (s : List ℕ) (a b : ℕ) → length s ≤ b → between a b s ≡ drop a s
between_all s a b h = ap (drop a) (all b s h)
  where
    all : (b : ℕ) (s : List ℕ) → length s ≤ b → take b s ≡ s
    all zero [] h = refl
    all (suc b) [] h = refl
    all zero (x ∷ s) h = absurd (omega arith)
    all (suc b) (x ∷ s) h = ap {B = List ℕ} (λ (y : List ℕ). x ∷ y) (all b s (omega arith))

pub between_drop : (s : List ℕ) (a b c : ℕ) → a ≤ b → drop (b - a) (between a c s) ≡ between b c s
between_drop s a b c h = drop_on a (b - a) b (take c s) (omega arith)

-- ---- what a turn means

-- so many entries up to a byte, where the text goes on
pub record Goes (s : List ℕ) (at seen whole n end bytes : ℕ) : Type 0 where
  pub entries : List Entry
  pub run : bytes_give (going at (between at seen s)) (between seen bytes s) ≡ record { entries = entries; next = going end (between end bytes s); bytes = bytes - seen }
  pub count : length entries ≡ n
  pub ends : end_of at entries ≡ end
  pub further : seen < bytes
  pub inside : bytes ≤ whole
  pub low : at ≤ end
  pub held : end ≤ bytes

-- so many entries, and nothing more by the bytes that are left
pub record Stops (s : List ℕ) (at seen whole n end bytes : ℕ) (where-it : Stands) : Type 0 where
  pub entries : List Entry
  pub next : Coming
  pub taken : ℕ
  pub run : bytes_give (going at (between at seen s)) (drop seen s) ≡ record { entries = entries; next = next; bytes = taken }
  pub count : length entries ≡ n
  pub ends : end_of at entries ≡ end
  pub all : seen + taken ≡ bytes
  pub stands_is : stands_in next (length s - whole) ≡ where-it

-- what a turn says
abbrev pub Means : List ℕ → ℕ → ℕ → ℕ → Turned → Type 0
Means s at seen whole (On n end bytes) = Goes s at seen whole n end bytes
Means s at seen whole (Over n end bytes x) = Stops s at seen whole n end bytes x

-- ---- pieces one after the other

joined_run : (s : List ℕ) (at a b c : ℕ) (x : List ℕ) → a ≤ b → b ≤ c → (k : ℕ) → bytes_give (going at x) (between a b s) ≡ keeping at (x ++ between a b s) k
    → bytes_give (going at x) (between a c s)
    ≡ record {
      entries = (bytes_give (going at (x ++ between a b s)) (between b c s)).entries;
      next = (bytes_give (going at (x ++ between a b s)) (between b c s)).next;
      bytes = k + (bytes_give (going at (x ++ between a b s)) (between b c s)).bytes;
    }
joined_run s at a b c x h l k e =
    ap (bytes_give (going at x)) (sym (between_join s a b c h l))
    ∙ cut ron_reader bar_of (between a b s) (between b c s) (going at x)
    ∙ ap (λ (g : Given). both g (λ c'. bytes_give c' (between b c s))) e

none_between : (s : List ℕ) (at a : ℕ) (x : List ℕ) → bytes_give (going at x) (between a a s) ≡ keeping at x (a - a)
unfolding piece
none_between s at a x =
    let e : between a a s ≡ [] = between_take s a a ∙ ap (λ (n : ℕ). take n (drop a s)) (sub_self a) in
    ap (bytes_give (going at x)) e ∙ ap (keeping at x) (sym (sub_self a))

-- entries told from two beginnings
there_length : (o n : ℕ) {es fs : List Entry} → AllThere o n es fs → length es ≡ length fs
there_length o n none = refl
there_length o n (more m t) = ap suc (there_length o n t)

there_end : (o n : ℕ) {es fs : List Entry} (a b : ℕ) → AllThere o n es fs → 0 < length es → end_of b fs + o ≡ end_of a es + n
unfolding end_of
there_end o n a b none l = absurd (omega arith)
there_end o n a b (more {y} {x} {ys} {xs} m t) l = on y.end x.end m.end t
  where
    on : {es fs : List Entry} (a b : ℕ) → b + o ≡ a + n → AllThere o n es fs → end_of b fs + o ≡ end_of a es + n
    on a b e none = e
    on a b e (more {y} {x} {ys} {xs} m t) = on y.end x.end m.end t

ends_none : (at n : ℕ) (fs es : List Entry) → AllThere 0 n es fs → length es ≡ 0 → end_of at fs ≡ at
unfolding end_of
ends_none at n fs es t l = go t l
  where
    go : {es fs : List Entry} → AllThere 0 n es fs → length es ≡ 0 → end_of at fs ≡ at
    go none l = refl
    go (more m t) l = absurd (omega arith)

some_of : (n m : ℕ) → n ≡ m → eqb n 0 ≡ false → 0 < m
some_of n m e b = either (lt_or_le 0 m) (λ l. l) (λ l. let z : true ≡ false = sym (eq-eqb n 0 (omega arith)) ∙ b in let k : ◌≡◌ {A = ℕ} 0 1 = cc in absurd (omega arith))

-- which arrival stands there from another beginning
abbrev NextIs : ℕ → ℕ → Coming → Coming → Type 0
NextIs o n (going end r) c' = (at' : ℕ) × (r' : List ℕ) × (c' ≡ going at' r')
NextIs o n (shut d) c' = (d' : Refusal) × (c' ≡ shut d') × RefusalThere o n d d'
NextIs o n (halted d) c' = (d' : Refusal) × (c' ≡ halted d') × RefusalThere o n d d'

next_there : (o n : ℕ) {c c' : Coming} → ComingThere ron_reader bar_of o n c c' → NextIs o n c c'
next_there o n (goes d y x at at' k h) = (at', x, refl)
next_there o n (shuts y x m) = (x, refl, m)
next_there o n (stays_halted y x m) = (x, refl, m)

refusal_is : (n r p n' r' p' : ℕ) → n ≡ n' → r ≡ r' → p ≡ p' → ◌≡◌ {A = Refusal} (record { number = n; reason = r; place = p }) (record { number = n'; reason = r'; place = p' })
refusal_is n r p n' r' p' a b c = rw (a, b, c)

placed_there : (n : ℕ) (d d' : Refusal) → RefusalThere 0 n d d' → d' ≡ placed_behind n d
placed_there n d d' m = refusal_is d'.number d'.reason d'.place d.number d.reason (n + d.place) m.number m.reason (omega (arith, m.place))

given_is : (g : Given) (es : List Entry) (c : Coming) (k : ℕ) → g.entries ≡ es → g.next ≡ c → g.bytes ≡ k → g ≡ record { entries = es; next = c; bytes = k }
given_is g es c k p q r = rw (← p, ← q, ← r)

-- what bytes u give behind x, where their entries are the same as those of a token's own beginning
record Went (x : List ℕ) (at : ℕ) (u : List ℕ) (es : List Entry) (n : ℕ) : Type 0 where
  entries : List Entry
  same : AllThere 0 n es entries
  run : bytes_give (going at x) u ≡ record { entries = entries; next = going (end_of at entries) (drop (end_of at entries - at) (x ++ u)); bytes = length u }

record Refused (x : List ℕ) (at : ℕ) (u : List ℕ) (es : List Entry) (n : ℕ) (d : Refusal) : Type 0 where
  entries : List Entry
  same : AllThere 0 n es entries
  run : bytes_give (going at x) u ≡ record { entries = entries; next = shut (placed_behind n d); bytes = length u }

bar_halts : (at : ℕ) (x : List ℕ) (b k : ℕ) → gap_of x ≡ gap.Clear k → k + 4096 ≤ length x → bar_of at x b ≡ halt (entry_too_long (at + k))
unfolding bar_of
bar_halts at x b k h l = ap (bar_by at x) h ∙ rw (le-leb (k + 4096) (length x) l)

halts_first : (at : ℕ) (x : List ℕ) (b : ℕ) (z : List ℕ) (d : Refusal) → bar_of at x b ≡ halt d → bytes_give (going at x) (b ∷ z) ≡ record { entries = []; next = halted d; bytes = 0 }
unfolding piece
halts_first at x b z d h =
    ap (λ (p : Passing). record { entries = (by_passing p (taken ron_reader at (x ++ b ∷ []) b)).entries ++ (bytes_give (by_passing p (taken ron_reader at (x ++ b ∷ []) b)).next z).entries; next = (bytes_give (by_passing p (taken ron_reader at (x ++ b ∷ []) b)).next z).next; bytes = (by_passing p (taken ron_reader at (x ++ b ∷ []) b)).bytes + (bytes_give (by_passing p (taken ron_reader at (x ++ b ∷ []) b)).next z).bytes }) h
    ∙ ap (λ (g : Given). record { entries = g.entries; next = g.next; bytes = 0 + g.bytes }) (halted_rest z d)

none_after : (x y : List ℕ) {at : ℕ} (n : ℕ) → x ≡ y → ◌≡◌ {A = Given} (record { entries = (bytes_give (going at x) []).entries; next = (bytes_give (going at x) []).next; bytes = n + (bytes_give (going at x) []).bytes }) (record { entries = []; next = going at y; bytes = n + 0 })
unfolding piece
none_after x y {at} n e = ap (λ (l : List ℕ). record { entries = []; next = going at l; bytes = n + 0 }) e

later_least : (a b : ℕ) → b ≤ later a b
later_least a b = either (lt_or_le a b) (λ l. omega (arith, later_right a b (omega arith))) (λ l. omega (arith, later_left a b l))

later_first : (a b : ℕ) → a ≤ later a b
later_first a b = either (lt_or_le a b) (λ l. omega (arith, later_right a b (omega arith))) (λ l. omega (arith, later_left a b l))

later_moved : (p at seen : ℕ) → at ≤ seen → seen + (later p (seen - at + 1) - (seen - at)) ≡ later (at + p) (seen + 1)
later_moved p at seen h =
    either (lt_or_le (seen - at + 1) p)
    (λ l. omega (arith, later_left p (seen - at + 1) (omega arith), later_left (at + p) (seen + 1) (omega arith)))
    (λ l. omega (arith, later_right p (seen - at + 1) l, later_right (at + p) (seen + 1) (omega arith)))

nothing_more : (at : ℕ) (x : List ℕ) → bytes_give (going at x) [] ≡ keeping at x 0
unfolding piece
nothing_more at x = refl

-- where a 5 stands: behind the `/`, and within the text
odd_first : (y : List ℕ) (p : ℕ) → gap_of y ≡ gap.Refused (unexpected_char p) → 0 < p
odd_first y p h = let k = (five_exactly y p).0 h in omega (arith, k.3, (gap_passed k.2.0).whole)

odd_inside : (y : List ℕ) (p : ℕ) → gap_of y ≡ gap.Refused (unexpected_char p) → p ≤ length y
odd_inside y p h = subst (EndsBy (length y)) h (gap_bounded y)

-- where a token begins
passed_begins : (y : List ℕ) (k : ℕ) → gap_of y ≡ gap.Clear k → k < length y → passed_of Clear y ≡ Begins k
unfolding passed_of front
passed_begins y k h l = ap (λ (g : Gap). passed_by g (open_of y) 0 (length y)) h ∙ rw (lt-ltb k (length y) l) (ap Begins (omega arith))

front_is : (x z : List ℕ) → take (length x) (x ++ z) ≡ x
front_is [] z = refl
front_is (a ∷ x) z = ap {B = List ℕ} (λ (l : List ℕ). a ∷ l) (front_is x z)

take_less : (n m : ℕ) (l : List ℕ) → n ≤ m → take n (take m l) ≡ take n l
take_less zero m l h = refl
take_less (suc n) zero l h = absurd (omega arith)
take_less (suc n) (suc m) [] h = refl
take_less (suc n) (suc m) (x ∷ l) h = ap {B = List ℕ} (λ (y : List ℕ). x ∷ y) (take_less n m l (omega arith))

-- ---- nothing has begun

module _ (s : List ℕ) (at seen whole : ℕ) (low : at ≤ seen) (top : seen ≤ length s) (fit : at ≤ whole) (wide : whole ≤ length s) (cut-off : Cut (drop whole s)) where
  abbrev y : List ℕ
  y = between at whole s

  abbrev p : List ℕ
  p = drop whole s

  all_is : between at whole s ++ drop whole s ≡ drop at s
  all_is = between_rest s at whole fit

  len_all : length (drop at s) ≡ length s - at
  len_all = length-drop at s

  -- what is told of an arrival that keeps all
  kept_stands : stands_in (going at (drop at s)) (length s - whole) ≡ stands_by (passed_of Clear (between at whole s)) at
  kept_stands =
      let e : length (drop at s) - (length s - whole) ≡ whole - at = omega (arith, len_all) in
      ap (λ (l : List ℕ). stands_by (passed_of Clear l) at) (ap (λ (n : ℕ). take n (drop at s)) e ∙ sym (between_take s at whole))

  -- the bytes before `seen`, and those behind
  seen_is : take (seen - at) (drop at s) ≡ between at seen s
  seen_is = sym (between_take s at seen)

  left_is : drop (seen - at) (drop at s) ≡ drop seen s
  left_is = drop_on at (seen - at) seen s (omega arith)

  pub within_means : (o : Open) → passed_of Clear (between at whole s) ≡ Within o → Stops s at seen whole 0 at (length s) (stands.Within o)
  unfolding end_of
  within_means o h =
      let k = within_keeps y p o (seen - at) at h cut-off (omega (arith, ap length all_is, len_all)) in
      let run : bytes_give (going at (between at seen s)) (drop seen s) ≡ keeping at (drop at s) (length (drop at s) - (seen - at)) =
      ap₂ (λ (a b : List ℕ). bytes_give (going at a) b) (sym (ap (take (seen - at)) all_is ∙ seen_is)) (sym (ap (drop (seen - at)) all_is ∙ left_is))
      ∙ k ∙ ap (λ (l : List ℕ). keeping at l (length l - (seen - at))) all_is in
      record {
        entries = [];
        next = going at (drop at s);
        taken = length (drop at s) - (seen - at);
        run = run;
        count = refl;
        ends = refl;
        all = omega (arith, len_all);
        stands_is = kept_stands ∙ ap (λ (x : Passed). stands_by x at) h;
      }

  -- ---- something has begun
  module _ (k : ℕ) (h : gap_of (between at whole s) ≡ gap.Clear k) (some : k < length (between at whole s)) where
    abbrev start : ℕ
    start = at + k

    abbrev here : ℕ
    here = later seen (at + k)

    before_whole : at + k < whole
    before_whole = omega (arith, between_length s at whole wide)

    -- the gap of all that has come
    gap_all : gap_of (drop at s) ≡ gap.Clear k
    gap_all = ap gap_of (sym all_is) ∙ clear_with_part y p k h some cut-off

    -- and of a front of it
    gap_to : (c : ℕ) → at + k ≤ c → gap_of (between at c s) ≡ gap.Clear k
    gap_to c l =
        either (lt_or_le c (length s))
        (λ m. front_clear (between at c s) (drop c s) k (ap gap_of (between_rest s at c (omega arith)) ∙ gap_all) (omega (arith, between_length s at c (omega arith))))
        (λ m. ap gap_of (between_all s at c m) ∙ gap_all)

    here_low : at + k ≤ later seen (at + k)
    here_low = either (lt_or_le seen (at + k)) (λ l. omega (arith, later_right seen (at + k) (omega arith))) (λ l. omega (arith, later_left seen (at + k) l))

    here_seen : seen ≤ later seen (at + k)
    here_seen = either (lt_or_le seen (at + k)) (λ l. omega (arith, later_right seen (at + k) (omega arith))) (λ l. omega (arith, later_left seen (at + k) l))

    here_top : later seen (at + k) ≤ length s
    here_top = either (lt_or_le seen (at + k)) (λ l. omega (arith, later_right seen (at + k) (omega arith), before_whole)) (λ l. omega (arith, later_left seen (at + k) l))

    -- up to there all is kept
    to_here : bytes_give (going at (between at seen s)) (between seen (later seen (at + k)) s) ≡ keeping at (between at (later seen (at + k)) s) (later seen (at + k) - seen)
    to_here =
        either (lt_or_le seen (at + k))
        (λ l. let e = later_right seen (at + k) (omega arith) in
        let x : take k (drop at s) ≡ between at (at + k) s = (let z : k ≡ at + k - at = omega arith in ap (λ (n : ℕ). take n (drop at s)) z) ∙ sym (between_take s at (at + k)) in
        let q = passed_keeps (drop at s) k (seen - at) at gap_all (omega arith) (omega (arith, len_all, before_whole)) in
        let d : drop (seen - at) (take k (drop at s)) ≡ between seen (at + k) s = ap (drop (seen - at)) x ∙ between_drop s at seen (at + k) low in
        subst (λ (c : ℕ). bytes_give (going at (between at seen s)) (between seen c s) ≡ keeping at (between at c s) (c - seen)) (sym e)
        (ap₂ (λ (a b : List ℕ). bytes_give (going at a) b) (sym seen_is) (sym d) ∙ q ∙ ap₂ (keeping at) x (omega arith)))
        (λ l. subst (λ (c : ℕ). bytes_give (going at (between at seen s)) (between seen c s) ≡ keeping at (between at c s) (c - seen)) (sym (later_left seen (at + k) l)) (none_between s at seen (between at seen s)))

    -- ---- undecided up to a place
    reached : (c : ℕ) → bytes_give (going at (between at seen s)) (between seen c s) ≡ keeping at (between at c s) (c - seen) → seen ≤ c → c ≤ length s
        → bytes_give (going at (between at seen s)) (drop seen s)
        ≡ record {
          entries = (bytes_give (going at (between at c s)) (drop c s)).entries;
          next = (bytes_give (going at (between at c s)) (drop c s)).next;
          bytes = c - seen + (bytes_give (going at (between at c s)) (drop c s)).bytes;
        }
    reached c e l m =
        ap (bytes_give (going at (between at seen s))) (sym (between_rest s seen c l))
        ∙ cut ron_reader bar_of (between seen c s) (drop c s) (going at (between at seen s))
        ∙ ap (λ (g : Given). both g (λ c'. bytes_give c' (drop c s))) e

    -- 30 where a byte follows
    halts_at : (c : ℕ) → at + k + 4096 ≤ c → c < length s → bytes_give (going at (between at c s)) (drop c s) ≡ record { entries = []; next = halted (entry_too_long (at + k)); bytes = 0 }
    halts_at c l m = go (drop c s) (omega (arith, length-drop c s))
      where
        barred : (b : ℕ) → bar_of at (between at c s) b ≡ halt (entry_too_long (at + k))
        barred b = bar_halts at (between at c s) b k (gap_to c (omega arith)) (omega (arith, between_length s at c (omega arith)))

        go : (l : List ℕ) → 0 < length l → bytes_give (going at (between at c s)) l ≡ record { entries = []; next = halted (entry_too_long (at + k)); bytes = 0 }
        go [] p = absurd (omega arith)
        go (b ∷ z) p = halts_first at (between at c s) b z (entry_too_long (at + k)) (barred b)

    undecided_means : (c : ℕ) → bytes_give (going at (between at seen s)) (between seen c s) ≡ keeping at (between at c s) (c - seen) → seen ≤ c → c ≤ length s
        → at + k ≤ c → (c < length s → c ≡ later seen (at + k + 4096)) → (c ≡ length s → length s ≤ later seen (at + k + 4096))
        → Means s at seen whole (undecided_at s at (at + k) seen)
    unfolding undecided_at end_of
    undecided_means c e l m n f g =
        either (lt_or_le c (length s))
        (λ i. let q = f i in
        let t : ltb (later seen (at + k + 4096)) (length s) ≡ true = lt-ltb (later seen (at + k + 4096)) (length s) (omega (arith, q)) in
        let far : at + k + 4096 ≤ c = omega (arith, q, later_least seen (at + k + 4096)) in
        rw t (record {
          entries = [];
          next = halted (entry_too_long (at + k));
          taken = c - seen + 0;
          run = reached c e l m ∙ ap (λ (x : Given). record { entries = x.entries; next = x.next; bytes = c - seen + x.bytes }) (halts_at c far i);
          count = refl;
          ends = refl;
          all = omega (arith, q);
          stands_is = refl;
        }))
        (λ i. let q : c ≡ length s = omega arith in
        let t : ltb (later seen (at + k + 4096)) (length s) ≡ false = le-ltb (later seen (at + k + 4096)) (length s) (g q) in
        let all-kept : between at c s ≡ drop at s = between_all s at c i in
        let rest : drop c s ≡ [] = drop_of_length-le s i in
        rw t (record {
          entries = [];
          next = going at (drop at s);
          taken = c - seen + 0;
          run = reached c e l m ∙ ap (λ (x : List ℕ). record { entries = (bytes_give (going at (between at c s)) x).entries; next = (bytes_give (going at (between at c s)) x).next; bytes = c - seen + (bytes_give (going at (between at c s)) x).bytes }) rest ∙ none_left (between at c s) (drop at s) c all-kept;
          count = refl;
          ends = refl;
          all = omega (arith, q);
          stands_is = kept_stands ∙ ap (λ (x : Passed). stands_by x at) begins_is;
        }))
      where
        begins_is : passed_of Clear (between at whole s) ≡ Begins k
        begins_is = passed_begins (between at whole s) k h some

        none_left : (x y : List ℕ) (c : ℕ) → x ≡ y → ◌≡◌ {A = Given} (record { entries = (bytes_give (going at x) []).entries; next = (bytes_give (going at x) []).next; bytes = c - seen + (bytes_give (going at x) []).bytes }) (record { entries = []; next = going at y; bytes = c - seen + 0 })
        none_left x y c e = none_after x y (c - seen) e

    -- ---- the window in which it may be decided
    module _ (to : ℕ) (above : later seen (at + k) < to) (near : to ≤ at + k + 4096) (inside : to ≤ length s) where
      abbrev W : List ℕ
      W = between (at + k) to s

      abbrev q : ℕ
      q = later seen (at + k) - (at + k)

      seen_front : take (later seen (at + k) - (at + k)) (between (at + k) to s) ≡ between (at + k) (later seen (at + k)) s
      seen_front =
          sym (between_take (take to s) (at + k) (later seen (at + k))) ∙ ap (drop (at + k)) (take-take (later seen (at + k)) to s (omega arith))
        where
          take-take : (n m : ℕ) (l : List ℕ) → n ≤ m → take n (take m l) ≡ take n l
          take-take zero m l h = refl
          take-take (suc n) zero l h = absurd (omega arith)
          take-take (suc n) (suc m) [] h = refl
          take-take (suc n) (suc m) (x ∷ l) h = ap {B = List ℕ} (λ (y : List ℕ). x ∷ y) (take-take n m l (omega arith))

      left_back : drop (later seen (at + k) - (at + k)) (between (at + k) to s) ≡ between (later seen (at + k)) to s
      left_back = between_drop s (at + k) (later seen (at + k)) to here_low

      window_length : length (between (at + k) to s) ≡ to - (at + k)
      window_length = between_length s (at + k) to inside

      -- what is decided there, from the token's start
      decided_is : Decided (between (at + k) (later seen (at + k)) s) (between (later seen (at + k)) to s) (stridden (between (at + k) to s) (later seen (at + k) - (at + k)))
      decided_is =
          subst (λ (x : List ℕ). Decided x (between (later seen (at + k)) to s) (stridden (between (at + k) to s) q)) seen_front
          (subst (λ (w : List ℕ). Decided (take q W) w (stridden (between (at + k) to s) q)) left_back (stridden_gives W q (omega (arith, window_length)) (omega (arith, window_length))))

      -- the same from the end of the last entry
      abbrev X : List ℕ
      X = between at (later seen (at + k)) s

      start_front : drop k (between at (later seen (at + k)) s) ≡ between (at + k) (later seen (at + k)) s
      start_front = (let e : k ≡ at + k - at = omega arith in ap (λ (n : ℕ). drop n (between at (later seen (at + k)) s)) e) ∙ between_drop s at (at + k) (later seen (at + k)) (omega arith)

      there : (u : List ℕ) → GivenThere ron_reader bar_of 0 (at + k) (bytes_give (going 0 (between (at + k) (later seen (at + k)) s)) u) (bytes_give (going at (between at (later seen (at + k)) s)) u)
      there u =
          piece_there ron_reader bar_of ron bar_moves 0 (at + k) u (going 0 (between (at + k) (later seen (at + k)) s)) (going at (between at (later seen (at + k)) s))
          (goes k (between (at + k) (later seen (at + k)) s) (between at (later seen (at + k)) s) 0 at
          (subst (λ (l : List ℕ). Alike ron_reader bar_of k l (between at (later seen (at + k)) s)) start_front (ron_alike_clear (between at (later seen (at + k)) s) k (gap_to (later seen (at + k)) here_low)))
          (omega arith))

      -- what the same bytes give from there, where those from the token's start go on: so many entries, which end so far behind its start
      on_there : (u : List ℕ) (es : List Entry) (end : ℕ) (r : List ℕ) → bytes_give (going 0 (between (at + k) (later seen (at + k)) s)) u ≡ record { entries = es; next = going end r; bytes = length u }
          → Went (between at (later seen (at + k)) s) at u es (at + k)
      on_there u es end r e =
          let t = there u in
          let g : Given = bytes_give (going at (between at (later seen (at + k)) s)) u in
          let all : AllThere 0 (at + k) es g.entries = subst (λ (f : Given). AllThere 0 (at + k) f.entries g.entries) e t.entries_are in
          let nx = next_there 0 (at + k) (subst (λ (f : Given). ComingThere ron_reader bar_of 0 (at + k) f.next g.next) e t.next_is) in
          let kp = piece_keeps ron_reader bar_of ron u at (between at (later seen (at + k)) s) nx.0 nx.1 nx.2 in
          record {
            entries = g.entries;
            same = all;
            run = given_is g g.entries (going (end_of at g.entries) (drop (end_of at g.entries - at) (between at (later seen (at + k)) s ++ u))) (length u) refl
                (nx.2 ∙ ap₂ going kp.ends (kp.left ∙ ap (λ (i : ℕ). drop (i - at) (between at (later seen (at + k)) s ++ u)) kp.ends))
                (sym t.bytes_are ∙ ap (λ (f : Given). f.bytes) e);
          }

      -- and where they are refused
      shut_there : (u : List ℕ) (es : List Entry) (d : Refusal) → bytes_give (going 0 (between (at + k) (later seen (at + k)) s)) u ≡ record { entries = es; next = shut d; bytes = length u }
          → Refused (between at (later seen (at + k)) s) at u es (at + k) d
      shut_there u es d e =
          let t = there u in
          let g : Given = bytes_give (going at (between at (later seen (at + k)) s)) u in
          let all : AllThere 0 (at + k) es g.entries = subst (λ (f : Given). AllThere 0 (at + k) f.entries g.entries) e t.entries_are in
          let nx = next_there 0 (at + k) (subst (λ (f : Given). ComingThere ron_reader bar_of 0 (at + k) f.next g.next) e t.next_is) in
          record {
            entries = g.entries;
            same = all;
            run = given_is g g.entries (shut (placed_behind (at + k) d)) (length u) refl (nx.1 ∙ ap shut (placed_there (at + k) d nx.0 nx.2)) (sym t.bytes_are ∙ ap (λ (f : Given). f.bytes) e);
          }

      -- ---- by what is decided
      x_length : length (between (at + k) (later seen (at + k)) s) ≡ later seen (at + k) - (at + k)
      x_length = between_length s (at + k) (later seen (at + k)) here_top

      -- the bytes up to the deciding one
      part_is : (u z : List ℕ) → between (later seen (at + k)) to s ≡ u ++ z → u ≡ between (later seen (at + k)) (later seen (at + k) + length u) s
      part_is u z e =
          let hr : ℕ = later seen (at + k) in
          let lu : length u + length z ≡ to - hr = sym (length-append u z) ∙ sym (ap length e) ∙ between_length s hr to inside in
          let front_of : take (length u) (u ++ z) ≡ u = front_is u z in
          let less : hr + length u - hr ≡ length u = omega arith in
          sym front_of ∙ ap (take (length u)) (sym e)
          ∙ sym (between_take (take to s) hr (hr + length u) ∙ ap (λ (n : ℕ). take n (drop hr (take to s))) less)
          ∙ ap (drop hr) (take_less (hr + length u) to s (omega (arith, lu)))

      joins : (c : ℕ) → later seen (at + k) ≤ c → between at seen s ++ between seen (later seen (at + k)) s ≡ between at (later seen (at + k)) s
      joins c l = between_join s at seen (later seen (at + k)) low here_seen

      -- all that was taken since `seen`
      since : (c : ℕ) → later seen (at + k) ≤ c → (g : Given) → bytes_give (going at (between at (later seen (at + k)) s)) (between (later seen (at + k)) c s) ≡ g
          → bytes_give (going at (between at seen s)) (between seen c s) ≡ record { entries = g.entries; next = g.next; bytes = later seen (at + k) - seen + g.bytes }
      since c l g e =
          let hr : ℕ = later seen (at + k) in
          joined_run s at seen hr c (between at seen s) here_seen l (hr - seen) (to_here ∙ ap (λ (x : List ℕ). keeping at x (hr - seen)) (sym (joins c l)))
          ∙ ap (λ (x : List ℕ). record { entries = (bytes_give (going at x) (between hr c s)).entries; next = (bytes_give (going at x) (between hr c s)).next; bytes = hr - seen + (bytes_give (going at x) (between hr c s)).bytes }) (joins c l)
          ∙ ap (λ (y : Given). record { entries = y.entries; next = y.next; bytes = hr - seen + y.bytes }) e

      no_entries : {fs : List Entry} → AllThere 0 (at + k) [] fs → fs ≡ []
      no_entries none = refl

      nothing_means : bytes_give (going 0 (between (at + k) (later seen (at + k)) s)) (between (later seen (at + k)) to s) ≡ keeping 0 (between (at + k) (later seen (at + k)) s ++ between (later seen (at + k)) to s) (length (between (later seen (at + k)) to s))
          → bytes_give (going at (between at seen s)) (between seen to s) ≡ keeping at (between at to s) (to - seen)
      unfolding end_of
      nothing_means e =
          let hr : ℕ = later seen (at + k) in
          let w = on_there (between hr to s) [] 0 (between (at + k) hr s ++ between hr to s) e in
          let fs : w.entries ≡ [] = no_entries w.same in
          let run : bytes_give (going at (between at hr s)) (between hr to s) ≡ keeping at (between at to s) (length (between hr to s)) =
          w.run ∙ ap (λ (es : List Entry). record { entries = es; next = going (end_of at es) (drop (end_of at es - at) (between at hr s ++ between hr to s)); bytes = length (between hr to s) }) fs
          ∙ ap₂ (λ (n : ℕ) (l : List ℕ). record { entries = []; next = going at (drop n l); bytes = length (between hr to s) }) (sub_self at) (between_join s at hr to (omega (arith, here_low)) (omega arith)) in
          since to (omega arith) (keeping at (between at to s) (length (between hr to s))) run
          ∙ ap (keeping at (between at to s)) (omega (arith, between_length s hr to inside, here_seen))

      -- a stop byte is none of a character that has not come whole
      not_past : (u : List ℕ) (c : ℕ) → c ≡ later seen (at + k) + length u → u ≡ between (later seen (at + k)) c s → Stopping u → c ≤ length s → c ≤ whole
      not_past u c ec us st lc =
          either (lt_or_le whole c)
          (λ l. absurd (omega (arith, stop_ascii st.byte st.stops, high_at (drop whole s) (cut_bytes (drop whole s) cut-off) (fst l) st.byte (drop c s) (snd l))))
          (λ l. l)
        where
          hr : ℕ
          hr = later seen (at + k)

          lf : length u ≡ suc (length st.front)
          lf = ap length st.split ∙ (let z : length (st.front ++ st.byte ∷ []) ≡ suc (length st.front) = omega (arith, length-append st.front (st.byte ∷ [])) in z)

          fst : whole < c → List ℕ
          fst l = cond (leb hr whole) (drop (whole - hr) st.front) (between whole hr s ++ st.front)

          whole_first : (l : whole < c) → hr ≤ whole → drop whole s ≡ drop (whole - hr) st.front ++ st.byte ∷ drop c s
          whole_first l i =
              sym (between_rest s whole c (omega arith))
              ∙ ap (λ (x : List ℕ). x ++ drop c s) (sym (between_drop s hr whole c i) ∙ ap (drop (whole - hr)) (sym us ∙ st.split) ∙ drop-append-le (whole - hr) st.front (st.byte ∷ []) (omega (arith, lf)))
              ∙ append_assoc (drop (whole - hr) st.front) (st.byte ∷ []) (drop c s)

          here_first : (l : whole < c) → whole ≤ hr → drop whole s ≡ (between whole hr s ++ st.front) ++ st.byte ∷ drop c s
          here_first l i =
              sym (between_rest s whole hr i)
              ∙ ap (λ (x : List ℕ). between whole hr s ++ x) (sym (between_rest s hr c (omega arith)) ∙ ap (λ (x : List ℕ). x ++ drop c s) (sym us ∙ st.split) ∙ append_assoc st.front (st.byte ∷ []) (drop c s))
              ∙ sym (append_assoc (between whole hr s) st.front (st.byte ∷ drop c s))

          snd : (l : whole < c) → drop whole s ≡ fst l ++ st.byte ∷ drop c s
          snd l = either (lt_or_le whole hr) (λ i. rw (lt-leb hr whole i) (here_first l (omega arith))) (λ i. rw (le-leb hr whole i) (whole_first l i))

      gives_means : (u z : List ℕ) (n end : ℕ) → between (later seen (at + k)) to s ≡ u ++ z → Stopping u → 0 < n → end ≤ length (between (at + k) (later seen (at + k)) s) + length u
          → Gave (between (at + k) (later seen (at + k)) s) u n end (going end (drop end (between (at + k) (later seen (at + k)) s ++ u)))
          → Goes s at seen whole n (at + k + end) (later seen (at + k) + length u)
      gives_means u z n end e st pos le v =
          let hr : ℕ = later seen (at + k) in
          let c : ℕ = hr + length u in
          let lu : length u + length z ≡ to - hr = sym (length-append u z) ∙ sym (ap length e) ∙ between_length s hr to inside in
          let us : u ≡ between hr c s = part_is u z e in
          let w = on_there u v.entries end (drop end (between (at + k) hr s ++ u)) v.run in
          let ne : 0 < length v.entries = omega (arith, v.count) in
          let far : end_of at w.entries ≡ at + k + end = omega (arith, there_end 0 (at + k) 0 at w.same ne, v.ends) in
          let xu : between at hr s ++ u ≡ between at c s = ap (λ (l : List ℕ). between at hr s ++ l) us ∙ between_join s at hr c (omega (arith, here_low)) (omega arith) in
          let pu : 0 < length u = omega (arith, ap length st.split, length-append st.front (st.byte ∷ [])) in
          let run : bytes_give (going at (between at hr s)) (between hr c s) ≡ record { entries = w.entries; next = going (at + k + end) (between (at + k + end) c s); bytes = length u } =
          ap (bytes_give (going at (between at hr s))) (sym us) ∙ w.run
          ∙ ap₂ (λ (i : ℕ) (l : List ℕ). record { entries = w.entries; next = going i (drop (i - at) l); bytes = length u }) far xu
          ∙ ap (λ (l : List ℕ). record { entries = w.entries; next = going (at + k + end) l; bytes = length u }) (between_drop s at (at + k + end) c (omega arith)) in
          record {
            entries = w.entries;
            run = since c (omega arith) (record { entries = w.entries; next = going (at + k + end) (between (at + k + end) c s); bytes = length u }) run
                ∙ ap (λ (i : ℕ). record { entries = w.entries; next = going (at + k + end) (between (at + k + end) c s); bytes = i }) (omega (arith, here_seen));
            count = sym (there_length 0 (at + k) w.same) ∙ v.count;
            ends = far;
            further = omega (arith, here_seen, pu);
            inside = not_past u c (omega arith) us st (omega (arith, lu));
            low = omega arith;
            held = omega (arith, le, x_length, here_low);
          }

      shuts_means : (u z : List ℕ) (n end : ℕ) (d : Refusal) → between (later seen (at + k)) to s ≡ u ++ z
          → Gave (between (at + k) (later seen (at + k)) s) u n end (shut d)
          → Stops s at seen whole n (cond (eqb n 0) at (at + k + end)) (later seen (at + k) + length u) (stands.Stopped (placed_behind (at + k) d))
      unfolding end_of
      shuts_means u z n end d e v =
          let hr : ℕ = later seen (at + k) in
          let c : ℕ = hr + length u in
          let lu : length u + length z ≡ to - hr = sym (length-append u z) ∙ sym (ap length e) ∙ between_length s hr to inside in
          let us : u ≡ between hr c s = part_is u z e in
          let w = shut_there u v.entries d v.run in
          let run : bytes_give (going at (between at hr s)) (between hr c s) ≡ record { entries = w.entries; next = shut (placed_behind (at + k) d); bytes = length u } =
          ap (bytes_give (going at (between at hr s))) (sym us) ∙ w.run in
          let so_far = since c (omega arith) (record { entries = w.entries; next = shut (placed_behind (at + k) d); bytes = length u }) run in
          record {
            entries = w.entries ++ [];
            next = shut (placed_behind (at + k) d);
            taken = hr - seen + length u + 0;
            run = ap (bytes_give (going at (between at seen s))) (sym (between_rest s seen c (omega (arith, here_seen))))
                ∙ cut ron_reader bar_of (between seen c s) (drop c s) (going at (between at seen s))
                ∙ ap (λ (g : Given). both g (λ c'. bytes_give c' (drop c s))) so_far
                ∙ ap (λ (g : Given). record { entries = w.entries ++ g.entries; next = g.next; bytes = hr - seen + length u + g.bytes }) (shut_rest (drop c s) (placed_behind (at + k) d));
            count = ap length (append-nil w.entries) ∙ sym (there_length 0 (at + k) w.same) ∙ v.count;
            ends = ap (end_of at) (append-nil w.entries) ∙ end_is w.entries v.entries w.same v.count v.ends;
            all = omega (arith, here_seen);
            stands_is = refl;
          }
        where
          end_is : (fs es : List Entry) → AllThere 0 (at + k) es fs → length es ≡ n → end_of 0 es ≡ end → end_of at fs ≡ cond (eqb n 0) at (at + k + end)
          end_is fs es t l q = either (bool_cases (eqb n 0)) (λ b. rw b (ends_none at (at + k) fs es t (l ∙ eqb-true n 0 b))) (λ b. rw b (omega (arith, there_end 0 (at + k) 0 at t (some_of n (length es) (sym l) b), q)))

      -- by what was decided first
      by_decided : (r : Waited) → Decided (between (at + k) (later seen (at + k)) s) (between (later seen (at + k)) to s) r → (to < length s → to ≡ at + k + 4096)
          → Means s at seen whole (turn_by r.verdict s at (at + k) seen (at + k + r.bytes))
      by_decided r d far = go d
        where
          st : ℕ
          st = at + k

          hr : ℕ
          hr = later seen (at + k)

          sum_is : (u : List ℕ) (n : ℕ) → n ≡ length (between (at + k) (later seen (at + k)) s) + length u → at + k + n ≡ later seen (at + k) + length u
          sum_is u n e = omega (arith, e, x_length, here_low)

          go : {r : Waited} → Decided (between (at + k) (later seen (at + k)) s) (between (later seen (at + k)) to s) r → Means s at seen whole (turn_by r.verdict s at (at + k) seen (at + k + r.bytes))
          go (waits n l e) =
              undecided_means to (nothing_means e) (omega (arith, here_seen)) inside (omega (arith, here_low))
              (λ i. far i ∙ sym (later_right seen (at + k + 4096) (omega (arith, here_seen, far i)))) (λ i. omega (arith, later_least seen (at + k + 4096), near))
          go (gives u z n m end e l st p le v) =
              subst (λ (c : ℕ). Goes s at seen whole m (at + k + end) c) (sym (sum_is u n l)) (gives_means u z m end e st p (omega (arith, l)) v)
          go (shut_by u z n m end d e l p i v) =
              subst (λ (c : ℕ). Stops s at seen whole m (cond (eqb m 0) at (at + k + end)) c (stands.Stopped (placed_behind (at + k) d))) (sym (sum_is u n l)) (shuts_means u z m end d e v)

    -- ---- what has begun, decided or not
    begun_means : Means s at seen whole (decided_at s at (at + k) seen)
    unfolding decided_at
    begun_means =
        let hr : ℕ = later seen (at + k) in
        let to : ℕ = sooner (at + k + 4096) (length s) in
        let lt : at + k < to = either (lt_or_le (at + k + 4096) (length s)) (λ l. omega (arith, sooner_left (at + k + 4096) (length s) (omega arith))) (λ l. omega (arith, sooner_right (at + k + 4096) (length s) l, before_whole)) in
        let near : to ≤ at + k + 4096 = either (lt_or_le (at + k + 4096) (length s)) (λ l. omega (arith, sooner_left (at + k + 4096) (length s) (omega arith))) (λ l. omega (arith, sooner_right (at + k + 4096) (length s) l)) in
        let inside : to ≤ length s = either (lt_or_le (at + k + 4096) (length s)) (λ l. omega (arith, sooner_left (at + k + 4096) (length s) (omega arith))) (λ l. omega (arith, sooner_right (at + k + 4096) (length s) l)) in
        let far : to < length s → to ≡ at + k + 4096 = λ i. either (lt_or_le (at + k + 4096) (length s)) (λ l. sooner_left (at + k + 4096) (length s) (omega arith)) (λ l. absurd (omega (arith, sooner_right (at + k + 4096) (length s) l))) in
        either (lt_or_le hr to)
        (λ l. rw (lt-leb to hr l) (by_decided to l near inside (stridden (between (at + k) to s) (hr - (at + k))) (decided_is to l near inside) far))
        (λ l. rw (le-leb to hr l) (past to lt l far))
      where
        past : (to : ℕ) → at + k < to → to ≤ later seen (at + k) → (to < length s → to ≡ at + k + 4096) → Means s at seen whole (undecided_at s at (at + k) seen)
        past to lt l far =
            let is_seen : later seen (at + k) ≡ seen = either (lt_or_le seen (at + k)) (λ i. absurd (omega (arith, later_right seen (at + k) (omega arith)))) (λ i. later_left seen (at + k) i) in
            undecided_means seen (none_between s at seen (between at seen s)) (omega arith) top (omega (arith, is_seen))
            (λ i. sym (later_left seen (at + k + 4096) (omega (arith, is_seen, far (omega (arith, is_seen))))))
            (λ i. omega (arith, i, later_first seen (at + k + 4096)))

  -- ---- a `/` and what is no comment
  odd_means : (p : ℕ) → gap_of (between at whole s) ≡ gap.Refused (unexpected_char p) → passed_of Clear (between at whole s) ≡ Unexpected p
      → 0 < p → p ≤ length (between at whole s) → Means s at seen whole (behind_slash_at s at (at + p) seen)
  unfolding behind_slash_at end_of
  odd_means p h q pos le =
      let byte : get_or s (at + p - 1) 0 ≡ get_or (between at whole s) (p - 1) 0 = byte_is p pos le in
      either (bool_cases (eqb (get_or s (at + p - 1) 0) 0x2f))
      (λ t. rw t (keeps_all p h q (subst (λ (b : ℕ). eqb b 0x2f ≡ true) byte t)))
      (λ t. either (bool_cases (eqb seen (length s)))
      (λ e. rw (t, e) (stands_still p q (eqb-true seen (length s) e)))
      (λ e. rw (t, e) (shuts_now p h (subst (λ (b : ℕ). eqb b 0x2f ≡ false) byte t) (not_all e))))
    where
      ly : length (between at whole s) ≡ whole - at
      ly = between_length s at whole wide

      not_all : eqb seen (length s) ≡ false → seen < length s
      not_all e = either (lt_or_le seen (length s)) (λ l. l) (λ l. let z : true ≡ false = sym (eq-eqb seen (length s) (omega arith)) ∙ e in let k : ◌≡◌ {A = ℕ} 0 1 = cc in absurd (omega arith))

      byte_is : (p : ℕ) → 0 < p → p ≤ length (between at whole s) → get_or s (at + p - 1) 0 ≡ get_or (between at whole s) (p - 1) 0
      byte_is p pos le =
          let e : at + (p - 1) ≡ at + p - 1 = omega arith in
          sym (get_or-drop at (take whole s) (p - 1) 0 ∙ ap (λ (i : ℕ). get_or (take whole s) i 0) e ∙ get_or-take whole s (at + p - 1) 0 (omega (arith, ly)))

      run_all : (g : Given) → bytes_give (going at (take (seen - at) (between at whole s ++ drop whole s))) (drop (seen - at) (between at whole s ++ drop whole s)) ≡ g
          → bytes_give (going at (between at seen s)) (drop seen s) ≡ g
      run_all g e =
          ap₂ (λ (a b : List ℕ). bytes_give (going at a) b) (sym (ap (take (seen - at)) all_is ∙ seen_is)) (sym (ap (drop (seen - at)) all_is ∙ left_is)) ∙ e

      keeps_all : (p : ℕ) → gap_of (between at whole s) ≡ gap.Refused (unexpected_char p) → passed_of Clear (between at whole s) ≡ Unexpected p → eqb (get_or (between at whole s) (p - 1) 0) 0x2f ≡ true → Stops s at seen whole 0 at (length s) (stands.Held at)
      keeps_all p h q t =
          let k = odd_keeps (between at whole s) (drop whole s) p (seen - at) at h t cut-off (omega (arith, ap length all_is, len_all)) in
          record {
            entries = [];
            next = going at (drop at s);
            taken = length (drop at s) - (seen - at);
            run = run_all (keeping at (between at whole s ++ drop whole s) (length (between at whole s ++ drop whole s) - (seen - at))) k ∙ ap (λ (l : List ℕ). keeping at l (length l - (seen - at))) all_is;
            count = refl;
            ends = refl;
            all = omega (arith, len_all);
            stands_is = kept_stands ∙ ap (λ (x : Passed). stands_by x at) q;
          }

      stands_still : (p : ℕ) → passed_of Clear (between at whole s) ≡ Unexpected p → seen ≡ length s → Stops s at seen whole 0 at seen (stands.Held at)
      stands_still p q e =
          record {
            entries = [];
            next = going at (drop at s);
            taken = 0;
            run = ap₂ (λ (a b : List ℕ). bytes_give (going at a) b) (between_all s at seen (omega (arith, e))) (let l : length s ≤ seen = omega (arith, e) in drop_of_length-le s l) ∙ nothing_more at (drop at s);
            count = refl;
            ends = refl;
            all = omega arith;
            stands_is = kept_stands ∙ ap (λ (x : Passed). stands_by x at) q;
          }

      shuts_now : (p : ℕ) → gap_of (between at whole s) ≡ gap.Refused (unexpected_char p) → eqb (get_or (between at whole s) (p - 1) 0) 0x2f ≡ false → seen < length s
          → Stops s at seen whole 0 at (later (at + p) (seen + 1)) (stands.Stopped (unexpected_char (at + p)))
      shuts_now p h t l =
          let k = odd_shuts (between at whole s) (drop whole s) p (seen - at) at h t cut-off (omega (arith, ap length all_is, len_all)) in
          record {
            entries = [];
            next = shut (unexpected_char (at + p));
            taken = later p (seen - at + 1) - (seen - at);
            run = run_all (record { entries = []; next = shut (unexpected_char (at + p)); bytes = later p (seen - at + 1) - (seen - at) }) k;
            count = refl;
            ends = refl;
            all = later_moved p at seen low;
            stands_is = refl;
          }

-- ---- a turn

pub turn_means : (s : List ℕ) (at seen whole : ℕ) → at ≤ seen → seen ≤ length s → at ≤ whole → whole ≤ length s → Cut (drop whole s) → Means s at seen whole (turn_of s at seen whole)
unfolding turn_of front
turn_means s at seen whole low top fit wide c = go (passed_of Clear (between at whole s)) refl
  where
    go : (x : Passed) → passed_of Clear (between at whole s) ≡ x → Means s at seen whole (turn_passed x s at seen)
    go (Within o) e = within_means s at seen whole low top fit wide c o e
    go (Begins k) e =
        let t = begins_told Clear (between at whole s) k e in
        begun_means s at seen whole low top fit wide c k (t.0 ∙ ap gap.Clear (omega arith)) t.1
    go (Unexpected p) e =
        let t = unexpected_told Clear (between at whole s) p e in
        let h : gap_of (between at whole s) ≡ gap.Refused (unexpected_char p) = t ∙ ap (λ (n : ℕ). gap.Refused (unexpected_char n)) (omega arith) in
        odd_means s at seen whole low top fit wide c p h e (odd_first (between at whole s) p h) (odd_inside (between at whole s) p h)

-- ---- what a window says is small enough

-- the numbers of what is decided first
abbrev pub Small : ℕ → Verdict → Type 0
Small k Nothing = Unit {0}
Small k (Gives n end) = end ≤ k
Small k (Shuts n end d) = (end ≤ k) × (d.place ≤ k)

pub waited_small : (part : List ℕ) (seen : ℕ) → length part ≤ 4096 → seen ≤ length part
    → ((stridden part seen).bytes ≤ length part) × Small (length part) (stridden part seen).verdict
waited_small part seen l m = go (stridden_gives part seen m l)
  where
    go : {r : Waited} → Decided (take seen part) (drop seen part) r → (r.bytes ≤ length part) × Small (length part) r.verdict
    go (waits k e r) = (omega (arith, e, ap length (take-append-drop seen part)), tt)
    go (gives u z k n end e f st l' le v) =
        let b : k ≤ length part = omega (arith, f, ap length e, length-append u z, length-take-le seen part m, length-drop seen part) in (b, omega (arith, b, le))
    go (shut_by u z k n end d e f l' m' v) =
        let b : k ≤ length part = omega (arith, f, ap length e, length-append u z, length-take-le seen part m, length-drop seen part) in (b, (omega (arith, b, l'), omega (arith, b, m')))

-- ---- what the code answers

-- nothing is left to look at
pub decided_past : (s : List ℕ) (at start seen here to : ℕ) → here ≡ later seen start → to ≡ sooner (start + most_held) (length s) → to ≤ here → undecided_at s at start seen ≡ decided_at s at start seen
unfolding decided_at
decided_past s at start seen here to a b l = rw (← a, ← b, le-leb to here l)

pub decided_waits : (s : List ℕ) (at start seen here to : ℕ) (w : Waited) → here ≡ later seen start → to ≡ sooner (start + most_held) (length s) → here < to
    → w ≡ stridden (take (to - start) (drop start s)) (here - start) → turn_by w.verdict s at start seen (start + w.bytes) ≡ decided_at s at start seen
unfolding decided_at
decided_waits s at start seen here to w a b l e =
    let q : w ≡ stridden (between start to s) (here - start) = e ∙ ap (λ (x : List ℕ). stridden x (here - start)) (sym (between_take s start to)) in
    rw (← a, ← b, lt-leb to here l, ← q)

-- the window in which it waits
pub window_fits : (s : List ℕ) (start seen here to : ℕ) → here ≡ later seen start → to ≡ sooner (start + most_held) (length s) → start < length s → seen ≤ length s → here < to
    → (length (take (to - start) (drop start s)) ≡ to - start) × (to - start ≤ 4096) × (here - start < to - start) × (start ≤ here) × (to ≤ length s)
window_fits s start seen here to a b l m i =
    let top : to ≤ length s = either (lt_or_le (start + 4096) (length s)) (λ x. omega (arith, b, sooner_left (start + 4096) (length s) (omega arith))) (λ x. omega (arith, b, sooner_right (start + 4096) (length s) x)) in
    let near : to ≤ start + 4096 = either (lt_or_le (start + 4096) (length s)) (λ x. omega (arith, b, sooner_left (start + 4096) (length s) (omega arith))) (λ x. omega (arith, b, sooner_right (start + 4096) (length s) x)) in
    let low : start ≤ here = omega (arith, a, later_least seen start) in
    (length-take-le (to - start) (drop start s) (omega (arith, length-drop start s)), omega arith, omega arith, low, top)

pub waited_fits : (s : List ℕ) (start seen here to : ℕ) (w : Waited) → here ≡ later seen start → to ≡ sooner (start + most_held) (length s) → start < length s → seen ≤ length s → here < to
    → w ≡ stridden (take (to - start) (drop start s)) (here - start) → (w.bytes ≤ 4096) × Small 4096 w.verdict
waited_fits s start seen here to w a b l m i e =
    let f = window_fits s start seen here to a b l m i in
    let part : List ℕ = take (to - start) (drop start s) in
    let k = waited_small part (here - start) (omega (arith, f.0, f.1)) (omega (arith, f.0, f.2)) in
    subst (λ (r : Waited). (r.bytes ≤ 4096) × Small 4096 r.verdict) (sym e) (omega (arith, k.0, f.0, f.1), less (length part) (stridden part (here - start)).verdict (omega (arith, f.0, f.1)) k.1)
  where
    less : (n : ℕ) (v : Verdict) → n ≤ 4096 → Small n v → Small 4096 v
    less n Nothing l h = tt
    less n (Gives c end) l h = omega (arith, h)
    less n (Shuts c end d) l h = (omega (arith, h.0), omega (arith, h.1))

-- each verdict
module _ (s : List ℕ) (at start seen bytes : ℕ) (v : Verdict) where
  pub by_nothing : v ≡ Nothing → undecided_at s at start seen ≡ turn_by v s at start seen bytes
  by_nothing e = rw e

  pub by_gives : (n end : ℕ) → v ≡ Gives n end → On n (start + end) bytes ≡ turn_by v s at start seen bytes
  by_gives n end e = rw e

  pub by_shuts_none : (n end : ℕ) (d q : Refusal) → v ≡ Shuts n end d → n ≡ 0 → q ≡ placed_behind start d → Over 0 at bytes (stands.Stopped q) ≡ turn_by v s at start seen bytes
  by_shuts_none n end d q e z p = rw (e, z, p)

  pub by_shuts : (n end : ℕ) (d q : Refusal) → v ≡ Shuts n end d → (n ≡ 0 → ⊥) → q ≡ placed_behind start d → Over n (start + end) bytes (stands.Stopped q) ≡ turn_by v s at start seen bytes
  by_shuts n end d q e z p = rw (e, p, ne_eqb n 0 z)

  pub small_gives : (n end : ℕ) → Small 4096 v → v ≡ Gives n end → end ≤ 4096
  small_gives n end h e = subst (Small 4096) e h

  pub small_shuts : (n end : ℕ) (d : Refusal) → Small 4096 v → v ≡ Shuts n end d → (end ≤ 4096) × (d.place ≤ 4096)
  small_shuts n end d h e = subst (Small 4096) e h

-- a turn by where the gap ends
module _ (s : List ℕ) (at seen whole : ℕ) (x : Passed) (e : x ≡ passed_of Clear (take (whole - at) (drop at s))) where
  passed_is : passed_of Clear (between at whole s) ≡ x
  passed_is = ap (passed_of Clear) (between_take s at whole) ∙ sym e

  pub turn_is : (y : Passed) → x ≡ y → turn_passed y s at seen ≡ turn_of s at seen whole
  unfolding turn_of
  turn_is y q = sym (ap (λ (z : Passed). turn_passed z s at seen) (passed_is ∙ q))

  pub begins_at : (k : ℕ) → x ≡ Begins k → whole ≤ length s → at ≤ whole → Cut (drop whole s) → (at + k < length s) × (gap_of (drop (at + k) s) ≡ gap.Clear 0)
  unfolding front
  begins_at k q wide fit c =
      let t = begins_told Clear (between at whole s) k (passed_is ∙ q) in
      let h : gap_of (between at whole s) ≡ gap.Clear k = t.0 ∙ ap gap.Clear (omega arith) in
      let all : gap_of (drop at s) ≡ gap.Clear k = ap gap_of (sym (between_rest s at whole fit)) ∙ clear_with_part (between at whole s) (drop whole s) k h t.1 c in
      (omega (arith, t.1, between_length s at whole wide), ap gap_of (sym (drop_on at k (at + k) s refl)) ∙ gap_restarts (drop at s) k all)

  pub odd_at : (p : ℕ) → x ≡ Unexpected p → whole ≤ length s → at ≤ whole → (0 < at + p) × (at + p ≤ length s)
  unfolding front
  odd_at p q wide fit =
      let t = unexpected_told Clear (between at whole s) p (passed_is ∙ q) in
      let h : gap_of (between at whole s) ≡ gap.Refused (unexpected_char p) = t ∙ ap (λ (n : ℕ). gap.Refused (unexpected_char n)) (omega arith) in
      (omega (arith, odd_first (between at whole s) p h), omega (arith, odd_inside (between at whole s) p h, between_length s at whole wide))
