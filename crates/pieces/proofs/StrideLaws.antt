-- Many decisions at once: where no byte was refused, what the last deciding byte says of all that has come is what the bytes gave one by one. Assumes nothing.
use Rattle.std.proofs.Common.{Err}
use Prim.Native.Nat.{ℕ, suc, zero, ◌+◌, ◌-◌, ◌<◌, ◌≤◌}
use native.Mathlib.Omega.{arith}
use mathlib.Core.Bool.{Bool, true, false, cond, ◌&&◌, true≢false}
use mathlib.Core.List.{List, [], ◌++◌, ◌∷◌, append_assoc, append-nil}
use mathlib.Core.Logic.{◌⊎◌, inl, inr}
use mathlib.Core.Path.{◌≡◌, ap, ap₂, refl, subst, sym, ◌∙◌}
use lib.Dec.{eqb, leb, ltb}
use lib.ListN.{drop, get_or, length, length-append, length-drop, length-take, take, take-append-drop}
use lib.Seq.{drop-append-le, length-take-le, take-append-le, take-append_seam}
use borrow.Author.Tests.{le-leb, le-ltb, lt-leb, lt-ltb, ltb-true}
use Rattle.text.proofs.Choices.{and_true, bool_cases, cond_cases, either}
use Rattle.text.specs.Refusals.{placed_behind, Told}
use Rattle.text.specs.declared.refusal.Refusal.{Refusal}
use Rattle.rows.specs.declared.Entry.{Entry}
use Rattle.comments.specs.Gaps.{gap_of}
use Rattle.comments.specs.declared.gap.Gap.{Gap}
use Rattle.comments.specs.declared.gap.Gap.TheVariants as gap
use Rattle.reading.proofs.Steps.{drop_on}
use Rattle.reading.specs.Readings.{Reading, ◌▸◌, end_of, entries, read_part}
use Rattle.reading.specs.Readings.Reading.{broken}
use Rattle.reading.specs.Kept.{last_quiet}
use Rattle.reading.specs.Tokens.{Answer}
use Rattle.reading.specs.Tokens.Answer.{refuse, stop, token}
use Rattle.tokens.specs.Ron.{ron_token}
use Rattle.arriving.proofs.Fronts.{entries_front}
use Rattle.arriving.proofs.Keeps.{byte_keeps, end_append, piece_keeps}
use Rattle.arriving.proofs.Whole.{Taken, both, cut, front, one_reading}
use Rattle.arriving.specs.Arrivals.{Coming, Given, Passing, behind, by_answer, by_passing, decided, decided_of, ended, left_at, looks, piece, step, taken}
use Rattle.arriving.specs.Arrivals.Coming.{going, halted, shut}
use Rattle.arriving.specs.Arrivals.Passing.{halt, pass}
use Rattle.arriving.specs.Owing.{tells_end}
use Rattle.settled.proofs.Owed.{ron}
use Rattle.settled.specs.Bytes.{closes_byte, decides_byte, stops_byte}
use Rattle.settled.specs.Settled.{ron_reader, ron_settles}
use Rattle.pieces.specs.Bars.{bar_by, bar_of, bytes_give, most_held}
use Rattle.pieces.specs.inner.Judges.{gives_of, judged_of, verdict_by, verdict_of}
use Rattle.pieces.specs.inner.Waiting.{behind_deciders, behind_last, beyond_of, decides, leap_by, leap_of, leapt, no_leap, opens_end, start_of, stridden, waited_of}
use Rattle.pieces.specs.inner.Scans.{ending_of, scanned_of}
use Rattle.pieces.specs.declared.verdict.Verdict.{Verdict}
use Rattle.pieces.specs.declared.verdict.Verdict.TheVariants.{Nothing}
use Rattle.pieces.specs.declared.stride.Leapt.{Leapt}
use Rattle.pieces.specs.declared.waiting.Waited.{Waited}
use Rattle.read.specs.declared.scanned.Scanned.{Scanned}
use Rattle.pieces.proofs.JudgeLaws.{judge_within, up_front}
use Rattle.pieces.proofs.ScanLaws.{ending_front}
use Rattle.pieces.proofs.StopLaws.{last_le}
use Rattle.pieces.proofs.WaitLaws.{Goes, beyond_goes, wait_end}
use Rattle.pieces.proofs.WaitedRuns.{Decided, NotHalted, gives, left_goes, refused_place, short_free, shuts, waited_gives}

-- ---- no bar, and no refusal that tells the end

-- behind m bytes: what is kept is no longer, and a refusal is none that tells the end
abbrev Fine : ℕ → Coming → Type 0
Fine m (going at rest) = length rest ≤ m
Fine m (shut d) = tells_end d ≡ false
Fine m (halted d) = ⊥

short_pass : (at : ℕ) (rest : List ℕ) (b : ℕ) → length rest < most_held → bar_of at rest b ≡ pass
unfolding bar_of
short_pass at rest b l = go (gap_of rest)
  where
    go : (g : Gap) → bar_by at rest g ≡ pass
    go (gap.Clear g) = rw (lt-leb (g + most_held) (length rest) (omega arith))
    go (gap.InLine n) = refl
    go (gap.Refused r) = refl

placed_tells : (at : ℕ) (d : Refusal) → tells_end (placed_behind at d) ≡ tells_end d
unfolding tells_end
placed_tells at d = refl

left_fine : (m to : ℕ) (left : List ℕ) → length left ≤ m → Fine m (left_at ron_reader to left)
unfolding left_at
left_fine m to left l = either (bool_cases (ron_settles left)) (λ t. rw t (go (ron_token left) refl t)) (λ t. rw t l)
  where
    go : (a : Answer) → ron_token left ≡ a → ron_settles left ≡ true → Fine m (by_answer a to left)
    go (token t) e h = l
    go stop e h = l
    go (refuse d) e h = placed_tells to d ∙ ron.open_end left d h e

taken_fine : (m at : ℕ) (s : List ℕ) (b : ℕ) → length s ≤ m → Fine m (taken ron_reader at s b).next
taken_fine m at s b l =
    let es : List Entry = decided ron_reader at s b in
    either (bool_cases (looks ron_reader s b))
    (λ t. rw t (left_fine m (end_of at es) (drop (end_of at es - at) s) (omega (arith, l, length-drop (end_of at es - at) s))))
    (λ t. rw t l)

step_fine : (m : ℕ) (c : Coming) (b : ℕ) → m < most_held → Fine m c → Fine (m + 1) (step ron_reader bar_of c b).next
step_fine m (halted d) b l f = f
step_fine m (shut d) b l f = f
step_fine m (going at rest) b l f =
    subst (λ (p : Passing). Fine (m + 1) (by_passing p (taken ron_reader at (rest ++ b ∷ []) b)).next) (sym (short_pass at rest b (omega arith)))
    (taken_fine (m + 1) at (rest ++ b ∷ []) b (omega (arith, length-append rest (b ∷ []))))

piece_fine : (w : List ℕ) (m : ℕ) (c : Coming) → m + length w ≤ most_held → Fine m c → Fine (m + length w) (bytes_give c w).next
unfolding piece
piece_fine [] m c l f = subst (λ (n : ℕ). Fine n c) (let z : m ≡ m + 0 = omega arith in z) f
piece_fine (b ∷ w) m c l f =
    subst (λ (n : ℕ). Fine n (bytes_give (step ron_reader bar_of c b).next w).next) (let z : m + 1 + length w ≡ m + suc (length w) = omega arith in z)
    (piece_fine w (m + 1) (step ron_reader bar_of c b).next (omega arith) (step_fine m c b (omega arith) f))

-- ---- the last byte

-- entries decided before, and those that the last byte decides
module _ (p : List ℕ) (b at : ℕ) (rest : List ℕ) (es : List Entry) (r : Reading) (reads : read_part ron_token 0 p ≡ es ▸ r) (ends : end_of 0 es ≡ at) (here : read_part ron_token at (rest ++ b ∷ []) ≡ r)
    (left : rest ++ b ∷ [] ≡ drop at p) (before : at < length p) (quiet : decides_byte b ≡ true) where
  same_end : at + length (rest ++ b ∷ []) ≡ 0 + length p
  same_end = omega (arith, ap length left, length-drop at p)

  decided_on : decided ron_reader 0 p b ≡ es ++ decided ron_reader at (rest ++ b ∷ []) b
  unfolding decided
  decided_on =
      ap (decided_of ron_reader 0 p b) reads
      ∙ either (bool_cases (closes_byte b && eqb (end_of at (entries r)) (0 + length p)))
      (λ t. rw (entries_front es r, end_append es (entries r) 0, ends, t, here, same_end, t))
      (λ t. rw (entries_front es r, end_append es (entries r) 0, ends, t, here, same_end, t, quiet)
      (up_front es 0 (0 + length p - 1) p r reads (omega (arith, ends))))

-- ---- all bytes were taken where the text goes on

abbrev IsOver : Coming → Type 0
IsOver (going at rest) = ⊥
IsOver (shut d) = Unit {0}
IsOver (halted d) = Unit {0}

over_stays : (w : List ℕ) (c : Coming) → IsOver c → IsOver (bytes_give c w).next
unfolding piece
over_stays [] c h = h
over_stays (b ∷ w) (going at rest) h = absurd h
over_stays (b ∷ w) (shut d) h = over_stays w (shut d) tt
over_stays (b ∷ w) (halted d) h = over_stays w (halted d) tt

step_one : (c : Coming) (b : ℕ) → ((step ron_reader bar_of c b).bytes ≡ 1) ⊎ IsOver (step ron_reader bar_of c b).next
step_one (shut d) b = inr tt
step_one (halted d) b = inr tt
step_one (going at rest) b = go (bar_of at rest b)
  where
    go : (p : Passing) → ((by_passing p (taken ron_reader at (rest ++ b ∷ []) b)).bytes ≡ 1) ⊎ IsOver (by_passing p (taken ron_reader at (rest ++ b ∷ []) b)).next
    go pass = inl (either (bool_cases (looks ron_reader (rest ++ b ∷ []) b)) (λ t. rw t) (λ t. rw t))
    go (halt d) = inr tt

all_taken : (w : List ℕ) (c : Coming) (at : ℕ) (rest : List ℕ) → (bytes_give c w).next ≡ going at rest → (bytes_give c w).bytes ≡ length w
unfolding piece
all_taken [] c at rest h = refl
all_taken (b ∷ w) c at rest h = go (step_one c b) (all_taken w (step ron_reader bar_of c b).next at rest h)
  where
    go : ((step ron_reader bar_of c b).bytes ≡ 1) ⊎ IsOver (step ron_reader bar_of c b).next → (bytes_give (step ron_reader bar_of c b).next w).bytes ≡ length w
        → (step ron_reader bar_of c b).bytes + (bytes_give (step ron_reader bar_of c b).next w).bytes ≡ suc (length w)
    go (inl e) i = omega (arith, e, i)
    go (inr o) i = absurd (subst IsOver h (over_stays w (step ron_reader bar_of c b).next o))

-- ---- the bytes up to the last deciding one

stop_looks : (s : List ℕ) (b : ℕ) → stops_byte b ≡ true → looks ron_reader s b ≡ true
unfolding looks
stop_looks s b h = rw h

module _ (x u : List ℕ) (b : ℕ) (short : length (x ++ u) < most_held) (quiet : decides_byte b ≡ true) (end-open : opens_end (ending_of (read_part ron_token 0 ((x ++ u) ++ b ∷ []))) ≡ true) where
  abbrev p : List ℕ
  p = (x ++ u) ++ b ∷ []

  abbrev g : Given
  g = bytes_give (going 0 x) u

  fine : Fine (length x + length u) (bytes_give (going 0 x) u).next
  fine = piece_fine u (length x) (going 0 x) (omega (arith, length-append x u)) (omega arith)

  -- no byte before it has refused anything
  not_shut : (d : Refusal) → (bytes_give (going 0 x) u).next ≡ shut d → ⊥
  unfolding piece ending_of
  not_shut d e =
      let w : List ℕ = u ++ b ∷ [] in
      let on : bytes_give (going 0 x) w ≡ both (bytes_give (going 0 x) u) (λ c. bytes_give c (b ∷ [])) = cut ron_reader bar_of u (b ∷ []) (going 0 x) in
      let next : (bytes_give (going 0 x) w).next ≡ shut d = ap (λ (h : Given). h.next) on ∙ ap (λ (c : Coming). (bytes_give c (b ∷ [])).next) e ∙ still d in
      let reads : (bytes_give (going 0 x) w).entries ▸ broken d ≡ read_part ron_token 0 (x ++ w) =
      ap (λ (c : Coming). (bytes_give (going 0 x) w).entries ▸ ended ron_reader c) (sym next) ∙ one_reading ron_reader ron bar_of w (going 0 x) (subst Taken (sym next) tt) in
      let ending : ending_of (read_part ron_token 0 ((x ++ u) ++ b ∷ [])) ≡ Err d =
      ap (λ (s : List ℕ). ending_of (read_part ron_token 0 s)) (append_assoc x u (b ∷ [])) ∙ ap ending_of (sym reads) ∙ ending_front (bytes_give (going 0 x) w).entries (broken d) ∙ broken_ends d in
      let tells : tells_end d ≡ true = ap opens_end (sym ending) ∙ end-open in
      let not : tells_end d ≡ false = subst (Fine (length x + length u)) e fine in
      true≢false (sym tells ∙ not)
    where
      still : (d : Refusal) → (bytes_give (shut d) (b ∷ [])).next ≡ shut d
      still d = refl

      broken_ends : (d : Refusal) → ending_of (broken d) ≡ Err d
      broken_ends d = refl

  -- so it goes on
  goes-on : (at : ℕ) × (rest : List ℕ) × ((bytes_give (going 0 x) u).next ≡ going at rest)
  goes-on = go (bytes_give (going 0 x) u).next refl fine
    where
      go : (c : Coming) → (bytes_give (going 0 x) u).next ≡ c → Fine (length x + length u) c → (at : ℕ) × (rest : List ℕ) × (c ≡ going at rest)
      go (going at rest) e f = (at, rest, refl)
      go (shut d) e f = absurd (not_shut d e)
      go (halted d) e f = absurd f

  -- what they give is what the last byte says of them all
  pub strides : bytes_give (going 0 x) (u ++ b ∷ [])
      ≡ record {
        entries = decided ron_reader 0 ((x ++ u) ++ b ∷ []) b;
        next = left_at ron_reader (end_of 0 (decided ron_reader 0 ((x ++ u) ++ b ∷ []) b)) (drop (end_of 0 (decided ron_reader 0 ((x ++ u) ++ b ∷ []) b) - 0) ((x ++ u) ++ b ∷ []));
        bytes = length (u ++ b ∷ []);
      }
  unfolding piece
  strides =
      let (at, rest, e) = goes-on in
      let es : List Entry = (bytes_give (going 0 x) u).entries in
      let k = piece_keeps ron_reader bar_of ron u 0 x at rest e in
      let r : Reading = read_part ron_token at (rest ++ b ∷ []) in
      let zero : at - 0 ≡ at = omega arith in
      let rest_is : rest ≡ drop at (x ++ u) = k.left ∙ ap (λ (n : ℕ). drop n (x ++ u)) zero in
      let high : at ≤ length (x ++ u) = omega (arith, k.high) in
      let reads : read_part ron_token 0 ((x ++ u) ++ b ∷ []) ≡ es ▸ r = ap (read_part ron_token 0) (append_assoc x u (b ∷ [])) ∙ front ron_reader ron bar_of u (b ∷ []) (going 0 x) at rest e in
      let left : rest ++ b ∷ [] ≡ drop at ((x ++ u) ++ b ∷ []) = ap (λ (l : List ℕ). l ++ b ∷ []) rest_is ∙ sym (drop-append-le at (x ++ u) (b ∷ []) high) in
      let long : length ((x ++ u) ++ b ∷ []) ≡ suc (length (x ++ u)) = omega (arith, length-append (x ++ u) (b ∷ [])) in
      let own : List Entry = decided ron_reader at (rest ++ b ∷ []) b in
      let all : decided ron_reader 0 ((x ++ u) ++ b ∷ []) b ≡ es ++ own = decided_on ((x ++ u) ++ b ∷ []) b at rest es r reads (sym k.ends) refl left (omega arith) quiet in
      let to : end_of 0 (es ++ own) ≡ end_of at own = end_append es own 0 ∙ ap (λ (n : ℕ). end_of n own) (sym k.ends) in
      let kb = byte_keeps ron_reader bar_of ron at rest b in
      let back : drop (end_of at own - at) (rest ++ b ∷ []) ≡ drop (end_of at own - 0) ((x ++ u) ++ b ∷ []) =
      ap (drop (end_of at own - at)) left ∙ drop_on at (end_of at own - at) (end_of at own - 0) ((x ++ u) ++ b ∷ []) (omega (arith, kb.low)) in
      let passes : bar_of at rest b ≡ pass = short_pass at rest b (omega (arith, ap length rest_is, length-drop at (x ++ u))) in
      let stops : looks ron_reader (rest ++ b ∷ []) b ≡ true = stop_looks (rest ++ b ∷ []) b (ron.deciders b quiet) in
      let one : step ron_reader bar_of (going at rest) b ≡ behind ron_reader at (rest ++ b ∷ []) own =
      ap (λ (p : Passing). by_passing p (taken ron_reader at (rest ++ b ∷ []) b)) passes ∙ ap (λ (t : Bool). cond t (behind ron_reader at (rest ++ b ∷ []) own) (record { entries = []; next = going at (rest ++ b ∷ []); bytes = 1 })) stops in
      cut ron_reader bar_of u (b ∷ []) (going 0 x)
      ∙ ap (λ (c : Coming). record { entries = es ++ (bytes_give c (b ∷ [])).entries; next = (bytes_give c (b ∷ [])).next; bytes = (bytes_give (going 0 x) u).bytes + (bytes_give c (b ∷ [])).bytes }) e
      ∙ ap (λ (h : Given). record { entries = es ++ (h.entries ++ []); next = h.next; bytes = (bytes_give (going 0 x) u).bytes + (h.bytes + 0) }) one
      ∙ given_is (es ++ (own ++ [])) (decided ron_reader 0 ((x ++ u) ++ b ∷ []) b) (left_at ron_reader (end_of at own) (drop (end_of at own - at) (rest ++ b ∷ [])))
      (left_at ron_reader (end_of 0 (decided ron_reader 0 ((x ++ u) ++ b ∷ []) b)) (drop (end_of 0 (decided ron_reader 0 ((x ++ u) ++ b ∷ []) b) - 0) ((x ++ u) ++ b ∷ [])))
      ((bytes_give (going 0 x) u).bytes + (1 + 0)) (length (u ++ b ∷ []))
      (ap (λ (l : List Entry). es ++ l) (append-nil own) ∙ sym all)
      (ap (left_at ron_reader (end_of at own)) back ∙ ap (λ (n : ℕ). left_at ron_reader n (drop (n - 0) ((x ++ u) ++ b ∷ []))) (sym to ∙ ap (end_of 0) (sym all)))
      (omega (arith, all_taken u (going 0 x) at rest e, length-append u (b ∷ [])))
    where
      given_is : (es fs : List Entry) (c d : Coming) (n m : ℕ) → es ≡ fs → c ≡ d → n ≡ m → ◌≡◌ {A = Given} (record { entries = es; next = c; bytes = n }) (record { entries = fs; next = d; bytes = m })
      given_is es fs c d n m p q r = rw (p, q, r)

-- ---- a stride decides

record LastOf (quiet : ℕ → Bool) (s : List ℕ) : Type 0 where
  before : List ℕ
  byte : ℕ
  back : List ℕ
  is : s ≡ before ++ byte ∷ back
  holds : quiet byte ≡ true
  reaches : last_quiet quiet s ≡ suc (length before)

last_of : (quiet : ℕ → Bool) (s : List ℕ) → 0 < last_quiet quiet s → LastOf quiet s
unfolding last_quiet
last_of quiet [] h = absurd (omega arith)
last_of quiet (a ∷ s) h = go (last_quiet quiet s) (quiet a) refl refl h (last_of quiet s)
  where
    more : (n : ℕ) (t : Bool) → 0 < n → cond (ltb 0 n) (suc n) (cond t 1 0) ≡ suc n
    more n t h = rw (lt-ltb 0 n h)

    go : (n : ℕ) (t : Bool) → last_quiet quiet s ≡ n → quiet a ≡ t → 0 < cond (ltb 0 n) (suc n) (cond t 1 0) → (0 < last_quiet quiet s → LastOf quiet s) → LastOf quiet (a ∷ s)
    go (suc n) t e q h f =
        let k = f (omega (arith, e)) in
        record { before = a ∷ k.before; byte = k.byte; back = k.back; is = ap {B = List ℕ} (λ (l : List ℕ). a ∷ l) k.is; holds = k.holds; reaches = more (last_quiet quiet s) (quiet a) (omega (arith, e)) ∙ ap suc k.reaches }
    go zero true e q h f = record { before = []; byte = a; back = s; is = refl; holds = q; reaches = rw (e, q) }
    go zero false e q h f = absurd (omega arith)

last_byte : (s : List ℕ) (b : ℕ) → get_or (s ++ b ∷ []) (length (s ++ b ∷ []) - 1) 0 ≡ b
last_byte s b =
    let n : length (s ++ b ∷ []) - 1 ≡ length s = omega (arith, length-append s (b ∷ [])) in
    ap (λ (k : ℕ). get_or (s ++ b ∷ []) k 0) n ∙ at s
  where
    at : (s : List ℕ) → get_or (s ++ b ∷ []) (length s) 0 ≡ b
    at [] = refl
    at (a ∷ s) = at s

-- by what stands behind the last byte
module _ (x u z : List ℕ) (b : ℕ) (short : length (x ++ u) < most_held) (quiet : decides_byte b ≡ true) (end-open : opens_end (ending_of (read_part ron_token 0 ((x ++ u) ++ b ∷ []))) ≡ true) where
  abbrev all : List ℕ
  all = (x ++ u) ++ b ∷ []

  abbrev found : List Entry
  found = decided ron_reader 0 ((x ++ u) ++ b ∷ []) b

  high : end_of 0 (decided ron_reader 0 ((x ++ u) ++ b ∷ []) b) ≤ length ((x ++ u) ++ b ∷ [])
  high = let h = (byte_keeps ron_reader bar_of ron 0 (x ++ u) b).high in omega (arith, h)

  by_next : (es : List Entry) (c : Coming) → bytes_give (going 0 x) (u ++ b ∷ []) ≡ record { entries = es; next = c; bytes = length (u ++ b ∷ []) } → NotHalted c → end_of 0 es ≤ length ((x ++ u) ++ b ∷ [])
      → ((d : Refusal) → c ≡ shut d → d.place ≤ length ((x ++ u) ++ b ∷ [])) → decides (verdict_by es c) ≡ true
      → Decided x (u ++ b ∷ z) (record { bytes = length ((x ++ u) ++ b ∷ []); verdict = verdict_by es c })
  unfolding gives_of
  by_next es (halted d) run n l f v = absurd n
  by_next es (shut d) run n l f v =
      shuts (u ++ b ∷ []) z (length ((x ++ u) ++ b ∷ [])) (length es) (end_of 0 es) d (sym (append_assoc u (b ∷ []) z)) (omega (arith, length-append (x ++ u) (b ∷ []), length-append x u, length-append u (b ∷ []))) l (f d refl)
      (record { entries = es; run = run; count = refl; ends = refl })
  by_next es (going at r) run n l f v =
      let k = piece_keeps ron_reader bar_of ron (u ++ b ∷ []) 0 x at r (ap (λ (g : Given). g.next) run) in
      let ends : at ≡ end_of 0 es = k.ends ∙ ap (λ (g : Given). end_of 0 g.entries) run in
      let zero : at - 0 ≡ end_of 0 es = omega (arith, ends) in
      let left : r ≡ drop (end_of 0 es) (x ++ (u ++ b ∷ [])) = k.left ∙ ap (λ (m : ℕ). drop m (x ++ (u ++ b ∷ []))) zero in
      either (bool_cases (eqb (length es) 0))
      (λ t. let no : false ≡ true = (rw t at v) in absurd (true≢false (sym no)))
      (λ t. rw t (gives (u ++ b ∷ []) z (length ((x ++ u) ++ b ∷ [])) (length es) (end_of 0 es) (sym (append_assoc u (b ∷ []) z)) (omega (arith, length-append (x ++ u) (b ∷ []), length-append x u, length-append u (b ∷ [])))
      (record { front = u; byte = b; split = refl; stops = ron.deciders b quiet }) (some es t) l
      (record { entries = es; run = run ∙ ap₂ (λ (i : ℕ) (y : List ℕ). record { entries = es; next = going i y; bytes = length (u ++ b ∷ []) }) ends left; count = refl; ends = refl })))
    where
      some : (es : List Entry) → eqb (length es) 0 ≡ false → 0 < length es
      some [] t = absurd (true≢false t)
      some (e ∷ es) t = omega arith

  pub stride_decides : decides (judged_of ((x ++ u) ++ b ∷ [])) ≡ true → Decided x (u ++ b ∷ z) (record { bytes = length ((x ++ u) ++ b ∷ []); verdict = judged_of ((x ++ u) ++ b ∷ []) })
  unfolding judged_of
  stride_decides v =
      let left : List ℕ = drop (end_of 0 found - 0) all in
      let next : Coming = left_at ron_reader (end_of 0 found) left in
      let is : judged_of all ≡ verdict_by found next = judged_is in
      subst (λ (w : Verdict). Decided x (u ++ b ∷ z) (record { bytes = length ((x ++ u) ++ b ∷ []); verdict = w })) (sym is)
      (by_next found next (strides x u b short quiet end-open) (left_goes (end_of 0 found) left) high
      (λ d e. omega (arith, refused_place (end_of 0 found) left d e, length-drop (end_of 0 found - 0) all, high)) (ap decides (sym is) ∙ v))
    where
      judged_is : judged_of ((x ++ u) ++ b ∷ []) ≡ verdict_by (decided ron_reader 0 ((x ++ u) ++ b ∷ []) b) (left_at ron_reader (end_of 0 (decided ron_reader 0 ((x ++ u) ++ b ∷ []) b)) (drop (end_of 0 (decided ron_reader 0 ((x ++ u) ++ b ∷ []) b) - 0) ((x ++ u) ++ b ∷ [])))
      judged_is = ap (λ (c : ℕ). verdict_of (behind ron_reader 0 ((x ++ u) ++ b ∷ []) (decided ron_reader 0 ((x ++ u) ++ b ∷ []) c))) (last_byte (x ++ u) b)

-- a part up to its last deciding byte
record Front (p : List ℕ) (seen : ℕ) : Type 0 where
  before : List ℕ
  byte : ℕ
  back : List ℕ
  holds : decides_byte byte ≡ true
  inside : seen ≤ length p
  rest : drop seen p ≡ before ++ byte ∷ back
  whole : p ≡ ((take seen p ++ before) ++ byte ∷ []) ++ back
  end_is : behind_deciders p seen ≡ length ((take seen p ++ before) ++ byte ∷ [])
  front_is : take (behind_deciders p seen) p ≡ (take seen p ++ before) ++ byte ∷ []

front_of : (p : List ℕ) (seen : ℕ) → seen < behind_deciders p seen → Front p seen
unfolding behind_last
front_of p seen l =
    let x : List ℕ = take seen p in
    let k = last_of decides_byte (drop seen p) (omega arith) in
    let u : List ℕ = k.before in
    let le : seen ≤ length p = omega (arith, ap length k.is, length-append k.before (k.byte ∷ k.back), length-drop seen p) in
    let whole : p ≡ ((x ++ u) ++ k.byte ∷ []) ++ k.back =
    sym (take-append-drop seen p) ∙ ap (λ (s : List ℕ). x ++ s) k.is ∙ sym (append_assoc x u (k.byte ∷ k.back)) ∙ sym (append_assoc (x ++ u) (k.byte ∷ []) k.back) in
    let end_is : behind_deciders p seen ≡ length ((x ++ u) ++ k.byte ∷ []) = omega (arith, k.reaches, length-take-le seen p le, length-append (x ++ u) (k.byte ∷ []), length-append x u) in
    record {
      before = u;
      byte = k.byte;
      back = k.back;
      holds = k.holds;
      inside = le;
      rest = k.is;
      whole = whole;
      end_is = end_is;
      front_is = ap₂ take end_is whole ∙ take-append_seam ((x ++ u) ++ k.byte ∷ []) k.back;
    }

-- the last byte of a class is the same from a place before
last_behind : (class : ℕ → Bool) (u v : List ℕ) → 0 < last_quiet class v → last_quiet class (u ++ v) ≡ length u + last_quiet class v
unfolding last_quiet
last_behind class [] v h = omega arith
last_behind class (a ∷ u) v h = rw (last_behind class u v h, lt-ltb 0 (length u + last_quiet class v) (omega arith)) (omega arith)

deciders_same : (p : List ℕ) (seen from : ℕ) → seen ≤ from → from < behind_deciders p from → behind_deciders p seen ≡ behind_deciders p from
unfolding behind_last
deciders_same p seen from l h =
    let inside : from ≤ length p = omega (arith, last_le decides_byte (drop from p), length-drop from p) in
    let s : List ℕ = drop seen p in
    let back : drop (from - seen) s ≡ drop from p = drop_on seen (from - seen) from p (omega arith) in
    let many : length (take (from - seen) s) ≡ from - seen = length-take-le (from - seen) s (omega (arith, length-drop seen p)) in
    let split : last_quiet decides_byte s ≡ length (take (from - seen) s) + last_quiet decides_byte (drop from p) =
    ap (last_quiet decides_byte) (sym (take-append-drop (from - seen) s) ∙ ap (λ (t : List ℕ). take (from - seen) s ++ t) back) ∙ last_behind decides_byte (take (from - seen) s) (drop from p) (omega arith) in
    omega (arith, split, many)

-- where a leap over the front p of a part decides, behind a place from which on anything may be decided
module _ (p t : List ℕ) (seen from : ℕ) (behind-seen : seen ≤ from) (short : length p ≤ most_held) where
  seen_decides : seen < behind_deciders p seen → opens_end (scanned_of (take (behind_deciders p seen) p)).ending ≡ true → decides (judged_of (take (behind_deciders p seen) p)) ≡ true
      → Decided (take seen (p ++ t)) (drop seen (p ++ t)) (record { bytes = behind_deciders p seen; verdict = judged_of (take (behind_deciders p seen) p) })
  unfolding scanned_of
  seen_decides l o v =
      let k = front_of p seen l in
      let x : List ℕ = take seen p in
      let u : List ℕ = k.before in
      let few : length (x ++ u) < most_held = omega (arith, ap length k.whole, length-append ((x ++ u) ++ k.byte ∷ []) k.back, length-append (x ++ u) (k.byte ∷ [])) in
      let first : take seen (p ++ t) ≡ x = take-append-le seen p t k.inside in
      let back : drop seen (p ++ t) ≡ u ++ k.byte ∷ (k.back ++ t) = drop-append-le seen p t k.inside ∙ ap (λ (s : List ℕ). s ++ t) k.rest ∙ append_assoc u (k.byte ∷ k.back) t in
      let r : Waited = record { bytes = behind_deciders p seen; verdict = judged_of (take (behind_deciders p seen) p) } in
      subst (λ (y : List ℕ). Decided y (drop seen (p ++ t)) r) (sym first)
      (subst (λ (w : List ℕ). Decided x w r) (sym back)
      (subst (λ (q : List ℕ). Decided x (u ++ k.byte ∷ (k.back ++ t)) (record { bytes = behind_deciders p seen; verdict = judged_of q })) (sym k.front_is)
      (subst (λ (n : ℕ). Decided x (u ++ k.byte ∷ (k.back ++ t)) (record { bytes = n; verdict = judged_of ((x ++ u) ++ k.byte ∷ []) })) (sym k.end_is)
      (stride_decides x u (k.back ++ t) k.byte few k.holds (ap (λ (q : List ℕ). opens_end (scanned_of q).ending) (sym k.front_is) ∙ o) (ap (λ (q : List ℕ). decides (judged_of q)) (sym k.front_is) ∙ v)))))

  far_decides : from < behind_deciders p from → opens_end (scanned_of (take (behind_deciders p from) p)).ending ≡ true → decides (judged_of (take (behind_deciders p from) p)) ≡ true
      → Decided (take seen (p ++ t)) (drop seen (p ++ t)) (record { bytes = behind_deciders p from; verdict = judged_of (take (behind_deciders p from) p) })
  far_decides l =
      let same : behind_deciders p seen ≡ behind_deciders p from = deciders_same p seen from behind-seen l in
      subst
      (λ (n : ℕ). opens_end (scanned_of (take n p)).ending ≡ true → decides (judged_of (take n p)) ≡ true → Decided (take seen (p ++ t)) (drop seen (p ++ t)) (record { bytes = n; verdict = judged_of (take n p) })) same
      (seen_decides (omega (arith, same)))

  -- a leap that decides
  leap_decides : decides (leap_of p from).verdict ≡ true → Decided (take seen (p ++ t)) (drop seen (p ++ t)) (leapt (leap_of p from))
  unfolding leap_of
  leap_decides =
      let bytes : ℕ = behind_deciders p from in
      let ending : Told Unit = (scanned_of (take bytes p)).ending in
      cond_cases (λ (l : Leapt). decides l.verdict ≡ true → Decided (take seen (p ++ t)) (drop seen (p ++ t)) (leapt l)) (ltb from bytes) (leap_by p bytes ending) (no_leap 0)
      (λ a. cond_cases (λ (l : Leapt). decides l.verdict ≡ true → Decided (take seen (p ++ t)) (drop seen (p ++ t)) (leapt l)) (opens_end ending)
      (record { bytes = bytes; verdict = judged_of (take bytes p); end = 0 }) (no_leap (scanned_of (take bytes p)).end)
      (λ o v. far_decides (ltb-true from bytes a) o v) (λ o v. absurd (true≢false (sym v))))
      (λ a v. absurd (true≢false (sym v)))

-- from there on what is decided first is the same
start_goes : (part : List ℕ) (seen : ℕ) → seen ≤ length part → Goes part seen (start_of part seen)
unfolding start_of
start_goes part seen l = cond_cases (Goes part seen) (leb (length part) 64) seen (beyond_of part seen) (λ t. (omega arith, l, refl)) (λ t. beyond_goes part seen l)

pub start_short : (part : List ℕ) (seen : ℕ) → length part ≤ 64 → seen ≡ start_of part seen
unfolding start_of
start_short part seen l = sym (ap (λ (t : Bool). cond t seen (beyond_of part seen)) (le-leb (length part) 64 l))

pub start_long : (part : List ℕ) (seen from : ℕ) → from ≡ beyond_of part seen → 64 < length part → from ≡ start_of part seen
unfolding start_of
start_long part seen from e l = e ∙ sym (ap (λ (t : Bool). cond t seen (beyond_of part seen)) (lt-leb (length part) 64 l))

-- what a stride comes to, over a part that may be held
pub stridden_gives : (part : List ℕ) (seen : ℕ) → seen ≤ length part → length part ≤ most_held → Decided (take seen part) (drop seen part) (stridden part seen)
unfolding stridden waited_of
stridden_gives part seen le short =
    let from : ℕ = start_of part seen in
    let far : Leapt = leap_of part from in
    let near : Leapt = leap_of (take far.end part) from in
    let D : Waited → Type 0 = Decided (take seen part) (drop seen part) in
    let on : (p t : List ℕ) → p ++ t ≡ part → decides (leap_of p from).verdict ≡ true → D (leapt (leap_of p from)) =
    λ p t e v. subst (λ (s : List ℕ). Decided (take seen s) (drop seen s) (leapt (leap_of p from))) e (leap_decides p t seen from (start_goes part seen le).0 (omega (arith, ap length e, length-append p t)) v) in
    cond_cases D (decides far.verdict) (leapt far) _ (λ v. on part [] (append-nil part) v)
    (λ n. cond_cases D (ltb from far.end && decides near.verdict) (leapt near) (waited_of part seen)
    (λ v. on (take far.end part) (drop far.end part) (take-append-drop far.end part) (and_true (ltb from far.end) (decides near.verdict) v).1)
    (λ v. waited_gives (drop seen part) (take seen part) (short_free (take seen part) (drop seen part) (omega (arith, ap length (take-append-drop seen part))))))

-- ---- what the code answers

module _ (part : List ℕ) (seen bytes : ℕ) (is : bytes ≡ behind_deciders part seen) where
  pub leap_none : (r : Leapt) → r ≡ no_leap 0 → bytes ≤ seen → r ≡ leap_of part seen
  unfolding leap_of
  leap_none r e l = e ∙ sym (ap (λ (t : Bool). cond t (leap_by part (behind_deciders part seen) (scanned_of (take (behind_deciders part seen) part)).ending) (no_leap 0)) (ap (ltb seen) (sym is) ∙ le-ltb seen bytes l))

  module _ (far : seen < bytes) where
    front_there : Front part seen
    front_there = front_of part seen (subst (λ (n : ℕ). seen < n) is far)

    pub leap_inside : bytes ≤ length part
    leap_inside = let k = front_there in omega (arith, is, k.end_is, ap length k.whole, length-append ((take seen part ++ k.before) ++ k.byte ∷ []) k.back)

    -- its last byte stops
    pub leap_stops_byte : (0 < length (take bytes part)) × (stops_byte (get_or (take bytes part) (length (take bytes part) - 1) 0) ≡ true)
    leap_stops_byte =
        let k = front_there in
        let t : take bytes part ≡ (take seen part ++ k.before) ++ k.byte ∷ [] = ap (λ (n : ℕ). take n part) is ∙ k.front_is in (
          omega (arith, ap length t, length-append (take seen part ++ k.before) (k.byte ∷ [])),
          ap (λ (s : List ℕ). stops_byte (get_or s (length s - 1) 0)) t ∙ ap stops_byte (last_byte (take seen part ++ k.before) k.byte) ∙ ron.deciders k.byte k.holds,
        )

    module _ (s : Scanned) (q : s ≡ scanned_of (take bytes part)) where
      leap_is : leap_of part seen ≡ cond (opens_end s.ending) (record { bytes = bytes; verdict = judged_of (take bytes part); end = 0 }) (no_leap s.end)
      unfolding leap_of
      leap_is =
          ap (λ (n : ℕ). cond (ltb seen n) (leap_by part n (scanned_of (take n part)).ending) (no_leap 0)) (sym is)
          ∙ ap (λ (t : Bool). cond t (leap_by part bytes (scanned_of (take bytes part)).ending) (no_leap 0)) (lt-ltb seen bytes far)
          ∙ ap (λ (z : Scanned). cond (opens_end z.ending) (record { bytes = bytes; verdict = judged_of (take bytes part); end = 0 }) (no_leap z.end)) (sym q)

      pub leap_broken : (r : Leapt) → r ≡ no_leap s.end → opens_end s.ending ≡ false → r ≡ leap_of part seen
      leap_broken r e t = e ∙ sym (leap_is ∙ ap (λ (x : Bool). cond x (record { bytes = bytes; verdict = judged_of (take bytes part); end = 0 }) (no_leap s.end)) t)

      pub leap_far : (v : Verdict) → v ≡ judged_of (take bytes part) → opens_end s.ending ≡ true → record { bytes = bytes; verdict = v; end = 0 } ≡ leap_of part seen
      leap_far v e t =
          ap (λ (w : Verdict). record { bytes = bytes; verdict = w; end = 0 }) e
          ∙ sym (leap_is ∙ ap (λ (x : Bool). cond x (record { bytes = bytes; verdict = judged_of (take bytes part); end = 0 }) (no_leap s.end)) t)

-- what is refused stands behind entries of the part
pub leap_end : (part : List ℕ) (seen : ℕ) → (leap_of part seen).end ≤ length part
unfolding leap_of
leap_end part seen =
    let bytes : ℕ = behind_deciders part seen in
    cond_cases (λ (l : Leapt). l.end ≤ length part) (ltb seen bytes) (leap_by part bytes (scanned_of (take bytes part)).ending) (no_leap 0)
    (λ a. cond_cases (λ (l : Leapt). l.end ≤ length part) (opens_end (scanned_of (take bytes part)).ending) (record { bytes = bytes; verdict = judged_of (take bytes part); end = 0 }) (no_leap (scanned_of (take bytes part)).end)
    (λ o. omega arith) (λ o. omega (arith, judge_within (take bytes part) (scanned_of (take bytes part)) refl, length-take bytes part)))
    (λ a. omega arith)

-- at the end nothing is left
pub wait_none : (part : List ℕ) (from : ℕ) (w : Waited) → w ≡ record { bytes = length part; verdict = Nothing } → from ≤ length part → length part ≤ from → w ≡ waited_of part from
wait_none part from w e l m = let z : length part ≡ from = omega arith in e ∙ sym (wait_end part) ∙ ap (waited_of part) z

module _ (part : List ℕ) (seen : ℕ) (le : seen ≤ length part) (from : ℕ) (from_is : from ≡ start_of part seen) where
  pub from_inside : from ≤ length part
  from_inside = omega (arith, from_is, (start_goes part seen le).1)

  -- what is decided from there on is what is decided
  waits_same : waited_of part from ≡ waited_of part seen
  waits_same = ap (waited_of part) from_is ∙ sym (start_goes part seen le).2

  module _ (far : Leapt) (is : far ≡ leap_of part from) where
    abbrev rest : Waited
    rest = cond (ltb from far.end && decides (leap_of (take far.end part) from).verdict) (leapt (leap_of (take far.end part) from)) (waited_of part seen)

    stride_is : stridden part seen ≡ cond (decides far.verdict) (leapt far) rest
    unfolding stridden
    stride_is =
        ap (λ (n : ℕ). cond (decides (leap_of part n).verdict) (leapt (leap_of part n)) (cond (ltb n (leap_of part n).end && decides (leap_of (take (leap_of part n).end part) n).verdict) (leapt (leap_of (take (leap_of part n).end part) n)) (waited_of part seen))) (sym from_is)
        ∙ ap (λ (f : Leapt). cond (decides f.verdict) (leapt f) (cond (ltb from f.end && decides (leap_of (take f.end part) from).verdict) (leapt (leap_of (take f.end part) from)) (waited_of part seen))) (sym is)

    pub stride_far : decides far.verdict ≡ true → record { bytes = far.bytes; verdict = far.verdict } ≡ stridden part seen
    stride_far v = sym (stride_is ∙ ap (λ (t : Bool). cond t (leapt far) rest) v)

    pub far_end : far.end ≤ length part
    far_end = subst (λ (l : Leapt). l.end ≤ length part) (sym is) (leap_end part from)

    module _ (none : decides far.verdict ≡ false) where
      rest_is : stridden part seen ≡ rest
      rest_is = stride_is ∙ ap (λ (t : Bool). cond t (leapt far) rest) none

      pub stride_waits : (w : Waited) → w ≡ waited_of part from → far.end ≤ from → w ≡ stridden part seen
      stride_waits w e l = e ∙ waits_same ∙ sym (rest_is ∙ rw (le-ltb from far.end l))

      module _ (near : Leapt) (near-is : near ≡ leap_of (take far.end part) from) (l : from < far.end) where
        by_near : (t : Bool) → decides near.verdict ≡ t → rest ≡ cond t (leapt (leap_of (take far.end part) from)) (waited_of part seen)
        by_near t v =
            ap₂ (λ (x y : Bool). cond (x && y) (leapt (leap_of (take far.end part) from)) (waited_of part seen)) (lt-ltb from far.end l) (ap (λ (f : Leapt). decides f.verdict) (sym near-is) ∙ v)

        pub stride_near : decides near.verdict ≡ true → record { bytes = near.bytes; verdict = near.verdict } ≡ stridden part seen
        stride_near v = ap leapt near-is ∙ sym (rest_is ∙ by_near true v)

        pub stride_last : (w : Waited) → w ≡ waited_of part from → decides near.verdict ≡ false → w ≡ stridden part seen
        stride_last w e v = e ∙ waits_same ∙ sym (rest_is ∙ by_near false v)
