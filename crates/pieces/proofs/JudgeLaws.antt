-- What the last byte of a part decides, by what the part holds. Assumes nothing.
use Rattle.std.proofs.Common.{Ok, Err}
use Prim.Native.Nat.{ℕ, ◌+◌, ◌-◌, ◌<◌, ◌≤◌}
use native.Mathlib.Nat.{sub_self}
use native.Mathlib.Omega.{arith}
use mathlib.Core.Bool.{Bool, ◌&&◌, cond, false, true}
use mathlib.Core.List.{List, [], ◌++◌, ◌∷◌, append-nil}
use mathlib.Core.Path.{◌≡◌, ap, ap₂, refl, sym, ◌∙◌}
use lib.Dec.{eqb}
use lib.ListN.{drop, drop_of_length-le, get_or, length, length-append, take}
use borrow.Author.Tests.{eq-eqb, le-leb, lt-leb, ne_eqb}
use Rattle.text.proofs.Choices.{bool_cases, cond_same, either, lt_or_le}
use Rattle.text.specs.Refusals.{placed_behind, Told}
use Rattle.text.specs.declared.refusal.Refusal.{Refusal}
use Rattle.rows.specs.declared.Entry.{Entry}
use Rattle.reading.proofs.Entries.{▸-append}
use Rattle.reading.proofs.Stable.{ends_grow}
use Rattle.reading.proofs.Steps.{drop_on, first, not_broken, not_complete, read_refuse, read_stop, read_token}
use Rattle.reading.specs.Owed.{quiet_byte}
use Rattle.reading.specs.Readings.{Reading, ◌▸◌, broken, complete, end_of, entries, entry, read_part}
use Rattle.reading.specs.Tokens.{Answer, Token, reach, refuse, stop, token}
use Rattle.tokens.proofs.RonLaws.{laws}
use Rattle.tokens.specs.Ron.{ron_token}
use Rattle.arriving.proofs.Fronts.{all_entries, entries_front, last_end, last_of}
use Rattle.arriving.proofs.Timely.{end_behind, ends_in}
use Rattle.arriving.specs.Arrivals.{Coming, decided, going, left_at, shut, spoilt, up_to}
use Rattle.settled.proofs.Owed.{ron}
use Rattle.settled.specs.Bytes.{closes_byte, decides_byte, stops_byte}
use Rattle.settled.specs.Settled.{ron_reader, ron_settles}
use Rattle.pieces.proofs.ScanLaws.{but_last, ending_front}
use Rattle.read.specs.declared.scanned.Scanned.{Scanned}
use Rattle.pieces.specs.declared.verdict.Verdict.TheVariants.{Nothing, Shuts}
use Rattle.pieces.specs.inner.Judges.{behind_of, decided_by, gives_of, judged_of, verdict_by}
use Rattle.pieces.specs.inner.Scans.{ending_of, scanned_by, scanned_of}

-- the last byte of a part
abbrev pub last_byte : List ℕ → ℕ
last_byte part = get_or part (length part - 1) 0

-- ---- the tests of `behind_entries`

module _ (part : List ℕ) (s : Scanned) where
  pub whole_gives : s.ending ≡ Ok tt → decides_byte (last_byte part) ≡ true → gives_of s.count s.end ≡ behind_of part s
  unfolding behind_of
  whole_gives e d = sym (ap (λ (x : Told Unit). decided_by x part s) e ∙ ap (λ (t : Bool). cond t (gives_of s.count s.end) Nothing) d)

  pub whole_keeps : s.ending ≡ Ok tt → decides_byte (last_byte part) ≡ false → Nothing ≡ behind_of part s
  unfolding behind_of
  whole_keeps e d = sym (ap (λ (x : Told Unit). decided_by x part s) e ∙ ap (λ (t : Bool). cond t (gives_of s.count s.end) Nothing) d)

  module _ (d : Refusal) (e : s.ending ≡ Err d) where
    by_tests : (t u : Bool) → ron_settles (drop s.end part) ≡ t → decides_byte (last_byte part) ≡ u
        → behind_of part s ≡ cond t (Shuts s.count s.end d) (cond u (gives_of s.count s.end) Nothing)
    unfolding behind_of
    by_tests t u p q =
        ap (λ (x : Told Unit). decided_by x part s) e
        ∙ ap₂ (λ (a b : Bool). cond a (Shuts s.count s.end d) (cond b (gives_of s.count s.end) Nothing)) p q

    pub broken_shuts : ron_settles (drop s.end part) ≡ true → Shuts s.count s.end d ≡ behind_of part s
    broken_shuts p = sym (by_tests true (decides_byte (last_byte part)) p refl)

    pub broken_gives : ron_settles (drop s.end part) ≡ false → decides_byte (last_byte part) ≡ true → gives_of s.count s.end ≡ behind_of part s
    broken_gives p q = sym (by_tests false true p q)

    pub broken_keeps : ron_settles (drop s.end part) ≡ false → decides_byte (last_byte part) ≡ false → Nothing ≡ behind_of part s
    broken_keeps p q = sym (by_tests false false p q)

-- ---- what is left behind entries

-- a reading goes on behind its first entries
pub rest_of : (es : List Entry) (at : ℕ) (s : List ℕ) (x : Reading) → read_part ron_token at s ≡ es ▸ x → read_part ron_token (end_of at es) (drop (end_of at es - at) s) ≡ x
unfolding end_of
rest_of [] at s x h = ap (λ (n : ℕ). read_part ron_token at (drop n s)) (sub_self at) ∙ h
rest_of (e ∷ es) at s x h =
    let f = first ron_token quiet_byte laws at s e (es ▸ x) h in
    let n : ℕ = reach f.this in
    let a : ℕ = at + n in
    let p : e.end ≡ a = ap (λ (y : Entry). y.end) f.entry_is in
    let low : a ≤ end_of a es = ends_grow ron_token quiet_byte laws es a (drop n s) x (sym f.rest_is) in
    let ih : read_part ron_token (end_of a es) (drop (end_of a es - a) (drop n s)) ≡ x = rest_of es a (drop n s) x (sym f.rest_is) in
    let far : drop (end_of a es - a) (drop n s) ≡ drop (end_of a es - at) s = drop_on n (end_of a es - a) (end_of a es - at) s (omega arith) in
    ap (λ (k : ℕ). read_part ron_token (end_of k es) (drop (end_of k es - at) s)) p
    ∙ ap (read_part ron_token (end_of a es)) (sym far)
    ∙ ih

-- the same from the front of a part
pub rest_from : (es : List Entry) (s : List ℕ) (x : Reading) → read_part ron_token 0 s ≡ es ▸ x → read_part ron_token (end_of 0 es) (drop (end_of 0 es) s) ≡ x
rest_from es s x h =
    let z : end_of 0 es ≡ end_of 0 es - 0 = omega arith in
    ap (λ (n : ℕ). read_part ron_token (end_of 0 es) (drop n s)) z ∙ rest_of es 0 s x h

-- a reading without an entry tells what the token reader answered
pub stopped_at : (at : ℕ) (s : List ℕ) → read_part ron_token at s ≡ complete → ron_token s ≡ stop
stopped_at at s h = go (ron_token s) refl
  where
    go : (a : Answer) → ron_token s ≡ a → ron_token s ≡ stop
    go stop q = q
    go (refuse d) q = let z : ◌≡◌ {A = Reading} complete (broken (placed_behind at d)) = sym h ∙ read_refuse ron_token quiet_byte laws at s d q in cc
    go (token t) q = not_complete (sym h ∙ read_token ron_token quiet_byte laws at s t q)

pub record Refusing (at : ℕ) (s : List ℕ) (d : Refusal) : Type 0 where
  pub this : Refusal
  pub answer : ron_token s ≡ refuse this
  pub placed : placed_behind at this ≡ d

pub refused_at : (at : ℕ) (s : List ℕ) (d : Refusal) → read_part ron_token at s ≡ broken d → Refusing at s d
refused_at at s d h = go (ron_token s) refl
  where
    go : (a : Answer) → ron_token s ≡ a → Refusing at s d
    go stop q = let z : ◌≡◌ {A = Reading} (broken d) complete = sym h ∙ read_stop ron_token quiet_byte laws at s q in let y : ◌≡◌ {A = ℕ} 0 1 = cc in absurd (omega arith)
    go (refuse r) q =
        let z : ◌≡◌ {A = Reading} (broken (placed_behind at r)) (broken d) = sym (read_refuse ron_token quiet_byte laws at s r q) ∙ h in
        record { this = r; answer = q; placed = cc }
    go (token t) q = not_broken (sym h ∙ read_token ron_token quiet_byte laws at s t q)

-- what is left is kept, or it is refused
module _ (at : ℕ) (left : List ℕ) where
  pub left_stop : ron_token left ≡ stop → left_at ron_reader at left ≡ going at left
  unfolding left_at
  left_stop h = rw h (cond_same (ron_settles left) (going at left))

  pub left_token : (t : Token) → ron_token left ≡ token t → left_at ron_reader at left ≡ going at left
  unfolding left_at
  left_token t h = rw h (cond_same (ron_settles left) (going at left))

  pub left_loose : ron_settles left ≡ false → left_at ron_reader at left ≡ going at left
  unfolding left_at
  left_loose h = rw h

  pub left_shut : (d : Refusal) → ron_settles left ≡ true → ron_token left ≡ refuse d → left_at ron_reader at left ≡ shut (placed_behind at d)
  unfolding left_at
  left_shut d h q = rw (h, q)

-- and so it is spoilt or not
and_never : (t : Bool) → (t && false) ≡ false
and_never true = refl
and_never false = refl

module _ (left : List ℕ) where
  spoilt_stop : ron_token left ≡ stop → spoilt ron_reader left ≡ false
  unfolding spoilt
  spoilt_stop h = rw h (and_never (ron_settles left))

  spoilt_loose : ron_settles left ≡ false → spoilt ron_reader left ≡ false
  unfolding spoilt
  spoilt_loose h = rw h

  spoilt_shut : (d : Refusal) → ron_settles left ≡ true → ron_token left ≡ refuse d → spoilt ron_reader left ≡ true
  unfolding spoilt
  spoilt_shut d h q = rw (h, q)

-- ---- the front of a reading

-- entries that end by n are in the front up to n
pub up_front : (es : List Entry) (at n : ℕ) (s : List ℕ) (r : Reading) → read_part ron_token at s ≡ es ▸ r → end_of at es ≤ n → up_to n (es ▸ r) ≡ es ++ up_to n r
unfolding up_to end_of
up_front [] at n s r h le = refl
up_front (e ∷ es) at n s r h le =
    let f = first ron_token quiet_byte laws at s e (es ▸ r) h in
    let p : e.end ≡ at + reach f.this = ap (λ (z : Entry). z.end) f.entry_is in
    let rest : read_part ron_token e.end (drop (reach f.this) s) ≡ es ▸ r = ap (λ (k : ℕ). read_part ron_token k (drop (reach f.this) s)) p ∙ sym f.rest_is in
    let far : e.end ≤ end_of e.end es = ends_grow ron_token quiet_byte laws es e.end (drop (reach f.this) s) r rest in
    rw (le-leb e.end n (omega arith)) (ap {B = List Entry} (λ (l : List Entry). e ∷ l) (up_front es e.end n (drop (reach f.this) s) r rest le))

-- a reading without an entry has none in front
up_none : (n : ℕ) (x : Reading) → entries x ≡ [] → up_to n x ≡ []
unfolding up_to entries
up_none n complete h = refl
up_none n (broken d) h = refl
up_none n (entry e r) h = let z : ◌≡◌ {A = List Entry} (e ∷ entries r) [] = h in cc

-- an entry that ends behind n is not in front
up_past : (n : ℕ) (e : Entry) (x : Reading) → n < e.end → up_to n (entry e x) ≡ []
unfolding up_to
up_past n e x h = rw (lt-leb e.end n h)

-- entries, the last of them apart
record Snoc (es : List Entry) : Type 0 where
  front : List Entry
  last : Entry
  whole : es ≡ front ++ last ∷ []

snoc : (e : Entry) (es : List Entry) → Snoc (e ∷ es)
snoc e [] = record { front = []; last = e; whole = refl }
snoc e (x ∷ es) =
    let s = snoc x es in
    record { front = e ∷ s.front; last = s.last; whole = ap {B = List Entry} (λ (l : List Entry). e ∷ l) s.whole }

-- a part is kept where what is left behind its entries would be
kept_whole : (es : List Entry) (part : List ℕ) (x : Reading) → read_part ron_token 0 part ≡ es ▸ x
    → left_at ron_reader (end_of 0 es) (drop (end_of 0 es) part) ≡ going (end_of 0 es) (drop (end_of 0 es) part) → left_at ron_reader 0 part ≡ going 0 part
unfolding end_of
kept_whole [] part x h l = l
kept_whole (e ∷ es) part x h l = let f = first ron_token quiet_byte laws 0 part e (es ▸ x) h in left_token 0 part f.this f.answer

-- the last entry ends where the part does: it has one
some_end : (es : List Entry) → 0 < end_of 0 es → Snoc es
unfolding end_of
some_end [] h = absurd (omega arith)
some_end (e ∷ es) h = snoc e es

-- ---- the verdict on a part that reads as these entries and an end without one

module _ (part : List ℕ) (es : List Entry) (x : Reading) (h : read_part ron_token 0 part ≡ es ▸ x) (none : entries x ≡ []) where
  abbrev end : ℕ
  end = end_of 0 es

  abbrev left : List ℕ
  left = drop (end_of 0 es) part

  -- the tests of `decided`
  decided-by : decided ron_reader 0 part (last_byte part)
      ≡ cond (closes_byte (last_byte part) && eqb (end_of 0 es) (length part)) es
      (cond (decides_byte (last_byte part)) (up_to (length part - 1) (es ▸ x))
      (cond (stops_byte (last_byte part) && spoilt ron_reader (drop (end_of 0 es) part)) es []))
  unfolding decided
  decided-by =
      let all : entries (read_part ron_token 0 part) ≡ es = ap entries h ∙ entries_front es x ∙ ap (λ (l : List Entry). es ++ l) none ∙ append-nil es in
      let zero : end_of 0 es - 0 ≡ end_of 0 es = omega arith in
      let len : 0 + length part ≡ length part = omega arith in
      let byte : ℕ = last_byte part in
      ap₂
      (λ (fs : List Entry) (r : Reading). cond (closes_byte byte && eqb (end_of 0 fs) (0 + length part)) fs (cond (decides_byte byte) (up_to (0 + length part - 1) r) (cond (stops_byte byte && spoilt ron_reader (drop (end_of 0 fs - 0) part)) fs [])))
      all h
      ∙ ap₂
      (λ (n k : ℕ). cond (closes_byte byte && eqb (end_of 0 es) n) es (cond (decides_byte byte) (up_to (n - 1) (es ▸ x)) (cond (stops_byte byte && spoilt ron_reader (drop k part)) es [])))
      len zero

  -- the verdict on what is decided
  verdict_on : (fs : List Entry) (c : Coming) → decided ron_reader 0 part (last_byte part) ≡ fs → left_at ron_reader (end_of 0 fs) (drop (end_of 0 fs) part) ≡ c → judged_of part ≡ verdict_by fs c
  unfolding judged_of
  verdict_on fs c d l =
      let zero : end_of 0 fs - 0 ≡ end_of 0 fs = omega arith in
      ap (λ (gs : List Entry). verdict_by gs (left_at ron_reader (end_of 0 gs) (drop (end_of 0 gs - 0) part))) d
      ∙ ap (λ (n : ℕ). verdict_by fs (left_at ron_reader (end_of 0 fs) (drop n part))) zero
      ∙ ap (verdict_by fs) l

  -- nothing is decided
  none_verdict : decided ron_reader 0 part (last_byte part) ≡ [] → left_at ron_reader end left ≡ going end left → judged_of part ≡ Nothing
  unfolding gives_of end_of
  none_verdict d l = verdict_on [] (going 0 part) d (kept_whole es part x h l)

  -- all entries are
  all_verdict : decided ron_reader 0 part (last_byte part) ≡ es → left_at ron_reader end left ≡ going end left → judged_of part ≡ gives_of (length es) end
  all_verdict d l = verdict_on es (going end left) d l

  shut_verdict : (d : Refusal) → decided ron_reader 0 part (last_byte part) ≡ es → left_at ron_reader end left ≡ shut d → judged_of part ≡ Shuts (length es) end d
  shut_verdict r d l = verdict_on es (shut r) d l

  -- ---- the last entry ends with the part
  module _ (to : end_of 0 es ≡ length part) where
    over : ron_token left ≡ stop
    over = let le : length part ≤ end_of 0 es = omega arith in ap ron_token (drop_of_length-le part le) ∙ laws.nil

    pub ends_closed : closes_byte (last_byte part) ≡ true → judged_of part ≡ gives_of (length es) end
    ends_closed c = all_verdict (decided-by ∙ simp (c, eq-eqb (end_of 0 es) (length part) to)) (left_stop end left over)

    pub ends_nothing : closes_byte (last_byte part) ≡ false → decides_byte (last_byte part) ≡ false → judged_of part ≡ Nothing
    ends_nothing c d = none_verdict (decided-by ∙ simp (c, d, spoilt_stop left over, and_never (stops_byte (last_byte part)))) (left_stop end left over)

    pub ends_before : 0 < length part → closes_byte (last_byte part) ≡ false → decides_byte (last_byte part) ≡ true
        → judged_of part ≡ gives_of (length es - 1) (end_of 0 (take (length es - 1) es))
    ends_before some c d =
        let s = some_end es (omega arith) in
        let fs : List Entry = s.front in
        let e : Entry = s.last in
        let apart : read_part ron_token 0 part ≡ fs ▸ entry e x = h ∙ ap (λ (l : List Entry). l ▸ x) s.whole ∙ ▸-append fs (e ∷ []) x in
        let rest : read_part ron_token (end_of 0 fs) (drop (end_of 0 fs) part) ≡ entry e x = rest_from fs part (entry e x) apart in
        let f = first ron_token quiet_byte laws (end_of 0 fs) (drop (end_of 0 fs) part) e x rest in
        let last : e.end ≡ length part = sym (last_end fs e 0) ∙ ap (end_of 0) (sym s.whole) ∙ to in
        let far : end_of 0 fs < e.end = end_behind ron_reader ron [] e (end_of 0 fs) (drop (end_of 0 fs) part) x rest in
        let n : ℕ = length part - 1 in
        let ups : up_to n (es ▸ x) ≡ fs =
        ap (up_to n) (sym h ∙ apart) ∙ up_front fs 0 n part (entry e x) apart (omega arith) ∙ ap (λ (l : List Entry). fs ++ l) (up_past n e x (omega arith)) ∙ append-nil fs in
        let less : length es - 1 ≡ length fs = omega (arith, ap length s.whole, length-append fs (e ∷ [])) in
        let front : take (length es - 1) es ≡ fs = ap (λ (l : List Entry). take (length l - 1) l) s.whole ∙ but_last fs e in
        verdict_on fs (going (end_of 0 fs) (drop (end_of 0 fs) part)) (decided-by ∙ simp (c, d) ups) (left_token (end_of 0 fs) (drop (end_of 0 fs) part) f.this f.answer)
        ∙ sym (ap₂ gives_of less (ap (end_of 0) front))

  -- ---- it ends before
  module _ (before : end_of 0 es < length part) where
    open_test : (closes_byte (last_byte part) && eqb (end_of 0 es) (length part)) ≡ false
    open_test = simp (ne_eqb (end_of 0 es) (length part) (λ q. omega arith), and_never (closes_byte (last_byte part)))

    ups_all : up_to (length part - 1) (es ▸ x) ≡ es
    ups_all =
        let n : ℕ = length part - 1 in
        up_front es 0 n part x h (omega arith) ∙ ap (λ (l : List Entry). es ++ l) (up_none n x none) ∙ append-nil es

    -- by what is left behind the entries
    pub left_gives : left_at ron_reader end left ≡ going end left → decides_byte (last_byte part) ≡ true → judged_of part ≡ gives_of (length es) end
    left_gives l d = all_verdict (decided-by ∙ simp (open_test, d) ups_all) l

    pub left_nothing : left_at ron_reader end left ≡ going end left → spoilt ron_reader left ≡ false → decides_byte (last_byte part) ≡ false → judged_of part ≡ Nothing
    left_nothing l p d = none_verdict (decided-by ∙ simp (open_test, d, p, and_never (stops_byte (last_byte part)))) l

    pub left_shuts : (r : Refusal) → left_at ron_reader end left ≡ shut r → spoilt ron_reader left ≡ true → stops_byte (last_byte part) ≡ true → judged_of part ≡ Shuts (length es) end r
    left_shuts r l p q =
        either (bool_cases (decides_byte (last_byte part)))
        (λ d. shut_verdict r (decided-by ∙ simp (open_test, d) ups_all) l)
        (λ d. shut_verdict r (decided-by ∙ simp (open_test, d, p, q)) l)

-- ---- the laws of `judge`: over what the scan told

-- how a reading ends has no entry
last_none : (r : Reading) → entries (last_of r) ≡ []
unfolding entries last_of
last_none complete = refl
last_none (broken d) = refl
last_none (entry e r) = last_none r

module _ (part : List ℕ) (stops : stops_byte (last_byte part) ≡ true) (es : List Entry) where
  -- behind the entries: by how the reading ends
  behind_complete : read_part ron_token 0 part ≡ es ▸ complete → end_of 0 es < length part → behind_of part (scanned_by es (Ok tt)) ≡ judged_of part
  unfolding entries
  behind_complete h lt =
      let s : Scanned = scanned_by es (Ok tt) in
      let left : List ℕ = drop (end_of 0 es) part in
      let over : ron_token left ≡ stop = stopped_at (end_of 0 es) left (rest_from es part complete h) in
      either (bool_cases (decides_byte (last_byte part)))
      (λ d. sym (whole_gives part s refl d) ∙ sym (left_gives part es complete h refl lt (left_stop (end_of 0 es) left over) d))
      (λ d. sym (whole_keeps part s refl d) ∙ sym (left_nothing part es complete h refl lt (left_stop (end_of 0 es) left over) (spoilt_stop left over) d))

  behind_broken : (r : Refusal) → read_part ron_token 0 part ≡ es ▸ broken r → end_of 0 es < length part → behind_of part (scanned_by es (Err r)) ≡ judged_of part
  unfolding entries
  behind_broken r h lt =
      let s : Scanned = scanned_by es (Err r) in
      let left : List ℕ = drop (end_of 0 es) part in
      let f = refused_at (end_of 0 es) left r (rest_from es part (broken r) h) in
      either (bool_cases (ron_settles left))
      (λ t. sym (broken_shuts part s r refl t)
      ∙ sym (left_shuts part es (broken r) h refl lt r (left_shut (end_of 0 es) left f.this t f.answer ∙ ap shut f.placed) (spoilt_shut left f.this t f.answer) stops))
      (λ t. either (bool_cases (decides_byte (last_byte part)))
      (λ d. sym (broken_gives part s r refl t d) ∙ sym (left_gives part es (broken r) h refl lt (left_loose (end_of 0 es) left t) d))
      (λ d. sym (broken_keeps part s r refl t d) ∙ sym (left_nothing part es (broken r) h refl lt (left_loose (end_of 0 es) left t) (spoilt_loose left t) d)))

  behind_any : (x : Reading) → entries x ≡ [] → read_part ron_token 0 part ≡ es ▸ x → end_of 0 es < length part → behind_of part (scanned_by es (ending_of x)) ≡ judged_of part
  unfolding entries ending_of
  behind_any complete none h lt = behind_complete h lt
  behind_any (broken r) none h lt = behind_broken r h lt
  behind_any (entry e x) none h lt = let z : ◌≡◌ {A = List Entry} (e ∷ entries x) [] = none in let y : ◌≡◌ {A = ℕ} 0 1 = cc in absurd (omega arith)

module _ (part : List ℕ) (s : Scanned) (is : s ≡ scanned_of part) where
  abbrev reading : Reading
  reading = read_part ron_token 0 part

  abbrev found : List Entry
  found = entries (read_part ron_token 0 part)

  abbrev rest : Reading
  rest = last_of (read_part ron_token 0 part)

  count_is : s.count ≡ length found
  unfolding scanned_of
  count_is = ap (λ (z : Scanned). z.count) is

  end_is : s.end ≡ end_of 0 found
  unfolding scanned_of
  end_is = ap (λ (z : Scanned). z.end) is

  before_is : s.before ≡ end_of 0 (take (length found - 1) found)
  unfolding scanned_of
  before_is = ap (λ (z : Scanned). z.before) is

  told_is : s ≡ scanned_by found (ending_of rest)
  unfolding scanned_of
  told_is = is ∙ ap (scanned_by found) (ap ending_of (all_entries reading) ∙ ending_front found rest)

  -- the last entry ends in the part
  pub judge_within : s.end ≤ length part
  judge_within = omega (arith, ends_in ron_reader ron found 0 part rest (all_entries reading), end_is)

  module _ (to : s.end ≡ length part) where
    there : end_of 0 found ≡ length part
    there = sym end_is ∙ to

    pub judge_closed : closes_byte (last_byte part) ≡ true → gives_of s.count s.end ≡ judged_of part
    judge_closed c = ap₂ gives_of count_is end_is ∙ sym (ends_closed part found rest (all_entries reading) (last_none reading) there c)

    pub judge_nothing : closes_byte (last_byte part) ≡ false → decides_byte (last_byte part) ≡ false → Nothing ≡ judged_of part
    judge_nothing c d = sym (ends_nothing part found rest (all_entries reading) (last_none reading) there c d)

    module _ (some : 0 < length part) where
      -- there is a last entry
      pub judge_some : 0 < s.count
      judge_some =
          let l = some_end found (omega (arith, there)) in
          omega (arith, count_is, ap length l.whole, length-append l.front (l.last ∷ []))

      pub judge_before : closes_byte (last_byte part) ≡ false → decides_byte (last_byte part) ≡ true → gives_of (s.count - 1) s.before ≡ judged_of part
      judge_before c d =
          ap₂ (λ (n k : ℕ). gives_of (n - 1) k) count_is before_is ∙ sym (ends_before part found rest (all_entries reading) (last_none reading) there some c d)

  pub judge_behind : stops_byte (last_byte part) ≡ true → (s.end ≡ length part → ⊥) → behind_of part s ≡ judged_of part
  judge_behind stops far =
      let lt : end_of 0 found < length part = nearer judge_within in
      ap (behind_of part) told_is ∙ behind_any part stops found rest (last_none reading) (all_entries reading) lt
    where
      nearer : s.end ≤ length part → end_of 0 found < length part
      nearer le = either (lt_or_le s.end (length part)) (λ lt. omega (arith, end_is)) (λ ge. absurd (far (omega arith)))
