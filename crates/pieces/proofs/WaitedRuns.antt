-- What is decided first, as bytes give it: `waited_of` over the bytes one by one. Assumes nothing.
use Prim.Native.Nat.{ℕ, suc, ◌+◌, ◌-◌, ◌<◌, ◌≤◌}
use native.Mathlib.Omega.{arith}
use mathlib.Core.Bool.{true, false, cond}
use mathlib.Core.List.{List, [], ◌++◌, ◌∷◌, append_assoc, append-nil}
use mathlib.Core.Path.{◌≡◌, ap, ap₂, refl, subst, sym, ◌∙◌}
use lib.Dec.{eqb}
use lib.ListN.{drop, length, length-append, length-drop}
use borrow.Author.Tests.{eqb-true, lt-leb}
use Rattle.text.proofs.Choices.{bool_cases, either}
use Rattle.text.specs.Refusals.{placed_behind}
use Rattle.text.specs.declared.refusal.Refusal.{Refusal}
use Rattle.tokens.proofs.RonLaws.{refused_within}
use Rattle.rows.specs.declared.Entry.{Entry}
use Rattle.reading.specs.Readings.{end_of}
use Rattle.reading.specs.Tokens.{Answer}
use Rattle.reading.specs.Tokens.Answer.{refuse, stop, token}
use Rattle.tokens.specs.Ron.{ron_token}
use Rattle.arriving.proofs.Decides.{none_decided}
use Rattle.arriving.proofs.Keeps.{byte_keeps, piece_keeps}
use Rattle.arriving.proofs.Waits.{Free, free_first, free_rest, keeping, none_kept}
use Rattle.arriving.specs.Arrivals.{Coming, Given, Passing, by_answer, by_passing, decided, left_at, looks, piece, step, taken}
use Rattle.arriving.specs.Arrivals.Coming.{going, halted, shut}
use Rattle.arriving.specs.Arrivals.Passing.{pass}
use Rattle.settled.proofs.Owed.{ron}
use Rattle.settled.specs.Bytes.{stops_byte}
use Rattle.settled.specs.Settled.{ron_reader, ron_settles}
use Rattle.comments.specs.Gaps.{gap_of}
use Rattle.comments.specs.declared.gap.Gap.{Gap}
use Rattle.comments.specs.declared.gap.Gap.TheVariants as gap
use Rattle.pieces.specs.Bars.{bar_by, bar_of, bytes_give}
use Rattle.pieces.specs.inner.Judges.{gives_of, verdict_by}
use Rattle.pieces.specs.inner.Waiting.{decides, waited_from}
use Rattle.pieces.specs.declared.verdict.Verdict.TheVariants.{Nothing, Gives, Shuts}
use Rattle.pieces.specs.declared.waiting.Waited.{Waited}

-- what u gives behind x, where the last of its bytes decides
pub record Gave (x u : List ℕ) (n end : ℕ) (next : Coming) : Type 0 where
  pub entries : List Entry
  pub run : bytes_give (going 0 x) u ≡ record { entries = entries; next = next; bytes = length u }
  pub count : length entries ≡ n
  pub ends : end_of 0 entries ≡ end

-- bytes of which the last stops
pub record Stopping (u : List ℕ) : Type 0 where
  pub front : List ℕ
  pub byte : ℕ
  pub split : u ≡ front ++ byte ∷ []
  pub stops : stops_byte byte ≡ true

-- what bytes come to behind x, by what is decided
pub data Decided (x w : List ℕ) : Waited → Type 0 where
  waits : (k : ℕ) → k ≡ length (x ++ w) → bytes_give (going 0 x) w ≡ keeping 0 (x ++ w) (length w) → Decided x w (record { bytes = k; verdict = Nothing })
  gives : (u z : List ℕ) (k n end : ℕ) → w ≡ u ++ z → k ≡ length x + length u → Stopping u → 0 < n → end ≤ k → Gave x u n end (going end (drop end (x ++ u)))
      → Decided x w (record { bytes = k; verdict = Gives n end })
  shuts : (u z : List ℕ) (k n end : ℕ) (d : Refusal) → w ≡ u ++ z → k ≡ length x + length u → end ≤ k → d.place ≤ k → Gave x u n end (shut d)
      → Decided x w (record { bytes = k; verdict = Shuts n end d })

-- ---- one byte

-- a byte that is looked at or not is taken
one_byte : (s : List ℕ) (b : ℕ) → (taken ron_reader 0 s b).bytes ≡ 1
one_byte s b = either (bool_cases (looks ron_reader s b)) (λ t. rw t) (λ t. rw t)

module _ (x : List ℕ) (b : ℕ) (free : bar_of 0 x b ≡ pass) where
  abbrev g : Given
  g = taken ron_reader 0 (x ++ b ∷ []) b

  step_is : step ron_reader bar_of (going 0 x) b ≡ taken ron_reader 0 (x ++ b ∷ []) b
  step_is = ap (λ (p : Passing). by_passing p (taken ron_reader 0 (x ++ b ∷ []) b)) free

  -- a piece of that byte
  one_is : bytes_give (going 0 x) (b ∷ []) ≡ taken ron_reader 0 (x ++ b ∷ []) b
  unfolding piece
  one_is =
      ap (λ (k : Given). record { entries = k.entries ++ []; next = k.next; bytes = k.bytes + 0 }) step_is
      ∙ ap₂ (λ (es : List Entry) (n : ℕ). record { entries = es; next = g.next; bytes = n }) (append-nil g.entries) (omega arith)

  -- before others, where it is kept
  more_is : (w : List ℕ) → taken ron_reader 0 (x ++ b ∷ []) b ≡ keeping 0 (x ++ b ∷ []) 1
      → bytes_give (going 0 x) (b ∷ w) ≡ record { entries = (bytes_give (going 0 (x ++ b ∷ [])) w).entries; next = (bytes_give (going 0 (x ++ b ∷ [])) w).next; bytes = suc (bytes_give (going 0 (x ++ b ∷ [])) w).bytes }
  unfolding piece
  more_is w e =
      ap (λ (k : Given). record { entries = k.entries ++ (bytes_give k.next w).entries; next = (bytes_give k.next w).next; bytes = k.bytes + (bytes_give k.next w).bytes }) (step_is ∙ e)
      ∙ ap (λ (n : ℕ). record { entries = (bytes_give (going 0 (x ++ b ∷ [])) w).entries; next = (bytes_give (going 0 (x ++ b ∷ [])) w).next; bytes = n }) (omega arith)

  -- what is kept behind it
  keeps_is : (at : ℕ) (r : List ℕ) → g.next ≡ going at r → (at ≡ end_of 0 g.entries) × (r ≡ drop at (x ++ b ∷ [])) × (at ≤ length (x ++ b ∷ []))
  keeps_is at r h =
      let k = piece_keeps ron_reader bar_of ron (b ∷ []) 0 x at r (ap (λ (y : Given). y.next) one_is ∙ h) in
      let z : at - 0 ≡ at = omega arith in
      (k.ends ∙ ap (λ (y : Given). end_of 0 y.entries) one_is, k.left ∙ ap (λ (n : ℕ). drop n (x ++ b ∷ [])) z, omega (arith, k.high))

-- ---- a byte never halts

abbrev pub NotHalted : Coming → Type 0
NotHalted (going at r) = Unit {0}
NotHalted (shut d) = Unit {0}
NotHalted (halted d) = ⊥

-- an arrival is refused so
abbrev IsShut : Coming → Refusal → Type 0
IsShut (going at r) d = ⊥
IsShut (shut e) d = e ≡ d
IsShut (halted e) d = ⊥

pub left_goes : (at : ℕ) (l : List ℕ) → NotHalted (left_at ron_reader at l)
unfolding left_at
left_goes at l = either (bool_cases (ron_settles l)) (λ t. rw t (go (ron_token l))) (λ t. rw t tt)
  where
    go : (a : Answer) → NotHalted (by_answer a at l)
    go (token t) = tt
    go stop = tt
    go (refuse d) = tt

taken_goes : (s : List ℕ) (b : ℕ) → NotHalted (taken ron_reader 0 s b).next
taken_goes s b =
    either (bool_cases (looks ron_reader s b)) (λ t. rw t (left_goes (end_of 0 (decided ron_reader 0 s b)) (drop (end_of 0 (decided ron_reader 0 s b) - 0) s))) (λ t. rw t tt)

-- ---- where its entries end, and its refusal stands

pub refused_place : (at : ℕ) (l : List ℕ) (d : Refusal) → left_at ron_reader at l ≡ shut d → d.place ≤ at + length l
unfolding left_at
refused_place at l d h = either (bool_cases (ron_settles l)) (λ t. go (ron_token l) refl (rw t at h)) (λ t. absurd (is_shut (going at l) d (rw t at h)))
  where
    is_shut : (c : Coming) (d : Refusal) → c ≡ shut d → IsShut c d
    is_shut c d e = subst (λ (x : Coming). IsShut x d) (sym e) refl

    go : (a : Answer) → ron_token l ≡ a → by_answer a at l ≡ shut d → d.place ≤ at + length l
    go (token t) e q = absurd (is_shut (going at l) d q)
    go stop e q = absurd (is_shut (going at l) d q)
    go (refuse r) e q = let z : placed_behind at r ≡ d = is_shut (shut (placed_behind at r)) d q in subst (λ (x : Refusal). x.place ≤ at + length l) z (omega (arith, refused_within l r e))

taken_end : (x : List ℕ) (b : ℕ) → end_of 0 (taken ron_reader 0 (x ++ b ∷ []) b).entries ≤ length (x ++ b ∷ [])
unfolding end_of
taken_end x b =
    either (bool_cases (looks ron_reader (x ++ b ∷ []) b))
    (λ t. rw t (let h = (byte_keeps ron_reader (λ at s c. pass) ron 0 x b).high in omega (arith, h)))
    (λ t. rw t (omega arith))

taken_place : (x : List ℕ) (b : ℕ) (d : Refusal) → (taken ron_reader 0 (x ++ b ∷ []) b).next ≡ shut d → d.place ≤ length (x ++ b ∷ [])
taken_place x b d =
    either (bool_cases (looks ron_reader (x ++ b ∷ []) b))
    (λ t. rw t (λ e. let k = byte_keeps ron_reader (λ at s c. pass) ron 0 x b in
    let to : ℕ = end_of 0 (decided ron_reader 0 (x ++ b ∷ []) b) in
    let r = refused_place to (drop (to - 0) (x ++ b ∷ [])) d e in
    omega (arith, r, k.high, length-drop (to - 0) (x ++ b ∷ []))))
    (λ t. rw t (λ e. absurd (subst (λ (c : Coming). IsShut c d) (sym e) refl)))

-- ---- a byte, and then others

given_is : (y : Given) (es : List Entry) (c : Coming) (k : ℕ) → y.entries ≡ es → y.next ≡ c → y.bytes ≡ k → y ≡ record { entries = es; next = c; bytes = k }
given_is y es c k p q r = rw (← p, ← q, ← r)

nothing_there : (es : List Entry) → length es ≡ 0 → es ≡ []
nothing_there [] h = refl
nothing_there (e ∷ es) h = absurd (omega arith)

module _ (x : List ℕ) (b : ℕ) (free : bar_of 0 x b ≡ pass) (w : List ℕ) where
  abbrev xb : List ℕ
  xb = x ++ b ∷ []

  -- what it gives, by its parts
  whole : (es : List Entry) (c : Coming) → (taken ron_reader 0 (x ++ b ∷ []) b).entries ≡ es → (taken ron_reader 0 (x ++ b ∷ []) b).next ≡ c → taken ron_reader 0 (x ++ b ∷ []) b ≡ record { entries = es; next = c; bytes = 1 }
  whole es c ee ec = given_is (taken ron_reader 0 (x ++ b ∷ []) b) es c 1 ee ec (one_byte (x ++ b ∷ []) b)

  -- the byte is kept
  kept_on : (r : Waited) → taken ron_reader 0 (x ++ b ∷ []) b ≡ keeping 0 (x ++ b ∷ []) 1 → Decided (x ++ b ∷ []) w r → Decided x (b ∷ w) r
  kept_on r e (waits k l h) =
      let all : (x ++ b ∷ []) ++ w ≡ x ++ b ∷ w = append_assoc x (b ∷ []) w in
      waits k (l ∙ ap length all) (more_is x b free w e ∙ ap (λ (y : Given). record { entries = y.entries; next = y.next; bytes = suc y.bytes }) h ∙ ap (λ (s : List ℕ). keeping 0 s (suc (length w))) all)
  kept_on r e (gives u z k n end s l p q i v) =
      let all : (x ++ b ∷ []) ++ u ≡ x ++ b ∷ u = append_assoc x (b ∷ []) u in
      gives (b ∷ u) z k n end (ap {B = List ℕ} (λ (y : List ℕ). b ∷ y) s) (omega (arith, l, length-append x (b ∷ [])))
      (record { front = b ∷ p.front; byte = p.byte; split = ap {B = List ℕ} (λ (y : List ℕ). b ∷ y) p.split; stops = p.stops }) q i
      (record {
        entries = v.entries;
        run = more_is x b free u e ∙ ap (λ (y : Given). record { entries = y.entries; next = y.next; bytes = suc y.bytes }) v.run
            ∙ ap (λ (y : List ℕ). record { entries = v.entries; next = going end (drop end y); bytes = suc (length u) }) all;
        count = v.count;
        ends = v.ends;
      })
  kept_on r e (shuts u z k n end d s l p q v) =
      shuts (b ∷ u) z k n end d (ap {B = List ℕ} (λ (y : List ℕ). b ∷ y) s) (omega (arith, l, length-append x (b ∷ []))) p q
      (record {
        entries = v.entries;
        run = more_is x b free u e ∙ ap (λ (y : Given). record { entries = y.entries; next = y.next; bytes = suc y.bytes }) v.run;
        count = v.count;
        ends = v.ends;
      })

  -- a byte that gives something stops
  stops_it : (es : List Entry) → (taken ron_reader 0 (x ++ b ∷ []) b).entries ≡ es → 0 < length es → stops_byte b ≡ true
  stops_it es e l =
      either (bool_cases (stops_byte b)) (λ t. t)
      (λ t. let nothing : (taken ron_reader 0 (x ++ b ∷ []) b).entries ≡ [] =
      either (bool_cases (looks ron_reader (x ++ b ∷ []) b)) (λ y. rw y (none_decided ron_reader ron 0 (x ++ b ∷ []) b t)) (λ y. rw y) in
      absurd (omega (arith, l, ap length (sym e ∙ nothing))))

  -- by what stands behind the byte
  by_next : (es : List Entry) (c : Coming) → (taken ron_reader 0 (x ++ b ∷ []) b).entries ≡ es → (taken ron_reader 0 (x ++ b ∷ []) b).next ≡ c → NotHalted c
      → Decided (x ++ b ∷ []) w (waited_from (x ++ b ∷ []) w)
      → Decided x (b ∷ w) (cond (decides (verdict_by es c)) (record { bytes = length (x ++ b ∷ []); verdict = verdict_by es c }) (waited_from (x ++ b ∷ []) w))
  unfolding gives_of end_of
  by_next es (halted d) ee ec nh ih = absurd nh
  by_next es (shut d) ee ec nh ih =
      shuts (b ∷ []) w (length (x ++ b ∷ [])) (length es) (end_of 0 es) d refl (length-append x (b ∷ [])) (subst (λ (fs : List Entry). end_of 0 fs ≤ length (x ++ b ∷ [])) ee (taken_end x b)) (taken_place x b d ec)
      (record {
        entries = es;
        run = one_is x b free ∙ whole es (shut d) ee ec;
        count = refl;
        ends = refl;
      })
  by_next es (going at r) ee ec nh ih =
      let k = keeps_is x b free at r ec in
      let ends : at ≡ end_of 0 es = k.0 ∙ ap (end_of 0) ee in
      either (bool_cases (eqb (length es) 0))
      (λ t. let none : es ≡ [] = nothing_there es (eqb-true (length es) 0 t) in
      let zero-at : at ≡ 0 = ends ∙ ap (end_of 0) none in
      let all : r ≡ x ++ b ∷ [] = k.1 ∙ ap (λ (n : ℕ). drop n (x ++ b ∷ [])) zero-at in
      rw t (kept_on (waited_from (x ++ b ∷ []) w) (whole es (going at r) ee ec ∙ same es at r none zero-at all) ih))
      (λ t. rw t (gives (b ∷ []) w (length (x ++ b ∷ [])) (length es) (end_of 0 es) refl (length-append x (b ∷ [])) (record { front = []; byte = b; split = refl; stops = stops_it es ee (some es t) }) (some es t) (omega (arith, k.2, ends))
      (record {
        entries = es;
        run = one_is x b free ∙ whole es (going at r) ee ec ∙ ap₂ (λ (i : ℕ) (l : List ℕ). record { entries = es; next = going i l; bytes = 1 }) ends (k.1 ∙ ap (λ (n : ℕ). drop n (x ++ b ∷ [])) ends);
        count = refl;
        ends = refl;
      })))
    where
      same : (es : List Entry) (at : ℕ) (r : List ℕ) → es ≡ [] → at ≡ 0 → r ≡ x ++ b ∷ [] → ◌≡◌ {A = Given} (record { entries = es; next = going at r; bytes = 1 }) (keeping 0 (x ++ b ∷ []) 1)
      same es at r p q l = rw (p, q, l)

      some : (es : List Entry) → eqb (length es) 0 ≡ false → 0 < length es
      some [] t = let z : ◌≡◌ {A = ℕ} 0 1 = clash t in absurd (omega arith)
        where
          clash : true ≡ false → ◌≡◌ {A = ℕ} 0 1
          clash q = cc
      some (e ∷ es) t = omega arith

-- what the bytes w decide first behind x, where none of them is barred
pub waited_gives : (w x : List ℕ) → Free ron_reader bar_of 0 x w → Decided x w (waited_from x w)
unfolding waited_from
waited_gives [] x f = waits (length x) (ap length (sym (append-nil x))) (none_kept ron_reader bar_of 0 x)
waited_gives (b ∷ w) x f =
    let g : Given = taken ron_reader 0 (x ++ b ∷ []) b in
    by_next x b (free_first ron_reader bar_of 0 x w b f) w g.entries g.next refl refl (taken_goes (x ++ b ∷ []) b)
    (waited_gives w (x ++ b ∷ []) (free_rest ron_reader bar_of 0 x w b f))

-- a front that no bar stops: it is shorter than what may be held
pub short_free : (x w : List ℕ) → length (x ++ w) ≤ 4096 → Free ron_reader bar_of 0 x w
unfolding bar_of
short_free x w l u b z e = go (gap_of (x ++ u)) (omega (arith, l, ap length e, length-append x w, length-append x u, length-append u (b ∷ z)))
  where
    go : (a : Gap) → length (x ++ u) < 4096 → bar_by 0 (x ++ u) a ≡ pass
    go (gap.Clear g) h = rw (lt-leb (g + 4096) (length (x ++ u)) (omega arith))
    go (gap.InLine n) h = refl
    go (gap.Refused r) h = refl
