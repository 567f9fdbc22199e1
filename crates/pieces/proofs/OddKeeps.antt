-- A `/` behind which stands no comment and no whole character: what follows is kept, and decides nothing. Assumes nothing.
use Rattle.std.proofs.Common.{Some, None, Option}
use Prim.Native.Nat.{ℕ, suc, zero, pred, ◌+◌, ◌-◌, ◌<◌, ◌≤◌}
use native.Mathlib.Nat.{add-zero, sub_self}
use native.Mathlib.Omega.{arith}
use mathlib.Core.Bool.{Bool, true, false, cond, ◌&&◌}
use mathlib.Core.List.{List, [], ◌++◌, ◌∷◌, append_assoc}
use mathlib.Core.Path.{◌≡◌, ap, ap₂, refl, subst, sym, ◌∙◌}
use lib.Dec.{eqb}
use lib.ListN.{drop, get_or, length, length-append, length-drop, take, take-append-drop}
use lib.Seq.{append_snoc, drop-append-add, get_or-append-add, take-append-add}
use Rattle.text.proofs.Choices.{bool_cases, either}
use Rattle.text.proofs.Utf8Agree.{Head, char_pos, char_len_char, head_view}
use Rattle.text.proofs.Utf8Agree.Head.{a_char, no_char}
use Rattle.text.specs.Refusals.{eof, unclosed_block_comment, unexpected_char}
use Rattle.text.specs.Utf8.{Char, char_len}
use Rattle.text.specs.Utf8.Char.{utf8_1, utf8_2, utf8_3a, utf8_3b, utf8_3c, utf8_3d, utf8_4a, utf8_4b, utf8_4c}
use Rattle.text.specs.declared.refusal.Refusal.{Refusal}
use Rattle.octets.specs.Octets.{Cut}
use Rattle.octets.proofs.Exactly.{Lies, lies}
use Rattle.comments.proofs.GapLaws.{gap_step, item_sized, Sized}
use Rattle.comments.proofs.GapWindow.{item_window}
use Rattle.comments.specs.Blocks.{block_end}
use Rattle.comments.specs.Gaps.{block_item, by_item, gap_from, gap_of, item_of, line_item}
use Rattle.comments.specs.Lines.{line_end}
use Rattle.comments.specs.declared.gap.Gap.TheVariants as gap
use Rattle.comments.specs.declared.gap.Item.{Item}
use Rattle.comments.specs.declared.gap.Item.TheVariants.{Blank, BlockOpen, Ended, LineOpen, Other, Unexpected}
use Rattle.gaps.proofs.Items.{Front, fronts, item_block, item_last, item_line, item_odd, item_space}
use Rattle.rows.specs.declared.Entry.{Entry}
use Rattle.reading.proofs.Steps.{read_refuse}
use Rattle.reading.specs.Readings.{end_of, entries}
use Rattle.reading.specs.Tokens.Answer.{refuse}
use Rattle.tokens.specs.Ron.{by_gap, ron_token}
use Rattle.arriving.proofs.Waits.{keeping, none_kept, step_kept}
use Rattle.arriving.specs.Arrivals.{Coming, decided, decided_of, left_at, looks, piece, spoilt, taken, up_to}
use Rattle.arriving.specs.Arrivals.Coming.{going}
use Rattle.arriving.specs.Arrivals.Passing.{pass}
use Rattle.settled.proofs.Owed.{ron}
use Rattle.settled.specs.Bytes.{closes_byte, decides_byte, stops_byte}
use Rattle.settled.specs.Settled.{behind_slash, ron_reader, ron_settles, settled_behind}
use Rattle.pieces.specs.Bars.{bar_by, bar_of}
use Rattle.pieces.proofs.GapKeeps.{High, char_high, cut_lead}
use Rattle.pieces.proofs.GapKeeps.High.{more}

-- ---- where a `/` is refused

-- s is refused with 5 at q, `left` bytes of it having been judged: what stands before the `/` is passed, whatever stands behind it
record Odd (s : List ℕ) (left at q : ℕ) : Type 0 where
  before : List ℕ
  byte : ℕ
  after : List ℕ
  is : s ≡ before ++ 0x2f ∷ byte ∷ after
  judged : left ≤ length before
  no_line : byte ≡ 0x2f → ⊥
  no_block : byte ≡ 0x2a → ⊥
  place : q ≡ at + length before + (1 + char_len (byte ∷ after))
  goes : (v : List ℕ) → gap_from (before ++ 0x2f ∷ v) left at ≡ gap_from (0x2f ∷ v) 0 (at + length before)

-- the `/` stands first
odd_here : (s : List ℕ) (at q n : ℕ) → item_of s ≡ Unexpected n → q ≡ at + n → Odd s 0 at q
odd_here s at q n h e = by (fronts s)
  where
    line_not : (c : Option ℕ) → line_item c ≡ Unexpected n → Odd s 0 at q
    line_not (Some m) f = let z : ◌≡◌ {A = ℕ} 0 1 = cc in absurd (omega arith)
    line_not None f = let z : ◌≡◌ {A = ℕ} 0 1 = cc in absurd (omega arith)

    block_not : (c : Option ℕ) → block_item c ≡ Unexpected n → Odd s 0 at q
    block_not (Some m) f = let z : ◌≡◌ {A = ℕ} 0 1 = cc in absurd (omega arith)
    block_not None f = let z : ◌≡◌ {A = ℕ} 0 1 = cc in absurd (omega arith)

    by : Front s → Odd s 0 at q
    by (Front.space w f) = let z = sym (item_space s w f) ∙ h in let z : ◌≡◌ {A = ℕ} 0 1 = cc in absurd (omega arith)
    by (Front.ended f) = let z = sym (ap item_of f ∙ item_last) ∙ h in let z : ◌≡◌ {A = ℕ} 0 1 = cc in absurd (omega arith)
    by (Front.line t f) = line_not (line_end t) (sym (ap item_of f ∙ item_line t) ∙ h)
    by (Front.block t f) = block_not (block_end t) (sym (ap item_of f ∙ item_block t) ∙ h)
    by (Front.odd b t m k f) =
        let u : Unexpected (1 + char_len (b ∷ t)) ≡ Unexpected n = sym (ap item_of f ∙ item_odd b t m k) ∙ h in
        let w : 1 + char_len (b ∷ t) ≡ n = cc in
        record {
          before = [];
          byte = b;
          after = t;
          is = f;
          judged = omega arith;
          no_line = m;
          no_block = k;
          place = omega arith;
          goes = λ v. ap (gap_from (0x2f ∷ v) 0) (sym (add-zero at));
        }
    by (Front.other f) = let z = sym f ∙ h in let z : ◌≡◌ {A = ℕ} 0 1 = cc in absurd (omega arith)

-- behind a byte that was judged
odd_judged : (a : ℕ) (s : List ℕ) (left at q : ℕ) → Odd s left (at + 1) q → Odd (a ∷ s) (suc left) at q
unfolding gap_from
odd_judged a s left at q r =
    let n : at + 1 + length r.before ≡ at + suc (length r.before) = omega arith in
    record {
      before = a ∷ r.before;
      byte = r.byte;
      after = r.after;
      is = ap {B = List ℕ} (λ (l : List ℕ). a ∷ l) r.is;
      judged = omega (arith, r.judged);
      no_line = r.no_line;
      no_block = r.no_block;
      place = omega (arith, r.place);
      goes = λ v. r.goes v ∙ ap (gap_from (0x2f ∷ v) 0) n;
    }

-- behind whitespace or a comment, which its own bytes and the `/` decide
odd_blank : (a : ℕ) (s : List ℕ) (k at q : ℕ) → item_of (a ∷ s) ≡ Blank (suc k) → Odd s k (at + 1) q → Odd (a ∷ s) 0 at q
odd_blank a s k at q e r =
    let u : List ℕ = a ∷ r.before ++ 0x2f ∷ [] in
    let here : item_of (u ++ (r.byte ∷ r.after)) ≡ Blank (suc k) =
    ap (λ (l : List ℕ). item_of (a ∷ l)) (append_snoc r.before 0x2f (r.byte ∷ r.after) ∙ sym r.is) ∙ e in
    let l : suc k < length u = omega (arith, r.judged, length-append r.before (0x2f ∷ [])) in
    let still : (v : List ℕ) → item_of (a ∷ (r.before ++ 0x2f ∷ v)) ≡ Blank (suc k) =
    λ v. ap (λ (l : List ℕ). item_of (a ∷ l)) (sym (append_snoc r.before 0x2f v)) ∙ item_window u (r.byte ∷ r.after) v (suc k) here l in
    let n : at + 1 + length r.before ≡ at + suc (length r.before) = omega arith in
    record {
      before = a ∷ r.before;
      byte = r.byte;
      after = r.after;
      is = ap {B = List ℕ} (λ (l : List ℕ). a ∷ l) r.is;
      judged = omega arith;
      no_line = r.no_line;
      no_block = r.no_block;
      place = omega (arith, r.place);
      goes = λ v. gap_step a (r.before ++ 0x2f ∷ v) at
          ∙ ap (λ (i : Item). by_item i (λ m. gap_from (r.before ++ 0x2f ∷ v) (pred m) (at + 1)) at (at + length (a ∷ (r.before ++ 0x2f ∷ v)))) (still v)
          ∙ r.goes v
          ∙ ap (gap_from (0x2f ∷ v) 0) n;
    }

odd_at : (s : List ℕ) (left at q : ℕ) → gap_from s left at ≡ gap.Refused (unexpected_char q) → Odd s left at q
unfolding gap_from
odd_at [] left at q h = let z : ◌≡◌ {A = ℕ} 0 1 = cc in absurd (omega arith)
odd_at (a ∷ s) (suc left) at q h = odd_judged a s left at q (odd_at s left (at + 1) q h)
odd_at (a ∷ s) zero at q h = by (item_of (a ∷ s)) refl (item_sized (a ∷ s)) h (λ m g. odd_at s m (at + 1) q g)
  where
    by : (i : Item) → item_of (a ∷ s) ≡ i → Sized (a ∷ s) i → by_item i (λ m. gap_from s (pred m) (at + 1)) at (at + length (a ∷ s)) ≡ gap.Refused (unexpected_char q)
        → ((m : ℕ) → gap_from s m (at + 1) ≡ gap.Refused (unexpected_char q) → Odd s m (at + 1) q) → Odd (a ∷ s) 0 at q
    by (Blank zero) e z g ih = absurd (omega (arith, z.0))
    by (Blank (suc k)) e z g ih = odd_blank a s k at q e (ih k g)
    by LineOpen e z g ih = let z : ◌≡◌ {A = ℕ} 0 1 = cc in absurd (omega arith)
    by BlockOpen e z g ih =
        let d : unclosed_block_comment (at + length (a ∷ s)) ≡ unexpected_char q = cc in absurd (omega (arith, ap (λ (w : Refusal). w.number) d))
    by (Unexpected n) e z g ih =
        let d : unexpected_char (at + n) ≡ unexpected_char q = cc in
        odd_here (a ∷ s) at q n e (sym (ap (λ (w : Refusal). w.place) d))
    by Ended e z g ih = let d : eof (at + length (a ∷ s)) ≡ unexpected_char q = cc in absurd (omega (arith, ap (λ (w : Refusal). w.number) d))
    by Other e z g ih = let z : ◌≡◌ {A = ℕ} 0 1 = cc in absurd (omega arith)

-- ---- no character has come whole

high_get : (l t : List ℕ) (m : ℕ) → High l → m < length l → 0x80 ≤ get_or (l ++ t) m 0
high_get [] t m h k = absurd (omega arith)
high_get (a ∷ l) t zero (more p h) k = p
high_get (a ∷ l) t (suc m) (more p h) k = high_get l t m h (omega arith)

-- the last byte of a character is a `/` only where it is one
char_last : (l t : List ℕ) (m : ℕ) → Char l → length l ≡ suc m → (get_or (l ++ t) 0 0 ≡ 0x2f → ⊥) → get_or (l ++ t) m 0 ≡ 0x2f → ⊥
char_last l t zero ch n no_slash e = no_slash e
char_last l t (suc m) ch n no_slash e = let k = high_get l t (suc m) (char_high ch (omega arith)).0 (omega arith) in omega arith

-- so where the byte before a 5's place is the `/`, no character stands behind it
pub no_char_there : (b : ℕ) (t : List ℕ) → (b ≡ 0x2f → ⊥) → get_or (0x2f ∷ b ∷ t) (char_len (b ∷ t)) 0 ≡ 0x2f → char_len (b ∷ t) ≡ 0
no_char_there b t no_slash e = go (char_len (b ∷ t)) (head_view (b ∷ t)) e
  where
    go : (k : ℕ) → Head (b ∷ t) k → get_or (0x2f ∷ b ∷ t) k 0 ≡ 0x2f → k ≡ 0
    go k no_char h = refl
    go k (a_char {l} v {n} ch f q) h =
        absurd (char_last l v n ch f (λ z. no_slash (ap (λ (s : List ℕ). get_or s 0 0) q ∙ z)) (ap (λ (s : List ℕ). get_or s n 0) (sym q) ∙ h))

-- nor behind fewer bytes
front_none : (u v : List ℕ) → char_len (u ++ v) ≡ 0 → char_len u ≡ 0
front_none u v e = go (char_len u) (head_view u)
  where
    go : (k : ℕ) → Head u k → k ≡ 0
    go k no_char = refl
    go k (a_char {l} t ch f q) =
        let z : char_len (u ++ v) ≡ length l = ap (λ (s : List ℕ). char_len (s ++ v)) q ∙ ap char_len (append_assoc l t v) ∙ char_len_char l (t ++ v) ch in
        absurd (omega arith)

-- no byte of a character but its first begins one
data Low : List ℕ → Type 0 where
  none_low : Low []
  more_low : {a : ℕ} {s : List ℕ} → a ≤ 0xBF → Low s → Low (a ∷ s)

low_at : (u : List ℕ) (d : ℕ) (r : List ℕ) → Low (u ++ d ∷ r) → d ≤ 0xBF
low_at [] d r (more_low h k) = h
low_at (a ∷ u) d r (more_low h k) = low_at u d r k

low_3 : (b c : ℕ) → b ≤ 0xBF → c ≤ 0xBF → Low (b ∷ c ∷ [])
low_3 b c h k = more_low h (more_low k none_low)

low_4 : (b c d : ℕ) → b ≤ 0xBF → c ≤ 0xBF → d ≤ 0xBF → Low (b ∷ c ∷ d ∷ [])
low_4 b c d h k m = more_low h (more_low k (more_low m none_low))

char_low : {l : List ℕ} → Char l → Low (drop 1 l)
char_low (utf8_1 h) = none_low
char_low (utf8_2 h k) = more_low k.1 none_low
char_low (utf8_3a {a} {b} {c} e h k) = low_3 b c h.1 k.1
char_low (utf8_3b {a} {b} {c} i h k) = low_3 b c h.1 k.1
char_low (utf8_3c {a} {b} {c} e h k) = low_3 b c (omega (arith, h.1)) k.1
char_low (utf8_3d {a} {b} {c} i h k) = low_3 b c h.1 k.1
char_low (utf8_4a {a} {b} {c} {d} e h k m) = low_4 b c d h.1 k.1 m.1
char_low (utf8_4b {a} {b} {c} {d} i h k m) = low_4 b c d h.1 k.1 m.1
char_low (utf8_4c {a} {b} {c} {d} e h k m) = low_4 b c d (omega (arith, h.1)) k.1 m.1

-- nor with the front of a character behind it
part_none : (b : ℕ) (t p : List ℕ) → char_len (b ∷ t) ≡ 0 → Cut p → char_len (b ∷ t ++ p) ≡ 0
part_none b t p e c = go (char_len (b ∷ t ++ p)) (head_view (b ∷ t ++ p))
  where
    at : (l v : List ℕ) → Char l → Lies (b ∷ t) p l v → ⊥
    at l v ch (Lies.within r x y) = let z : char_len (b ∷ t) ≡ length l = ap char_len x ∙ char_len_char l r ch in omega (arith, char_pos ch)
    at l v ch (Lies.past d r x y) =
        let low = low_at t d r (subst Low (ap (drop 1) x) (char_low ch)) in
        let lead = cut_lead d (r ++ v) (subst Cut y c) in
        omega arith

    go : (k : ℕ) → Head (b ∷ t ++ p) k → k ≡ 0
    go k no_char = refl
    go k (a_char {l} v ch f q) = absurd (at l v ch (lies (b ∷ t) p l v q))

-- ---- a byte behind it is kept

none_by : (x y z : Bool) → ◌≡◌ {A = List Entry} (cond x [] (cond y [] (cond z [] []))) []
none_by true y z = refl
none_by false true z = refl
none_by false false true = refl
none_by false false false = refl

-- what is refused and not for good
refused_none : (at b : ℕ) (s : List ℕ) (d : Refusal) → ron_token s ≡ refuse d → decided ron_reader at s b ≡ []
unfolding decided entries up_to end_of
refused_none at b s d e =
    ap (decided_of ron_reader at s b) (read_refuse ron_token stops_byte ron.laws at s d e)
    ∙ none_by (closes_byte b && eqb at (at + length s)) (decides_byte b) (stops_byte b && spoilt ron_reader (drop (at - at) s))

refused_kept : (at b : ℕ) (s : List ℕ) (d : Refusal) → ron_token s ≡ refuse d → ron_settles s ≡ false → taken ron_reader at s b ≡ keeping at s 1
unfolding left_at end_of
refused_kept at b s d e f =
    let no : decided ron_reader at s b ≡ [] = refused_none at b s d e in
    let on : left_at ron_reader at s ≡ going at s = rw f in
    either (bool_cases (looks ron_reader s b))
    (λ t. rw (t, no, sub_self at) (ap (λ (c : Coming). record { entries = []; next = c; bytes = 1 }) on))
    (λ t. rw t)

-- ---- all that follows is kept

module _ (before : List ℕ) (byte : ℕ) (tail : List ℕ) (no_line : byte ≡ 0x2f → ⊥) (no_block : byte ≡ 0x2a → ⊥) (no-char-yet : char_len (byte ∷ tail) ≡ 0)
    (goes : (v : List ℕ) → gap_from (before ++ 0x2f ∷ v) 0 0 ≡ gap_from (0x2f ∷ v) 0 (0 + length before)) where
  abbrev place : ℕ
  place = 0 + length before + (1 + 0)

  -- the gap of the `/` and of any bytes behind it
  gap_slash : gap_of (before ++ 0x2f ∷ []) ≡ gap.Refused (eof (0 + length before + 1))
  unfolding gap_of
  gap_slash = goes [] ∙ gap_step 0x2f [] (0 + length before) ∙ ap (λ (i : Item). by_item i (λ m. gap_from [] (pred m) (0 + length before + 1)) (0 + length before) (0 + length before + 1)) item_last

  gap_odd : (t v : List ℕ) → t ++ v ≡ tail → gap_of (before ++ 0x2f ∷ byte ∷ t) ≡ gap.Refused (unexpected_char place)
  unfolding gap_of
  gap_odd t v e =
      let c : char_len (byte ∷ t) ≡ 0 = front_none (byte ∷ t) v (ap (λ (s : List ℕ). char_len (byte ∷ s)) e ∙ no-char-yet) in
      goes (byte ∷ t) ∙ gap_step 0x2f (byte ∷ t) (0 + length before)
      ∙ ap (λ (i : Item). by_item i (λ m. gap_from (byte ∷ t) (pred m) (0 + length before + 1)) (0 + length before) (0 + length before + length (0x2f ∷ byte ∷ t))) (item_odd byte t no_line no_block)
      ∙ ap (λ (n : ℕ). gap.Refused (unexpected_char (0 + length before + (1 + n)))) c

  -- a byte behind it is kept
  odd_byte : (at b : ℕ) (t v : List ℕ) → t ++ v ≡ tail → taken ron_reader at (before ++ 0x2f ∷ byte ∷ t) b ≡ keeping at (before ++ 0x2f ∷ byte ∷ t) 1
  unfolding ron_token ron_settles behind_slash
  odd_byte at b t v e =
      let s : List ℕ = before ++ 0x2f ∷ byte ∷ t in
      let g = gap_odd t v e in
      let i : place - 1 ≡ length before + 0 = omega arith in
      let slash : get_or s (place - 1) 0 ≡ 0x2f = ap (λ (n : ℕ). get_or s n 0) i ∙ get_or-append-add before (0x2f ∷ byte ∷ t) 0 0 in
      let unsettled : settled_behind s (gap.Refused (unexpected_char place)) ≡ false = rw slash in
      refused_kept at b s (unexpected_char place) (ap (by_gap s) g) (ap (settled_behind s) g ∙ unsettled)

  odd_free : (at b : ℕ) (s : List ℕ) (d : Refusal) → gap_of s ≡ gap.Refused d → bar_of at s b ≡ pass
  unfolding bar_of
  odd_free at b s d e = ap (bar_by at s) e

  -- all of them
  odd_run : (r t : List ℕ) (at : ℕ) → t ++ r ≡ tail → piece ron_reader bar_of (going at (before ++ 0x2f ∷ byte ∷ t)) r ≡ keeping at (before ++ 0x2f ∷ byte ∷ t ++ r) (length r)
  odd_run [] t at e = none_kept ron_reader bar_of at (before ++ 0x2f ∷ byte ∷ t)
  odd_run (b ∷ r) t at e =
      let x : List ℕ = before ++ 0x2f ∷ byte ∷ t in
      let on : x ++ b ∷ [] ≡ before ++ 0x2f ∷ byte ∷ (t ++ b ∷ []) = append_assoc before (0x2f ∷ byte ∷ t) (b ∷ []) in
      let same : t ++ b ∷ [] ++ r ≡ tail = append_snoc t b r ∙ e in
      step_kept ron_reader bar_of at x r b (odd_free at b x (unexpected_char place) (gap_odd t (b ∷ r) e))
      (subst (λ (s : List ℕ). taken ron_reader at s b ≡ keeping at s 1) (sym on) (odd_byte at b (t ++ b ∷ []) r same))
      (subst (λ (s : List ℕ). piece ron_reader bar_of (going at s) r ≡ keeping at (s ++ r) (length r)) (sym on) (odd_run r (t ++ b ∷ []) at same))

  -- from the `/` on
  odd_from : (at : ℕ) → piece ron_reader bar_of (going at (before ++ 0x2f ∷ [])) (byte ∷ tail) ≡ keeping at (before ++ 0x2f ∷ [] ++ byte ∷ tail) (length (byte ∷ tail))
  odd_from at =
      let x : List ℕ = before ++ 0x2f ∷ [] in
      let on : x ++ byte ∷ [] ≡ before ++ 0x2f ∷ byte ∷ [] = append_assoc before (0x2f ∷ []) (byte ∷ []) in
      step_kept ron_reader bar_of at x tail byte (odd_free at byte x (eof (0 + length before + 1)) gap_slash)
      (subst (λ (s : List ℕ). taken ron_reader at s byte ≡ keeping at s 1) (sym on) (odd_byte at byte [] tail refl))
      (subst (λ (s : List ℕ). piece ron_reader bar_of (going at s) tail ≡ keeping at (s ++ tail) (length tail)) (sym on) (odd_run tail [] at refl))

  -- from any byte on
  odd_on : (j at : ℕ)
      → piece ron_reader bar_of (going at (before ++ 0x2f ∷ take j (byte ∷ tail))) (drop j (byte ∷ tail)) ≡ keeping at (before ++ 0x2f ∷ byte ∷ tail) (length (byte ∷ tail) - j)
  odd_on zero at =
      let n : suc (length tail) ≡ suc (length tail) - 0 = omega arith in
      odd_from at ∙ ap₂ (keeping at) (append_assoc before (0x2f ∷ []) (byte ∷ tail)) n
  odd_on (suc m) at =
      let n : length (drop m tail) ≡ suc (length tail) - suc m = omega (arith, length-drop m tail) in
      odd_run (drop m tail) (take m tail) at (take-append-drop m tail)
      ∙ ap₂ (keeping at) (append_assoc before (0x2f ∷ byte ∷ take m tail) (drop m tail) ∙ ap (λ (s : List ℕ). before ++ 0x2f ∷ byte ∷ s) (take-append-drop m tail)) n

-- bytes behind a `/` that begins no comment, of which no character has come whole: all are kept
pub odd_keeps : (y p : List ℕ) (q i at : ℕ) → gap_of y ≡ gap.Refused (unexpected_char q) → get_or y (q - 1) 0 ≡ 0x2f → Cut p → q ≤ i → i ≤ length (y ++ p)
    → piece ron_reader bar_of (going at (take i (y ++ p))) (drop i (y ++ p)) ≡ keeping at (y ++ p) (length (y ++ p) - i)
unfolding gap_of
odd_keeps y p q i at h s c l m =
    let r = odd_at y 0 0 q h in
    let f : List ℕ = r.before in
    let b : ℕ = r.byte in
    let t : List ℕ = r.after in
    let far : q - 1 ≡ length f + char_len (b ∷ t) = omega (arith, r.place) in
    let seen : get_or (0x2f ∷ b ∷ t) (char_len (b ∷ t)) 0 ≡ 0x2f =
    sym (ap₂ (λ (w : List ℕ) (n : ℕ). get_or w n 0) r.is far ∙ get_or-append-add f (0x2f ∷ b ∷ t) (char_len (b ∷ t)) 0) ∙ s in
    let alone : char_len (b ∷ t) ≡ 0 = no_char_there b t r.no_line seen in
    let w : List ℕ = b ∷ (t ++ p) in
    let whole : y ++ p ≡ f ++ 0x2f ∷ w = ap (λ (x : List ℕ). x ++ p) r.is ∙ append_assoc f (0x2f ∷ b ∷ t) p in
    let j : ℕ = i - q in
    let e : i ≡ length f + suc j = omega (arith, r.place) in
    let n : length w - j ≡ length (y ++ p) - i = omega (arith, ap length whole, length-append f (0x2f ∷ w)) in
    ap₂ (λ (x z : List ℕ). piece ron_reader bar_of (going at x) z)
    (ap₂ take e whole ∙ take-append-add f (0x2f ∷ w) (suc j)) (ap₂ drop e whole ∙ drop-append-add f (0x2f ∷ w) (suc j))
    ∙ odd_on f b (t ++ p) r.no_line r.no_block (part_none b t p alone c) r.goes j at
    ∙ ap₂ (keeping at) (sym whole) n
