-- A `/` with neither `/` nor `*` behind it: what its bytes give.
--     odd_shuts    5 is given with the last byte of the character behind it, or with the first byte of all where that has come
--     odd_keeps    where no character stands behind it, all is kept
-- Assumes nothing.
use Prim.Native.Nat.{ℕ, suc, zero, ◌+◌, ◌-◌, ◌<◌, ◌≤◌}
use native.Mathlib.Nat.{sub_self}
use native.Mathlib.Omega.{arith}
use mathlib.Core.Bool.{Bool, true, false, cond, ◌&&◌}
use mathlib.Core.List.{List, [], ◌++◌, ◌∷◌, append_assoc, append-nil}
use mathlib.Core.Logic.{inl, inr}
use mathlib.Core.Path.{◌≡◌, ap, ap₂, refl, subst, sym, ◌∙◌}
use lib.Dec.{eqb}
use lib.ListN.{get_or-append, drop, get_or, length, length-append, take}
use lib.Seq.{append_snoc, drop-append-le, drop-append_seam, drop-cons, get_or-append-add, get_or-append_seam, take-append-add, take-append-le, take-append_seam, take-suc}
use borrow.Author.Tests.{eq-eqb, eqb-true}
use Rattle.text.proofs.Choices.{either, lt_or_le, or_true}
use Rattle.text.proofs.Utf8Agree.{Head, char_pos, char_len_char, head_view}
use Rattle.text.proofs.Utf8Agree.Head.{a_char, no_char}
use Rattle.text.specs.Refusals.{eof, unexpected_char}
use Rattle.text.specs.Utf8.{Char, char_len}
use Rattle.text.specs.declared.refusal.Refusal.{Refusal}
use Rattle.octets.specs.Octets.{Cut}
use Rattle.octets.specs.Octets.Begins.{begins}
use Rattle.comments.specs.Gaps.{gap_of}
use Rattle.comments.specs.declared.gap.Gap.{Gap as Answer}
use Rattle.comments.specs.declared.gap.Gap.TheVariants as answer
use Rattle.gapped.proofs.Exactly.{five_exactly, six_exactly}
use Rattle.gapped.specs.Gap.{Gap}
use Rattle.gaps.specs.Opens.{front, open_of}
use Rattle.gaps.specs.Passes.{passed_by, passed_of}
use Rattle.gaps.specs.declared.pass.Passed.TheVariants.{Within}
use Rattle.gaps.specs.declared.state.Open.TheVariants.{Clear}
use Rattle.rows.specs.declared.Entry.{Entry}
use Rattle.reading.proofs.Steps.{read_refuse}
use Rattle.reading.specs.Readings.{end_of, entries}
use Rattle.reading.specs.Tokens.{Answer as Read}
use Rattle.reading.specs.Tokens.Answer.{refuse}
use Rattle.tokens.specs.Ron.{by_gap, ron_token}
use Rattle.arriving.proofs.Waits.{keeping}
use Rattle.arriving.proofs.Whole.{both, cut}
use Rattle.arriving.specs.Arrivals.{Coming, Given, Passing, by_answer, by_passing, decided, decided_of, left_at, looks, piece, spoilt, step, taken, up_to}
use Rattle.arriving.specs.Arrivals.Coming.{going, shut}
use Rattle.arriving.specs.Arrivals.Passing.{pass}
use Rattle.settled.proofs.GapEnds.{slash_stays}
use Rattle.settled.proofs.Owed.{ron}
use Rattle.settled.specs.Bytes.{closes_byte, decides_byte, stops_byte}
use Rattle.settled.specs.Settled.{behind_slash, once_behind, ron_once, ron_reader, ron_settles, settled_behind}
use Rattle.pieces.specs.Bars.{bar_of, bytes_give}
use Rattle.pieces.specs.Come.{later}
use Rattle.pieces.proofs.GapCuts.{front_free, swap}
use Rattle.pieces.proofs.GapKeeps.{reach_keeps, then_keeps, within_keeps, within_reaches}
use Rattle.pieces.proofs.OddKeeps.{no_char_there, odd_keeps as odd-behind}
use Rattle.pieces.proofs.Reaching.{Reaches}
use Rattle.pieces.proofs.PlaceLaws.{later_left, later_right}
use Rattle.pieces.proofs.Rests.{shut_rest}

-- ---- where a `/` is refused

-- what stands before the `/`, which is a gap before anything, and what stands behind it
record Slash (s : List ℕ) (q : ℕ) : Type 0 where
  before : List ℕ
  byte : ℕ
  after : List ℕ
  is : s ≡ before ++ 0x2f ∷ byte ∷ after
  place : q ≡ length before + 1 + char_len (byte ∷ after)
  no_line : byte ≡ 0x2f → ⊥
  no_block : byte ≡ 0x2a → ⊥
  again : (t : List ℕ) → Gap (before ++ t) t

slash_of : (s : List ℕ) (q : ℕ) → gap_of s ≡ answer.Refused (unexpected_char q) → Slash s q
slash_of s q h =
    let f = (five_exactly s q).0 h in
    let b : ℕ = f.0 in
    let w : List ℕ = f.1 in
    let p = swap f.2.0 (λ v e. let z : ◌≡◌ {A = ℕ} 0x2f 0x0a = ap (λ (l : List ℕ). get_or l 0 0) e in omega arith) in
    record {
      before = p.front;
      byte = b;
      after = w;
      is = p.split;
      place = omega (arith, f.3, ap length p.split, length-append p.front (0x2f ∷ b ∷ w));
      no_line = f.2.1;
      no_block = f.2.2;
      again = p.again;
    }

-- the text up to the `/` ends where a character is needed
module _ (g : List ℕ) (again : (t : List ℕ) → Gap (g ++ t) t) where
  slash_ends : gap_of (g ++ 0x2f ∷ []) ≡ answer.Refused (eof (length (g ++ 0x2f ∷ [])))
  slash_ends = (six_exactly (g ++ 0x2f ∷ []) (length (g ++ 0x2f ∷ []))).1 (refl, again (0x2f ∷ []))

  slash_within : passed_of Clear (g ++ 0x2f ∷ []) ≡ Within (open_of (g ++ 0x2f ∷ []))
  unfolding passed_of front
  slash_within = let y : List ℕ = g ++ 0x2f ∷ [] in ap (λ (x : Answer). passed_by x (open_of y) 0 (length y)) slash_ends

  -- and behind it stands what was unexpected
  slash_odd : (b : ℕ) (w : List ℕ) → (b ≡ 0x2f → ⊥) → (b ≡ 0x2a → ⊥) → gap_of (g ++ 0x2f ∷ b ∷ w) ≡ answer.Refused (unexpected_char (length g + 1 + char_len (b ∷ w)))
  slash_odd b w n m =
      (five_exactly (g ++ 0x2f ∷ b ∷ w) (length g + 1 + char_len (b ∷ w))).1
      (b, w, (again (0x2f ∷ b ∷ w), n, m), omega (arith, length-append g (0x2f ∷ b ∷ w)))

-- ---- no byte of a text that is refused so is barred

odd_free : (x v s : List ℕ) (at b : ℕ) (r : Refusal) → x ++ v ≡ s → gap_of s ≡ answer.Refused r → bar_of at x b ≡ pass
odd_free x v s at b r e h =
    front_free at x v b (λ g l c. let z : answer.Clear g ≡ answer.Refused r = sym c ∙ ap gap_of e ∙ h in let k : ◌≡◌ {A = ℕ} 0 1 = cc in omega arith)

-- ---- the byte with which it is told

none_chosen : (x y z : Bool) → ◌≡◌ {A = List Entry} (cond x [] (cond y [] (cond z [] []))) []
none_chosen true y z = refl
none_chosen false true z = refl
none_chosen false false true = refl
none_chosen false false false = refl

-- a part that is refused has no entries
refused_none : (at b : ℕ) (s : List ℕ) (d : Refusal) → ron_token s ≡ refuse d → decided ron_reader at s b ≡ []
unfolding decided up_to entries end_of
refused_none at b s d e =
    ap (decided_of ron_reader at s b) (read_refuse ron_token stops_byte ron.laws at s d e)
    ∙ none_chosen (closes_byte b && eqb at (at + length s)) (decides_byte b) (stops_byte b && spoilt ron_reader (drop (at - at) s))

odd_token : (s : List ℕ) (r : Refusal) → gap_of s ≡ answer.Refused r → ron_token s ≡ refuse r
unfolding ron_token
odd_token s r h = ap (by_gap s) h

-- where the character has come whole
module _ (s : List ℕ) (q : ℕ) (h : gap_of s ≡ answer.Refused (unexpected_char q)) (o : eqb (get_or s (q - 1) 0) 0x2f ≡ false) where
  told : behind_slash s (unexpected_char q) ≡ true
  unfolding behind_slash
  told = rw o

  odd_once : ron_once s ≡ true
  unfolding ron_once
  odd_once = ap (once_behind s) h ∙ told

  odd_settles : ron_settles s ≡ true
  unfolding ron_settles
  odd_settles = ap (settled_behind s) h ∙ told

  odd_looks : (b : ℕ) → looks ron_reader s b ≡ true
  unfolding looks
  odd_looks b = rw odd_once (or_true (stops_byte b))

  odd_left : (at : ℕ) → left_at ron_reader at s ≡ shut (unexpected_char (at + q))
  unfolding left_at
  odd_left at = rw odd_settles (ap (λ (a : Read). by_answer a at s) (odd_token s (unexpected_char q) h))

  odd_taken : (at b : ℕ) → taken ron_reader at s b ≡ record { entries = []; next = shut (unexpected_char (at + q)); bytes = 1 }
  unfolding end_of
  odd_taken at b =
      rw (odd_looks b, refused_none at b s (unexpected_char q) (odd_token s (unexpected_char q) h), sub_self at)
      (ap (λ (c : Coming). record { entries = []; next = c; bytes = 1 }) (odd_left at))

-- the byte b behind x, and the others behind it
odd_byte : (x : List ℕ) (b : ℕ) (z : List ℕ) (q at : ℕ) → gap_of (x ++ b ∷ []) ≡ answer.Refused (unexpected_char q) → eqb (get_or (x ++ b ∷ []) (q - 1) 0) 0x2f ≡ false
    → bytes_give (going at x) (b ∷ z) ≡ record { entries = []; next = shut (unexpected_char (at + q)); bytes = 1 }
unfolding piece
odd_byte x b z q at h o =
    let one : step ron_reader bar_of (going at x) b ≡ record { entries = []; next = shut (unexpected_char (at + q)); bytes = 1 } =
    ap (λ (p : Passing). by_passing p (taken ron_reader at (x ++ b ∷ []) b)) (odd_free x (b ∷ []) (x ++ b ∷ []) at b (unexpected_char q) refl h)
    ∙ odd_taken (x ++ b ∷ []) q h o at b in
    ap (λ (g : Given). record { entries = g.entries ++ (bytes_give g.next z).entries; next = (bytes_give g.next z).next; bytes = g.bytes + (bytes_give g.next z).bytes }) one
    ∙ ap (λ (g : Given). record { entries = g.entries; next = g.next; bytes = 1 + g.bytes }) (shut_rest z (unexpected_char (at + q)))

-- ---- the character behind it

-- a list and its last element
last_of : (l : List ℕ) (n : ℕ) → length l ≡ suc n → (d : List ℕ) × (e : ℕ) × (l ≡ d ++ e ∷ [])
last_of [] n h = absurd (omega arith)
last_of (a ∷ []) n h = ([], a, refl)
last_of (a ∷ b ∷ l) zero h = absurd (omega arith)
last_of (a ∷ b ∷ l) (suc n) h = let r = last_of (b ∷ l) n (omega arith) in (a ∷ r.0, r.1, ap {B = List ℕ} (λ (x : List ℕ). a ∷ x) r.2)

-- s is refused for a character, whose last byte is `last`
record Stray (s : List ℕ) (q : ℕ) : Type 0 where
  before : List ℕ
  begun : List ℕ
  last : ℕ
  rest : List ℕ
  is : s ≡ before ++ 0x2f ∷ [] ++ begun ++ last ∷ rest
  place : q ≡ suc (length (before ++ 0x2f ∷ [] ++ begun))
  cut-off : Cut begun
  again : (t : List ℕ) → Gap (before ++ t) t
  refused : gap_of (before ++ 0x2f ∷ [] ++ begun ++ last ∷ []) ≡ answer.Refused (unexpected_char q)

cut_last : (d : List ℕ) (e : ℕ) → Char (d ++ e ∷ []) → Cut d
cut_last [] e c = inl refl
cut_last (a ∷ d) e c = inr (begins e [] c)

-- a character behind the `/`
char_odd : (g l : List ℕ) → ((t : List ℕ) → Gap (g ++ t) t) → Char l → (get_or l 0 0 ≡ 0x2f → ⊥) → (get_or l 0 0 ≡ 0x2a → ⊥) → gap_of (g ++ 0x2f ∷ l) ≡ answer.Refused (unexpected_char (length g + 1 + length l))
char_odd g [] again c n m = absurd (omega (arith, char_pos c))
char_odd g (b ∷ l) again c n m =
    let k : char_len (b ∷ l) ≡ length (b ∷ l) = ap char_len (sym (append-nil (b ∷ l))) ∙ char_len_char (b ∷ l) [] c in
    slash_odd g again b l n m ∙ ap (λ (i : ℕ). answer.Refused (unexpected_char (length g + 1 + i))) k

stray_of : (s : List ℕ) (q : ℕ) → gap_of s ≡ answer.Refused (unexpected_char q) → eqb (get_or s (q - 1) 0) 0x2f ≡ false → Stray s q
stray_of s q h o = let k = slash_of s q h in go k (char_len (k.byte ∷ k.after)) (head_view (k.byte ∷ k.after)) k.place
  where
    go : (k : Slash s q) (n : ℕ) → Head (k.byte ∷ k.after) n → q ≡ length k.before + 1 + n → Stray s q
    go k n no_char e =
        let i : q - 1 ≡ length k.before = omega arith in
        let slash : get_or s (q - 1) 0 ≡ 0x2f = ap₂ (λ (l : List ℕ) (j : ℕ). get_or l j 0) k.is i ∙ get_or-append_seam k.before 0x2f (k.byte ∷ k.after) 0 in
        let z : true ≡ false = sym (eq-eqb (get_or s (q - 1) 0) 0x2f slash) ∙ o in
        let y : ◌≡◌ {A = ℕ} 0 1 = cc in absurd (omega arith)
    go k n (a_char {l} t {n = m} ch f eq) e =
        let r = last_of l m f in
        let d : List ℕ = r.0 in
        let c : ℕ = r.1 in
        let g : List ℕ = k.before in
        let y : List ℕ = g ++ 0x2f ∷ [] in
        let first : get_or l 0 0 ≡ k.byte = sym (get_or-append l t 0 0 (omega arith)) ∙ ap (λ (x : List ℕ). get_or x 0 0) (sym eq) in
        let joined : (z : List ℕ) → g ++ 0x2f ∷ (d ++ c ∷ z) ≡ y ++ d ++ c ∷ z = λ z. sym (append_assoc y d (c ∷ z) ∙ append_snoc g 0x2f (d ++ c ∷ z)) in
        let lines : length y + length d + 1 ≡ q = omega (arith, e, f, ap length r.2, length-append d (c ∷ []), length-append g (0x2f ∷ [])) in
        let more : g ++ 0x2f ∷ (l ++ t) ≡ g ++ 0x2f ∷ (d ++ c ∷ t) = ap (λ (x : List ℕ). g ++ 0x2f ∷ x) (ap (λ (x : List ℕ). x ++ t) r.2 ∙ append_snoc d c t) in
        record {
          before = g;
          begun = d;
          last = c;
          rest = t;
          is = k.is ∙ ap (λ (x : List ℕ). g ++ 0x2f ∷ x) eq ∙ more ∙ joined t;
          place = omega (arith, lines, length-append y d);
          cut-off = cut_last d c (subst Char r.2 ch);
          again = k.again;
          refused = ap gap_of (sym (ap (λ (x : List ℕ). g ++ 0x2f ∷ x) r.2 ∙ joined []))
              ∙ char_odd g l k.again ch (λ z. k.no_line (sym first ∙ z)) (λ z. k.no_block (sym first ∙ z))
              ∙ ap (λ (i : ℕ). answer.Refused (unexpected_char i)) (omega (arith, e, f));
        }

-- ---- 5 is given

module _ (s : List ℕ) (q : ℕ) (o : eqb (get_or s (q - 1) 0) 0x2f ≡ false) (k : Stray s q) where
  abbrev slashed : List ℕ
  slashed = k.before ++ 0x2f ∷ []

  -- the text up to the character, but for its last byte
  abbrev most : List ℕ
  most = k.before ++ 0x2f ∷ [] ++ k.begun

  abbrev all : List ℕ
  all = k.before ++ 0x2f ∷ [] ++ k.begun ++ k.last ∷ []

  all_length : length all ≡ q
  all_length = omega (arith, k.place, length-append most (k.last ∷ []))

  all_is : s ≡ all ++ k.rest
  all_is = k.is ∙ sym (append_snoc most k.last k.rest)

  other : eqb (get_or all (q - 1) 0) 0x2f ≡ false
  other =
      let i : q - 1 < length all = omega (arith, all_length, k.place) in
      ap (λ (b : ℕ). eqb b 0x2f) (sym (ap (λ (x : List ℕ). get_or x (q - 1) 0) all_is ∙ get_or-append all k.rest 0 (q - 1) i)) ∙ o

  -- before the character has come whole
  gives_before : (i at : ℕ) → i < q → bytes_give (going at (take i s)) (drop i s) ≡ record { entries = []; next = shut (unexpected_char (at + q)); bytes = later q (i + 1) - i }
  gives_before i at l =
      let le : i ≤ length most = omega (arith, k.place) in
      let n : length most - i + 1 ≡ later q (i + 1) - i = omega (arith, k.place, later_left q (i + 1) (omega arith)) in
      let x : take i s ≡ take i most = ap (take i) k.is ∙ take-append-le i most (k.last ∷ k.rest) le in
      let w : drop i s ≡ drop i most ++ k.last ∷ k.rest = ap (drop i) k.is ∙ drop-append-le i most (k.last ∷ k.rest) le in
      ap₂ (λ (x w : List ℕ). bytes_give (going at x) w) x w
      ∙ cut ron_reader bar_of (drop i most) (k.last ∷ k.rest) (going at (take i most))
      ∙ ap (λ (g : Given). both g (λ c. bytes_give c (k.last ∷ k.rest)))
      (within_keeps slashed k.begun (open_of slashed) i at (slash_within k.before k.again) k.cut-off le)
      ∙ ap (λ (g : Given). record { entries = g.entries; next = g.next; bytes = length most - i + g.bytes }) (odd_byte most k.last k.rest q at k.refused other)
      ∙ ap (λ (j : ℕ). record { entries = []; next = shut (unexpected_char (at + q)); bytes = j }) n

  -- and behind it
  gives_behind : (i at : ℕ) → q ≤ i → i < length s → bytes_give (going at (take i s)) (drop i s) ≡ record { entries = []; next = shut (unexpected_char (at + q)); bytes = later q (i + 1) - i }
  gives_behind i at l m =
      let b : ℕ = get_or s i 0 in
      let j : suc i ≡ length all + (suc i - q) = omega (arith, all_length) in
      let v : List ℕ = take (suc i - q) k.rest in
      let u : take i s ++ b ∷ [] ≡ all ++ v = sym (take-suc s i 0 m) ∙ ap₂ take j all_is ∙ take-append-add all k.rest (suc i - q) in
      let n : 1 ≡ later q (i + 1) - i = omega (arith, later_right q (i + 1) (omega arith)) in
      let g : gap_of (take i s ++ b ∷ []) ≡ answer.Refused (unexpected_char q) = ap gap_of u ∙ slash_stays all v (unexpected_char q) k.refused refl other in
      let c : eqb (get_or (take i s ++ b ∷ []) (q - 1) 0) 0x2f ≡ false =
      ap (λ (x : ℕ). eqb x 0x2f) (ap (λ (x : List ℕ). get_or x (q - 1) 0) u ∙ get_or-append all v 0 (q - 1) (omega (arith, all_length, k.place))) ∙ other in
      ap (bytes_give (going at (take i s))) (drop-cons s i 0 m)
      ∙ odd_byte (take i s) b (drop (suc i) s) q at g c
      ∙ ap (λ (j : ℕ). record { entries = []; next = shut (unexpected_char (at + q)); bytes = j }) n

-- of any text
pub odd_gives : (s : List ℕ) (q i at : ℕ) → gap_of s ≡ answer.Refused (unexpected_char q) → eqb (get_or s (q - 1) 0) 0x2f ≡ false → i < length s
    → bytes_give (going at (take i s)) (drop i s) ≡ record { entries = []; next = shut (unexpected_char (at + q)); bytes = later q (i + 1) - i }
odd_gives s q i at h o l = let k = stray_of s q h o in either (lt_or_le i q) (gives_before s q o k i at) (λ m. gives_behind s q o k i at m l)

-- of one that ends with a part of a character
pub odd_shuts : (y p : List ℕ) (q i at : ℕ) → gap_of y ≡ answer.Refused (unexpected_char q) → eqb (get_or y (q - 1) 0) 0x2f ≡ false → Cut p → i < length (y ++ p)
    → bytes_give (going at (take i (y ++ p))) (drop i (y ++ p)) ≡ record { entries = []; next = shut (unexpected_char (at + q)); bytes = later q (i + 1) - i }
odd_shuts y p q i at h o c l =
    let k = stray_of y q h o in
    let inside : q - 1 < length y = omega (arith, ap length (all_is y q o k), length-append (all y q o k) k.rest, all_length y q o k, k.place) in
    odd_gives (y ++ p) q i at (slash_stays y p (unexpected_char q) h refl o) (ap (λ (b : ℕ). eqb b 0x2f) (get_or-append y p 0 (q - 1) inside) ∙ o) l

-- ---- no character stands behind the `/`

pub odd_keeps : (y p : List ℕ) (q i at : ℕ) → gap_of y ≡ answer.Refused (unexpected_char q) → eqb (get_or y (q - 1) 0) 0x2f ≡ true → Cut p → i ≤ length (y ++ p)
    → bytes_give (going at (take i (y ++ p))) (drop i (y ++ p)) ≡ keeping at (y ++ p) (length (y ++ p) - i)
odd_keeps y p q i at h o c l =
    either (lt_or_le i q) before (λ m. odd-behind y p q i at h slash c m l)
  where
    slash : get_or y (q - 1) 0 ≡ 0x2f
    slash = eqb-true (get_or y (q - 1) 0) 0x2f o

    k : Slash y q
    k = slash_of y q h

    f : List ℕ
    f = k.before ++ 0x2f ∷ []

    z : List ℕ
    z = k.byte ∷ (k.after ++ p)

    whole : y ++ p ≡ f ++ z
    whole =
        ap (λ (x : List ℕ). x ++ p) k.is ∙ append_assoc k.before (0x2f ∷ k.byte ∷ k.after) p
        ∙ sym (append_snoc k.before 0x2f z)

    -- the place is that of the `/`
    here : q ≡ length f
    here =
        let n : ℕ = char_len (k.byte ∷ k.after) in
        let far : q - 1 ≡ length k.before + n = omega (arith, k.place) in
        let seen : get_or (0x2f ∷ k.byte ∷ k.after) n 0 ≡ 0x2f =
        sym (ap₂ (λ (w : List ℕ) (j : ℕ). get_or w j 0) k.is far ∙ get_or-append-add k.before (0x2f ∷ k.byte ∷ k.after) n 0) ∙ slash in
        omega (arith, k.place, no_char_there k.byte k.after k.no_line seen, length-append k.before (0x2f ∷ []))

    behind_it : bytes_give (going at f) z ≡ keeping at (f ++ z) (length (y ++ p) - q)
    behind_it =
        ap₂ (λ (x w : List ℕ). bytes_give (going at x) w)
        (sym (ap₂ take here whole ∙ take-append_seam f z)) (sym (ap₂ drop here whole ∙ drop-append_seam f z))
        ∙ odd-behind y p q q at h slash c (omega arith) (omega (arith, here, ap length whole, length-append f z))
        ∙ ap (λ (x : List ℕ). keeping at x (length (y ++ p) - q)) whole

    before : i < q → bytes_give (going at (take i (y ++ p))) (drop i (y ++ p)) ≡ keeping at (y ++ p) (length (y ++ p) - i)
    before m =
        let le : i ≤ length f = omega (arith, here) in
        let n : length f - i + (length (y ++ p) - q) ≡ length (y ++ p) - i = omega (arith, here, ap length whole, length-append f z) in
        let r : Reaches f = within_reaches f (open_of f) (slash_within k.before k.again) in
        ap₂ (λ (x w : List ℕ). bytes_give (going at x) w) (ap (take i) whole ∙ take-append-le i f z le) (ap (drop i) whole ∙ drop-append-le i f z le)
        ∙ then_keeps (drop i f) z (take i f) f (f ++ z) at (length f - i) (length (y ++ p) - q) (reach_keeps f i at r le) behind_it
        ∙ ap₂ (keeping at) (sym whole) n
