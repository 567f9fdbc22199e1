-- However a text is cut, what may be taken of it is told alike.
--     all-good, bad-place, all-place      the answer beside that of the whole text's checker
--     allowed-on                          all may be taken: what comes behind is judged with the front of a character that is left, and with nothing else
--     allowed-stays, bad-bounds           a byte that may not be taken stays so, whatever comes behind
--     allowed-front, front-all, front-before, front-past    what a front of the text says
--     ascii-whole, ascii-breaks           an ASCII byte behind
--     char-whole                          a whole character's width does not depend on what stands behind
-- Assumes nothing.
use Rattle.std.proofs.Common.{Some, None}
use Prim.Native.Nat.{ℕ, suc, ◌+◌, ◌-◌, ◌≤◌, ◌<◌}
use native.Mathlib.Omega.{arith}
use mathlib.Core.List.{List, [], ◌∷◌, ◌++◌, append_assoc, append-nil}
use mathlib.Core.Logic.{◌↔◌, inl, inr}
use mathlib.Core.Path.{◌≡◌, refl, sym, ap, ◌∙◌, subst}
use lib.ListN.{length, take, drop, length-append, take-append-drop}
use lib.Seq.{append_snoc, drop_at, take-append-add, take_at, take-take}
use Rattle.text.proofs.CharFronts.{len_short}
use Rattle.text.proofs.Utf8Agree.{char_len_char, char_pos, encoded_good, good_text, text_encoded}
use Rattle.text.specs.Utf8.{Char, Text, char_len, utf8_of}
use Rattle.text.specs.Utf8.Char.{utf8_1, utf8_2, utf8_3a, utf8_3b, utf8_3c, utf8_3d, utf8_4a, utf8_4b, utf8_4c}
use Rattle.text.specs.Utf8.Text.{none, more}
use Rattle.octets.specs.Octets.{Broken, Cut, Ends, Whole, allowed_of, further}
use Rattle.octets.specs.Octets.Begins.{begins}
use Rattle.octets.specs.declared.answer.Allowed.{Allowed}
use Rattle.octets.specs.declared.answer.Allowed.TheVariants.{All, Bad}
use Rattle.octets.proofs.BegunLaws.Stops.{at_byte, at_end}
use Rattle.octets.proofs.Exactly.{Means, allowed_all, allowed_bad, broken_bad, cut_place, means, text_all, whole_all}

-- ---- characters

pub char_whole : (l v : List ℕ) → Char l → (0 < char_len (l ++ v)) × (char_len (l ++ v) ≡ length l)
char_whole l v ch = let e = char_len_char l v ch in (omega (arith, e, char_pos ch), e)

char_few : {l : List ℕ} → Char l → length l ≤ 4
char_few (utf8_1 h) = omega arith
char_few (utf8_2 h k) = omega arith
char_few (utf8_3a e h k) = omega arith
char_few (utf8_3b i h k) = omega arith
char_few (utf8_3c e h k) = omega arith
char_few (utf8_3d i h k) = omega arith
char_few (utf8_4a e h k m) = omega arith
char_few (utf8_4b i h k m) = omega arith
char_few (utf8_4c e h k m) = omega arith

-- a front has three bytes at most
pub cut_few : {p : List ℕ} → Cut p → length p ≤ 3
cut_few (inl e) = omega (arith, ap length e)
cut_few (inr (begins {a} {p} b q ch)) = omega (arith, char_few ch, length-append p (b ∷ q))

pub text_append : {s : List ℕ} → Text s → (t : List ℕ) → Text t → Text (s ++ t)
text_append none t y = y
text_append (more {l} {s} ch x) t y = subst Text (sym (append_assoc l s t)) (more ch (text_append x t y))

-- ---- the answer from what the bytes are

pub answer : (s : List ℕ) (a : Allowed) → Means s a → allowed_of s ≡ a
answer s (All m) w = whole_all s m w
answer s (Bad n k) w = broken_bad s n k w

-- ---- beside the whole text's checker

part_none : (s : List ℕ) → Whole s 0 → Text s
part_none s w = at w.part w.is w.many
  where
    at : (p : List ℕ) → s ≡ w.good ++ p → length p ≡ 0 → Text s
    at [] e h = subst Text (sym (e ∙ append-nil w.good)) w.text
    at (b ∷ p) e h = absurd (omega arith)

pub all_text : (s : List ℕ) → (allowed_of s ≡ All 0) ↔ Text s
all_text s = (λ e. part_none s ((allowed_all s 0).0 e), λ x. text_all s x)

pub all_good : (s : List ℕ) → (allowed_of s ≡ All 0) ↔ (utf8_of s ≡ None)
all_good s = (λ e. encoded_good s (text_encoded ((all_text s).0 e)), λ e. text_all s (good_text s e))

pub bad_place : (s v : List ℕ) (n k : ℕ) → allowed_of s ≡ Bad n k → utf8_of (s ++ v) ≡ Some k
bad_place s v n k e =
    let w = (allowed_bad s n k).0 e in
    let same : s ++ v ≡ w.good ++ (w.part ++ w.byte ∷ (w.rest ++ v)) = ap (λ (u : List ℕ). u ++ v) w.is ∙ simp append_assoc in
    ap utf8_of same
    ∙ cut_place w.good w.part (w.byte ∷ (w.rest ++ v)) w.text w.cut (at_byte w.ends) (omega (arith, length-append w.part (w.byte ∷ (w.rest ++ v))))
    ∙ ap Some w.starts

pub all_place : (s : List ℕ) (m : ℕ) → allowed_of s ≡ All (suc m) → utf8_of s ≡ Some (length s - suc m)
all_place s m e =
    let w = (allowed_all s (suc m)).0 e in
    let same : s ≡ w.good ++ (w.part ++ []) = w.is ∙ ap (λ (u : List ℕ). w.good ++ u) (sym (append-nil w.part)) in
    let many : length w.part ≡ suc m = w.many in
    let len : length s ≡ length w.good + length w.part = ap length w.is ∙ length-append w.good w.part in
    let place : length w.good ≡ length s - suc m = omega arith in
    ap utf8_of same
    ∙ cut_place w.good w.part [] w.text w.cut at_end (omega (arith, length-append w.part []))
    ∙ ap Some place

-- ---- where all may be taken

-- whole characters in front only move the answer
module _ (good u : List ℕ) (x : Text good) where
  behind : (a : Allowed) → Means u a → Means (good ++ u) (further (length good) a)
  behind (All m) w =
      record {
        good = good ++ w.good;
        part = w.part;
        is = ap (λ (t : List ℕ). good ++ t) w.is ∙ sym (append_assoc good w.good w.part);
        text = text_append x w.good w.text;
        cut = w.cut;
        many = w.many;
      }
  behind (Bad n k) w =
      record {
        good = good ++ w.good;
        part = w.part;
        byte = w.byte;
        rest = w.rest;
        is = ap (λ (t : List ℕ). good ++ t) w.is ∙ simp append_assoc;
        text = text_append x w.good w.text;
        cut = w.cut;
        ends = w.ends;
        starts = omega (arith, length-append good w.good, w.starts);
        stands = omega (arith, w.stands);
      }

  pub allowed_behind : allowed_of (good ++ u) ≡ further (length good) (allowed_of u)
  allowed_behind = answer (good ++ u) (further (length good) (allowed_of u)) (behind (allowed_of u) (means u))

module _ (s : List ℕ) (m : ℕ) (e : allowed_of s ≡ All m) where
  whole : Whole s m
  whole = (allowed_all s m).0 e

  whole_len : length whole.good ≡ length s - m
  whole_len =
      let many : length whole.part ≡ m = whole.many in
      omega (arith, ap length whole.is, length-append whole.good whole.part)

  pub all_bound : (m ≤ length s) × (m ≤ 3)
  all_bound =
      let many : length whole.part ≡ m = whole.many in
      (omega (arith, ap length whole.is, length-append whole.good whole.part), omega (arith, cut_few whole.cut))

  -- up to the front that is left all is whole characters
  pub all_front : Text (take (length s - m) s)
  all_front =
      subst Text (sym (ap (take (length s - m)) whole.is ∙ take_at whole.good whole.part (length s - m) whole_len)) whole.text

  pub allowed_on : (v : List ℕ) → (m ≤ length s) × (allowed_of (s ++ v) ≡ further (length s - m) (allowed_of (drop (length s - m) s ++ v)))
  allowed_on v =
      let same : s ++ v ≡ whole.good ++ (whole.part ++ v) = ap (λ (u : List ℕ). u ++ v) whole.is ∙ append_assoc whole.good whole.part v in
      let left : drop (length s - m) s ≡ whole.part = ap (drop (length s - m)) whole.is ∙ drop_at whole.good whole.part (length s - m) whole_len in (
        all_bound.0,
        ap allowed_of same
            ∙ allowed_behind whole.good (whole.part ++ v) whole.text
            ∙ ap (λ (d : ℕ). further d (allowed_of (whole.part ++ v))) whole_len
            ∙ ap (λ (u : List ℕ). further (length s - m) (allowed_of (u ++ v))) (sym left),
      )

-- ---- where a byte may not be taken

module _ (s : List ℕ) (n k : ℕ) (e : allowed_of s ≡ Bad n k) where
  broken : Broken s n k
  broken = (allowed_bad s n k).0 e

  broken_len : length (broken.good ++ broken.part) ≡ n
  broken_len = omega (arith, length-append broken.good broken.part, broken.starts, broken.stands)

  pub bad_bounds : (n < length s) × (k ≤ n) × (n ≤ k + 3)
  bad_bounds =
      let starts : length broken.good ≡ k = broken.starts in
      let stands : k + length broken.part ≡ n = broken.stands in
      let few : length broken.part ≤ 3 = cut_few broken.cut in
      (omega (arith, ap length broken.is, length-append (broken.good ++ broken.part) (broken.byte ∷ broken.rest), broken_len), omega arith, omega arith)

  pub allowed_stays : (v : List ℕ) → allowed_of (s ++ v) ≡ Bad n k
  allowed_stays v =
      broken_bad (s ++ v) n k
      (record {
        good = broken.good;
        part = broken.part;
        byte = broken.byte;
        rest = broken.rest ++ v;
        is = ap (λ (u : List ℕ). u ++ v) broken.is ∙ append_assoc (broken.good ++ broken.part) (broken.byte ∷ broken.rest) v;
        text = broken.text;
        cut = broken.cut;
        ends = broken.ends;
        starts = broken.starts;
        stands = broken.stands;
      })

  -- what stands before it may be taken
  pub allowed_front : allowed_of (take n s) ≡ All (n - k)
  allowed_front =
      let starts : length broken.good ≡ k = broken.starts in
      let stands : k + length broken.part ≡ n = broken.stands in
      whole_all (take n s) (n - k)
      (record {
        good = broken.good;
        part = broken.part;
        is = ap (take n) broken.is ∙ take_at (broken.good ++ broken.part) (broken.byte ∷ broken.rest) n broken_len;
        text = broken.text;
        cut = broken.cut;
        many = omega arith;
      })

  -- and a front that holds it says what the whole does
  pub front_past : (i : ℕ) → allowed_of (take (n + suc i) s) ≡ Bad n k
  front_past i =
      let same : take (n + suc i) s ≡ (broken.good ++ broken.part) ++ take (suc i) (broken.byte ∷ broken.rest) =
      ap (take (n + suc i)) broken.is ∙ ap (λ (j : ℕ). take (j + suc i) ((broken.good ++ broken.part) ++ broken.byte ∷ broken.rest)) (sym broken_len)
      ∙ take-append-add (broken.good ++ broken.part) (broken.byte ∷ broken.rest) (suc i) in
      broken_bad (take (n + suc i) s) n k
      (record {
        good = broken.good;
        part = broken.part;
        byte = broken.byte;
        rest = take i broken.rest;
        is = same;
        text = broken.text;
        cut = broken.cut;
        ends = broken.ends;
        starts = broken.starts;
        stands = broken.stands;
      })

-- ---- a front of bytes that may all be taken may be taken

pub front_all : (s : List ℕ) (m : ℕ) → allowed_of s ≡ All m → (j : ℕ) → (i : ℕ) × (allowed_of (take j s) ≡ All i)
front_all s m e j = go (allowed_of (take j s)) refl
  where
    go : (a : Allowed) → allowed_of (take j s) ≡ a → (i : ℕ) × (allowed_of (take j s) ≡ All i)
    go (All i) f = (i, f)
    go (Bad n k) f =
        let g : Bad n k ≡ All m = sym (allowed_stays (take j s) n k f (drop j s)) ∙ ap allowed_of (take-append-drop j s) ∙ e in
        let z : ◌≡◌ {A = ℕ} 0 1 = cc in absurd (omega arith)

pub front_before : (s : List ℕ) (n k : ℕ) → allowed_of s ≡ Bad n k → (j : ℕ) → j ≤ n → (i : ℕ) × (allowed_of (take j s) ≡ All i)
front_before s n k e j l =
    let f = front_all (take n s) (n - k) (allowed_front s n k e) j in
    (f.0, ap allowed_of (sym (take-take j n s l)) ∙ f.1)

-- ---- an ASCII byte behind

ascii_ends : (p : List ℕ) (b : ℕ) → 0 < length p → b < 0x80 → Ends p b
ascii_ends p b h l q ch =
    let len : char_len ((p ++ b ∷ []) ++ q) ≡ length ((p ++ b ∷ []) ++ q) = ap char_len (sym (append-nil ((p ++ b ∷ []) ++ q))) ∙ char_len_char ((p ++ b ∷ []) ++ q) [] ch in
    let same : (p ++ b ∷ []) ++ q ≡ p ++ b ∷ q = append_snoc p b q in
    let short : char_len (p ++ b ∷ q) ≤ length p = len_short b l p q h in
    omega (arith, ap char_len same, len, ap length same, length-append p (b ∷ q))

pub ascii_whole : (s : List ℕ) (b : ℕ) → allowed_of s ≡ All 0 → b < 0x80 → allowed_of (s ++ b ∷ []) ≡ All 0
ascii_whole s b e l = text_all (s ++ b ∷ []) (text_append ((all_text s).0 e) (b ∷ []) (more (utf8_1 (omega arith)) none))

pub ascii_breaks : (s : List ℕ) (b m : ℕ) → allowed_of s ≡ All (suc m) → b < 0x80 → allowed_of (s ++ b ∷ []) ≡ Bad (length s) (length s - suc m)
ascii_breaks s b m e l =
    let w = (allowed_all s (suc m)).0 e in
    let many : length w.part ≡ suc m = w.many in
    let len : length s ≡ length w.good + length w.part = ap length w.is ∙ length-append w.good w.part in
    broken_bad (s ++ b ∷ []) (length s) (length s - suc m)
    (record {
      good = w.good;
      part = w.part;
      byte = b;
      rest = [];
      is = ap (λ (u : List ℕ). u ++ b ∷ []) w.is;
      text = w.text;
      cut = w.cut;
      ends = ascii_ends w.part b (omega arith) l;
      starts = omega arith;
      stands = omega arith;
    })
