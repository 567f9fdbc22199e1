-- What the two answers mean, by RFC 3629's grammar alone.
--     allowed_all    all may be taken exactly where the bytes are whole characters and the front of one more
--     allowed-bad    so many may be taken exactly where such a front stands there, and behind it a byte with which no character goes on
-- Assumes nothing.
use Rattle.std.proofs.Common.{Some, Option}
use Prim.Native.Nat.{ℕ, ◌+◌, ◌<◌}
use native.Mathlib.Omega.{arith}
use mathlib.Core.List.{List, [], ◌∷◌, ◌++◌, append_assoc, append-nil}
use mathlib.Core.Logic.{◌↔◌, inl, inr}
use mathlib.Core.Path.{◌≡◌, refl, sym, ap, ◌∙◌, subst}
use lib.Dec.{eqb}
use lib.ListN.{length, take, drop, length-append, length-drop, take-append-drop}
use lib.Seq.{append_snoc, drop-append_seam, length-take-le, take_all}
use borrow.Author.Tests.{eqb-true, eqb-false}
use Rattle.text.proofs.Choices.{bool_cases, either}
use Rattle.text.proofs.Utf8Agree.{Head, head_view, Verdict, verdict, char_len_char, char_pos, encoded_good, text_encoded, text_passed}
use Rattle.text.proofs.Utf8Agree.Head.{no_char, a_char}
use Rattle.text.proofs.Utf8Agree.Verdict.{good as all_text, bad as bad-at}
use Rattle.text.proofs.Utf8Laws.{utf8_bad}
use Rattle.text.specs.Utf8.{Char, Text, char_len, utf8_from, utf8_of}
use Rattle.octets.specs.Octets.{Begins, Broken, Cut, Ends, Whole, allowed_of, bad_of, begun_of, by_place}
use Rattle.octets.specs.Octets.Begins.{begins}
use Rattle.octets.specs.declared.answer.Allowed.{Allowed}
use Rattle.octets.specs.declared.answer.Allowed.TheVariants.{All, Bad}
use Rattle.octets.proofs.BegunLaws.{Stops, bad_end, bad_on, fit}
use Rattle.octets.proofs.BegunLaws.Stops.{at_byte, at_end}

-- ---- two fronts of one list

pub data Lies (p v l t : List ℕ) : Type 0 where
  within : (r : List ℕ) → p ≡ l ++ r → t ≡ r ++ v → Lies p v l t
  past : (b : ℕ) (r : List ℕ) → l ≡ p ++ b ∷ r → v ≡ b ∷ (r ++ t) → Lies p v l t

pub lies : (p v l t : List ℕ) → p ++ v ≡ l ++ t → Lies p v l t
lies p v [] t e = within p refl (sym e)
lies [] v (b ∷ l) t e = past b l refl e
lies (a ∷ p) v (b ∷ l) t e = go (lies p v l t cc)
  where
    same : a ≡ b
    same = cc

    go : Lies p v l t → Lies (a ∷ p) v (b ∷ l) t
    go (within r x y) = within r (cc) y
    go (past c r x y) = past c r (cc) y

-- ---- a front goes on only with what a character goes on with

begins_char : {x : List ℕ} → Begins x → (b : ℕ) × (q : List ℕ) × Char (x ++ b ∷ q)
begins_char (begins b q ch) = (b, q, ch)

cut_char : (x : List ℕ) → Cut x → 0 < length x → (b : ℕ) × (q : List ℕ) × Char (x ++ b ∷ q)
cut_char x (inl e) h = absurd (omega (arith, ap length e))
cut_char x (inr k) h = begins_char k

pub cut_on : (p : List ℕ) (b : ℕ) (r : List ℕ) → Cut (p ++ b ∷ r) → Ends p b → ⊥
cut_on p b r c n =
    let w = cut_char (p ++ b ∷ r) c (omega (arith, length-append p (b ∷ r))) in
    let same : (p ++ b ∷ r) ++ w.0 ∷ w.1 ≡ (p ++ b ∷ []) ++ (r ++ w.0 ∷ w.1) = simp append_assoc in
    n (r ++ w.0 ∷ w.1) (subst Char same w.2)

some : {x : List ℕ} → Begins x → 0 < length x
some (begins b q ch) = omega arith

-- a front is shorter than a whole character that it begins with
cut_short : (l r : List ℕ) → Char l → Cut (l ++ r) → ⊥
cut_short l r ch c =
    let w = cut_char (l ++ r) c (omega (arith, length-append l r, char_pos ch)) in
    let one : char_len ((l ++ r) ++ w.0 ∷ w.1) ≡ length l = ap char_len (append_assoc l r (w.0 ∷ w.1)) ∙ char_len_char l (r ++ w.0 ∷ w.1) ch in
    let two : char_len ((l ++ r) ++ w.0 ∷ w.1) ≡ length ((l ++ r) ++ w.0 ∷ w.1) = ap char_len (sym (append-nil ((l ++ r) ++ w.0 ∷ w.1))) ∙ char_len_char ((l ++ r) ++ w.0 ∷ w.1) [] w.2 in
    omega (arith, one, two, length-append (l ++ r) (w.0 ∷ w.1), length-append l r)

-- a byte that ends it stands first behind it
stops_byte : (p v : List ℕ) (b : ℕ) (z : List ℕ) → Stops p v → v ≡ b ∷ z → Ends p b
stops_byte p v b z at_end e = let h = ap length e in absurd (omega arith)
stops_byte p v b z (at_byte {b = c} n) e = let h : c ≡ b = cc in subst (Ends p) h n

-- at a front no whole character stands
pub cut_none : (p v : List ℕ) → Cut p → Stops p v → char_len (p ++ v) ≡ 0
cut_none p v c st = go (char_len (p ++ v)) refl (head_view (p ++ v))
  where
    at : (l t : List ℕ) → Char l → Lies p v l t → ⊥
    at l t ch (within r x y) = cut_short l r ch (subst Cut x c)
    at l t ch (past b r x y) = stops_byte p v b (r ++ t) st y r (subst Char (x ∙ sym (append_snoc p b r)) ch)

    go : (n : ℕ) → char_len (p ++ v) ≡ n → Head (p ++ v) n → char_len (p ++ v) ≡ 0
    go n e no_char = e
    go n e (a_char {l} t ch f q) = absurd (at l t ch (lies p v l t q))

-- one list has one such front
pub cut_unique : (p v p' v' : List ℕ) → p ++ v ≡ p' ++ v' → Cut p → Stops p v → Cut p' → Stops p' v' → length p ≡ length p'
cut_unique p v p' v' e c st c' st' = go (lies p v p' v' e)
  where
    on : (r : List ℕ) → p ≡ p' ++ r → v' ≡ r ++ v → length p ≡ length p'
    on [] x y = omega (arith, ap length (x ∙ append-nil p'))
    on (b ∷ r) x y = absurd (cut_on p' b r (subst Cut x c) (stops_byte p' v' b (r ++ v) st' y))

    go : Lies p v p' v' → length p ≡ length p'
    go (within r x y) = on r x y
    go (past b r x y) = absurd (cut_on p b r (subst Cut x c') (stops_byte p v b (r ++ v') st y))

-- and it is told
pub begun_cut : (p v : List ℕ) → Cut p → Stops p v → begun_of (p ++ v) ≡ length p
begun_cut p v c st =
    let f = fit (p ++ v) in
    let m = begun_of (p ++ v) in
    sym (length-take-le m (p ++ v) f.inside)
    ∙ cut_unique (take m (p ++ v)) (drop m (p ++ v)) p v (take-append-drop m (p ++ v)) f.cut (f.stops (cut_none p v c st)) c st

-- ---- where a text ends in a front, or in one that a byte ends

module _ (good p v : List ℕ) (x : Text good) (c : Cut p) (st : Stops p v) where
  rest_is : drop (length good) (good ++ (p ++ v)) ≡ p ++ v
  rest_is = drop-append_seam good (p ++ v)

  pub cut_place : 0 < length (p ++ v) → utf8_of (good ++ (p ++ v)) ≡ Some (length good)
  unfolding utf8_of
  cut_place h =
      text_passed x 0 (p ++ v)
      ∙ utf8_bad (0 + length good) (p ++ v) h (cut_none p v c st)
      ∙ ap Some (omega arith)

  begun_there : begun_of (drop (length good) (good ++ (p ++ v))) ≡ length p
  begun_there = ap begun_of rest_is ∙ begun_cut p v c st

  pub cut_allowed : 0 < length (p ++ v) → allowed_of (good ++ (p ++ v)) ≡ bad_of (good ++ (p ++ v)) (length good)
  unfolding allowed_of
  cut_allowed h = ap (by_place (good ++ (p ++ v))) (cut_place h)

  ends_all : 0 < length p → length v ≡ 0 → allowed_of (good ++ (p ++ v)) ≡ All (length p)
  ends_all h z =
      cut_allowed (omega (arith, length-append p v))
      ∙ bad_end (good ++ (p ++ v)) (length good) (omega (arith, begun_there, length-append good (p ++ v), length-append p v))
      ∙ ap All begun_there

  ends_bad : 0 < length v → allowed_of (good ++ (p ++ v)) ≡ Bad (length good + length p) (length good)
  ends_bad h =
      cut_allowed (omega (arith, length-append p v))
      ∙ bad_on (good ++ (p ++ v)) (length good) (λ e. omega (arith, begun_there, length-append good (p ++ v), length-append p v))
      ∙ ap (λ (n : ℕ). Bad (length good + n) (length good)) begun_there

pub text_all : (s : List ℕ) → Text s → allowed_of s ≡ All 0
unfolding allowed_of
text_all s x = ap (by_place s) (encoded_good s (text_encoded x))

-- ---- the answer is what the bytes are

pub whole_all : (s : List ℕ) (m : ℕ) → Whole s m → allowed_of s ≡ All m
whole_all s m w = go w.cut
  where
    go : Cut w.part → allowed_of s ≡ All m
    go (inl e) =
        let same : s ≡ w.good = w.is ∙ ap (λ (p : List ℕ). w.good ++ p) e ∙ append-nil w.good in
        ap allowed_of same ∙ text_all w.good w.text ∙ ap All (omega (arith, ap length e, w.many))
    go (inr b) =
        let same : s ≡ w.good ++ (w.part ++ []) = w.is ∙ ap (λ (p : List ℕ). w.good ++ p) (sym (append-nil w.part)) in
        ap allowed_of same ∙ ends_all w.good w.part [] w.text (inr b) at_end (some b) refl ∙ ap All w.many

pub broken_bad : (s : List ℕ) (n k : ℕ) → Broken s n k → allowed_of s ≡ Bad n k
broken_bad s n k w =
    let same : s ≡ w.good ++ (w.part ++ w.byte ∷ w.rest) = w.is ∙ append_assoc w.good w.part (w.byte ∷ w.rest) in
    let starts : length w.good ≡ k = w.starts in
    let stands : length w.good + length w.part ≡ n = omega (arith, starts, w.stands) in
    ap allowed_of same ∙ ends_bad w.good w.part (w.byte ∷ w.rest) w.text w.cut (at_byte w.ends) (omega arith) ∙ cc

-- ---- and the bytes are what the answer says

abbrev pub Means : List ℕ → Allowed → Type 0
Means s (All m) = Whole s m
Means s (Bad n k) = Broken s n k

broken_by : (s good p v : List ℕ) → s ≡ good ++ (p ++ v) → Text good → Cut p → Stops p v → 0 < length v → Broken s (length good + length p) (length good)
broken_by s good p v e x c at_end h = absurd (omega arith)
broken_by s good p v e x c (at_byte {b} {z} n) h =
    record {
      good = good;
      part = p;
      byte = b;
      rest = z;
      is = e ∙ sym (append_assoc good p (b ∷ z));
      text = x;
      cut = c;
      ends = n;
      starts = refl;
      stands = refl;
    }

module _ (s : List ℕ) (k : ℕ) (h : k < length s) (x : Text (take k s)) (z : char_len (drop k s) ≡ 0) where
  bad_means : Means s (bad_of s k)
  bad_means = either (bool_cases (eqb (k + m) (length s))) (λ e. at_last (eqb-true (k + m) (length s) e)) (λ e. at_some (eqb-false (k + m) (length s) e))
    where
      m : ℕ
      m = begun_of (drop k s)

      at_last : k + m ≡ length s → Means s (bad_of s k)
      at_last e =
          subst (Means s) (sym (bad_end s k e))
          (record {
            good = take k s;
            part = drop k s;
            is = sym (take-append-drop k s);
            text = x;
            cut = subst Cut (take_all m (drop k s) (omega (arith, length-drop k s))) (fit (drop k s)).cut;
            many = omega (arith, length-drop k s);
          })

      at_some : (k + m ≡ length s → ⊥) → Means s (bad_of s k)
      at_some n =
          let len : length (take k s) ≡ k = length-take-le k s (omega arith) in
          let few : length (take m (drop k s)) ≡ m = length-take-le m (drop k s) (fit (drop k s)).inside in
          subst (Means s) (ap (λ (j : ℕ). Bad (j + length (take m (drop k s))) j) len ∙ ap (λ (j : ℕ). Bad (k + j) k) few ∙ sym (bad_on s k n))
          (broken_by s (take k s) (take m (drop k s)) (drop m (drop k s))
          (sym (take-append-drop k s) ∙ ap (λ (u : List ℕ). take k s ++ u) (sym (take-append-drop m (drop k s))))
          x (fit (drop k s)).cut ((fit (drop k s)).stops z) (omega (arith, (fit (drop k s)).inside, length-drop m (drop k s), length-drop k s)))

pub means : (s : List ℕ) → Means s (allowed_of s)
unfolding allowed_of utf8_of
means s = go (verdict s)
  where
    go : Verdict 0 s → Means s (by_place s (utf8_from 0 0 s))
    go (all_text x a) = subst (λ (u : Option ℕ). Means s (by_place s u)) (sym a) (record { good = s; part = []; is = sym (append-nil s); text = x; cut = inl refl; many = refl })
    go (bad-at k h x z a) = subst (λ (u : Option ℕ). Means s (by_place s u)) (sym (a ∙ ap Some (omega arith))) (bad_means s k h x z)

-- ---- both ways

pub allowed_all : (s : List ℕ) (m : ℕ) → (allowed_of s ≡ All m) ↔ Whole s m
allowed_all s m = (λ e. subst (Means s) e (means s), λ w. whole_all s m w)

pub allowed_bad : (s : List ℕ) (n k : ℕ) → (allowed_of s ≡ Bad n k) ↔ Broken s n k
allowed_bad s n k = (λ e. subst (Means s) e (means s), λ w. broken_bad s n k w)
