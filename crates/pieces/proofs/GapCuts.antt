-- A gap and the fronts of a text: what a front of it says of the gap. Assumes nothing.
use Rattle.std.proofs.Common.{Some, None, Option}
use Prim.Native.Nat.{ℕ, ◌+◌, ◌<◌, ◌≤◌}
use native.Mathlib.Omega.{arith}
use mathlib.Core.Bool.{true, false}
use mathlib.Core.Logic.{inl}
use mathlib.Core.List.{List, [], ◌++◌, ◌∷◌, append_assoc, append-nil}
use mathlib.Core.Path.{◌≡◌, ap, ap₂, refl, subst, sym, ◌∙◌}
use lib.Dec.{eqb}
use lib.ListN.{drop, get_or, length, length-append, length-drop, take, take-append-drop}
use lib.Seq.{drop-append-le}
use Rattle.comments.specs.Blocks.{Body, mark_of, Neither}
use Rattle.comments.specs.Blocks.Body.{closes, nests, passes}
use Rattle.comments.specs.Gaps.{behind_slash, block_item, comment_of, gap_of, item_of, line_item}
use Rattle.comments.specs.Blocks.{block_end}
use Rattle.comments.specs.Lines.{line_end}
use Rattle.comments.specs.declared.gap.Item.TheVariants.{Blank, Other, Unexpected}
use Rattle.comments.proofs.GapWindow.{gap_window_by}
use Rattle.comments.specs.declared.gap.Gap.{Gap as Answer}
use Rattle.comments.specs.declared.gap.Gap.TheVariants as answer
use Rattle.gapped.proofs.Exactly.{clear_exactly}
use Rattle.gapped.specs.Gap.{Clear, Gap}
use Rattle.gapped.specs.Gap.Gap.{none, space, line, block}
use borrow.Author.Tests.{lt-ltb, ne_eqb, lt-leb}
use Rattle.text.proofs.BlankLaws.{width_at}
use Rattle.text.proofs.Choices.{and_false, bool_cases, either, lt_or_le}
use Rattle.arriving.specs.Arrivals.Passing.{pass}
use Rattle.pieces.specs.Bars.{bar_by, bar_of}
use Rattle.xid.proofs.Ranges.{above}
use Rattle.text.specs.Classes.{blank, blank1, blank2, blank3, blank_width, within}
use Rattle.text.specs.Utf8.{char_len, encode}

-- ---- what stands behind a gap may be exchanged

-- s is h and then t, and h is the body of a comment before anything
record BodySwapped (s t : List ℕ) : Type 0 where
  first : ℕ
  second : ℕ
  rest : List ℕ
  split : s ≡ first ∷ second ∷ rest ++ t
  again : (t' : List ℕ) → Body (first ∷ second ∷ rest ++ t') t'

heads : {a b : ℕ} {s t : List ℕ} → ◌≡◌ {A = List ℕ} (a ∷ s) (b ∷ t) → a ≡ b
heads e = ap (λ (l : List ℕ). get_or l 0 0) e

tails : {a b : ℕ} {s t : List ℕ} → ◌≡◌ {A = List ℕ} (a ∷ s) (b ∷ t) → s ≡ t
tails e = ap (drop 1) e

body_swap : {s t : List ℕ} → Body s t → BodySwapped s t
body_swap (closes {a} {b} {t} e) = record { first = a; second = b; rest = []; split = refl; again = λ t'. closes e }
body_swap (nests {a} {b} {s} {u} {t} e x y) =
    let p = body_swap x in
    let q = body_swap y in
    let h : List ℕ = p.first ∷ p.second ∷ p.rest in
    let k : List ℕ = q.first ∷ q.second ∷ q.rest in
    record {
      first = a;
      second = b;
      rest = h ++ k;
      split = ap (λ (l : List ℕ). a ∷ b ∷ l) (p.split ∙ ap (λ (l : List ℕ). h ++ l) q.split ∙ sym (append_assoc h k t));
      again = λ t'. subst (λ (l : List ℕ). Body (a ∷ b ∷ l) t') (sym (append_assoc h k t')) (nests e (p.again (k ++ t')) (q.again t'));
    }
body_swap (passes {a} {b} {s} {t} e x) =
    let p = body_swap x in
    let same : b ≡ p.first = heads p.split in
    record {
      first = a;
      second = p.first;
      rest = p.second ∷ p.rest;
      split = ap (λ (l : List ℕ). a ∷ l) p.split;
      again = λ t'. passes (subst (λ (c : ℕ). mark_of a c ≡ Neither) same e) (p.again t');
    }

pub record Swapped (s t : List ℕ) : Type 0 where
  pub front : List ℕ
  pub split : s ≡ front ++ t
  pub again : (t' : List ℕ) → Gap (front ++ t') t'

blank_lf : blank 0x0a ≡ true
unfolding blank within
blank_lf = refl

-- what is clear begins with no LF
clear_no_lf : (t : List ℕ) → Clear t → (v : List ℕ) → t ≡ 0x0a ∷ v → ⊥
unfolding encode
clear_no_lf t c v e = c.no_blank 0x0a v (omega arith, inl (omega arith)) blank_lf e

-- a gap is one before anything, unless an LF stands behind it, which ends a line
pub swap : {s t : List ℕ} → Gap s t → ((v : List ℕ) → t ≡ 0x0a ∷ v → ⊥) → Swapped s t
unfolding encode
swap none c = record { front = []; split = refl; again = λ t'. none }
swap (space {c} {s} {t} sc e g) k =
    let p = swap g k in
    record {
      front = encode c ++ p.front;
      split = ap (λ (l : List ℕ). encode c ++ l) p.split ∙ sym (append_assoc (encode c) p.front t);
      again = λ t'. subst (λ (l : List ℕ). Gap l t') (sym (append_assoc (encode c) p.front t')) (space sc e (p.again t'));
    }
swap (line {w} {s} {t} l g) c = let p = swap g c in go p.front p.split p.again
  where
    go : (f : List ℕ) → 0x0a ∷ s ≡ f ++ t → ((t' : List ℕ) → Gap (f ++ t') t') → Swapped (0x2f ∷ 0x2f ∷ (w ++ 0x0a ∷ s)) t
    go [] e again = absurd (c s (sym e))
    go (a ∷ f) e again =
        let same : 0x0a ≡ a = heads e in
        let rest : s ≡ f ++ t = tails e in
        record {
          front = 0x2f ∷ 0x2f ∷ (w ++ 0x0a ∷ f);
          split = ap (λ (x : List ℕ). 0x2f ∷ 0x2f ∷ x) (ap (λ (x : List ℕ). w ++ 0x0a ∷ x) rest ∙ sym (append_assoc w (0x0a ∷ f) t));
          again = λ t'. subst (λ (x : List ℕ). Gap (0x2f ∷ 0x2f ∷ x) t') (sym (append_assoc w (0x0a ∷ f) t')) (line l (subst (λ (b : ℕ). Gap (b ∷ f ++ t') t') (sym same) (again t')));
        }
swap (block {s} {u} {t} b g) c =
    let p = body_swap b in
    let q = swap g c in
    let h : List ℕ = p.first ∷ p.second ∷ p.rest in
    record {
      front = 0x2f ∷ 0x2a ∷ (h ++ q.front);
      split = ap (λ (x : List ℕ). 0x2f ∷ 0x2a ∷ x) (p.split ∙ ap (λ (x : List ℕ). h ++ x) q.split ∙ sym (append_assoc h q.front t));
      again = λ t'. subst (λ (x : List ℕ). Gap (0x2f ∷ 0x2a ∷ x) t') (sym (append_assoc h q.front t')) (block (p.again (q.front ++ t')) (q.again t'));
    }

-- what stands before the same end is the same
cut_same : (x y z : List ℕ) → x ++ z ≡ y ++ z → x ≡ y
cut_same x y z e =
    let l : length x ≡ length y = omega (arith, ap length e, length-append x z, length-append y z) in
    sym (front_of x z) ∙ ap₂ take l e ∙ front_of y z
  where
    front_of : (x z : List ℕ) → take (length x) (x ++ z) ≡ x
    front_of [] z = refl
    front_of (a ∷ x) z = ap {B = List ℕ} (λ (l : List ℕ). a ∷ l) (front_of x z)

-- a front of what is clear is clear
clear_front : (t u : List ℕ) → Clear (t ++ u) → Clear t
clear_front t u c = record {
  no_blank = λ k v sc b e. c.no_blank k (v ++ u) sc b (ap (λ (x : List ℕ). x ++ u) e ∙ append_assoc (encode k) v u);
  no_slash = λ v e. c.no_slash (v ++ u) (ap (λ (x : List ℕ). x ++ u) e);
}

-- a gap that ends in a front of a text is the front's
pub front_clear : (u v : List ℕ) (k : ℕ) → gap_of (u ++ v) ≡ answer.Clear k → k ≤ length u → gap_of u ≡ answer.Clear k
front_clear u v k h le =
    let w = ((clear_exactly (u ++ v) k).0 h).1 in
    let t : List ℕ = drop k u in
    let split : drop k (u ++ v) ≡ t ++ v = drop-append-le k u v le in
    let p = swap w.0 (clear_no_lf (drop k (u ++ v)) w.1) in
    let same : take k u ++ (t ++ v) ≡ p.front ++ (t ++ v) =
    sym (append_assoc (take k u) t v) ∙ ap (λ (x : List ℕ). x ++ v) (take-append-drop k u) ∙ p.split ∙ ap (λ (x : List ℕ). p.front ++ x) split in
    let g : Gap (p.front ++ t) t = p.again t in
    let f : p.front ≡ take k u = sym (cut_same (take k u) p.front (t ++ v) same) in
    let whole : p.front ++ t ≡ u = ap (λ (x : List ℕ). x ++ t) f ∙ take-append-drop k u in
    (clear_exactly u k).1 (le, (subst (λ (x : List ℕ). Gap x t) whole g, clear_front t v (subst Clear split w.1)))

-- ---- what stops a gap

-- neither whitespace nor a `/` at the front
plain_other : (a : ℕ) (s : List ℕ) → width_at (a ∷ s) ≡ 0 → eqb a 0x2f ≡ false → item_of (a ∷ s) ≡ Other
unfolding item_of comment_of
plain_other a s w e = rw (w, e)

-- what a `/` begins is told
line_told : (e : Option ℕ) → line_item e ≡ Other → ⊥
line_told (Some n) h = let z : ◌≡◌ {A = ℕ} 0 1 = cc in omega arith
line_told None h = let z : ◌≡◌ {A = ℕ} 0 1 = cc in omega arith

block_told : (e : Option ℕ) → block_item e ≡ Other → ⊥
block_told (Some n) h = let z : ◌≡◌ {A = ℕ} 0 1 = cc in omega arith
block_told None h = let z : ◌≡◌ {A = ℕ} 0 1 = cc in omega arith

slash_told : (s : List ℕ) → behind_slash s ≡ Other → ⊥
unfolding behind_slash
slash_told [] h = let z : ◌≡◌ {A = ℕ} 0 1 = cc in omega arith
slash_told (b ∷ s) h =
    either (bool_cases (eqb b 0x2f)) (λ t. line_told (line_end s) (rw t at h))
    (λ t. either (bool_cases (eqb b 0x2a)) (λ q. block_told (block_end s) (rw (t, q) at h))
    (λ q. let y : Unexpected (1 + char_len (b ∷ s)) ≡ Other = rw (t, q) at h in let z : ◌≡◌ {A = ℕ} 0 1 = cc in omega arith))

other_is : (a : ℕ) (s : List ℕ) → item_of (a ∷ s) ≡ Other → (width_at (a ∷ s) ≡ 0) × (eqb a 0x2f ≡ false)
unfolding item_of comment_of
other_is a s h =
    either (lt_or_le 0 (width_at (a ∷ s)))
    (λ p. let q : Blank (width_at (a ∷ s)) ≡ Other = rw (lt-ltb 0 (width_at (a ∷ s)) p) at h in let z : ◌≡◌ {A = ℕ} 0 1 = cc in absurd (omega arith))
    (λ p. let w : width_at (a ∷ s) ≡ 0 = omega arith in
    either (bool_cases (eqb a 0x2f))
    (λ t. absurd (slash_told s (rw (w, t) at h)))
    (λ t. (w, t)))

-- three bytes decide it
pub three_other : (z v : List ℕ) → 3 ≤ length z → item_of z ≡ Other → item_of (z ++ v) ≡ Other
three_other [] v l h = absurd (omega arith)
three_other (a ∷ []) v l h = absurd (omega arith)
three_other (a ∷ b ∷ []) v l h = absurd (omega arith)
three_other (a ∷ b ∷ c ∷ z) v l h = let k = other_is a (b ∷ c ∷ z) h in plain_other a (b ∷ c ∷ z ++ v) k.0 k.1

-- no whitespace of one byte, nor of two
one_not : (a b c : ℕ) → blank_width a b c ≡ 0 → blank1 a ≡ false
unfolding blank_width
one_not a b c h = either (bool_cases (blank1 a)) (λ t. let z : ◌≡◌ {A = ℕ} 1 0 = rw t at h in absurd (omega arith)) (λ t. t)

two_not : (a b c : ℕ) → blank_width a b c ≡ 0 → blank2 a b ≡ false
unfolding blank_width
two_not a b c h =
    either (bool_cases (blank2 a b)) (λ t. let z : ◌≡◌ {A = ℕ} 2 0 = rw (one_not a b c h, t) at h in absurd (omega arith)) (λ t. t)

width_not : (a b c : ℕ) → blank1 a ≡ false → blank2 a b ≡ false → blank3 a b c ≡ false → blank_width a b c ≡ 0
unfolding blank_width
width_not a b c x y z = rw (x, y, z)

lead_two : (a d : ℕ) → 0xC0 ≤ d → blank2 a d ≡ false
unfolding blank2
lead_two a d e = rw (ne_eqb d 0x85 (λ q. omega arith)) (and_false (eqb a 0xc2))

lead_three : (a d c : ℕ) → 0xC0 ≤ d → blank3 a d c ≡ false
unfolding blank3
lead_three a d c e = rw (ne_eqb d 0x80 (λ q. omega arith)) (and_false (eqb a 0xe2))

lead_last : (a b d : ℕ) → 0xC0 ≤ d → blank3 a b d ≡ false
unfolding blank3
lead_last a b d e = rw (above 0x8e 0x8f d (omega arith), above 0xa8 0xa9 d (omega arith), and_false (eqb b 0x80)) (and_false (eqb a 0xe2))

-- a byte that begins a character of two or more makes no whitespace with what stands before it
pub lead_other : (z : List ℕ) (d : ℕ) (v : List ℕ) → 0 < length z → 0xC0 ≤ d → item_of z ≡ Other → item_of (z ++ d ∷ v) ≡ Other
lead_other [] d v l e h = absurd (omega arith)
lead_other (a ∷ []) d v l e h =
    let k = other_is a [] h in
    plain_other a (d ∷ v) (width_not a d (get_or v 0 0) (one_not a 0 0 k.0) (lead_two a d e) (lead_three a d (get_or v 0 0) e)) k.1
lead_other (a ∷ b ∷ []) d v l e h =
    let k = other_is a (b ∷ []) h in
    plain_other a (b ∷ d ∷ v) (width_not a b d (one_not a b 0 k.0) (two_not a b 0 k.0) (lead_last a b d e)) k.1
lead_other (a ∷ b ∷ c ∷ z) d v l e h = three_other (a ∷ b ∷ c ∷ z) (d ∷ v) (omega arith) h

-- ---- a gap that no front of a text ends

-- a front u of a text whose gap does not end in it: of what u leaves behind its own gap there are no three bytes
pub short_front : (u v : List ℕ) (g : ℕ) → gap_of u ≡ answer.Clear g → (gap_of (u ++ v) ≡ answer.Clear g → ⊥) → length u < g + 3
short_front u v g h far =
    either (lt_or_le (length u) (g + 3)) (λ l. l)
    (λ l. let z : List ℕ = drop g u in
    let lz : 3 ≤ length z = omega (arith, length-drop g u) in
    let o : item_of (z ++ []) ≡ Other → item_of (z ++ v) ≡ Other = λ e. three_other z v lz (ap item_of (sym (append-nil z)) ∙ e) in
    absurd (far (gap_window_by u [] v g (ap gap_of (append-nil u) ∙ h) (omega arith) o)))

-- such a front is not barred
pub front_free : (at : ℕ) (u v : List ℕ) (b : ℕ) → ((g : ℕ) → g < length u → gap_of (u ++ v) ≡ answer.Clear g → ⊥) → bar_of at u b ≡ pass
unfolding bar_of
front_free at u v b far = go (gap_of u) refl
  where
    go : (a : Answer) → gap_of u ≡ a → bar_by at u a ≡ pass
    go (answer.InLine n) e = refl
    go (answer.Refused r) e = refl
    go (answer.Clear g) e =
        either (lt_or_le g (length u))
        (λ l. let s = short_front u v g e (far g l) in rw (lt-leb (g + 4096) (length u) (omega arith)))
        (λ l. rw (lt-leb (g + 4096) (length u) (omega arith)))
