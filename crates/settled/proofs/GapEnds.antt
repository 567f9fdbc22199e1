-- A gap that is refused with 5 stays refused once the character behind its `/` has come whole, and one that ends at a character ends there, whatever follows that
-- character. Assumes nothing.
use Prim.Native.Nat.{ℕ, ◌+◌, ◌-◌, ◌<◌}
use native.Mathlib.Omega.{arith}
use mathlib.Core.Bool.{false, true}
use mathlib.Core.List.{List, [], ◌++◌, ◌∷◌, append_assoc}
use mathlib.Core.Path.{◌∙◌, ◌≡◌, ap, subst, sym}
use lib.Dec.{eqb}
use lib.ListN.{drop, get_or, length, length-append}
use lib.Seq.{drop-append-le}
use borrow.Author.Tests.{eq-eqb}
use Rattle.comments.proofs.GapLaws.{gap_behind}
use Rattle.comments.specs.Blocks.{Body}
use Rattle.comments.specs.Blocks.Body.{closes, nests, passes}
use Rattle.comments.specs.Gaps.{gap_of}
use Rattle.comments.specs.declared.gap.Gap.{Gap as Answer}
use Rattle.comments.specs.declared.gap.Gap.TheVariants as answer
use Rattle.gapped.proofs.Ends.{End, end_answers, gap_ends}
use Rattle.gapped.proofs.Ends.End.{clear, in_block, in_line, last, stray}
use Rattle.gapped.proofs.Exactly.{clear_exactly, five_exactly}
use Rattle.gapped.proofs.Passing.{gap_passed}
use Rattle.gapped.specs.Gap.{Clear, Gap}
use Rattle.gapped.specs.Gap.Gap.{none, space, line, block}
use Rattle.text.proofs.Choices.{either, lt_or_le}
use Rattle.text.proofs.Lists.{head_at}
use Rattle.text.proofs.Utf8Agree.{char_len_le, decode_encode}
use Rattle.text.specs.Refusals.{eof, unclosed_block_comment, unexpected_char}
use Rattle.text.specs.Utf8.{char_len, code_of, encode}
use Rattle.text.specs.declared.refusal.Refusal.{Refusal}
use Rattle.settled.proofs.CharEnds.{front_char, front_more, len_more}

-- ---- a gap is a gap, whatever follows

body_more : {s t : List ℕ} (v : List ℕ) → Body s t → Body (s ++ v) (t ++ v)
body_more v (closes e) = closes e
body_more v (nests e x y) = nests e (body_more v x) (body_more v y)
body_more v (passes e x) = passes e (body_more v x)

pub gap_more : {s t : List ℕ} (v : List ℕ) → Gap s t → Gap (s ++ v) (t ++ v)
gap_more v none = none
gap_more v (space {c} {s} {t} sc e g) = subst (λ (x : List ℕ). Gap x (t ++ v)) (sym (append_assoc (encode c) s v)) (space sc e (gap_more v g))
gap_more v (line {w} {s} {t} l g) = subst (λ (x : List ℕ). Gap (0x2f ∷ 0x2f ∷ x) (t ++ v)) (sym (append_assoc w (0x0a ∷ s) v)) (line l (gap_more v g))
gap_more v (block x g) = block (body_more v x) (gap_more v g)

-- ---- a gap that ends at a whole character

first_is : (t v : List ℕ) (a : ℕ) (u : List ℕ) → 0 < length t → t ++ v ≡ a ∷ u → (w : List ℕ) × (t ≡ a ∷ w)
first_is [] v a u h e = absurd (omega arith)
first_is (x ∷ w) v a u h e = (w, ap (λ (b : ℕ). b ∷ w) (ap (λ (s : List ℕ). get_or s 0 0) e))

clear_more : (t v : List ℕ) → 0 < char_len t → Clear t → Clear (t ++ v)
clear_more t v h c =
    let f = front_char t h in
    record {
      no_blank = λ k u sc b e. (let q : f.code ≡ k = sym (decode_encode f.code (f.rest ++ v) f.scalar) ∙ ap code_of (sym (front_more t v h f) ∙ e) ∙ decode_encode k u sc in
          c.no_blank k f.rest sc b (f.split ∙ ap (λ (x : ℕ). encode x ++ f.rest) q));
      no_slash = λ u e. (let w = first_is t v 0x2f u (omega (arith, char_len_le t)) e in c.no_slash w.0 w.1);
    }

pub gap_char : (s v : List ℕ) (g : ℕ) → gap_of s ≡ answer.Clear g → 0 < char_len (drop g s) → gap_of (s ++ v) ≡ answer.Clear g
gap_char s v g e h =
    let w = (clear_exactly s g).0 e in
    let same : drop g s ++ v ≡ drop g (s ++ v) = sym (drop-append-le g s v w.0) in
    (clear_exactly (s ++ v) g).1
    (omega (arith, w.0, length-append s v), (subst (Gap (s ++ v)) same (gap_more v w.1.0), subst Clear same (clear_more (drop g s) v h w.1.1)))

-- ---- 5 behind a `/`

-- the place of 5: behind a gap, a `/` and the character there
record Slashed (s : List ℕ) (r : Refusal) : Type 0 where
  next : ℕ
  rest : List ℕ
  gap : Gap s (0x2f ∷ next ∷ rest)
  no_line : next ≡ 0x2f → ⊥
  no_block : next ≡ 0x2a → ⊥
  is : r ≡ unexpected_char ((gap_passed gap).by + (1 + char_len (next ∷ rest)))

slashed : (s : List ℕ) (r : Refusal) → gap_of s ≡ answer.Refused r → r.number ≡ 5 → Slashed s r
slashed s r e n = let k = gap_ends s in go k.at k.says k.gap k.end (sym ((gap_passed k.gap).same ∙ ap (gap_behind (gap_passed k.gap).by) (end_answers k.end)) ∙ e)
  where
    go : (t : List ℕ) (a : Answer) (x : Gap s t) → End t a → gap_behind (gap_passed x).by a ≡ answer.Refused r → Slashed s r
    go t a x (clear c) q = let z : ◌≡◌ {A = ℕ} 0 1 = cc in absurd (omega arith)
    go t a x (in_line l) q = let z : ◌≡◌ {A = ℕ} 0 1 = cc in absurd (omega arith)
    go t a x (in_block {w} m) q = let z : unclosed_block_comment ((gap_passed x).by + length (0x2f ∷ 0x2a ∷ w)) ≡ r = cc in absurd (omega (arith, n, ap (λ (y : Refusal). y.number) z))
    go t a x (stray {b} {w} m k) q = record { next = b; rest = w; gap = x; no_line = m; no_block = k; is = cc }
    go t a x last q = let z : eof ((gap_passed x).by + 1) ≡ r = cc in absurd (omega (arith, n, ap (λ (y : Refusal). y.number) z))

pub slash_stays : (s v : List ℕ) (r : Refusal) → gap_of s ≡ answer.Refused r → r.number ≡ 5 → eqb (get_or s (r.place - 1) 0) 0x2f ≡ false → gap_of (s ++ v) ≡ answer.Refused r
slash_stays s v r e n o =
    let k = slashed s r e n in
    let x = gap_passed k.gap in
    let c : ℕ = char_len (k.next ∷ k.rest) in
    let at : r.place ≡ x.by + (1 + c) = ap (λ (y : Refusal). y.place) k.is in
    let slash : get_or s x.by 0 ≡ 0x2f = sym (head_at s x.by) ∙ ap (λ (t : List ℕ). get_or t 0 0) (sym x.rest) in
    let some : 0 < c =
    either (lt_or_le 0 c) (λ l. l)
    (λ l. let i : r.place - 1 ≡ x.by = omega arith in
    let z : true ≡ false = sym (eq-eqb (get_or s x.by 0) 0x2f slash) ∙ ap (λ (j : ℕ). eqb (get_or s j 0) 0x2f) (sym i) ∙ o in
    let y : ◌≡◌ {A = ℕ} 0 1 = cc in absurd (omega arith)) in
    let same = len_more (k.next ∷ k.rest) v some in
    (five_exactly (s ++ v) (x.by + (1 + c))).1
    (k.next, k.rest ++ v, (gap_more v k.gap, k.no_line, k.no_block), omega (arith, x.whole, same, length-append s v, length-append k.rest v))
    ∙ ap answer.Refused (sym k.is)
