-- Crate `comments` passes exactly the gap of specs/Gap.antt, and refuses exactly where document 01 says, over any bytes.
--     clear-exactly    the whole gap is passed, n bytes of it
--     line-exactly     the text ends inside a line comment
--     four-exactly     4: block comment not closed, at the end of the text
--     five-exactly     5: unexpected character behind a `/`, behind that character
--     six-exactly      6: the text ends behind a `/`
-- Assumes nothing.
use Prim.Native.Nat.{ℕ, ◌+◌, ◌≤◌}
use native.Mathlib.Omega.{arith}
use mathlib.Core.List.{List, ◌∷◌}
use mathlib.Core.Logic.{◌↔◌}
use mathlib.Core.Path.{◌≡◌, ◌∙◌, ap, subst, sym}
use lib.ListN.{drop, length, length-drop}
use Rattle.comments.proofs.GapLaws.{gap_behind}
use Rattle.comments.specs.Gaps.{gap_of}
use Rattle.comments.specs.declared.gap.Gap.{Gap as Answer}
use Rattle.comments.specs.declared.gap.Gap.TheVariants as answer
use Rattle.gapped.proofs.Ends.{End, end_answers, gap_ends}
use Rattle.gapped.proofs.Ends.End.{clear, in_block, in_line, last, stray}
use Rattle.gapped.proofs.Passing.{gap_passed}
use Rattle.gapped.specs.Gap.{Behind, Gap, LastSlash, OpenBlock, OpenLine, StraySlash, Whole}
use Rattle.text.specs.Refusals.{eof, refusal, unclosed_block_comment, unexpected_char}
use Rattle.text.specs.Utf8.{char_len}
use Rattle.text.specs.declared.refusal.Refusal.{Refusal}

-- ---- from a gap and its end to the answer

-- what is answered at the end of a gap, seen from its front
moved : {s t : List ℕ} {g : Answer} (x : Gap s t) → End t g → gap_of s ≡ gap_behind (gap_passed x).by g
moved x e = (gap_passed x).same ∙ ap (gap_behind (gap_passed x).by) (end_answers e)

module _ (s : List ℕ) where
  whole_clear : (n : ℕ) → n ≤ length s → Whole s (drop n s) → gap_of s ≡ answer.Clear n
  whole_clear n h w = moved w.0 (clear w.1) ∙ ap answer.Clear (omega (arith, (gap_passed w.0).whole, length-drop n s))

  line_says : OpenLine s → gap_of s ≡ answer.InLine (length s)
  line_says (w, l, g) = moved g (in_line l) ∙ ap answer.InLine (gap_passed g).whole

  block_says : OpenBlock s → gap_of s ≡ answer.Refused (unclosed_block_comment (length s))
  block_says (w, g, n) = moved g (in_block n) ∙ ap (λ (p : ℕ). answer.Refused (unclosed_block_comment p)) (gap_passed g).whole

  stray_says : (b : ℕ) (w : List ℕ) (p : ℕ) → StraySlash s b w → Behind s b w p → gap_of s ≡ answer.Refused (unexpected_char p)
  stray_says b w p (g, n, m) h = moved g (stray n m) ∙ ap (λ (p : ℕ). answer.Refused (unexpected_char p)) (omega (arith, h, (gap_passed g).whole))

  last_says : LastSlash s → gap_of s ≡ answer.Refused (eof (length s))
  last_says g = moved g last ∙ ap (λ (p : ℕ). answer.Refused (eof p)) (gap_passed g).whole

-- ---- from the answer to the gap and its end

-- the five ways in which a gap is answered
data Said (s : List ℕ) (g : Answer) : Type 0 where
  says_clear : (n : ℕ) → n ≤ length s → Whole s (drop n s) → g ≡ answer.Clear n → Said s g
  says_line : OpenLine s → g ≡ answer.InLine (length s) → Said s g
  says_block : OpenBlock s → g ≡ answer.Refused (unclosed_block_comment (length s)) → Said s g
  says_stray : (b : ℕ) (w : List ℕ) (p : ℕ) → StraySlash s b w → Behind s b w p → g ≡ answer.Refused (unexpected_char p) → Said s g
  says_last : LastSlash s → g ≡ answer.Refused (eof (length s)) → Said s g

by_end : (s t : List ℕ) (g : Answer) → Gap s t → End t g → Said s (gap_of s)
by_end s t g x (clear c) =
    let p = gap_passed x in
    let w : Whole s (drop p.by s) = subst (Whole s) p.rest (x, c) in
    let h : p.by ≤ length s = omega (arith, p.whole) in
    says_clear p.by h w (whole_clear s p.by h w)
by_end s t g x (in_line {w} l) = says_line (w, l, x) (line_says s (w, l, x))
by_end s t g x (in_block {w} n) = says_block (w, x, n) (block_says s (w, x, n))
by_end s t g x (stray {b} {w} n m) =
    let p = gap_passed x in
    let h : Behind s b w (p.by + 1 + char_len (b ∷ w)) = omega (arith, p.whole) in
    says_stray b w (p.by + 1 + char_len (b ∷ w)) (x, n, m) h (stray_says s b w (p.by + 1 + char_len (b ∷ w)) (x, n, m) h)
by_end s t g x last = says_last x (last_says s x)

said : (s : List ℕ) → Said s (gap_of s)
said s = let r = gap_ends s in by_end s r.at r.says r.gap r.end

-- answers of two kinds are apart
refusals : (n m j i : ℕ) → answer.Refused (refusal n j) ≡ answer.Refused (refusal m i) → (n ≡ m) × (j ≡ i)
refusals n m j i e = let r : refusal n j ≡ refusal m i = cc in (ap (λ (x : Refusal). x.number) r, ap (λ (x : Refusal). x.place) r)

clear_refused : (n : ℕ) (r : Refusal) → answer.Clear n ≡ answer.Refused r → {X : Type 0} → X
clear_refused n r e = let z : ◌≡◌ {A = ℕ} 0 1 = cc in absurd (omega arith)

line_refused : (n : ℕ) (r : Refusal) → answer.InLine n ≡ answer.Refused r → {X : Type 0} → X
line_refused n r e = let z : ◌≡◌ {A = ℕ} 0 1 = cc in absurd (omega arith)

clear_line : (n m : ℕ) → answer.Clear n ≡ answer.InLine m → {X : Type 0} → X
clear_line n m e = let z : ◌≡◌ {A = ℕ} 0 1 = cc in absurd (omega arith)

other_refused : (n m j i : ℕ) → (n ≡ m → ⊥) → answer.Refused (refusal n j) ≡ answer.Refused (refusal m i) → {X : Type 0} → X
other_refused n m j i d e = absurd (d (refusals n m j i e).0)

-- ---- exactly

-- The gap is passed, n bytes of it, exactly where it is whole and behind it stands what is left of s.
pub clear_exactly : (s : List ℕ) (n : ℕ) → (gap_of s ≡ answer.Clear n) ↔ ((n ≤ length s) × Whole s (drop n s))
clear_exactly s n = (λ e. go (said s) e, λ h. whole_clear s n h.0 h.1)
  where
    go : Said s (gap_of s) → gap_of s ≡ answer.Clear n → (n ≤ length s) × Whole s (drop n s)
    go (says_clear k h w f) e = let q : k ≡ n = cc in subst (λ (m : ℕ). (m ≤ length s) × Whole s (drop m s)) q (h, w)
    go (says_line x f) e = clear_line n (length s) (sym e ∙ f)
    go (says_block x f) e = clear_refused n _ (sym e ∙ f)
    go (says_stray b w p x h f) e = clear_refused n _ (sym e ∙ f)
    go (says_last x f) e = clear_refused n _ (sym e ∙ f)

-- It ends inside a line comment exactly where the text leaves one open, and then at the text's end.
pub line_exactly : (s : List ℕ) (n : ℕ) → (gap_of s ≡ answer.InLine n) ↔ ((n ≡ length s) × OpenLine s)
line_exactly s n = (λ e. go (said s) e, λ h. line_says s h.1 ∙ ap answer.InLine (sym h.0))
  where
    go : Said s (gap_of s) → gap_of s ≡ answer.InLine n → (n ≡ length s) × OpenLine s
    go (says_clear k h w f) e = clear_line k n (sym f ∙ e)
    go (says_line x f) e = (cc, x)
    go (says_block x f) e = line_refused n _ (sym e ∙ f)
    go (says_stray b w p x h f) e = line_refused n _ (sym e ∙ f)
    go (says_last x f) e = line_refused n _ (sym e ∙ f)

-- 4 is given exactly where a block comment is not closed, and then at the text's end.
pub four_exactly : (s : List ℕ) (p : ℕ) → (gap_of s ≡ answer.Refused (unclosed_block_comment p)) ↔ ((p ≡ length s) × OpenBlock s)
four_exactly s p = (λ e. go (said s) e, λ h. block_says s h.1 ∙ ap (λ (n : ℕ). answer.Refused (unclosed_block_comment n)) (sym h.0))
  where
    go : Said s (gap_of s) → gap_of s ≡ answer.Refused (unclosed_block_comment p) → (p ≡ length s) × OpenBlock s
    go (says_clear k h w f) e = clear_refused k _ (sym f ∙ e)
    go (says_line x f) e = line_refused (length s) _ (sym f ∙ e)
    go (says_block x f) e = ((refusals 4 4 p (length s) (sym e ∙ f)).1, x)
    go (says_stray b w k x h f) e = other_refused 4 5 p k (λ q. omega arith) (sym e ∙ f)
    go (says_last x f) e = other_refused 4 6 p (length s) (λ q. omega arith) (sym e ∙ f)

-- 5 is given exactly where neither `/` nor `*` stands behind a `/`, and then behind the character that stands there.
pub five_exactly : (s : List ℕ) (p : ℕ) → (gap_of s ≡ answer.Refused (unexpected_char p)) ↔ ((b : ℕ) × (w : List ℕ) × StraySlash s b w × Behind s b w p)
five_exactly s p = (λ e. go (said s) e, λ h. stray_says s h.0 h.1 p h.2 h.3)
  where
    go : Said s (gap_of s) → gap_of s ≡ answer.Refused (unexpected_char p) → (b : ℕ) × (w : List ℕ) × StraySlash s b w × Behind s b w p
    go (says_clear k h w f) e = clear_refused k _ (sym f ∙ e)
    go (says_line x f) e = line_refused (length s) _ (sym f ∙ e)
    go (says_block x f) e = other_refused 5 4 p (length s) (λ q. omega arith) (sym e ∙ f)
    go (says_stray b w k x h f) e = (b, w, x, subst (Behind s b w) (refusals 5 5 k p (sym f ∙ e)).1 h)
    go (says_last x f) e = other_refused 5 6 p (length s) (λ q. omega arith) (sym e ∙ f)

-- 6 is given exactly where a `/` is the text's last byte, and then at the text's end.
pub six_exactly : (s : List ℕ) (p : ℕ) → (gap_of s ≡ answer.Refused (eof p)) ↔ ((p ≡ length s) × LastSlash s)
six_exactly s p = (λ e. go (said s) e, λ h. last_says s h.1 ∙ ap (λ (n : ℕ). answer.Refused (eof n)) (sym h.0))
  where
    go : Said s (gap_of s) → gap_of s ≡ answer.Refused (eof p) → (p ≡ length s) × LastSlash s
    go (says_clear k h w f) e = clear_refused k _ (sym f ∙ e)
    go (says_line x f) e = line_refused (length s) _ (sym f ∙ e)
    go (says_block x f) e = other_refused 6 4 p (length s) (λ q. omega arith) (sym e ∙ f)
    go (says_stray b w k x h f) e = other_refused 6 5 p k (λ q. omega arith) (sym e ∙ f)
    go (says_last x f) e = ((refusals 6 6 p (length s) (sym e ∙ f)).1, x)
