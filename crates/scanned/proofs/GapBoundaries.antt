-- A gap ends between two characters: where it stands in UTF-8, UTF-8 stands behind it (`gap-cut`). Assumes nothing.
use Rattle.std.proofs.Common.{Some, None, Option}
use Prim.Native.Nat.{ℕ, zero, suc, pred, ◌+◌, ◌<◌, ◌≤◌}
use native.Mathlib.Omega.{arith}
use mathlib.Core.Bool.{Bool, true, false, cond}
use mathlib.Core.List.{List, [], ◌∷◌, ◌++◌}
use mathlib.Core.Path.{◌≡◌, ◌∙◌, ap, refl, subst, sym}
use lib.Dec.{eqb, ltb}
use lib.ListN.{drop, get_or, length, length-drop}
use lib.Seq.{drop-append_seam, drop-drop, drop-length, get_or-drop}
use borrow.Author.Tests.{eqb-true, ltb-true}
use Rattle.text.proofs.BlankLaws.{blank_of_char, width_at}
use Rattle.text.proofs.Choices.{chosen, cond_cases}
use Rattle.text.proofs.ClassLaws.{blank_le}
use Rattle.text.specs.Classes.{blank}
use Rattle.text.specs.Utf8.{Encoded, encode, encoded_len}
use Rattle.text.specs.Utf8.Encoded.{ends, next}
use Rattle.strings.proofs.PieceLaws.{encode_length}
use Rattle.comments.proofs.GapLaws.{gap_step, item_sized, on_blank, Sized}
use Rattle.comments.proofs.Nesting.{ends_body}
use Rattle.comments.specs.Blocks.{Body, Mark, block_end, mark_of}
use Rattle.comments.specs.Blocks.Body.{closes, nests, passes}
use Rattle.comments.specs.Blocks.Mark.{Closes, Neither, Opens}
use Rattle.comments.specs.Gaps.{behind_slash, block_item, by_item, comment_of, gap_from, gap_of, item_of, line_item}
use Rattle.comments.specs.Lines.{line_end, line_from}
use Rattle.comments.specs.declared.gap.Gap.{Gap}
use Rattle.comments.specs.declared.gap.Gap.TheVariants.{Clear, InLine, Refused}
use Rattle.comments.specs.declared.gap.Item.{Item}
use Rattle.comments.specs.declared.gap.Item.TheVariants.{Blank, BlockOpen, Ended, LineOpen, Other, Unexpected}
use Rattle.scanned.proofs.Boundaries.{cut_at, cut_behind}

-- ---- whitespace

-- UTF-8 stands behind a whitespace character
blank_cut : {s : List ℕ} → Encoded s → (n : ℕ) → width_at s ≡ n → 0 < n → Encoded (drop n s)
blank_cut ends n h l = absurd (omega (arith, h, blank_le []))
blank_cut (next c {s} sc e) n h l =
    let w : cond (blank c) (encoded_len c) 0 ≡ n = sym (blank_of_char c s sc) ∙ h in
    let k : encoded_len c ≡ n = sym (chosen (blank c) (encoded_len c) (omega arith)).1 ∙ w in
    let z : length (encode c) ≡ n = encode_length c ∙ k in
    subst (λ (x : ℕ). Encoded (drop x (encode c ++ s))) z (subst Encoded (sym (drop-append_seam (encode c) s)) e)

-- ---- comments

-- a line comment ends at a LF
line_lf : (s : List ℕ) (at k : ℕ) → line_from s at ≡ Some k → (n : ℕ) × (k ≡ at + n) × (get_or s n 0 ≡ 0x0a)
unfolding line_from
line_lf [] at k h = let z : ◌≡◌ {A = ℕ} 0 1 = cc in absurd (omega arith)
line_lf (a ∷ s) at k h = go (eqb a 0x0a) refl h (line_lf s (at + 1) k)
  where
    go : (t : Bool) → eqb a 0x0a ≡ t → ◌≡◌ {A = Option ℕ} (cond t (Some at) (line_from s (at + 1))) (Some k)
        → (line_from s (at + 1) ≡ Some k → (n : ℕ) × (k ≡ at + 1 + n) × (get_or s n 0 ≡ 0x0a)) → (n : ℕ) × (k ≡ at + n) × (get_or (a ∷ s) n 0 ≡ 0x0a)
    go true e h f = let z : at ≡ k = cc in (0, omega arith, eqb-true a 0x0a e)
    go false e h f = let r = f h in (suc r.0, omega (arith, r.1), r.2)

-- a mark that closes ends with a slash
closes_slash : (a b : ℕ) → mark_of a b ≡ Closes → b ≡ 0x2f
unfolding mark_of
closes_slash a b =
    let P : Mark → Type 0 = λ m. m ≡ Closes → b ≡ 0x2f in
    let none : Neither ≡ Closes → b ≡ 0x2f = λ h. (let z : ◌≡◌ {A = ℕ} 0 1 = cc in absurd (omega arith)) in
    cond_cases P (eqb a 0x2f) _ _
    (λ e. cond_cases P (eqb b 0x2a) Opens Neither (λ f h. let z : ◌≡◌ {A = ℕ} 0 1 = cc in absurd (omega arith)) (λ f. none))
    (λ e. cond_cases P (eqb a 0x2a) _ _ (λ f. cond_cases P (eqb b 0x2f) Closes Neither (λ g h. eqb-true b 0x2f g) (λ g. none)) (λ f. none))

-- and so does a block comment
body_slash : {s t : List ℕ} → Body s t → (n : ℕ) × (n < length s) × (t ≡ drop (n + 1) s) × (get_or s n 0 ≡ 0x2f)
body_slash (closes {a} {b} {t} m) = (1, omega arith, refl, closes_slash a b m)
body_slash (nests {a} {b} {s} {u} {t} m x y) =
    let p = body_slash x in
    let q = body_slash y in
    let n = p.0 + 1 + q.0 in
    let i : p.0 + 1 + (q.0 + 1) ≡ n + 1 = omega arith in
    let j : suc (suc n) + 1 ≡ suc (suc (n + 1)) = omega arith in (
      suc (suc n),
      omega (arith, p.1, q.1, ap length p.2, length-drop (p.0 + 1) s),
      q.2 ∙ ap (drop (q.0 + 1)) p.2 ∙ drop-drop (q.0 + 1) (p.0 + 1) s ∙ ap (λ (x : ℕ). drop x s) i ∙ ap (λ (x : ℕ). drop x (a ∷ b ∷ s)) (sym j),
      sym (get_or-drop (p.0 + 1) s q.0 0) ∙ ap (λ (x : List ℕ). get_or x q.0 0) (sym p.2) ∙ q.3,
    )
body_slash (passes {a} {b} {s} {t} m x) =
    let p = body_slash x in
    let j : suc p.0 + 1 ≡ suc (p.0 + 1) = omega arith in
    (suc p.0, omega (arith, p.1), p.2 ∙ ap (λ (x : ℕ). drop x (a ∷ b ∷ s)) (sym j), p.3)

-- an item that is passed leaves UTF-8 behind it
abbrev Leaves : List ℕ → Item → Type 0
Leaves s (Blank n) = Encoded (drop n s)
Leaves s LineOpen = Unit {0}
Leaves s BlockOpen = Unit {0}
Leaves s (Unexpected n) = Unit {0}
Leaves s Ended = Unit {0}
Leaves s Other = Unit {0}

-- a line comment does
line_leaves : (a b : ℕ) (s : List ℕ) (r : Option ℕ) → Encoded (a ∷ b ∷ s) → line_from s 0 ≡ r → Leaves (a ∷ b ∷ s) (line_item r)
line_leaves a b s (Some k) e h =
    let f = line_lf s 0 k h in
    let z : k + 2 ≡ suc (suc f.0) = omega (arith, f.1) in
    rw z (cut_at (a ∷ b ∷ s) (suc (suc f.0)) e (omega (arith, f.2)))
line_leaves a b s None e h = tt

-- a block comment does
block_leaves : (a b : ℕ) (s : List ℕ) (r : Option ℕ) → Encoded (a ∷ b ∷ s) → block_end s ≡ r → Leaves (a ∷ b ∷ s) (block_item r)
block_leaves a b s (Some k) e h =
    let f = body_slash (ends_body s k h) in
    let n = suc (suc f.0) in
    let d : Encoded (drop (n + 1) (a ∷ b ∷ s)) = cut_behind (a ∷ b ∷ s) n e (omega (arith, f.1)) (omega (arith, f.3)) in
    let i : n + 1 ≡ suc (suc (f.0 + 1)) = omega arith in
    let j : k + 2 ≡ suc (suc k) = omega arith in
    rw j (subst Encoded (ap (λ (x : ℕ). drop x (a ∷ b ∷ s)) i ∙ sym f.2) d)
block_leaves a b s None e h = tt

comment_leaves : (s : List ℕ) → Encoded s → Leaves s (comment_of s)
unfolding comment_of behind_slash line_end
comment_leaves [] e = tt
comment_leaves (a ∷ []) e = cond_cases (Leaves (a ∷ [])) (eqb a 0x2f) _ _ (λ q. tt) (λ q. tt)
comment_leaves (a ∷ b ∷ s) e =
    let P = Leaves (a ∷ b ∷ s) in
    cond_cases P (eqb a 0x2f) _ _
    (λ q. cond_cases P (eqb b 0x2f) _ _ (λ r. line_leaves a b s (line_from s 0) e refl)
    (λ r. cond_cases P (eqb b 0x2a) _ _ (λ t. block_leaves a b s (block_end s) e refl) (λ t. tt)))
    (λ q. tt)

item_leaves : (s : List ℕ) → Encoded s → Leaves s (item_of s)
unfolding item_of
item_leaves s e = cond_cases (Leaves s) (ltb 0 (width_at s)) _ _ (λ q. blank_cut e (width_at s) refl (ltb-true 0 (width_at s) q)) (λ q. comment_leaves s e)

-- ---- gaps

-- a gap from the place `at` on, and the bytes that it has
abbrev Ends : List ℕ → ℕ → Gap → Type 0
Ends t at (Clear x) = (n : ℕ) × (x ≡ at + n) × Encoded (drop n t)
Ends t at (InLine x) = (n : ℕ) × (x ≡ at + n) × Encoded (drop n t)
Ends t at (Refused r) = Unit {0}

-- the same seen from k bytes further in front
further : (t : List ℕ) (at k : ℕ) (g : Gap) → Ends (drop k t) (at + k) g → Ends t at g
further t at k (Clear x) (n, e, h) = (k + n, omega arith, subst Encoded (drop-drop n k t) h)
further t at k (InLine x) (n, e, h) = (k + n, omega arith, subst Encoded (drop-drop n k t) h)
further t at k (Refused r) h = tt

module _ (a : ℕ) (t : List ℕ) (at : ℕ) (e : Encoded (a ∷ t)) (on : (n : ℕ) → 0 < n → Encoded (drop n (a ∷ t)) → Ends (drop n (a ∷ t)) (at + n) (gap_from (drop n (a ∷ t)) 0 (at + n))) where
  step_by : {r : Item} → item_of (a ∷ t) ≡ r → gap_from (a ∷ t) 0 at ≡ by_item r (λ n. gap_from t (pred n) (at + 1)) at (at + length (a ∷ t))
  step_by h = gap_step a t at ∙ ap (λ (r : Item). by_item r (λ n. gap_from t (pred n) (at + 1)) at (at + length (a ∷ t))) h

  item_ends : (r : Item) → item_of (a ∷ t) ≡ r → Sized (a ∷ t) r → Leaves (a ∷ t) r → Ends (a ∷ t) at (gap_from (a ∷ t) 0 at)
  item_ends (Blank n) h z l = subst (Ends (a ∷ t) at) (sym (on_blank (a ∷ t) at n h z.0 z.1)) (further (a ∷ t) at n (gap_from (drop n (a ∷ t)) 0 (at + n)) (on n z.0 l))
  item_ends LineOpen h z l =
      subst (Ends (a ∷ t) at) (sym (step_by h)) (length (a ∷ t), refl, subst Encoded (sym (drop-length (a ∷ t))) ends)
  item_ends BlockOpen h z l = subst (Ends (a ∷ t) at) (sym (step_by h)) tt
  item_ends (Unexpected n) h z l = subst (Ends (a ∷ t) at) (sym (step_by h)) tt
  item_ends Ended h z l = subst (Ends (a ∷ t) at) (sym (step_by h)) tt
  item_ends Other h z l = subst (Ends (a ∷ t) at) (sym (step_by h)) (0, omega arith, e)

-- item by item
gap_fuel : (fuel : ℕ) (t : List ℕ) (at : ℕ) → length t ≤ fuel → Encoded t → Ends t at (gap_from t 0 at)
unfolding gap_from
gap_fuel zero [] at h e = (0, omega arith, e)
gap_fuel (suc fuel) [] at h e = (0, omega arith, e)
gap_fuel zero (a ∷ t) at h e = absurd (omega arith)
gap_fuel (suc fuel) (a ∷ t) at h e =
    item_ends a t at e (λ n l d. gap_fuel fuel (drop n (a ∷ t)) (at + n) (omega (arith, length-drop n (a ∷ t))) d) (item_of (a ∷ t)) refl (item_sized (a ∷ t)) (item_leaves (a ∷ t) e)

-- UTF-8 stands behind a gap
abbrev pub Behind : List ℕ → Gap → Type 0
Behind t (Clear n) = Encoded (drop n t)
Behind t (InLine n) = Encoded (drop n t)
Behind t (Refused r) = Unit {0}

from_front : (t : List ℕ) (g : Gap) → Ends t 0 g → Behind t g
from_front t (Clear x) (n, e, h) = let z : n ≡ x = omega arith in subst (λ (k : ℕ). Encoded (drop k t)) z h
from_front t (InLine x) (n, e, h) = let z : n ≡ x = omega arith in subst (λ (k : ℕ). Encoded (drop k t)) z h
from_front t (Refused r) h = tt

pub gap_cut : (t : List ℕ) → Encoded t → Behind t (gap_of t)
unfolding gap_of
gap_cut t e = from_front t (gap_from t 0 0) (gap_fuel (length t) t 0 (omega arith) e)
