-- Pieces one after the other.
--     front_least       the gap of a text that begins with a front does not end in it
--     within_leaves     a piece that is passed to its end leaves what the answer says, and nothing else
--     begins_told       a place of a piece is a place of the text (`unexpected_told` says so of a refusal), and what begins there is left (`begins_leaves`)
--     passed_cut        behind a piece that is passed to its end, the next says what both say in one
-- Assumes nothing.
use Rattle.std.proofs.Common.{Some, None, Option}
use Prim.Native.Nat.{◌+◌, ◌-◌, ◌<◌, ◌≤◌, suc, ℕ}
use native.Mathlib.Omega.{arith}
use mathlib.Core.Bool.{Bool, cond, false, true}
use mathlib.Core.List.{List, [], ◌++◌, ◌∷◌, append_assoc, append-nil}
use mathlib.Core.Path.{◌∙◌, ◌≡◌, ap, ap₂, refl, subst, sym}
use lib.Dec.{eqb, ltb}
use lib.ListN.{drop, drop_of_length-le, length, length-append}
use lib.Seq.{drop-append-add}
use borrow.Author.Tests.{eqb-true, eqb-false, ltb-false, ltb-true}
use Rattle.comments.specs.Blocks.{block_end}
use Rattle.comments.specs.Gaps.{by_item, gap_from, gap_of, item_of}
use Rattle.comments.specs.Lines.{line_end}
use Rattle.comments.specs.declared.gap.Gap.{Gap}
use Rattle.comments.specs.declared.gap.Gap.TheVariants as gap
use Rattle.comments.specs.declared.gap.Item.{Item}
use Rattle.text.specs.Refusals.{unexpected_char}
use Rattle.gaps.proofs.BlockOpens.{From}
use Rattle.gaps.proofs.Canon.{Ways, any, block_closed, block_far, canon_is, canon_stands, line_closed, rest, ways}
use Rattle.gaps.proofs.Fronts.{Opened, leaves}
use Rattle.gaps.proofs.Items.{item_block, item_last, item_line, item_odd}
use Rattle.gaps.proofs.PassLaws.{ltb_moved}
use Rattle.gaps.proofs.Standing.{Comment, Stands, closed_item, gap_closed, gap_later, open_ends}
use Rattle.gaps.specs.Opens.{canon, front, later_by, marks, open_of}
use Rattle.gaps.specs.Passes.{passed_behind, passed_by, passed_of}
use Rattle.gaps.specs.declared.pass.Passed.TheVariants.{Begins, Within, Unexpected}
use Rattle.gaps.specs.declared.state.Open.{Open}
use Rattle.gaps.specs.declared.state.Open.TheVariants.{Clear, Slash, Line, Block}

-- ---- where a gap does not end

-- an end, or a refusal's place, at m or behind it
abbrev pub EndsFrom : ℕ → Gap → Type 0
EndsFrom m (gap.Clear n) = m ≤ n
EndsFrom m (gap.InLine n) = m ≤ n
EndsFrom m (gap.Refused r) = m ≤ r.place

ends_less : (m n : ℕ) (g : Gap) → m ≤ n → EndsFrom n g → EndsFrom m g
ends_less m n (gap.Clear k) h e = omega arith
ends_less m n (gap.InLine k) h e = omega arith
ends_less m n (gap.Refused r) h e = omega arith

ends_later : (d : ℕ) (g : Gap) → EndsFrom d (later_by d g)
ends_later d (gap.Clear k) = omega arith
ends_later d (gap.InLine k) = omega arith
ends_later d (gap.Refused r) = omega arith

ends_from : (s : List ℕ) (at : ℕ) → EndsFrom at (gap_from s 0 at)
ends_from s at =
    let z : at + 0 ≡ at = omega arith in
    subst (EndsFrom at) (sym (gap_later s at 0) ∙ ap (gap_from s 0) z) (ends_later at (gap_from s 0 0))

open_from : {o : Item} → Comment o → (g : Gap) (at end m : ℕ) → m ≤ end → EndsFrom m (by_item o (λ n. g) at end)
open_from Comment.line g at end m h = h
open_from Comment.block g at end m h = h

comment_least : {o : Item} → Comment o → (x y : ℕ) (w : List ℕ) (m : ℕ) (c : Option ℕ) → item_of (x ∷ y ∷ w) ≡ closed_item o c → From m c → m ≤ length w → EndsFrom (m + 2) (gap_of (x ∷ y ∷ w))
unfolding gap_of
comment_least k x y w m (Some n) e f h =
    subst (EndsFrom (m + 2)) (sym (gap_closed x y w n 0 e)) (ends_less (m + 2) (0 + (n + 2)) (gap_from (drop n w) 0 (0 + (n + 2))) (omega arith) (ends_from (drop n w) (0 + (n + 2))))
comment_least k x y w m None e f h = subst (EndsFrom (m + 2)) (sym (open_ends k x (y ∷ w) 0 e)) (open_from k (gap.Clear 0) 0 (0 + length (x ∷ y ∷ w)) (m + 2) (omega arith))

line_least : (v : List ℕ) → EndsFrom 2 (gap_of (0x2f ∷ 0x2f ∷ v))
line_least v = comment_least Comment.line 0x2f 0x2f v 0 (line_end v) (item_line v ∙ line_closed (line_end v)) (any (line_end v)) (omega arith)

block_least : (v : List ℕ) → EndsFrom 2 (gap_of (0x2f ∷ 0x2a ∷ v))
block_least v = comment_least Comment.block 0x2f 0x2a v 0 (block_end v) (item_block v ∙ block_closed (block_end v)) (any (block_end v)) (omega arith)

slash_least : (v : List ℕ) → EndsFrom 1 (gap_of (0x2f ∷ v))
unfolding gap_of gap_from
slash_least [] = rw item_last (omega arith)
slash_least (b ∷ v) = go (eqb b 0x2f) (eqb b 0x2a) refl refl
  where
    go : (x y : Bool) → eqb b 0x2f ≡ x → eqb b 0x2a ≡ y → EndsFrom 1 (gap_of (0x2f ∷ b ∷ v))
    go true y e f = subst (λ (c : ℕ). EndsFrom 1 (gap_of (0x2f ∷ c ∷ v))) (sym (eqb-true b 0x2f e)) (ends_less 1 2 (gap_of (0x2f ∷ 0x2f ∷ v)) (omega arith) (line_least v))
    go false true e f = subst (λ (c : ℕ). EndsFrom 1 (gap_of (0x2f ∷ c ∷ v))) (sym (eqb-true b 0x2a f)) (ends_less 1 2 (gap_of (0x2f ∷ 0x2a ∷ v)) (omega arith) (block_least v))
    go false false e f = rw (item_odd b v (eqb-false b 0x2f e) (eqb-false b 0x2a f)) (omega arith)

-- the gap of a text that begins with a front does not end in it
pub front_least : (o : Open) (v : List ℕ) → EndsFrom (length (front o)) (gap_of (front o ++ v))
unfolding front marks
front_least Clear v = ends_less 0 0 (gap_of v) (omega arith) (least (gap_of v))
  where
    least : (g : Gap) → EndsFrom 0 g
    least (gap.Clear n) = omega arith
    least (gap.InLine n) = omega arith
    least (gap.Refused r) = omega arith
front_least Slash v = slash_least v
front_least Line v = line_least v
front_least (Block level last) v =
    let f = rest level last in
    ends_less (suc (suc (length f))) (length f + 2) (gap_of (0x2f ∷ 0x2a ∷ f ++ v)) (omega arith)
    (comment_least Comment.block 0x2f 0x2a (f ++ v) (length f) (block_end (f ++ v)) (item_block (f ++ v) ∙ block_closed (block_end (f ++ v))) (block_far level last v) (omega (arith, length-append f v)))

-- ---- what an answer says of the text

module _ (o : Open) (s : List ℕ) where
  abbrev whole : List ℕ
  whole = front o ++ s

  passed_is : (g : Gap) → gap_of whole ≡ g → passed_of o s ≡ passed_by g (open_of whole) (length (front o)) (length whole)
  unfolding passed_of
  passed_is g e = ap (λ (x : Gap). passed_by x (open_of whole) (length (front o)) (length whole)) e

  -- a front is left, and what is open is what the answer says
  left_open : (g : Gap) (x o' : Open) → Opened x → gap_of whole ≡ g → open_of whole ≡ x → passed_by g (open_of whole) (length (front o)) (length whole) ≡ Within (open_of whole) → passed_of o s ≡ Within o'
      → (open_of whole ≡ o') × (canon whole ≡ front o')
  left_open g x o' z e f w h =
      let p : Within (open_of whole) ≡ Within o' = sym w ∙ sym (passed_is g e) ∙ h in
      let q : open_of whole ≡ o' = cc in
      (q, leaves whole o' q (subst Opened (sym f ∙ q) z))

  -- or nothing is
  left_clear : (g : ℕ) (o' : Open) (t : Bool) → gap_of whole ≡ gap.Clear g → open_of whole ≡ Clear → ltb g (length whole) ≡ t
      → cond t (Begins (g - length (front o))) (Within Clear) ≡ Within o' → (open_of whole ≡ o') × (canon whole ≡ front o')
  left_clear g o' true e f l h = let z : ◌≡◌ {A = ℕ} 0 1 = cc in absurd (omega arith)
  left_clear g o' false e f l h =
      let q : Clear ≡ o' = cc in
      (f ∙ q, canon_is whole Clear (gap.Clear g) f e ∙ ap (λ (x : List ℕ). front Clear ++ x) (drop_of_length-le whole (ltb-false g (length whole) l)) ∙ append-nil (front Clear) ∙ ap front q)

  pub within_leaves : (o' : Open) → passed_of o s ≡ Within o' → (open_of whole ≡ o') × (canon whole ≡ front o')
  within_leaves o' h = by (ways whole)
    where
      by : Ways whole → (open_of whole ≡ o') × (canon whole ≡ front o')
      by (Ways.clear g l e f) = left_clear g o' (ltb g (length whole)) e f refl (sym (passed_is (gap.Clear g) e) ∙ h)
      by (Ways.ended e f) = left_open _ Slash o' tt e f refl h
      by (Ways.line e f) = left_open _ Line o' tt e f refl h
      by (Ways.block level last k e f) = left_open _ (Block level last) o' tt e f refl h
      by (Ways.odd p e f) = let q = sym (passed_is _ e) ∙ h in let z : ◌≡◌ {A = ℕ} 0 1 = cc in absurd (omega arith)

  begins_at : (g n : ℕ) (t : Bool) → gap_of whole ≡ gap.Clear g → ltb g (length whole) ≡ t → cond t (Begins (g - length (front o))) (Within Clear) ≡ Begins n
      → (gap_of whole ≡ gap.Clear (length (front o) + n)) × (n < length s)
  begins_at g n true e l h =
      let q : g - length (front o) ≡ n = cc in
      let m : length (front o) ≤ g = subst (EndsFrom (length (front o))) e (front_least o s) in
      let b = ltb-true g (length whole) l in
      (e ∙ ap gap.Clear (omega arith), omega (arith, length-append (front o) s))
  begins_at g n false e l h = let z : ◌≡◌ {A = ℕ} 0 1 = cc in absurd (omega arith)

  pub begins_told : (n : ℕ) → passed_of o s ≡ Begins n → (gap_of whole ≡ gap.Clear (length (front o) + n)) × (n < length s)
  begins_told n h = by (ways whole)
    where
      by : Ways whole → (gap_of whole ≡ gap.Clear (length (front o) + n)) × (n < length s)
      by (Ways.clear g l e f) = begins_at g n (ltb g (length whole)) e refl (sym (passed_is (gap.Clear g) e) ∙ h)
      by (Ways.ended e f) = let q = sym (passed_is _ e) ∙ h in let z : ◌≡◌ {A = ℕ} 0 1 = cc in absurd (omega arith)
      by (Ways.line e f) = let q = sym (passed_is _ e) ∙ h in let z : ◌≡◌ {A = ℕ} 0 1 = cc in absurd (omega arith)
      by (Ways.block level last k e f) = let q = sym (passed_is _ e) ∙ h in let z : ◌≡◌ {A = ℕ} 0 1 = cc in absurd (omega arith)
      by (Ways.odd p e f) = let q = sym (passed_is _ e) ∙ h in let z : ◌≡◌ {A = ℕ} 0 1 = cc in absurd (omega arith)

  -- and what begins there is left
  pub begins_leaves : (n : ℕ) → passed_of o s ≡ Begins n → canon whole ≡ drop n s
  unfolding front
  begins_leaves n h = by (ways whole) (begins_told n h).0
    where
      by : Ways whole → gap_of whole ≡ gap.Clear (length (front o) + n) → canon whole ≡ drop n s
      by (Ways.clear g l e f) q = canon_is whole Clear (gap.Clear (length (front o) + n)) f q ∙ drop-append-add (front o) s n
      by (Ways.ended e f) q = let z : ◌≡◌ {A = ℕ} 0 1 = cc in absurd (omega arith)
      by (Ways.line e f) q = let z : ◌≡◌ {A = ℕ} 0 1 = cc in absurd (omega arith)
      by (Ways.block level last k e f) q = let z : ◌≡◌ {A = ℕ} 0 1 = cc in absurd (omega arith)
      by (Ways.odd p e f) q = let z : ◌≡◌ {A = ℕ} 0 1 = cc in absurd (omega arith)

  not_clear : (g p : ℕ) (t : Bool) → cond t (Begins (g - length (front o))) (Within Clear) ≡ Unexpected p → ⊥
  not_clear g p true h = let z : ◌≡◌ {A = ℕ} 0 1 = cc in omega arith
  not_clear g p false h = let z : ◌≡◌ {A = ℕ} 0 1 = cc in omega arith

  pub unexpected_told : (p : ℕ) → passed_of o s ≡ Unexpected p → gap_of whole ≡ gap.Refused (unexpected_char (length (front o) + p))
  unexpected_told p h = by (ways whole)
    where
      by : Ways whole → gap_of whole ≡ gap.Refused (unexpected_char (length (front o) + p))
      by (Ways.clear g l e f) = absurd (not_clear g p (ltb g (length whole)) (sym (passed_is (gap.Clear g) e) ∙ h))
      by (Ways.ended e f) = let q = sym (passed_is _ e) ∙ h in let z : ◌≡◌ {A = ℕ} 0 1 = cc in absurd (omega arith)
      by (Ways.line e f) = let q = sym (passed_is _ e) ∙ h in let z : ◌≡◌ {A = ℕ} 0 1 = cc in absurd (omega arith)
      by (Ways.block level last k e f) = let q = sym (passed_is _ e) ∙ h in let z : ◌≡◌ {A = ℕ} 0 1 = cc in absurd (omega arith)
      by (Ways.odd r e f) =
          let w : Unexpected (r - length (front o)) ≡ Unexpected p = sym (passed_is _ e) ∙ h in
          let q : r - length (front o) ≡ p = cc in
          let m : length (front o) ≤ r = subst (EndsFrom (length (front o))) e (front_least o s) in
          e ∙ ap (λ (n : ℕ). gap.Refused (unexpected_char n)) (omega arith)

-- ---- two pieces

-- an answer of the shorter text, told of the longer one
moved : (o : Open) (d f f' u v : ℕ) (g : Gap) → EndsFrom f' g → f + u ≡ d + f' → passed_by (later_by d g) o f (f + u + v) ≡ passed_behind u (passed_by g o f' (f' + v))
moved o d f f' u v (gap.Clear n) h e =
    let j : f + u + v ≡ d + (f' + v) = omega arith in
    let k : d + n - f ≡ u + (n - f') = omega arith in
    ap₂ (λ (t : Bool) (m : ℕ). cond t (Begins m) (Within Clear)) (ap (ltb (d + n)) j ∙ ltb_moved d n (f' + v)) k ∙ go (ltb n (f' + v))
  where
    go : (t : Bool) → cond t (Begins (u + (n - f'))) (Within Clear) ≡ passed_behind u (cond t (Begins (n - f')) (Within Clear))
    go true = refl
    go false = refl
moved o d f f' u v (gap.InLine n) h e = refl
moved o d f f' u v (gap.Refused r) h e =
    let k : d + r.place - f ≡ u + (r.place - f') = omega arith in
    ap (λ (m : ℕ). cond (eqb r.number 5) (Unexpected m) (Within o)) k ∙ go (eqb r.number 5)
  where
    go : (t : Bool) → cond t (Unexpected (u + (r.place - f'))) (Within o) ≡ passed_behind u (cond t (Unexpected (r.place - f')) (Within o))
    go true = refl
    go false = refl

-- a front that stands for what has come may take its place
pub passed_on : (o o' : Open) (u v : List ℕ) → Stands (front o ++ u) (front o') → passed_of o (u ++ v) ≡ passed_behind (length u) (passed_of o' v)
unfolding passed_of
passed_on o o' u v h =
    let a : front o ++ (u ++ v) ≡ front o ++ u ++ v = sym (append_assoc (front o) u v) in
    let l : length (front o ++ u ++ v) ≡ length (front o) + length u + length v = omega (arith, length-append (front o ++ u) v, length-append (front o) u) in
    let l' : length (front o') + length v ≡ length (front o' ++ v) = sym (length-append (front o') v) in
    ap (λ (t : List ℕ). passed_by (gap_of t) (open_of t) (length (front o)) (length t)) a
    ∙ ap₂ (λ (g : Gap) (x : Open). passed_by g x (length (front o)) (length (front o ++ u ++ v))) (h.gaps v) (h.opens v)
    ∙ ap (passed_by (later_by h.by (gap_of (front o' ++ v))) (open_of (front o' ++ v)) (length (front o))) l
    ∙ moved (open_of (front o' ++ v)) h.by (length (front o)) (length (front o')) (length u) (length v) (gap_of (front o' ++ v)) (front_least o' v) (omega (arith, h.whole, length-append (front o) u))
    ∙ ap (λ (n : ℕ). passed_behind (length u) (passed_by (gap_of (front o' ++ v)) (open_of (front o' ++ v)) (length (front o')) n)) l'

-- behind a piece that is passed to its end, the next says what both say in one
pub passed_cut : (o o' : Open) (u v : List ℕ) → passed_of o u ≡ Within o' → passed_of o (u ++ v) ≡ passed_behind (length u) (passed_of o' v)
passed_cut o o' u v e = passed_on o o' u v (subst (Stands (front o ++ u)) (within_leaves o u o' e).1 (canon_stands (front o ++ u)))
