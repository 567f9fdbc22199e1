-- What a part begins with, by its bytes, and what of it has come for good: a blank or a closed comment stays, whatever follows. Assumes nothing.
use Rattle.std.proofs.Common.{Some, None, Option}
use Prim.Native.Nat.{◌+◌, ◌≤◌, suc, zero, ℕ}
use native.Mathlib.Nat.{add-zero}
use native.Mathlib.Omega.{arith}
use mathlib.Core.Bool.{Bool, cond, false, true}
use mathlib.Core.List.{List, [], ◌++◌, ◌∷◌, append-nil}
use mathlib.Core.Path.{◌∙◌, ◌≡◌, ap, refl, subst, sym}
use lib.Dec.{eqb}
use lib.ListN.{length}
use borrow.Author.Tests.{eqb-false, eqb-true, ne_eqb}
use Rattle.comments.proofs.GapLaws.{item_blank, item_comment}
use Rattle.comments.proofs.GapWindow.{blank_window}
use Rattle.comments.specs.Blocks.{block_end}
use Rattle.comments.specs.Gaps.{behind_slash, block_item, comment_of, item_of, line_item}
use Rattle.comments.specs.Lines.{line_end, line_from}
use Rattle.comments.specs.declared.gap.Item.TheVariants.{Blank, Ended, Other, Unexpected}
use Rattle.text.proofs.BlankLaws.{width_at}
use Rattle.text.proofs.ClassLaws.{blank_le}
use Rattle.text.specs.Classes.{blank1, blank2, blank3, blank_width, within}
use Rattle.text.specs.Utf8.{char_len}
use Rattle.gaps.proofs.BlockOpens.{block_more, later_end}

-- ---- line comments

pub line_moved : (s : List ℕ) (d at : ℕ) → line_from s (d + at) ≡ later_end d (line_from s at)
unfolding line_from
line_moved [] d at = refl
line_moved (a ∷ s) d at = by_test (eqb a 0x0a) (ap (line_from s) (omega arith) ∙ line_moved s d (at + 1))
  where
    by_test : (t : Bool) → line_from s (d + at + 1) ≡ later_end d (line_from s (at + 1))
        → cond t (Some (d + at)) (line_from s (d + at + 1)) ≡ later_end d (cond t (Some at) (line_from s (at + 1)))
    by_test true e = refl
    by_test false e = e

-- an LF that has come stays
line_more : (s v : List ℕ) (at e : ℕ) → line_from s at ≡ Some e → line_from (s ++ v) at ≡ Some e
unfolding line_from
line_more [] v at e h = let z : ◌≡◌ {A = ℕ} 0 1 = cc in absurd (omega arith)
line_more (a ∷ s) v at e h = by_test (eqb a 0x0a) (line_more s v (at + 1) e) h
  where
    by_test : (t : Bool) → (line_from s (at + 1) ≡ Some e → line_from (s ++ v) (at + 1) ≡ Some e)
        → ◌≡◌ {A = Option ℕ} (cond t (Some at) (line_from s (at + 1))) (Some e) → ◌≡◌ {A = Option ℕ} (cond t (Some at) (line_from (s ++ v) (at + 1))) (Some e)
    by_test true f h = h
    by_test false f h = f h

-- where none has come, the line goes on
pub line_still : (s v : List ℕ) (at : ℕ) → line_from s at ≡ None → line_from (s ++ v) at ≡ line_from v (at + length s)
unfolding line_from
line_still [] v at h = ap (line_from v) (sym (add-zero at))
line_still (a ∷ s) v at h = by_test (eqb a 0x0a) (line_still s v (at + 1)) h
  where
    by_test : (t : Bool) → (line_from s (at + 1) ≡ None → line_from (s ++ v) (at + 1) ≡ line_from v (at + 1 + length s))
        → ◌≡◌ {A = Option ℕ} (cond t (Some at) (line_from s (at + 1))) (None) → cond t (Some at) (line_from (s ++ v) (at + 1)) ≡ line_from v (at + suc (length s))
    by_test true f h = let z : ◌≡◌ {A = ℕ} 0 1 = cc in absurd (omega arith)
    by_test false f h = f h ∙ ap (line_from v) (omega arith)

-- ---- what a part begins with

pub item_space : (s : List ℕ) (w : ℕ) → width_at s ≡ suc w → item_of s ≡ Blank (suc w)
item_space s w e = item_blank s (suc w) (sym e) (omega arith)

-- a `/` is no whitespace
slash : (s : List ℕ) → item_of (0x2f ∷ s) ≡ behind_slash s
unfolding item_of comment_of blank_width blank1 blank2 blank3 within
slash s = refl

pub item_last : item_of (0x2f ∷ []) ≡ Ended
unfolding behind_slash
item_last = slash []

pub item_line : (t : List ℕ) → item_of (0x2f ∷ 0x2f ∷ t) ≡ line_item (line_end t)
unfolding behind_slash
item_line t = slash (0x2f ∷ t)

pub item_block : (t : List ℕ) → item_of (0x2f ∷ 0x2a ∷ t) ≡ block_item (block_end t)
unfolding behind_slash
item_block t = slash (0x2a ∷ t)

pub item_odd : (b : ℕ) (t : List ℕ) → (b ≡ 0x2f → ⊥) → (b ≡ 0x2a → ⊥) → item_of (0x2f ∷ b ∷ t) ≡ Unexpected (1 + char_len (b ∷ t))
unfolding behind_slash
item_odd b t m n = slash (b ∷ t) ∙ rw (ne_eqb b 0x2f m, ne_eqb b 0x2a n)

item_other : (a : ℕ) (t : List ℕ) → width_at (a ∷ t) ≡ 0 → eqb a 0x2f ≡ false → item_of (a ∷ t) ≡ Other
unfolding comment_of
item_other a t e n = item_comment (a ∷ t) 0 (sym e) (omega arith) ∙ rw n

-- the ways to begin
pub data Front (s : List ℕ) : Type 0 where
  space : (w : ℕ) → width_at s ≡ suc w → Front s
  ended : s ≡ 0x2f ∷ [] → Front s
  line : (t : List ℕ) → s ≡ 0x2f ∷ 0x2f ∷ t → Front s
  block : (t : List ℕ) → s ≡ 0x2f ∷ 0x2a ∷ t → Front s
  odd : (b : ℕ) (t : List ℕ) → (b ≡ 0x2f → ⊥) → (b ≡ 0x2a → ⊥) → s ≡ 0x2f ∷ b ∷ t → Front s
  other : item_of s ≡ Other → Front s

behind : (t : List ℕ) → Front (0x2f ∷ t)
behind [] = Front.ended refl
behind (b ∷ t) = go (eqb b 0x2f) (eqb b 0x2a) refl refl
  where
    go : (x y : Bool) → eqb b 0x2f ≡ x → eqb b 0x2a ≡ y → Front (0x2f ∷ b ∷ t)
    go true y e f = Front.line t (ap (λ (c : ℕ). 0x2f ∷ c ∷ t) (eqb-true b 0x2f e))
    go false true e f = Front.block t (ap (λ (c : ℕ). 0x2f ∷ c ∷ t) (eqb-true b 0x2a f))
    go false false e f = Front.odd b t (eqb-false b 0x2f e) (eqb-false b 0x2a f) refl

pub fronts : (s : List ℕ) → Front s
unfolding item_of comment_of blank_width blank1 blank2 blank3 within
fronts [] = Front.other refl
fronts (a ∷ t) = go (width_at (a ∷ t)) (eqb a 0x2f) refl refl
  where
    go : (w : ℕ) (x : Bool) → width_at (a ∷ t) ≡ w → eqb a 0x2f ≡ x → Front (a ∷ t)
    go (suc w) x e f = Front.space w e
    go zero true e f = subst (λ (c : ℕ). Front (c ∷ t)) (sym (eqb-true a 0x2f f)) (behind t)
    go zero false e f = Front.other (item_other a t e f)

-- ---- a blank or a closed comment stays

blank_more : (s v : List ℕ) (w : ℕ) → width_at s ≡ suc w → width_at (s ++ v) ≡ suc w
blank_more s v w e =
    let f : width_at (s ++ []) ≡ suc w = ap width_at (append-nil s) ∙ e in
    let l : width_at s ≤ length s = blank_le s in
    blank_window s [] v (suc w) f (omega arith) (omega arith)

line-item : (r q : Option ℕ) (n : ℕ) → ((e : ℕ) → r ≡ Some e → q ≡ Some e) → line_item r ≡ Blank n → line_item q ≡ Blank n
line-item (Some e) q n f h = ap line_item (f e refl) ∙ h
line-item None q n f h = let z : ◌≡◌ {A = ℕ} 0 1 = cc in absurd (omega arith)

block-item : (r q : Option ℕ) (n : ℕ) → ((e : ℕ) → r ≡ Some e → q ≡ Some e) → block_item r ≡ Blank n → block_item q ≡ Blank n
block-item (Some e) q n f h = ap block_item (f e refl) ∙ h
block-item None q n f h = let z : ◌≡◌ {A = ℕ} 0 1 = cc in absurd (omega arith)

-- by how it begins
more_by : (s v : List ℕ) (n : ℕ) → Front s → item_of s ≡ Blank n → item_of (s ++ v) ≡ Blank n
unfolding line_end block_end
more_by s v n (Front.space w e) h = item_space (s ++ v) w (blank_more s v w e) ∙ sym (item_space s w e) ∙ h
more_by s v n (Front.ended e) h = let q : Ended ≡ Blank n = sym item_last ∙ ap item_of (sym e) ∙ h in let z : ◌≡◌ {A = ℕ} 0 1 = cc in absurd (omega arith)
more_by s v n (Front.line t e) h =
    ap (λ (u : List ℕ). item_of (u ++ v)) e ∙ item_line (t ++ v)
    ∙ line-item (line_end t) (line_end (t ++ v)) n (line_more t v 0) (sym (item_line t) ∙ ap item_of (sym e) ∙ h)
more_by s v n (Front.block t e) h =
    ap (λ (u : List ℕ). item_of (u ++ v)) e ∙ item_block (t ++ v)
    ∙ block-item (block_end t) (block_end (t ++ v)) n (block_more t v 1 0) (sym (item_block t) ∙ ap item_of (sym e) ∙ h)
more_by s v n (Front.odd b t m k e) h =
    let q : Unexpected (1 + char_len (b ∷ t)) ≡ Blank n = sym (item_odd b t m k) ∙ ap item_of (sym e) ∙ h in
    let z : ◌≡◌ {A = ℕ} 0 1 = cc in absurd (omega arith)
more_by s v n (Front.other e) h = let z : ◌≡◌ {A = ℕ} 0 1 = cc in absurd (omega arith)

pub item_more : (s v : List ℕ) (n : ℕ) → item_of s ≡ Blank n → item_of (s ++ v) ≡ Blank n
item_more s v n h = more_by s v n (fronts s) h
