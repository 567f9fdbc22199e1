-- One text that stands for another: whatever follows, the gap is the same but for its place, the same is open, and what stands behind the gap is the same.
--     passing    what is behind the whitespace and closed comments of a text stands for it
--     replaced   so does a comment that is not closed, for a longer one that leaves the same open
-- Assumes nothing.
use Rattle.std.proofs.Common.{Some, None, Option}
use Prim.Native.Nat.{◌+◌, ◌-◌, ◌<◌, ◌≤◌, pred, suc, zero, ℕ}
use native.Mathlib.Nat.{add-zero, le_of_suc-le-suc, not-suc-le-zero, zero-add}
use native.Mathlib.Numerals.{add-two}
use native.Mathlib.Omega.{arith}
use mathlib.Core.List.{List, [], ◌++◌, ◌∷◌}
use mathlib.Core.Path.{◌∙◌, ◌≡◌, ap, refl, subst, sym}
use lib.ListN.{drop, length, length-append, length-drop}
use lib.Seq.{drop-append-add, drop-append-le, drop-drop}
use Rattle.comments.proofs.GapLaws.{Sized, gap_behind, gap_moved, gap_step, item_sized, on_blank}
use Rattle.comments.specs.Gaps.{by_item, comment_of, gap_from, gap_of, item_of}
use Rattle.comments.specs.declared.gap.Gap.{Gap}
use Rattle.comments.specs.declared.gap.Gap.TheVariants as gap
use Rattle.comments.specs.declared.gap.Item.{Item}
use Rattle.comments.specs.declared.gap.Item.TheVariants.{Blank, BlockOpen, Ended, LineOpen, Other, Unexpected}
use Rattle.text.specs.Classes.{blank1, blank2, blank3, blank_width, within}
use Rattle.text.specs.Refusals.{at_place, unclosed_block_comment}
use Rattle.gaps.proofs.BlockOpens.{From, later_end}
use Rattle.gaps.proofs.Items.{item_more}
use Rattle.gaps.specs.Opens.{by_open, later_by, open_from, open_of}
use Rattle.gaps.specs.declared.state.Open.TheVariants.{Clear}

-- ---- gaps at another place

pub later_behind : (d : ℕ) (g : Gap) → gap_behind d g ≡ later_by d g
later_behind d (gap.Clear n) = refl
later_behind d (gap.InLine n) = refl
later_behind d (gap.Refused r) = refl

pub later_none : (g : Gap) → later_by 0 g ≡ g
later_none (gap.Clear n) = ap gap.Clear (zero-add n)
later_none (gap.InLine n) = ap gap.InLine (zero-add n)
later_none (gap.Refused r) = ap (λ (n : ℕ). gap.Refused (at_place r n)) (zero-add r.place)

pub later_both : (m n : ℕ) (g : Gap) → later_by m (later_by n g) ≡ later_by (m + n) g
later_both m n (gap.Clear k) = ap gap.Clear (omega arith)
later_both m n (gap.InLine k) = ap gap.InLine (omega arith)
later_both m n (gap.Refused r) = ap (λ (k : ℕ). gap.Refused (at_place r k)) (omega arith)

-- a gap from another place
pub gap_later : (s : List ℕ) (d at : ℕ) → gap_from s 0 (d + at) ≡ later_by d (gap_from s 0 at)
gap_later s d at = gap_moved s 0 d at ∙ later_behind d (gap_from s 0 at)

-- a gap does not end before it begins
pub clear_least : (s : List ℕ) (at g : ℕ) → gap_from s 0 at ≡ gap.Clear g → at ≤ g
clear_least s at g h = past (gap_from s 0 0) (sym (gap_later s at 0) ∙ ap (gap_from s 0) (add-zero at) ∙ h)
  where
    past : (x : Gap) → later_by at x ≡ gap.Clear g → at ≤ g
    past (gap.Clear m) e = let q : at + m ≡ g = cc in omega arith
    past (gap.InLine m) e = let z : ◌≡◌ {A = ℕ} 0 1 = cc in absurd (omega arith)
    past (gap.Refused r) e = let z : ◌≡◌ {A = ℕ} 0 1 = cc in absurd (omega arith)

-- ---- what is open behind items already judged

pub open_gap : (a : ℕ) (s : List ℕ) → open_from (a ∷ s) 0 ≡ by_open (item_of (a ∷ s)) (λ n. open_from s (pred n)) s
unfolding open_from
open_gap a s = refl

open_passed : (s : List ℕ) (k : ℕ) → k ≤ length s → open_from s k ≡ open_from (drop k s) 0
unfolding open_from
open_passed s zero p = refl
open_passed [] (suc k) p = absurd (not-suc-le-zero p)
open_passed (a ∷ s) (suc k) p = open_passed s k (le_of_suc-le-suc p)

pub open_blank : (t : List ℕ) (n : ℕ) → item_of t ≡ Blank n → 0 < n → n ≤ length t → open_from t 0 ≡ open_from (drop n t) 0
open_blank [] n h p q = absurd (omega arith)
open_blank (a ∷ t) zero h p q = absurd (omega arith)
open_blank (a ∷ t) (suc m) h p q = open_gap a t ∙ ap (λ (r : Item). by_open r (λ n. open_from t (pred n)) t) h ∙ open_passed t m (le_of_suc-le-suc q)

-- ---- one text for another

-- c, which has `by` bytes fewer, stands for s
pub record Stands (s c : List ℕ) : Type 0 where
  pub by : ℕ
  pub whole : length s ≡ by + length c
  pub gaps : (v : List ℕ) → gap_of (s ++ v) ≡ later_by by (gap_of (c ++ v))
  pub opens : (v : List ℕ) → open_of (s ++ v) ≡ open_of (c ++ v)
  pub keeps : (v : List ℕ) (g : ℕ) → gap_of (c ++ v) ≡ gap.Clear g → drop (by + g) (s ++ v) ≡ drop g (c ++ v)

pub itself : (s : List ℕ) → Stands s s
itself s = record {
  by = 0;
  whole = omega arith;
  gaps = λ v. sym (later_none (gap_of (s ++ v)));
  opens = λ v. refl;
  keeps = λ v g h. ap (λ (n : ℕ). drop n (s ++ v)) (zero-add g);
}

pub both : {s t c : List ℕ} → Stands s t → Stands t c → Stands s c
both {s} {t} {c} p q = record {
  by = p.by + q.by;
  whole = omega (arith, p.whole, q.whole);
  gaps = λ v. p.gaps v ∙ ap (later_by p.by) (q.gaps v) ∙ later_both p.by q.by (gap_of (c ++ v));
  opens = λ v. p.opens v ∙ q.opens v;
  keeps = λ v g h. (let e : p.by + q.by + g ≡ p.by + (q.by + g) = omega arith in
      ap (λ (n : ℕ). drop n (s ++ v)) e ∙ p.keeps v (q.by + g) (q.gaps v ∙ ap (later_by q.by) h) ∙ q.keeps v g h);
}

-- ---- behind whitespace and closed comments

-- no blank and no closed comment
abbrev pub Halts : Item → Type 0
Halts (Blank n) = ⊥
Halts LineOpen = Unit {0}
Halts BlockOpen = Unit {0}
Halts (Unexpected n) = Unit {0}
Halts Ended = Unit {0}
Halts Other = Unit {0}

-- behind `passes` bytes of whitespace and comments, of which the first `left` were judged already, stands neither
pub record Passing (s : List ℕ) (left : ℕ) : Type 0 where
  pub passes : ℕ
  pub within : passes ≤ length s
  pub goes : (v : List ℕ) (at : ℕ) → gap_from (s ++ v) left at ≡ gap_from (drop passes s ++ v) 0 (at + passes)
  pub opens : (v : List ℕ) → open_from (s ++ v) left ≡ open_from (drop passes s ++ v) 0
  pub halts : Halts (item_of (drop passes s))

-- at once
halted : (s : List ℕ) → Halts (item_of s) → Passing s 0
halted s h = record { passes = 0; within = omega arith; goes = λ v at. ap (gap_from (s ++ v) 0) (sym (add-zero at)); opens = λ v. refl; halts = h }

-- by the item in front
here : (a : ℕ) (s : List ℕ) (r : Item) → item_of (a ∷ s) ≡ r → Sized (a ∷ s) r → ((k : ℕ) → k ≤ length s → Passing s k) → Passing (a ∷ s) 0
here a s (Blank zero) e z rest = absurd (omega (arith, z.0))
here a s (Blank (suc m)) e z rest =
    let p = rest m (le_of_suc-le-suc z.1) in
    record {
      passes = suc p.passes;
      within = omega (arith, p.within);
      goes = λ v at. (let j : at + 1 + p.passes ≡ at + suc p.passes = omega arith in
          gap_step a (s ++ v) at
          ∙ ap (λ (x : Item). by_item x (λ n. gap_from (s ++ v) (pred n) (at + 1)) at (at + length (a ∷ s ++ v))) (item_more (a ∷ s) v (suc m) e)
          ∙ p.goes v (at + 1) ∙ ap (gap_from (drop p.passes s ++ v) 0) j);
      opens = λ v. open_gap a (s ++ v) ∙ ap (λ (x : Item). by_open x (λ n. open_from (s ++ v) (pred n)) (s ++ v)) (item_more (a ∷ s) v (suc m) e) ∙ p.opens v;
      halts = p.halts;
    }
here a s LineOpen e z rest = halted (a ∷ s) (subst Halts (sym e) tt)
here a s BlockOpen e z rest = halted (a ∷ s) (subst Halts (sym e) tt)
here a s (Unexpected n) e z rest = halted (a ∷ s) (subst Halts (sym e) tt)
here a s Ended e z rest = halted (a ∷ s) (subst Halts (sym e) tt)
here a s Other e z rest = halted (a ∷ s) (subst Halts (sym e) tt)

-- one byte more of an item already judged
step : (a : ℕ) (s : List ℕ) (left : ℕ) → Passing s left → Passing (a ∷ s) (suc left)
unfolding gap_from open_from
step a s left p = record {
  passes = suc p.passes;
  within = omega (arith, p.within);
  goes = λ v at. (let j : at + 1 + p.passes ≡ at + suc p.passes = omega arith in p.goes v (at + 1) ∙ ap (gap_from (drop p.passes s ++ v) 0) j);
  opens = λ v. p.opens v;
  halts = p.halts;
}

pub none_other : item_of [] ≡ Other
unfolding item_of comment_of blank_width blank1 blank2 blank3 within
none_other = refl

pub passing : (s : List ℕ) (left : ℕ) → left ≤ length s → Passing s left
passing [] zero h = halted [] (subst Halts (sym none_other) tt)
passing [] (suc left) h = absurd (not-suc-le-zero h)
passing (a ∷ s) (suc left) h = step a s left (passing s left (le_of_suc-le-suc h))
passing (a ∷ s) zero h = here a s (item_of (a ∷ s)) refl (item_sized (a ∷ s)) (λ k l. passing s k l)

-- what stands there stands for the whole
pub behind_passing : (s : List ℕ) (p : Passing s 0) → Stands s (drop p.passes s)
unfolding gap_of open_of
behind_passing s p =
    let t = drop p.passes s in
    record {
      by = p.passes;
      whole = omega (arith, length-drop p.passes s, p.within);
      gaps = λ v. (let j : 0 + p.passes ≡ p.passes + 0 = omega arith in p.goes v 0 ∙ ap (gap_from (t ++ v) 0) j ∙ gap_later (t ++ v) p.passes 0);
      opens = λ v. p.opens v;
      keeps = λ v g h. sym (drop-drop g p.passes (s ++ v)) ∙ ap (drop g) (drop-append-le p.passes s v p.within);
    }

-- ---- a comment that is not closed

-- the item of a comment by its end: `o` where there is none
abbrev pub closed_item : Item → Option ℕ → Item
closed_item o (Some n) = Blank (n + 2)
closed_item o None = o

-- a comment of which only the rest v decides: l is replaced by f, which has d bytes fewer
pub record Replaced (x y : ℕ) (o : Item) (l f v : List ℕ) (d : ℕ) : Type 0 where
  pub end : Option ℕ
  pub long : item_of (x ∷ y ∷ l ++ v) ≡ closed_item o (later_end d end)
  pub short : item_of (x ∷ y ∷ f ++ v) ≡ closed_item o end
  pub far : From (length f) end
  pub still : by_open o (λ n. Clear) (y ∷ l ++ v) ≡ by_open o (λ n. Clear) (y ∷ f ++ v)

-- the two comments that may be open
pub data Comment : Item → Type 0 where
  line : Comment LineOpen
  block : Comment BlockOpen

-- the item of an open comment ends the gap
pub open_ends : {o : Item} → Comment o → (a : ℕ) (s : List ℕ) (at : ℕ) → item_of (a ∷ s) ≡ o → gap_from (a ∷ s) 0 at ≡ by_item o (λ n. gap.Clear at) at (at + length (a ∷ s))
open_ends line a s at e = gap_step a s at ∙ ap (λ (r : Item). by_item r (λ n. gap_from s (pred n) (at + 1)) at (at + length (a ∷ s))) e
open_ends block a s at e = gap_step a s at ∙ ap (λ (r : Item). by_item r (λ n. gap_from s (pred n) (at + 1)) at (at + length (a ∷ s))) e

pub open_left : {o : Item} → Comment o → (a : ℕ) (s : List ℕ) → item_of (a ∷ s) ≡ o → open_from (a ∷ s) 0 ≡ by_open o (λ n. Clear) s
open_left line a s e = open_gap a s ∙ ap (λ (r : Item). by_open r (λ n. open_from s (pred n)) s) e
open_left block a s e = open_gap a s ∙ ap (λ (r : Item). by_open r (λ n. open_from s (pred n)) s) e

open_later : {o : Item} → Comment o → (g h : Gap) (d at m n : ℕ) → m ≡ d + n → by_item o (λ k. g) at m ≡ later_by d (by_item o (λ k. h) at n)
open_later line g h d at m n e = ap gap.InLine e
open_later block g h d at m n e = ap (λ (k : ℕ). gap.Refused (unclosed_block_comment k)) e

open_unclear : {o : Item} → Comment o → (g : Gap) (at m n : ℕ) → by_item o (λ k. g) at m ≡ gap.Clear n → ⊥
open_unclear line g at m n e = let z : ◌≡◌ {A = ℕ} 0 1 = cc in absurd (omega arith)
open_unclear block g at m n e = let z : ◌≡◌ {A = ℕ} 0 1 = cc in absurd (omega arith)

module _ (x y : ℕ) where
  -- behind a closed comment
  pub gap_closed : (w : List ℕ) (n at : ℕ) → item_of (x ∷ y ∷ w) ≡ Blank (n + 2) → gap_from (x ∷ y ∷ w) 0 at ≡ gap_from (drop n w) 0 (at + (n + 2))
  gap_closed w n at e =
      let z : Sized (x ∷ y ∷ w) (Blank (n + 2)) = subst (Sized (x ∷ y ∷ w)) e (item_sized (x ∷ y ∷ w)) in
      on_blank (x ∷ y ∷ w) at (n + 2) e z.0 z.1 ∙ ap (λ (m : ℕ). gap_from (drop m (x ∷ y ∷ w)) 0 (at + (n + 2))) (add-two n)

  pub open_closed : (w : List ℕ) (n : ℕ) → item_of (x ∷ y ∷ w) ≡ Blank (n + 2) → open_from (x ∷ y ∷ w) 0 ≡ open_from (drop n w) 0
  open_closed w n e =
      let z : Sized (x ∷ y ∷ w) (Blank (n + 2)) = subst (Sized (x ∷ y ∷ w)) e (item_sized (x ∷ y ∷ w)) in
      open_blank (x ∷ y ∷ w) (n + 2) e z.0 z.1 ∙ ap (λ (m : ℕ). open_from (drop m (x ∷ y ∷ w)) 0) (add-two n)

  module _ (l f v : List ℕ) (d : ℕ) (size : length l ≡ d + length f) where
    -- an end in v
    same_rest : (n : ℕ) → length f ≤ n → drop (d + n) (l ++ v) ≡ drop n (f ++ v)
    same_rest n h =
        let i : d + n ≡ length l + (n - length f) = omega arith in
        let j : n ≡ length f + (n - length f) = omega arith in
        ap (λ (m : ℕ). drop m (l ++ v)) i ∙ drop-append-add l v (n - length f) ∙ sym (drop-append-add f v (n - length f)) ∙ sym (ap (λ (m : ℕ). drop m (f ++ v)) j)

    gap_replaced : {o : Item} → Comment o → (c : Option ℕ) → item_of (x ∷ y ∷ l ++ v) ≡ closed_item o (later_end d c) → item_of (x ∷ y ∷ f ++ v) ≡ closed_item o c → From (length f) c
        → gap_of (x ∷ y ∷ l ++ v) ≡ later_by d (gap_of (x ∷ y ∷ f ++ v))
    unfolding gap_of
    gap_replaced k (Some n) e g h =
        let j : 0 + (d + n + 2) ≡ d + (0 + (n + 2)) = omega arith in
        gap_closed (l ++ v) (d + n) 0 e
        ∙ ap (λ (t : List ℕ). gap_from t 0 (0 + (d + n + 2))) (same_rest n h)
        ∙ ap (gap_from (drop n (f ++ v)) 0) j
        ∙ gap_later (drop n (f ++ v)) d (0 + (n + 2))
        ∙ ap (later_by d) (sym (gap_closed (f ++ v) n 0 g))
    gap_replaced k None e g h =
        let j : 0 + length (x ∷ y ∷ l ++ v) ≡ d + (0 + length (x ∷ y ∷ f ++ v)) = omega (arith, length-append l v, length-append f v) in
        open_ends k x (y ∷ l ++ v) 0 e
        ∙ open_later k (gap.Clear 0) (gap.Clear 0) d 0 (0 + length (x ∷ y ∷ l ++ v)) (0 + length (x ∷ y ∷ f ++ v)) j
        ∙ ap (later_by d) (sym (open_ends k x (y ∷ f ++ v) 0 g))

    open_replaced : {o : Item} → Comment o → (c : Option ℕ) → item_of (x ∷ y ∷ l ++ v) ≡ closed_item o (later_end d c) → item_of (x ∷ y ∷ f ++ v) ≡ closed_item o c → From (length f) c
        → by_open o (λ n. Clear) (y ∷ l ++ v) ≡ by_open o (λ n. Clear) (y ∷ f ++ v) → open_of (x ∷ y ∷ l ++ v) ≡ open_of (x ∷ y ∷ f ++ v)
    unfolding open_of
    open_replaced k (Some n) e g h w =
        open_closed (l ++ v) (d + n) e ∙ ap (λ (t : List ℕ). open_from t 0) (same_rest n h) ∙ sym (open_closed (f ++ v) n g)
    open_replaced k None e g h w = open_left k x (y ∷ l ++ v) e ∙ w ∙ sym (open_left k x (y ∷ f ++ v) g)

    clear_replaced : {o : Item} → Comment o → (c : Option ℕ) → item_of (x ∷ y ∷ f ++ v) ≡ closed_item o c → From (length f) c → (n : ℕ) → gap_of (x ∷ y ∷ f ++ v) ≡ gap.Clear n → length f + 2 ≤ n
    unfolding gap_of
    clear_replaced k (Some m) g h n q = let b = clear_least (drop m (f ++ v)) (0 + (m + 2)) n (sym (gap_closed (f ++ v) m 0 g) ∙ q) in omega arith
    clear_replaced k None g h n q = absurd (open_unclear k (gap.Clear 0) 0 (0 + length (x ∷ y ∷ f ++ v)) n (sym (open_ends k x (y ∷ f ++ v) 0 g) ∙ q))

-- the shorter comment stands for the longer one
pub replaced : {o : Item} → Comment o → (x y : ℕ) (l f : List ℕ) (d : ℕ) → ((v : List ℕ) → Replaced x y o l f v d) → length l ≡ d + length f → Stands (x ∷ y ∷ l) (x ∷ y ∷ f)
replaced k x y l f d r size = record {
  by = d;
  whole = omega arith;
  gaps = λ v. gap_replaced x y l f v d size k (r v).end (r v).long (r v).short (r v).far;
  opens = λ v. open_replaced x y l f v d size k (r v).end (r v).long (r v).short (r v).far (r v).still;
  keeps = λ v g h. (let b = clear_replaced x y l f v d size k (r v).end (r v).short (r v).far g h in
      same_rest x y (x ∷ y ∷ l) (x ∷ y ∷ f) v d (omega arith) g (omega arith));
}
