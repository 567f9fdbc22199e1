-- A text in whitespace or in an open comment may be replaced by the shortest one that leaves the same open.
--     ways          which gap a text begins with, and what is open behind it
--     canon_short   `canon s` is no longer than s
--     canon_gap     whatever follows, the gap is that of `canon s`, told further on
--     open_on       and the same is open
--     canon_on      so `canon` of two pieces is `canon` of the first's and the second, unless the text is refused with 5
-- Assumes nothing.
use Rattle.std.proofs.Common.{Some, None, Option}
use Prim.Native.Nat.{◌*◌, ◌+◌, ◌-◌, ◌≤◌, pred, suc, ℕ}
use native.Mathlib.Nat.{le_refl}
use native.Mathlib.Omega.{arith}
use mathlib.Core.Bool.{Bool, cond, false, true}
use mathlib.Core.List.{List, [], ◌++◌, ◌∷◌, append_assoc, append-nil}
use mathlib.Core.Path.{◌∙◌, ◌≡◌, ap, ap₂, refl, subst, sym}
use lib.Dec.{eqb}
use lib.ListN.{drop, drop_of_length-le, length, length-append, length-drop}
use Rattle.comments.proofs.GapLaws.{gap_step}
use Rattle.comments.specs.Blocks.{block_end, block_from}
use Rattle.comments.specs.Gaps.{block_item, by_item, gap_from, gap_of, item_of, line_item}
use Rattle.comments.specs.Lines.{line_end, line_from}
use Rattle.comments.specs.declared.gap.Gap.{Gap}
use Rattle.comments.specs.declared.gap.Gap.TheVariants as gap
use Rattle.comments.specs.declared.gap.Item.{Item}
use Rattle.comments.specs.declared.gap.Item.TheVariants.{Blank, BlockOpen, Ended, LineOpen, Other, Unexpected}
use Rattle.text.specs.Refusals.{eof, unclosed_block_comment, unexpected_char}
use Rattle.gaps.proofs.BlockOpens.{From, Still, block-from, block_moved, from_less, later_end, marks_length, marks_open, marks_pass, still}
use Rattle.gaps.proofs.Items.{Front, fronts, item_block, item_last, item_line, item_odd, item_space, line_moved, line_still}
use Rattle.gaps.proofs.Standing.{Comment, Halts, Passing, Stands, behind_passing, both, closed_item, itself, none_other, open_gap, passing, replaced}
use Rattle.gaps.specs.Opens.{block_open, by_open, canon, front, kept_by, kept_of, last_byte, later_by, marks, open_from, open_of, unpaired}
use Rattle.gaps.specs.declared.state.Open.{Open}
use Rattle.gaps.specs.declared.state.Open.TheVariants.{Clear, Slash, Line, Block}

-- ---- the ways

-- which gap a text begins with, and what is open behind it
pub data Ways (s : List ℕ) : Type 0 where
  clear : (g : ℕ) → g ≤ length s → gap_of s ≡ gap.Clear g → open_of s ≡ Clear → Ways s
  ended : gap_of s ≡ gap.Refused (eof (length s)) → open_of s ≡ Slash → Ways s
  line : gap_of s ≡ gap.InLine (length s) → open_of s ≡ Line → Ways s
  block : (level last : ℕ) → unpaired last ≡ last → gap_of s ≡ gap.Refused (unclosed_block_comment (length s)) → open_of s ≡ Block level last → Ways s
  odd : (p : ℕ) → gap_of s ≡ gap.Refused (unexpected_char p) → open_of s ≡ Clear → Ways s

-- what `canon` is, by these two
pub canon_is : (s : List ℕ) (o : Open) (g : Gap) → open_of s ≡ o → gap_of s ≡ g → canon s ≡ front o ++ kept_by g s
unfolding canon kept_of
canon_is s o g e f = ap (λ (x : Open). front x ++ kept_by (gap_of s) s) e ∙ ap (λ (x : Gap). front o ++ kept_by x s) f

-- ---- what halts

gap_by : (r : Item) (f h : ℕ → Gap) (at end : ℕ) → Halts r → by_item r f at end ≡ by_item r h at end
gap_by (Blank n) f h at end z = absurd z
gap_by LineOpen f h at end z = refl
gap_by BlockOpen f h at end z = refl
gap_by (Unexpected n) f h at end z = refl
gap_by Ended f h at end z = refl
gap_by Other f h at end z = refl

open_by : (r : Item) (f h : ℕ → Open) (s : List ℕ) → Halts r → by_open r f s ≡ by_open r h s
open_by (Blank n) f h s z = absurd z
open_by LineOpen f h s z = refl
open_by BlockOpen f h s z = refl
open_by (Unexpected n) f h s z = refl
open_by Ended f h s z = refl
open_by Other f h s z = refl

gap_halts : (t : List ℕ) (at : ℕ) (r : Item) → item_of t ≡ r → Halts r → gap_from t 0 at ≡ by_item r (λ n. gap.Clear at) at (at + length t)
unfolding gap_from
gap_halts [] at r e h = ap (λ (x : Item). by_item x (λ n. gap.Clear at) at (at + 0)) (sym none_other ∙ e)
gap_halts (a ∷ t) at r e h =
    gap_step a t at ∙ ap (λ (x : Item). by_item x (λ n. gap_from t (pred n) (at + 1)) at (at + length (a ∷ t))) e ∙ gap_by r _ _ at (at + length (a ∷ t)) h

pub open_halts : (t : List ℕ) (r : Item) → item_of t ≡ r → Halts r → open_from t 0 ≡ by_open r (λ n. Clear) (drop 1 t)
unfolding open_from
open_halts [] r e h = ap (λ (x : Item). by_open x (λ n. Clear) []) (sym none_other ∙ e)
open_halts (a ∷ t) r e h = open_gap a t ∙ ap (λ (x : Item). by_open x (λ n. open_from t (pred n)) t) e ∙ open_by r _ _ t h

-- where a text halts, by the item there
module _ (s : List ℕ) (p : Passing s 0) where
  abbrev there : List ℕ
  there = drop p.passes s

  gap_there : (r : Item) → item_of there ≡ r → Halts r → gap_of s ≡ by_item r (λ n. gap.Clear p.passes) p.passes (length s)
  unfolding gap_of
  gap_there r e h =
      let j : 0 + p.passes ≡ p.passes = omega arith in
      let k : p.passes + length there ≡ length s = omega (arith, length-drop p.passes s, p.within) in
      ap (λ (x : List ℕ). gap_from x 0 0) (sym (append-nil s))
      ∙ p.goes [] 0
      ∙ ap (λ (x : List ℕ). gap_from x 0 (0 + p.passes)) (append-nil there)
      ∙ ap (gap_from there 0) j
      ∙ gap_halts there p.passes r e h
      ∙ ap (by_item r (λ n. gap.Clear p.passes) p.passes) k

  open_there : (r : Item) → item_of there ≡ r → Halts r → open_of s ≡ by_open r (λ n. Clear) (drop 1 there)
  unfolding open_of
  open_there r e h =
      ap (λ (x : List ℕ). open_from x 0) (sym (append-nil s))
      ∙ p.opens []
      ∙ ap (λ (x : List ℕ). open_from x 0) (append-nil there)
      ∙ open_halts there r e h

-- ---- open comments

pub line_closed : (c : Option ℕ) → line_item c ≡ closed_item LineOpen c
line_closed (Some n) = refl
line_closed None = refl

pub block_closed : (c : Option ℕ) → block_item c ≡ closed_item BlockOpen c
block_closed (Some n) = refl
block_closed None = refl

-- a comment that halts is not closed
line_halts : (c : Option ℕ) → Halts (line_item c) → c ≡ None
line_halts (Some n) h = absurd h
line_halts None h = refl

block_halts : (c : Option ℕ) → Halts (block_item c) → c ≡ None
block_halts (Some n) h = absurd h
block_halts None h = refl

pub any : (c : Option ℕ) → From 0 c
any (Some n) = omega arith
any None = tt

line_stands : (l : List ℕ) → line_end l ≡ None → Stands (0x2f ∷ 0x2f ∷ l) (0x2f ∷ 0x2f ∷ [])
unfolding line_end
line_stands l h =
    replaced Comment.line 0x2f 0x2f l [] (length l)
    (λ v. (let j : 0 + length l ≡ length l + 0 = omega arith in
    record {
      end = line_end v;
      long = item_line (l ++ v) ∙ line_closed (line_end (l ++ v)) ∙ ap (closed_item LineOpen) (line_still l v 0 h ∙ ap (line_from v) j ∙ line_moved v (length l) 0);
      short = item_line v ∙ line_closed (line_end v);
      far = any (line_end v);
      still = refl;
    }))
    (omega arith)

pub last_length : (last : ℕ) → length (last_byte last) ≤ 1
unfolding last_byte
last_length last = go (eqb last 0)
  where
    go : (t : Bool) → length (cond t [] (last ∷ [])) ≤ 1
    go true = omega arith
    go false = omega arith

-- the marks that are open, and the last byte
abbrev pub rest : ℕ → ℕ → List ℕ
rest level last = marks level ++ last_byte last

pub rest_length : (level last : ℕ) → length (rest level last) ≡ 2 * level + length (last_byte last)
rest_length level last = omega (arith, length-append (marks level) (last_byte last), marks_length level)

-- behind the first mark
pub rest_pass : (level last : ℕ) (v : List ℕ) → block_from (rest level last ++ v) 1 0 ≡ block_from (last_byte last ++ v) (suc level) (2 * level)
rest_pass level last v =
    let j : 0 + level ≡ level = omega arith in
    let k : 0 + 2 * level ≡ 2 * level = omega arith in
    ap (λ (t : List ℕ). block_from t 1 0) (append_assoc (marks level) (last_byte last) v)
    ∙ marks_pass level (last_byte last ++ v) 0 0
    ∙ ap (λ (n : ℕ). block_from (last_byte last ++ v) (suc n) (0 + 2 * level)) j
    ∙ ap (block_from (last_byte last ++ v) (suc level)) k

pub rest_open : (level last : ℕ) (v : List ℕ) → block_open (rest level last ++ v) 0 ≡ block_open (last_byte last ++ v) level
rest_open level last v =
    let j : 0 + level ≡ level = omega arith in
    ap (λ (t : List ℕ). block_open t 0) (append_assoc (marks level) (last_byte last) v)
    ∙ marks_open level (last_byte last ++ v) 0
    ∙ ap (block_open (last_byte last ++ v)) j

-- what closes the comment stands behind them
pub block_far : (level last : ℕ) (v : List ℕ) → From (length (rest level last)) (block_end (rest level last ++ v))
unfolding block_end
block_far level last v =
    from_less (length (rest level last)) (2 * level + 2) (block_end (rest level last ++ v)) (omega (arith, rest_length level last, last_length last))
    (subst (From (2 * level + 2)) (sym (rest_pass level last v)) (block-from (last_byte last ++ v) (suc level) (2 * level)))

block_stands : (l : List ℕ) (r : Still l 0) → Stands (0x2f ∷ 0x2a ∷ l) (0x2f ∷ 0x2a ∷ rest r.level r.last)
unfolding block_end
block_stands l r =
    let d = r.by - 2 * r.level in
    let f = rest r.level r.last in
    let j : 0 + r.by ≡ d + 2 * r.level = omega (arith, r.deep) in
    replaced Comment.block 0x2f 0x2a l f d
    (λ v. (let u = last_byte r.last ++ v in
    record {
      end = block_end (f ++ v);
      long = item_block (l ++ v) ∙ block_closed (block_end (l ++ v))
          ∙ ap (closed_item BlockOpen) (r.goes v 0 ∙ ap (block_from u (suc r.level)) j ∙ block_moved u (suc r.level) d (2 * r.level) ∙ ap (later_end d) (sym (rest_pass r.level r.last v)));
      short = item_block (f ++ v) ∙ block_closed (block_end (f ++ v));
      far = block_far r.level r.last v;
      still = r.opens v ∙ sym (rest_open r.level r.last v);
    }))
    (omega (arith, r.whole, r.deep, rest_length r.level r.last))

-- ---- all ways

record Told (s : List ℕ) : Type 0 where
  way : Ways s
  stands : Stands s (canon s)

module _ (s : List ℕ) (p : Passing s 0) where
  abbrev at_halt : List ℕ
  at_halt = drop p.passes s

  -- what halts there stands for the whole
  keeps : (c : List ℕ) → canon s ≡ c → Stands s c → Stands s (canon s)
  keeps c e h = subst (Stands s) (sym e) h

  told_line : (l : List ℕ) → at_halt ≡ 0x2f ∷ 0x2f ∷ l → line_end l ≡ None → Told s
  unfolding front
  told_line l e h =
      let i : item_of at_halt ≡ LineOpen = ap item_of e ∙ item_line l ∙ ap line_item h in
      let g = gap_there s p LineOpen i tt in
      let o = open_there s p LineOpen i tt in
      record {
        way = Ways.line g o;
        stands = keeps (0x2f ∷ 0x2f ∷ []) (canon_is s Line (gap.InLine (length s)) o g) (both (behind_passing s p) (subst (λ (t : List ℕ). Stands t (0x2f ∷ 0x2f ∷ [])) (sym e) (line_stands l h)));
      }

  told_block : (l : List ℕ) → at_halt ≡ 0x2f ∷ 0x2a ∷ l → block_end l ≡ None → Still l 0 → Told s
  unfolding front marks
  told_block l e h r =
      let i : item_of at_halt ≡ BlockOpen = ap item_of e ∙ item_block l ∙ ap block_item h in
      let g = gap_there s p BlockOpen i tt in
      let o : open_of s ≡ Block r.level r.last = open_there s p BlockOpen i tt ∙ ap (λ (t : List ℕ). block_open (drop 1 (drop 1 t)) 0) e ∙ r.told in
      let c = rest r.level r.last in
      record {
        way = Ways.block r.level r.last r.fit g o;
        stands = keeps (0x2f ∷ 0x2a ∷ c) (canon_is s (Block r.level r.last) (gap.Refused (unclosed_block_comment (length s))) o g ∙ ap (λ (t : List ℕ). 0x2f ∷ 0x2a ∷ t) (append-nil c))
            (both (behind_passing s p) (subst (λ (t : List ℕ). Stands t (0x2f ∷ 0x2a ∷ c)) (sym e) (block_stands l r)));
      }

  told_by : Front at_halt → Told s
  unfolding front block_end
  told_by (Front.space w e) = absurd (subst Halts (item_space at_halt w e) p.halts)
  told_by (Front.ended e) =
      let i : item_of at_halt ≡ Ended = ap item_of e ∙ item_last in
      let g = gap_there s p Ended i tt in
      let o = open_there s p Ended i tt in
      record { way = Ways.ended g o; stands = keeps at_halt (canon_is s Slash (gap.Refused (eof (length s))) o g ∙ sym e) (behind_passing s p) }
  told_by (Front.line l e) = told_line l e (line_halts (line_end l) (subst Halts (ap item_of e ∙ item_line l) p.halts))
  told_by (Front.block l e) =
      let h = block_halts (block_end l) (subst Halts (ap item_of e ∙ item_block l) p.halts) in
      told_block l e h (still l 0 0 h)
  told_by (Front.odd b t m n e) =
      let i : item_of at_halt ≡ Unexpected _ = ap item_of e ∙ item_odd b t m n in
      let g = gap_there s p (Unexpected _) i tt in
      let o = open_there s p (Unexpected _) i tt in
      record { way = Ways.odd _ g o; stands = keeps s (canon_is s Clear _ o g) (itself s) }
  told_by (Front.other i) =
      let g = gap_there s p Other i tt in
      let o = open_there s p Other i tt in
      record { way = Ways.clear p.passes p.within g o; stands = keeps at_halt (canon_is s Clear (gap.Clear p.passes) o g) (behind_passing s p) }

told : (s : List ℕ) → Told s
told s = let p = passing s 0 (omega arith) in told_by s p (fronts (drop p.passes s))

pub ways : (s : List ℕ) → Ways s
ways s = (told s).way

pub canon_stands : (s : List ℕ) → Stands s (canon s)
canon_stands s = (told s).stands

-- ---- the theorem

pub canon_short : (s : List ℕ) → length (canon s) ≤ length s
canon_short s = omega (arith, (canon_stands s).whole)

pub canon_gap : (s v : List ℕ) → gap_of (s ++ v) ≡ later_by (length s - length (canon s)) (gap_of (canon s ++ v))
canon_gap s v =
    let h = canon_stands s in
    let e : h.by ≡ length s - length (canon s) = omega (arith, h.whole) in
    h.gaps v ∙ ap (λ (d : ℕ). later_by d (gap_of (canon s ++ v))) e

pub open_on : (s v : List ℕ) → open_of (s ++ v) ≡ open_of (canon s ++ v)
open_on s v = (canon_stands s).opens v

-- ---- what is kept

pub kept_is : (s : List ℕ) (g : Gap) → gap_of s ≡ g → kept_of s ≡ kept_by g s
unfolding kept_of
kept_is s g e = ap (λ (x : Gap). kept_by x s) e

-- the text is refused with 5, behind a `/`
abbrev pub Odd : List ℕ → Type 0
Odd s = (p : ℕ) × (gap_of s ≡ gap.Refused (unexpected_char p))

-- the number of a refusal
abbrev number_of : Gap → ℕ
number_of (gap.Clear n) = 0
number_of (gap.InLine n) = 0
number_of (gap.Refused r) = r.number

-- of such a text all is kept
pub canon_odd : (s : List ℕ) → Odd s → canon s ≡ s
unfolding front
canon_odd s o = by (ways s)
  where
    by : Ways s → canon s ≡ s
    by (Ways.clear g l e f) = absurd (omega (arith, ap number_of (sym e ∙ o.1)))
    by (Ways.ended e f) = absurd (omega (arith, ap number_of (sym e ∙ o.1)))
    by (Ways.line e f) = absurd (omega (arith, ap number_of (sym e ∙ o.1)))
    by (Ways.block level last k e f) = absurd (omega (arith, ap number_of (sym e ∙ o.1)))
    by (Ways.odd p e f) = canon_is s Clear (gap.Refused (unexpected_char p)) f e

-- whatever follows, the same is kept
pub kept_on : (s v : List ℕ) → (Odd (s ++ v) → ⊥) → kept_of (s ++ v) ≡ kept_of (canon s ++ v)
kept_on s v n = by (ways (canon s ++ v))
  where
    far : (g : Gap) → gap_of (canon s ++ v) ≡ g → gap_of (s ++ v) ≡ later_by (canon_stands s).by g
    far g e = (canon_stands s).gaps v ∙ ap (later_by (canon_stands s).by) e

    by : Ways (canon s ++ v) → kept_of (s ++ v) ≡ kept_of (canon s ++ v)
    by (Ways.clear g l e f) = kept_is (s ++ v) (gap.Clear ((canon_stands s).by + g)) (far (gap.Clear g) e) ∙ (canon_stands s).keeps v g e ∙ sym (kept_is (canon s ++ v) (gap.Clear g) e)
    by (Ways.ended e f) = kept_is (s ++ v) _ (far _ e) ∙ sym (kept_is (canon s ++ v) _ e)
    by (Ways.line e f) = kept_is (s ++ v) _ (far _ e) ∙ sym (kept_is (canon s ++ v) _ e)
    by (Ways.block level last k e f) = kept_is (s ++ v) _ (far _ e) ∙ sym (kept_is (canon s ++ v) _ e)
    by (Ways.odd p e f) = absurd (n ((canon_stands s).by + p, far (gap.Refused (unexpected_char p)) e))

pub canon_on : (s v : List ℕ) → (Odd (s ++ v) → ⊥) → canon (s ++ v) ≡ canon (canon s ++ v)
unfolding canon
canon_on s v n = ap₂ (λ (o : Open) (t : List ℕ). front o ++ t) (open_on s v) (kept_on s v n)

-- `canon` once more changes nothing
pub canon_canon : (s : List ℕ) → canon (canon s) ≡ canon s
canon_canon s = by (ways s)
  where
    fit : ((p : ℕ) → gap_of s ≡ gap.Refused (unexpected_char p) → ⊥) → canon (canon s) ≡ canon s
    fit n =
        sym (ap canon (append-nil (canon s)))
        ∙ sym (canon_on s [] (λ o. n o.0 (ap gap_of (sym (append-nil s)) ∙ o.1)))
        ∙ ap canon (append-nil s)

    by : Ways s → canon (canon s) ≡ canon s
    by (Ways.clear g l e f) = fit (λ p h. omega (arith, ap number_of (sym e ∙ h)))
    by (Ways.ended e f) = fit (λ p h. omega (arith, ap number_of (sym e ∙ h)))
    by (Ways.line e f) = fit (λ p h. omega (arith, ap number_of (sym e ∙ h)))
    by (Ways.block level last k e f) = fit (λ p h. omega (arith, ap number_of (sym e ∙ h)))
    by (Ways.odd p e f) = ap canon (canon_odd s (p, e))

-- of a text that is whitespace and closed comments nothing is left
pub canon_whole : (s : List ℕ) → gap_of s ≡ gap.Clear (length s) → canon s ≡ []
unfolding front
canon_whole s h = by (ways s)
  where
    by : Ways s → canon s ≡ []
    by (Ways.clear g l e f) = canon_is s Clear (gap.Clear (length s)) f h ∙ drop_of_length-le s (le_refl (length s))
    by (Ways.ended e f) = let z : ◌≡◌ {A = ℕ} 0 1 = cc in absurd (omega arith)
    by (Ways.line e f) = let z : ◌≡◌ {A = ℕ} 0 1 = cc in absurd (omega arith)
    by (Ways.block level last k e f) = let z : ◌≡◌ {A = ℕ} 0 1 = cc in absurd (omega arith)
    by (Ways.odd p e f) = let z : ◌≡◌ {A = ℕ} 0 1 = cc in absurd (omega arith)
