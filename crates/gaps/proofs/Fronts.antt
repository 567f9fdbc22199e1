-- The shortest text that leaves something open.
--     open_front    leaves it open, and nothing else is left of it (`canon_front`)
--     open-fits     what a text leaves open can be so left
--     front_short   is no longer than any text that leaves it open; `level_on` bounds the level that a piece comes to
-- Assumes nothing.
use Rattle.std.proofs.Common.{None}
use Prim.Native.Nat.{◌*◌, ◌+◌, ◌≤◌, pred, suc, ℕ}
use native.Mathlib.Omega.{arith}
use mathlib.Core.Bool.{Bool, cond, false, true}
use mathlib.Core.List.{List, [], ◌++◌, ◌∷◌, append-nil}
use mathlib.Core.Logic.{◌⊎◌, inl, inr}
use mathlib.Core.Path.{◌∙◌, ◌≡◌, ap, refl, subst, sym}
use lib.Dec.{eqb}
use lib.ListN.{length, length-append}
use borrow.Author.Tests.{eqb-true}
use Rattle.comments.specs.Blocks.{block_end, block_from}
use Rattle.comments.specs.Gaps.{block_item, gap_from, gap_of}
use Rattle.comments.specs.Lines.{line_end, line_from}
use Rattle.comments.specs.declared.gap.Gap.{Gap}
use Rattle.comments.specs.declared.gap.Gap.TheVariants as gap
use Rattle.comments.specs.declared.gap.Item.{Item}
use Rattle.text.specs.Refusals.{at_place}
use Rattle.gaps.proofs.BlockOpens.{marks_length}
use Rattle.gaps.proofs.Canon.{Ways, canon_is, canon_short, last_length, rest, rest_open, rest_pass, ways}
use Rattle.gaps.proofs.Items.{item_block, item_last, item_line}
use Rattle.gaps.proofs.Standing.{open_gap}
use Rattle.gaps.specs.Opens.{Fits, block_open, by_open, canon, earlier_by, front, kept_of, last_byte, later_by, level_of, marks, open_from, open_of, unpaired}
use Rattle.gaps.specs.declared.state.Open.{Open}
use Rattle.gaps.specs.declared.state.Open.TheVariants.{Clear, Slash, Line, Block}

-- ---- what it leaves open

-- the last byte closes nothing, and it is left
pub last_unclosed : (last level at : ℕ) → block_from (last_byte last ++ []) level at ≡ None
unfolding last_byte block_from
last_unclosed last level at = go (eqb last 0)
  where
    go : (t : Bool) → block_from (cond t [] (last ∷ []) ++ []) level at ≡ None
    go true = refl
    go false = refl

pub last_open : (last level : ℕ) → block_open (last_byte last ++ []) level ≡ Block level (unpaired last)
unfolding last_byte block_open unpaired
last_open last level = go (eqb last 0) refl
  where
    go : (t : Bool) → eqb last 0 ≡ t → block_open (cond t [] (last ∷ []) ++ []) level ≡ Block level (unpaired last)
    go true e = sym (ap (λ (n : ℕ). Block level (unpaired n)) (eqb-true last 0 e))
    go false e = refl

block_left : (level last : ℕ) → open_of (0x2f ∷ 0x2a ∷ rest level last) ≡ Block level (unpaired last)
unfolding open_of block_end
block_left level last =
    let f = rest level last in
    let e : block_end f ≡ None = ap (λ (t : List ℕ). block_from t 1 0) (sym (append-nil f)) ∙ rest_pass level last [] ∙ last_unclosed last (suc level) (2 * level) in
    open_gap 0x2f (0x2a ∷ f)
    ∙ ap (λ (r : Item). by_open r (λ n. open_from (0x2a ∷ f) (pred n)) (0x2a ∷ f)) (item_block f ∙ ap block_item e)
    ∙ ap (λ (t : List ℕ). block_open t 0) (sym (append-nil f))
    ∙ rest_open level last []
    ∙ last_open last level

line_left : open_of (0x2f ∷ 0x2f ∷ []) ≡ Line
unfolding open_of line_end line_from
line_left = open_gap 0x2f (0x2f ∷ []) ∙ ap (λ (r : Item). by_open r (λ n. open_from (0x2f ∷ []) (pred n)) (0x2f ∷ [])) (item_line [])

slash_left : open_of (0x2f ∷ []) ≡ Slash
unfolding open_of
slash_left = open_gap 0x2f [] ∙ ap (λ (r : Item). by_open r (λ n. open_from [] (pred n)) []) item_last

pub open_front : (o : Open) → Fits o → open_of (front o) ≡ o
unfolding front marks open_of open_from
open_front Clear h = refl
open_front Slash h = slash_left
open_front Line h = line_left
open_front (Block level last) h = block_left level last ∙ ap (Block level) h

-- the three last bytes
pub last_fits : (last : ℕ) → (last ≡ 0) ⊎ ((last ≡ 0x2a) ⊎ (last ≡ 0x2f)) → unpaired last ≡ last
unfolding unpaired
last_fits last (inl e) = rw e
last_fits last (inr (inl e)) = rw e
last_fits last (inr (inr e)) = rw e

pub fits_last : (last : ℕ) → unpaired last ≡ last → (last ≡ 0) ⊎ ((last ≡ 0x2a) ⊎ (last ≡ 0x2f))
unfolding unpaired
fits_last last = go (eqb last 0x2a) (eqb last 0x2f) refl refl
  where
    go : (t u : Bool) → eqb last 0x2a ≡ t → eqb last 0x2f ≡ u → cond t last (cond u last 0) ≡ last → (last ≡ 0) ⊎ ((last ≡ 0x2a) ⊎ (last ≡ 0x2f))
    go true u e f h = inr (inl (eqb-true last 0x2a e))
    go false true e f h = inr (inr (eqb-true last 0x2f f))
    go false false e f h = inl (sym h)

-- ---- nothing else

-- a text that leaves something open keeps nothing beside it
abbrev pub Opened : Open → Type 0
Opened Clear = ⊥
Opened Slash = Unit {0}
Opened Line = Unit {0}
Opened (Block level last) = Unit {0}

pub leaves : (t : List ℕ) (o : Open) → open_of t ≡ o → Opened o → canon t ≡ front o
leaves t o e h = by (ways t)
  where
    none : open_of t ≡ Clear → canon t ≡ front o
    none f = absurd (subst Opened (sym e ∙ f) h)

    by : Ways t → canon t ≡ front o
    by (Ways.clear g l a f) = none f
    by (Ways.ended a f) = canon_is t o _ e a ∙ append-nil (front o)
    by (Ways.line a f) = canon_is t o _ e a ∙ append-nil (front o)
    by (Ways.block level last k a f) = canon_is t o _ e a ∙ append-nil (front o)
    by (Ways.odd p a f) = none f

none_left : canon [] ≡ []
unfolding canon front open_of open_from kept_of gap_of gap_from
none_left = refl

pub canon_front : (o : Open) → Fits o → canon (front o) ≡ front o
unfolding front
canon_front Clear h = none_left
canon_front Slash h = leaves (front Slash) Slash (open_front Slash tt) tt
canon_front Line h = leaves (front Line) Line (open_front Line tt) tt
canon_front (Block level last) h = leaves (front (Block level last)) (Block level last) (open_front (Block level last) h) tt

-- ---- what a text leaves open

pub open-fits : (s : List ℕ) → Fits (open_of s)
open-fits s = by (ways s)
  where
    by : Ways s → Fits (open_of s)
    by (Ways.clear g l a f) = subst Fits (sym f) tt
    by (Ways.ended a f) = subst Fits (sym f) tt
    by (Ways.line a f) = subst Fits (sym f) tt
    by (Ways.block level last k a f) = subst Fits (sym f) k
    by (Ways.odd p a f) = subst Fits (sym f) tt

-- ---- how long it is

pub front_short : (s : List ℕ) → length (front (open_of s)) ≤ length s
unfolding canon
front_short s = omega (arith, length-append (front (open_of s)) (kept_of s), canon_short s)

pub front_block : (level last : ℕ) → length (front (Block level last)) ≡ 2 * level + 2 + length (last_byte last)
unfolding front
front_block level last = omega (arith, length-append (marks (suc level)) (last_byte last), marks_length (suc level))

front_most : (o : Open) → length (front o) ≤ 2 * level_of o + 3
unfolding front
front_most Clear = omega arith
front_most Slash = omega arith
front_most Line = omega arith
front_most (Block level last) = omega (arith, front_block level last, last_length last)

-- a piece adds no more to the level than it has bytes
pub level_on : (o : Open) (s : List ℕ) → level_of (open_of (front o ++ s)) ≤ level_of o + length s
level_on o s = go (open_of (front o ++ s)) (front_short (front o ++ s))
  where
    go : (x : Open) → length (front x) ≤ length (front o ++ s) → level_of x ≤ level_of o + length s
    go Clear h = omega arith
    go Slash h = omega arith
    go Line h = omega arith
    go (Block level last) h = omega (arith, front_block level last, length-append (front o) s, front_most o)

-- ---- the same gap there and back

pub earlier_later : (d : ℕ) (g : Gap) → earlier_by d (later_by d g) ≡ g
earlier_later d (gap.Clear n) = ap gap.Clear (omega arith)
earlier_later d (gap.InLine n) = ap gap.InLine (omega arith)
earlier_later d (gap.Refused r) = ap (λ (p : ℕ). gap.Refused (at_place r p)) (omega arith)
