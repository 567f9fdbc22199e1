-- Laws of block comments, at an index of the text, as the loop asks for them. Assumes nothing.
use Rattle.std.proofs.Common.{Some, None, Option}
use Prim.Native.Nat.{◌+◌, ◌-◌, ◌<◌, ◌≤◌, suc, ℕ}
use native.Mathlib.Nat.{add-zero, le_of_suc-le-suc, not-suc-le-zero}
use native.Mathlib.Omega.{arith}
use mathlib.Core.Bool.{true, ◌||◌}
use mathlib.Core.List.{List, [], ◌∷◌}
use mathlib.Core.Path.{◌∙◌, ◌≡◌, ap, refl, subst, sym}
use lib.Dec.{eqb}
use lib.ListN.{drop, get_or, length, length-drop}
use lib.Seq.{drop-drop}
use borrow.Author.Tests.{eqb-false, not-true}
use Rattle.comments.proofs.RuleLaws.{not_last, passes_other}
use Rattle.comments.specs.Blocks.{block_end, block_from, decision_of}
use Rattle.comments.specs.declared.block.Decision.{Decision}
use Rattle.comments.specs.declared.block.Decision.TheVariants.{Open, CloseLast, CloseInner, PassOn}
use Rattle.search.specs.inner.Others.{neither}
use Rattle.text.proofs.Choices.{bool_cases, either, or_left, or_right}
use Rattle.text.proofs.Lists.{front2, next}
use Rattle.text.specs.Runs.{run}

-- ---- the rule

-- what follows a decision over two bytes, of which b is the second, with s behind them
abbrev pub after : ℕ → List ℕ → ℕ → ℕ → Decision → Option ℕ
after b s level at d =
    elim d [
      | Open ↦ block_from s (level + 1) (at + 2)
      | CloseLast ↦ Some (at + 2)
      | CloseInner ↦ block_from s (level - 1) (at + 2)
      | PassOn ↦ block_from (b ∷ s) level (at + 1)
    ]

pub step : (a b : ℕ) (s : List ℕ) (level at : ℕ) → block_from (a ∷ b ∷ s) level at ≡ after b s level at (decision_of a b level)
unfolding block_from
step a b s level at = refl

-- what holds behind each decision holds
pub step_cases : (P : Option ℕ → Type 0) (a b : ℕ) (s : List ℕ) (level at : ℕ)
    → P (block_from s (level + 1) (at + 2)) → P (Some (at + 2)) → P (block_from s (level - 1) (at + 2)) → P (block_from (b ∷ s) level (at + 1))
    → P (block_from (a ∷ b ∷ s) level at)
step_cases P a b s level at o l c n = subst P (sym (step a b s level at)) (go (decision_of a b level))
  where
    go : (d : Decision) → P (after b s level at d)
    go Open = o
    go CloseLast = l
    go CloseInner = c
    go PassOn = n

-- what a decision at the place i of a text says of the comment there
abbrev pub Decided : List ℕ → ℕ → ℕ → Decision → Type 0
Decided s i level Open = block_from (drop i s) level i ≡ block_from (drop (i + 2) s) (level + 1) (i + 2)
Decided s i level CloseLast = block_from (drop i s) level i ≡ Some (i + 2)
Decided s i level CloseInner = (level ≡ 1 → ⊥) × (block_from (drop i s) level i ≡ block_from (drop (i + 2) s) (level - 1) (i + 2))
Decided s i level PassOn = block_from (drop i s) level i ≡ block_from (drop (i + 1) s) level (i + 1)

pub decided : (s : List ℕ) (i level : ℕ) → i + 1 < length s → Decided s i level (decision_of (get_or s i 0) (get_or s (i + 1) 0) level)
decided s i level h = go (decision_of (get_or s i 0) (get_or s (i + 1) 0) level) refl
  where
    there : (d : Decision) → decision_of (get_or s i 0) (get_or s (i + 1) 0) level ≡ d
        → block_from (drop i s) level i ≡ after (get_or s (i + 1) 0) (drop (i + 2) s) level i d
    there d e = rw (front2 s i h) (step (get_or s i 0) (get_or s (i + 1) 0) (drop (i + 2) s) level i ∙ ap (after (get_or s (i + 1) 0) (drop (i + 2) s) level i) e)

    go : (d : Decision) → decision_of (get_or s i 0) (get_or s (i + 1) 0) level ≡ d → Decided s i level d
    go Open e = there Open e
    go CloseLast e = there CloseLast e
    go CloseInner e = (not_last (get_or s i 0) (get_or s (i + 1) 0) level e, there CloseInner e)
    go PassOn e = rw (next s i h) (there PassOn e)

-- ---- up to the next mark

-- a byte that is neither `*` nor `/` begins no mark
no_mark : (a b level : ℕ) → neither 0x2a 0x2f a ≡ true → decision_of a b level ≡ PassOn
unfolding neither
no_mark a b level e =
    let n = not-true (eqb a 0x2a || eqb a 0x2f) e in
    sym (passes_other a b level (eqb-false a 0x2f (or_right (eqb a 0x2a) (eqb a 0x2f) n)) (eqb-false a 0x2a (or_left (eqb a 0x2a) (eqb a 0x2f) n)))

-- and is passed on
passed : (a : ℕ) (t : List ℕ) (level at : ℕ) → neither 0x2a 0x2f a ≡ true → block_from (a ∷ t) level at ≡ block_from t level (at + 1)
unfolding block_from
passed a [] level at e = refl
passed a (b ∷ t) level at e = step a b t level at ∙ ap (after b t level at) (no_mark a b level e)

passes : (t : List ℕ) (level at : ℕ) → block_from t level at ≡ block_from (drop (run (neither 0x2a 0x2f) t) t) level (at + run (neither 0x2a 0x2f) t)
unfolding run
passes [] level at = ap (block_from [] level) (sym (add-zero at))
passes (a ∷ t) level at =
    either (bool_cases (neither 0x2a 0x2f a))
    (λ e.
    let n = run (neither 0x2a 0x2f) t in
    let j : at + 1 + n ≡ at + suc n = omega arith in
    rw e (passed a t level at e ∙ passes t level (at + 1) ∙ ap (block_from (drop n t) level) j))
    (λ e. rw e (ap (block_from (a ∷ t) level) (sym (add-zero at))))

pub block_passes : (s : List ℕ) (i level j : ℕ) → j ≡ i + run (neither 0x2a 0x2f) (drop i s) → block_from (drop i s) level i ≡ block_from (drop j s) level j
block_passes s i level j e =
    let n = run (neither 0x2a 0x2f) (drop i s) in
    rw e (passes (drop i s) level i ∙ ap (λ (t : List ℕ). block_from t level (i + n)) (drop-drop n i s))

-- with fewer than two bytes left, no comment is closed
short : (t : List ℕ) (level at : ℕ) → length t < 2 → block_from t level at ≡ None
unfolding block_from
short [] level at p = refl
short (a ∷ []) level at p = refl
short (a ∷ b ∷ t) level at p = absurd (not-suc-le-zero (le_of_suc-le-suc (le_of_suc-le-suc p)))

pub block_short : (s : List ℕ) (i level : ℕ) → length s - i < 2 → block_from (drop i s) level i ≡ None
block_short s i level h = short (drop i s) level i (rw (length-drop i s) h)

-- ---- where a comment ends

-- an end that is there lies within what is left of the text
abbrev pub Bounded : ℕ → ℕ → Option ℕ → Type 0
Bounded from to (Some e) = (from ≤ e) × (e ≤ to)
Bounded from to None = Unit {0}

pub wider : (from to from' to' : ℕ) → from ≤ from' → to' ≤ to → (r : Option ℕ) → Bounded from' to' r → Bounded from to r
wider from to from' to' p q (Some e) b = omega arith
wider from to from' to' p q None b = tt

block_bounded : (s : List ℕ) (level at : ℕ) → Bounded at (at + length s) (block_from s level at)
unfolding block_from
block_bounded [] level at = tt
block_bounded (a ∷ []) level at = tt
block_bounded (a ∷ b ∷ s) level at =
    let end = at + length (a ∷ b ∷ s) in
    let two = wider at end (at + 2) (at + 2 + length s) (omega arith) (omega arith) in
    step_cases (Bounded at end) a b s level at (two (block_from s (level + 1) (at + 2)) (block_bounded s (level + 1) (at + 2))) (omega arith)
    (two (block_from s (level - 1) (at + 2)) (block_bounded s (level - 1) (at + 2)))
    (wider at end (at + 1) (at + 1 + length (b ∷ s)) (omega arith) (omega arith) (block_from (b ∷ s) level (at + 1)) (block_bounded (b ∷ s) level (at + 1)))

pub block_end_le : (s : List ℕ) → Bounded 0 (length s) (block_end s)
unfolding block_end
block_end_le s = wider 0 (length s) 0 (0 + length s) (omega arith) (omega arith) (block_from s 1 0) (block_bounded s 1 0)
