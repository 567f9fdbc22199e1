-- How far a block comment goes, at an index of the piece, as the loop asks for it. Assumes nothing.
use Prim.Native.Nat.{◌+◌, ◌-◌, ◌<◌, pred, suc, zero, ℕ}
use native.Mathlib.Nat.{le_of_suc-le-suc, not-suc-le-zero}
use native.Mathlib.Numerals.{add-one}
use native.Mathlib.Omega.{arith}
use mathlib.Core.Bool.{◌||◌}
use mathlib.Core.List.{List, [], ◌∷◌}
use mathlib.Core.Path.{◌∙◌, ◌≡◌, ap, ap₂, refl, sym}
use lib.Dec.{eqb}
use lib.ListN.{drop, get_or, length, length-drop}
use lib.Seq.{drop-drop}
use borrow.Author.Tests.{eqb-false, not-true}
use Rattle.comments.proofs.BlockLaws.{Decided, block_passes, block_short, decided}
use Rattle.comments.specs.Blocks.{block_from, decision_of}
use Rattle.comments.specs.declared.block.Decision.{Decision}
use Rattle.comments.specs.declared.block.Decision.TheVariants as decision
use Rattle.search.specs.inner.Others.{neither}
use Rattle.text.proofs.Choices.{bool_cases, either, or_left, or_right}
use Rattle.text.proofs.Lists.{front2, head_at, next}
use Rattle.text.specs.Runs.{run}
use Rattle.gaps.proofs.BlockOpens.{after_open, open_step, other_open}
use Rattle.gaps.specs.Opens.{block_open, unpaired}
use Rattle.gaps.specs.inner.Steps.{rest_by, rest_of}
use Rattle.std.proofs.Common.{Result, Ok, Err}
use Rattle.gaps.specs.declared.state.Open.{Open}
use Rattle.gaps.specs.declared.state.Open.TheVariants.{Block}

-- at the place i, where `level` comments are open
unfoldable pub rest_at : List ℕ → ℕ → ℕ → Result ℕ Open
rest_at s i level = rest_by (block_open (drop i s) (pred level)) (block_from (drop i s) level i)

-- ---- one decision

-- what a decision at the place i says of what is open
abbrev OpenBy : List ℕ → ℕ → ℕ → Decision → Type 0
OpenBy s i k decision.Open = block_open (drop i s) k ≡ block_open (drop (i + 2) s) (suc k)
OpenBy s i k decision.CloseLast = Unit {0}
OpenBy s i k decision.CloseInner = block_open (drop i s) k ≡ block_open (drop (i + 2) s) (pred k)
OpenBy s i k decision.PassOn = block_open (drop i s) k ≡ block_open (drop (i + 1) s) k

open_decided : (s : List ℕ) (i k : ℕ) → i + 1 < length s → OpenBy s i k (decision_of (get_or s i 0) (get_or s (i + 1) 0) (suc k))
open_decided s i k h = go (decision_of (get_or s i 0) (get_or s (i + 1) 0) (suc k)) refl
  where
    there : (d : Decision) → decision_of (get_or s i 0) (get_or s (i + 1) 0) (suc k) ≡ d → block_open (drop i s) k ≡ after_open (get_or s (i + 1) 0) (drop (i + 2) s) k d
    there d e = rw (front2 s i h) (open_step (get_or s i 0) (get_or s (i + 1) 0) (drop (i + 2) s) k ∙ ap (after_open (get_or s (i + 1) 0) (drop (i + 2) s) k) e)

    go : (d : Decision) → decision_of (get_or s i 0) (get_or s (i + 1) 0) (suc k) ≡ d → OpenBy s i k d
    go decision.Open e = there decision.Open e
    go decision.CloseLast e = tt
    go decision.CloseInner e = there decision.CloseInner e
    go decision.PassOn e = rw (next s i h) (there decision.PassOn e)

-- what it says of the comment
abbrev pub RestBy : List ℕ → ℕ → ℕ → Decision → Type 0
RestBy s i level decision.Open = rest_at s i level ≡ rest_at s (i + 2) (level + 1)
RestBy s i level decision.CloseLast = rest_at s i level ≡ Ok (i + 2)
RestBy s i level decision.CloseInner = (level ≡ 1 → ⊥) × (rest_at s i level ≡ rest_at s (i + 2) (level - 1))
RestBy s i level decision.PassOn = rest_at s i level ≡ rest_at s (i + 1) level

rest-by : (s : List ℕ) (i k : ℕ) (d : Decision) → Decided s i (suc k) d → OpenBy s i k d → RestBy s i (suc k) d
unfolding rest_at
rest-by s i k decision.Open e f =
    let j : suc k ≡ pred (suc k + 1) = omega arith in
    ap₂ rest_by (f ∙ ap (block_open (drop (i + 2) s)) j) e
rest-by s i k decision.CloseLast e f = ap (rest_by (block_open (drop i s) k)) e
rest-by s i k decision.CloseInner e f =
    let j : pred k ≡ pred (suc k - 1) = omega arith in
    (e.0, ap₂ rest_by (f ∙ ap (block_open (drop (i + 2) s)) j) e.1)
rest-by s i k decision.PassOn e f = ap₂ rest_by f e

pub rest_decided : (s : List ℕ) (i level : ℕ) → 0 < level → i + 1 < length s → RestBy s i level (decision_of (get_or s i 0) (get_or s (i + 1) 0) level)
rest_decided s i zero p h = absurd (omega arith)
rest_decided s i (suc k) p h = rest-by s i k (decision_of (get_or s i 0) (get_or s (i + 1) 0) (suc k)) (decided s i (suc k) h) (open_decided s i k h)

-- ---- up to the next mark

open_passes : (t : List ℕ) (k : ℕ) → block_open t k ≡ block_open (drop (run (neither 0x2a 0x2f) t) t) k
unfolding run neither
open_passes [] k = refl
open_passes (a ∷ t) k =
    either (bool_cases (neither 0x2a 0x2f a))
    (λ e. let n = not-true (eqb a 0x2a || eqb a 0x2f) e in
    rw e (other_open a t k (eqb-false a 0x2f (or_right (eqb a 0x2a) (eqb a 0x2f) n)) (eqb-false a 0x2a (or_left (eqb a 0x2a) (eqb a 0x2f) n)) ∙ open_passes t k))
    (λ e. rw e)

pub rest_passes : (s : List ℕ) (i level j : ℕ) → j ≡ i + run (neither 0x2a 0x2f) (drop i s) → rest_at s i level ≡ rest_at s j level
unfolding rest_at
rest_passes s i level j e =
    let n = run (neither 0x2a 0x2f) (drop i s) in
    ap₂ rest_by (open_passes (drop i s) (pred level) ∙ ap (λ (t : List ℕ). block_open t (pred level)) (drop-drop n i s ∙ ap (λ (m : ℕ). drop m s) (sym e))) (block_passes s i level j e)

-- ---- at the end

-- with fewer than two bytes left, the last is open
short : (t : List ℕ) (k : ℕ) → length t < 2 → block_open t k ≡ Block k (unpaired (get_or t 0 0))
unfolding block_open unpaired
short [] k p = refl
short (a ∷ []) k p = refl
short (a ∷ b ∷ t) k p = absurd (not-suc-le-zero (le_of_suc-le-suc (le_of_suc-le-suc p)))

pub rest_short : (s : List ℕ) (i level : ℕ) → length s - i < 2 → rest_at s i level ≡ Err (Block (pred level) (unpaired (get_or s i 0)))
unfolding rest_at
rest_short s i level h =
    ap₂ rest_by (short (drop i s) (pred level) (rw (length-drop i s) h) ∙ ap (λ (b : ℕ). Block (pred level) (unpaired b)) (head_at s i)) (block_short s i level h)

-- ---- at the beginning

pub rest_start : (s : List ℕ) (i k : ℕ) → rest_at s i (k + 1) ≡ rest_of s i k
unfolding rest_at rest_of
rest_start s i k =
    let e : pred (k + 1) ≡ k = omega arith in
    ap₂ rest_by (ap (block_open (drop i s)) e) (ap (λ (l : ℕ). block_from (drop i s) l i) (add-one k))
