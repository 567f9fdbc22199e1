-- Block comments that are still open: `still` says that the bytes of one may be replaced by its last byte, if that is unpaired, at the level that they leave,
-- and `marks_pass` that a mark `/*` only adds to the level. Assumes nothing.
use Rattle.std.proofs.Common.{Some, None, Option}
use Prim.Native.Nat.{◌*◌, ◌+◌, ◌-◌, ◌≤◌, pred, suc, zero, ℕ}
use native.Mathlib.Nat.{add-zero}
use native.Mathlib.Numerals.{add-one}
use native.Mathlib.Omega.{arith}
use mathlib.Core.Bool.{Bool, false, true}
use mathlib.Core.List.{List, [], ◌++◌, ◌∷◌}
use mathlib.Core.Path.{◌∙◌, ◌≡◌, ap, refl, sym}
use lib.Dec.{eqb}
use lib.ListN.{length}
use borrow.Author.Tests.{eqb-false, eqb-true, ne_eqb}
use Rattle.comments.proofs.BlockLaws.{Bounded, after, step, step_cases, wider}
use Rattle.comments.proofs.RuleLaws.{not_last, passes_other}
use Rattle.comments.specs.Blocks.{block_from, decision_of}
use Rattle.comments.specs.declared.block.Decision.{Decision}
use Rattle.comments.specs.declared.block.Decision.TheVariants as decision
use Rattle.gaps.specs.Opens.{block_open, last_byte, marks, unpaired}
use Rattle.gaps.specs.declared.state.Open.{Open}
use Rattle.gaps.specs.declared.state.Open.TheVariants.{Clear, Block}

-- ---- ends

-- the same end, d bytes further on
abbrev pub later_end : ℕ → Option ℕ → Option ℕ
later_end d (Some e) = Some (d + e)
later_end d None = None

-- an end that is there stands at m or behind it
abbrev pub From : ℕ → Option ℕ → Type 0
From m (Some e) = m ≤ e
From m None = Unit {0}

pub from_less : (m n : ℕ) (r : Option ℕ) → m ≤ n → From n r → From m r
from_less m n (Some e) h f = omega arith
from_less m n None h f = tt

-- a mark is two bytes
pub block-from : (s : List ℕ) (level at : ℕ) → From (at + 2) (block_from s level at)
unfolding block_from
block-from [] level at = tt
block-from (a ∷ []) level at = tt
block-from (a ∷ b ∷ s) level at =
    step_cases (From (at + 2)) a b s level at (from_less (at + 2) (at + 2 + 2) (block_from s (level + 1) (at + 2)) (omega arith) (block-from s (level + 1) (at + 2))) (omega arith)
    (from_less (at + 2) (at + 2 + 2) (block_from s (level - 1) (at + 2)) (omega arith) (block-from s (level - 1) (at + 2)))
    (from_less (at + 2) (at + 1 + 2) (block_from (b ∷ s) level (at + 1)) (omega arith) (block-from (b ∷ s) level (at + 1)))

moved_by : (b : ℕ) (s : List ℕ) (level d at : ℕ) → ((l : ℕ) → block_from s l (d + (at + 2)) ≡ later_end d (block_from s l (at + 2)))
    → block_from (b ∷ s) level (d + (at + 1)) ≡ later_end d (block_from (b ∷ s) level (at + 1)) → (x : Decision) → after b s level (d + at) x ≡ later_end d (after b s level at x)
moved_by b s level d at two one decision.Open = ap (block_from s (level + 1)) (omega arith) ∙ two (level + 1)
moved_by b s level d at two one decision.CloseLast = ap Some (omega arith)
moved_by b s level d at two one decision.CloseInner = ap (block_from s (level - 1)) (omega arith) ∙ two (level - 1)
moved_by b s level d at two one decision.PassOn = ap (block_from (b ∷ s) level) (omega arith) ∙ one

-- where a comment ends does not depend on its place
pub block_moved : (s : List ℕ) (level d at : ℕ) → block_from s level (d + at) ≡ later_end d (block_from s level at)
unfolding block_from
block_moved [] level d at = refl
block_moved (a ∷ []) level d at = refl
block_moved (a ∷ b ∷ s) level d at =
    step a b s level (d + at)
    ∙ moved_by b s level d at (λ l. block_moved s l d (at + 2)) (block_moved (b ∷ s) level d (at + 1)) (decision_of a b level)
    ∙ ap (later_end d) (sym (step a b s level at))

more_by : (b : ℕ) (s v : List ℕ) (level at e : ℕ) → ((l : ℕ) → block_from s l (at + 2) ≡ Some e → block_from (s ++ v) l (at + 2) ≡ Some e)
    → (block_from (b ∷ s) level (at + 1) ≡ Some e → block_from (b ∷ s ++ v) level (at + 1) ≡ Some e) → (x : Decision) → after b s level at x ≡ Some e → after b (s ++ v) level at x ≡ Some e
more_by b s v level at e two one decision.Open = two (level + 1)
more_by b s v level at e two one decision.CloseLast = λ q. q
more_by b s v level at e two one decision.CloseInner = two (level - 1)
more_by b s v level at e two one decision.PassOn = one

-- an end that has come stays
pub block_more : (s v : List ℕ) (level at e : ℕ) → block_from s level at ≡ Some e → block_from (s ++ v) level at ≡ Some e
unfolding block_from
block_more [] v level at e h = let z : ◌≡◌ {A = ℕ} 0 1 = cc in absurd (omega arith)
block_more (a ∷ []) v level at e h = let z : ◌≡◌ {A = ℕ} 0 1 = cc in absurd (omega arith)
block_more (a ∷ b ∷ s) v level at e h =
    step a b (s ++ v) level at
    ∙ more_by b s v level at e (λ l. block_more s v l (at + 2) e) (block_more (b ∷ s) v level (at + 1) e) (decision_of a b level) (sym (step a b s level at) ∙ h)

-- ---- what is open behind two bytes

-- what follows a decision over two bytes, of which b is the second, with s behind them
abbrev pub after_open : ℕ → List ℕ → ℕ → Decision → Open
after_open b s k x =
    elim x [
      | decision.Open ↦ block_open s (suc k)
      | decision.CloseLast ↦ Clear
      | decision.CloseInner ↦ block_open s (pred k)
      | decision.PassOn ↦ block_open (b ∷ s) k
    ]

pub open_step : (a b : ℕ) (s : List ℕ) (k : ℕ) → block_open (a ∷ b ∷ s) k ≡ after_open b s k (decision_of a b (suc k))
unfolding block_open
open_step a b s k = refl

-- ---- marks

slash_star : (s : List ℕ) (k at : ℕ) → block_from (0x2f ∷ 0x2a ∷ s) (suc k) at ≡ block_from s (suc (suc k)) (at + 2)
slash_star s k at = step 0x2f 0x2a s (suc k) at ∙ ap (λ (l : ℕ). block_from s l (at + 2)) (add-one (suc k))

pub marks_length : (n : ℕ) → length (marks n) ≡ 2 * n
unfolding marks
marks_length zero = refl
marks_length (suc n) = omega (arith, marks_length n)

-- each mark adds to the level
pub marks_pass : (n : ℕ) (t : List ℕ) (k at : ℕ) → block_from (marks n ++ t) (suc k) at ≡ block_from t (suc (k + n)) (at + 2 * n)
unfolding marks
marks_pass zero t k at =
    let e : at ≡ at + 2 * 0 = omega arith in
    ap (λ (l : ℕ). block_from t (suc l) at) (sym (add-zero k)) ∙ ap (block_from t (suc (k + 0))) e
marks_pass (suc n) t k at =
    let e : suc k + n ≡ k + suc n = omega arith in
    let f : at + 2 + 2 * n ≡ at + 2 * suc n = omega arith in
    slash_star (marks n ++ t) k at
    ∙ marks_pass n t (suc k) (at + 2)
    ∙ ap (λ (l : ℕ). block_from t (suc l) (at + 2 + 2 * n)) e
    ∙ ap (block_from t (suc (k + suc n))) f

pub marks_open : (n : ℕ) (t : List ℕ) (k : ℕ) → block_open (marks n ++ t) k ≡ block_open t (k + n)
unfolding marks
marks_open zero t k = ap (block_open t) (sym (add-zero k))
marks_open (suc n) t k =
    let e : suc k + n ≡ k + suc n = omega arith in
    open_step 0x2f 0x2a (marks n ++ t) k ∙ marks_open n t (suc k) ∙ ap (block_open t) e

-- ---- bytes of a comment that is not closed

-- s, behind which nothing closed the comment, leaves so many others around it and a last byte: `by` bytes are passed, and the last byte is left
pub record Still (s : List ℕ) (k : ℕ) : Type 0 where
  pub level : ℕ
  pub last : ℕ
  pub by : ℕ
  pub fit : unpaired last ≡ last
  pub told : block_open s k ≡ Block level last
  pub whole : length s ≡ by + length (last_byte last)
  pub deep : 2 * level ≤ 2 * k + by
  pub goes : (v : List ℕ) (at : ℕ) → block_from (s ++ v) (suc k) at ≡ block_from (last_byte last ++ v) (suc level) (at + by)
  pub opens : (v : List ℕ) → block_open (s ++ v) k ≡ block_open (last_byte last ++ v) level

none : (k : ℕ) → Still [] k
unfolding block_open last_byte unpaired
none k = record {
  level = k;
  last = 0;
  by = 0;
  fit = refl;
  told = refl;
  whole = refl;
  deep = omega arith;
  goes = λ v at. ap (block_from v (suc k)) (sym (add-zero at));
  opens = λ v. refl;
}

-- a `*` or a `/` waits for the next byte
waits : (a k : ℕ) → unpaired a ≡ a → (a ≡ 0 → ⊥) → Still (a ∷ []) k
unfolding block_open last_byte
waits a k e n = record {
  level = k;
  last = a;
  by = 0;
  fit = e;
  told = ap (Block k) e;
  whole = rw (ne_eqb a 0 n);
  deep = omega arith;
  goes = λ v at. (let z : at ≡ at + 0 = sym (add-zero at) in rw (ne_eqb a 0 n) (ap (block_from (a ∷ v) (suc k)) z));
  opens = λ v. rw (ne_eqb a 0 n);
}

-- a byte that begins no mark is passed
pub other_passed : (a : ℕ) (v : List ℕ) (level at : ℕ) → (a ≡ 0x2f → ⊥) → (a ≡ 0x2a → ⊥) → block_from (a ∷ v) level at ≡ block_from v level (at + 1)
unfolding block_from
other_passed a [] level at m n = refl
other_passed a (b ∷ v) level at m n = step a b v level at ∙ ap (after b v level at) (sym (passes_other a b level m n))

pub other_open : (a : ℕ) (v : List ℕ) (k : ℕ) → (a ≡ 0x2f → ⊥) → (a ≡ 0x2a → ⊥) → block_open (a ∷ v) k ≡ block_open v k
unfolding block_open unpaired
other_open a [] k m n = rw (ne_eqb a 0x2f m, ne_eqb a 0x2a n)
other_open a (b ∷ v) k m n = open_step a b v k ∙ ap (after_open b v k) (sym (passes_other a b (suc k) m n))

other : (a k : ℕ) → (a ≡ 0x2f → ⊥) → (a ≡ 0x2a → ⊥) → Still (a ∷ []) k
unfolding last_byte block_open unpaired
other a k m n = record {
  level = k;
  last = 0;
  by = 1;
  fit = refl;
  told = other_open a [] k m n;
  whole = refl;
  deep = omega arith;
  goes = λ v at. other_passed a v (suc k) at m n;
  opens = λ v. other_open a v k m n;
}

one : (a k : ℕ) (t u : Bool) → eqb a 0x2a ≡ t → eqb a 0x2f ≡ u → Still (a ∷ []) k
unfolding unpaired
one a k true u e f = let q = eqb-true a 0x2a e in waits a k (rw e) (λ z. omega arith)
one a k false true e f = let q = eqb-true a 0x2f f in waits a k (rw (e, f)) (λ z. omega arith)
one a k false false e f = other a k (eqb-false a 0x2f f) (eqb-false a 0x2a e)

-- by the decision over two bytes
two : (a b : ℕ) (s : List ℕ) (k at : ℕ) (x : Decision) → decision_of a b (suc k) ≡ x
    → ((l at : ℕ) → block_from s (suc l) at ≡ None → Still s l) → ((at : ℕ) → block_from (b ∷ s) (suc k) at ≡ None → Still (b ∷ s) k)
    → after b s (suc k) at x ≡ None → Still (a ∷ b ∷ s) k
two a b s k at decision.Open e rest next h =
    let j : suc k + 1 ≡ suc (suc k) = add-one (suc k) in
    let r = rest (suc k) (at + 2) (ap (λ (l : ℕ). block_from s l (at + 2)) (sym j) ∙ h) in
    record {
      level = r.level;
      last = r.last;
      fit = r.fit;
      by = 2 + r.by;
      told = open_step a b s k ∙ ap (after_open b s k) e ∙ r.told;
      whole = omega (arith, r.whole);
      deep = omega (arith, r.deep);
      goes = λ v p. (let q : p + 2 + r.by ≡ p + (2 + r.by) = omega arith in
          step a b (s ++ v) (suc k) p ∙ ap (after b (s ++ v) (suc k) p) e ∙ ap (λ (l : ℕ). block_from (s ++ v) l (p + 2)) j
          ∙ r.goes v (p + 2) ∙ ap (block_from (last_byte r.last ++ v) (suc r.level)) q);
      opens = λ v. open_step a b (s ++ v) k ∙ ap (after_open b (s ++ v) k) e ∙ r.opens v;
    }
two a b s k at decision.CloseLast e rest next h = let z : ◌≡◌ {A = ℕ} 0 1 = cc in absurd (omega arith)
two a b s zero at decision.CloseInner e rest next h = absurd (not_last a b 1 e refl)
two a b s (suc k) at decision.CloseInner e rest next h =
    let j : suc (suc k) - 1 ≡ suc k = omega arith in
    let r = rest k (at + 2) (ap (λ (l : ℕ). block_from s l (at + 2)) (sym j) ∙ h) in
    record {
      level = r.level;
      last = r.last;
      fit = r.fit;
      by = 2 + r.by;
      told = open_step a b s (suc k) ∙ ap (after_open b s (suc k)) e ∙ r.told;
      whole = omega (arith, r.whole);
      deep = omega (arith, r.deep);
      goes = λ v p. (let q : p + 2 + r.by ≡ p + (2 + r.by) = omega arith in
          step a b (s ++ v) (suc (suc k)) p ∙ ap (after b (s ++ v) (suc (suc k)) p) e ∙ ap (λ (l : ℕ). block_from (s ++ v) l (p + 2)) j
          ∙ r.goes v (p + 2) ∙ ap (block_from (last_byte r.last ++ v) (suc r.level)) q);
      opens = λ v. open_step a b (s ++ v) (suc k) ∙ ap (after_open b (s ++ v) (suc k)) e ∙ r.opens v;
    }
two a b s k at decision.PassOn e rest next h =
    let r = next (at + 1) h in
    record {
      level = r.level;
      last = r.last;
      fit = r.fit;
      by = 1 + r.by;
      told = open_step a b s k ∙ ap (after_open b s k) e ∙ r.told;
      whole = omega (arith, r.whole);
      deep = omega (arith, r.deep);
      goes = λ v p. (let q : p + 1 + r.by ≡ p + (1 + r.by) = omega arith in
          step a b (s ++ v) (suc k) p ∙ ap (after b (s ++ v) (suc k) p) e ∙ r.goes v (p + 1) ∙ ap (block_from (last_byte r.last ++ v) (suc r.level)) q);
      opens = λ v. open_step a b (s ++ v) k ∙ ap (after_open b (s ++ v) k) e ∙ r.opens v;
    }

pub still : (s : List ℕ) (k at : ℕ) → block_from s (suc k) at ≡ None → Still s k
still [] k at h = none k
still (a ∷ []) k at h = one a k (eqb a 0x2a) (eqb a 0x2f) refl refl
still (a ∷ b ∷ s) k at h = two a b s k at (decision_of a b (suc k)) refl (λ l p. still s l p) (λ p. still (b ∷ s) k p) (sym (step a b s (suc k) at) ∙ h)

-- ---- an end that is there lies within the text

pub block_le : (s : List ℕ) (level at : ℕ) → Bounded at (at + length s) (block_from s level at)
unfolding block_from
block_le [] level at = tt
block_le (a ∷ []) level at = tt
block_le (a ∷ b ∷ s) level at =
    let end = at + length (a ∷ b ∷ s) in
    let two = wider at end (at + 2) (at + 2 + length s) (omega arith) (omega arith) in
    step_cases (Bounded at end) a b s level at (two (block_from s (level + 1) (at + 2)) (block_le s (level + 1) (at + 2))) (omega arith)
    (two (block_from s (level - 1) (at + 2)) (block_le s (level - 1) (at + 2)))
    (wider at end (at + 1) (at + 1 + length (b ∷ s)) (omega arith) (omega arith) (block_from (b ∷ s) level (at + 1)) (block_le (b ∷ s) level (at + 1)))
