-- The search for the innermost open bracket, from behind. Assumes nothing.
use Prim.Native.Nat.{ℕ, zero, suc, ◌<◌, ◌≤◌}
use native.Mathlib.Omega.{arith}
use mathlib.Core.Bool.{Bool, true, false, not, cond}
use mathlib.Core.List.{List, [], ◌∷◌}
use Rattle.std.proofs.Common.{Option, None, Some}
use mathlib.Core.Path.{◌≡◌, ap, refl, subst, sym, ◌∙◌}
use lib.Dec.{eqb}
use lib.ListN.{drop}
use borrow.Author.Tests.{eq-eqb, ne_eqb}
use Rattle.grammar.specs.declared.kinds.Side.{Side}
use Rattle.grammar.specs.declared.kinds.Side.TheVariants.{Opens, Closes, Neither}
use Rattle.rows.specs.Rows.{entry_at}
use Rattle.opened.specs.Brackets.{side_at, behind_entry, open_brackets, first_of, innermost, closes_other, other_of, other_before}
use Rattle.opened.specs.declared.begun.Begun.TheVariants.{Nothing, Bracket}

-- the open bracket behind k others
abbrev pub behind_others : List ℕ → ℕ → Option ℕ
behind_others [] k = None
behind_others (i ∷ os) zero = Some i
behind_others (i ∷ os) (suc k) = behind_others os k

first-of : (os : List ℕ) → first_of os ≡ behind_others os 0
first-of [] = refl
first-of (i ∷ os) = refl

one_taken : (os : List ℕ) (k : ℕ) → behind_others (drop 1 os) k ≡ behind_others os (suc k)
one_taken [] k = refl
one_taken (i ∷ os) k = refl

-- ---- one entry further in front

module _ (tape : List ℕ) where
  pub search_starts : (n : ℕ) → behind_others (open_brackets tape n) 0 ≡ innermost tape n
  unfolding innermost
  search_starts n = sym (first-of (open_brackets tape n))

  by_side : (j : ℕ) (x : Side) → side_at tape j ≡ x → open_brackets tape (suc j) ≡ behind_entry x j (open_brackets tape j)
  unfolding open_brackets
  by_side j x e = ap (λ (y : Side). behind_entry y j (open_brackets tape j)) e

  here : (i j k : ℕ) (x : Side) → i ≡ suc j → side_at tape j ≡ x → behind_others (open_brackets tape i) k ≡ behind_others (behind_entry x j (open_brackets tape j)) k
  here i j k x z e = ap (λ (m : ℕ). behind_others (open_brackets tape m) k) z ∙ ap (λ (l : List ℕ). behind_others l k) (by_side j x e)

  module _ (i j k : ℕ) (z : i ≡ suc j) where
    pub search_found : side_at tape j ≡ Opens → k ≡ 0 → behind_others (open_brackets tape i) k ≡ Some j
    search_found e h = here i j k Opens z e ∙ ap (behind_others (j ∷ open_brackets tape j)) h

    pub search_opens : (m : ℕ) → side_at tape j ≡ Opens → k ≡ suc m → behind_others (open_brackets tape i) k ≡ behind_others (open_brackets tape j) m
    search_opens m e h = here i j k Opens z e ∙ ap (behind_others (j ∷ open_brackets tape j)) h

    pub search_closes : (m : ℕ) → side_at tape j ≡ Closes → m ≡ suc k → behind_others (open_brackets tape i) k ≡ behind_others (open_brackets tape j) m
    search_closes m e h = here i j k Closes z e ∙ one_taken (open_brackets tape j) k ∙ ap (behind_others (open_brackets tape j)) (sym h)

    pub search_neither : side_at tape j ≡ Neither → behind_others (open_brackets tape i) k ≡ behind_others (open_brackets tape j) k
    search_neither e = here i j k Neither z e

  pub search_ends : (i k : ℕ) → i ≤ 0 → behind_others (open_brackets tape i) k ≡ None
  unfolding open_brackets
  search_ends zero k h = refl
  search_ends (suc i) k h = absurd (omega arith)

  -- what is open is an opening bracket, before the place
  abbrev Before : ℕ → ℕ → Type 0
  Before n i = (i < n) × (side_at tape i ≡ Opens)

  before_by : (n i : ℕ) (x : Side) → side_at tape n ≡ x → ((k : ℕ) → behind_others (open_brackets tape n) k ≡ Some i → Before n i)
      → (k : ℕ) → behind_others (behind_entry x n (open_brackets tape n)) k ≡ Some i → Before (suc n) i
  before_by n i Opens e rest zero h = let z : n ≡ i = cc in (omega arith, subst (λ (j : ℕ). side_at tape j ≡ Opens) z e)
  before_by n i Opens e rest (suc k) h = let b = rest k h in (omega (arith, b.0), b.1)
  before_by n i Closes e rest k h = let b = rest (suc k) (sym (one_taken (open_brackets tape n) k) ∙ h) in (omega (arith, b.0), b.1)
  before_by n i Neither e rest k h = let b = rest k h in (omega (arith, b.0), b.1)

  opens_before : (n k i : ℕ) → behind_others (open_brackets tape n) k ≡ Some i → Before n i
  unfolding open_brackets
  opens_before zero k i h = let z : ◌≡◌ {A = ℕ} 0 1 = cc in absurd (omega arith)
  opens_before (suc n) k i h = before_by n i (side_at tape n) refl (λ k h. opens_before n k i h) k h

  pub innermost_before : (n i : ℕ) → innermost tape n ≡ Some i → (i < n) × (side_at tape i ≡ Opens)
  innermost_before n i h = opens_before n 0 i (search_starts n ∙ h)

-- ---- a closing bracket of another kind

module _ (o kind : ℕ) where
  pub closes_round : kind ≡ 2 → not (eqb o 1) ≡ closes_other o kind
  unfolding closes_other
  closes_round h = rw (eq-eqb kind 2 h)

  pub closes_square : (kind ≡ 2 → ⊥) → kind ≡ 4 → not (eqb o 3) ≡ closes_other o kind
  unfolding closes_other
  closes_square f h = rw (ne_eqb kind 2 f, eq-eqb kind 4 h)

  pub closes_curly : (kind ≡ 2 → ⊥) → (kind ≡ 4 → ⊥) → kind ≡ 6 → not (eqb o 5) ≡ closes_other o kind
  unfolding closes_other
  closes_curly f g h = rw (ne_eqb kind 2 f, ne_eqb kind 4 g, eq-eqb kind 6 h)

  pub closes_none : (kind ≡ 2 → ⊥) → (kind ≡ 4 → ⊥) → (kind ≡ 6 → ⊥) → false ≡ closes_other o kind
  unfolding closes_other
  closes_none f g h = rw (ne_eqb kind 2 f, ne_eqb kind 4 g, ne_eqb kind 6 h)

module _ (tape : List ℕ) (n i : ℕ) (found : innermost tape n ≡ Some i) where
  other_by : (t : Bool) → closes_other (entry_at tape i).kind (entry_at tape n).kind ≡ t → cond t (Bracket (entry_at tape i).start) Nothing ≡ other_before tape n
  unfolding other_before
  other_by t e = sym (ap (other_of tape n) found ∙ ap (λ (x : Bool). cond x (Bracket (entry_at tape i).start) Nothing) e)

  pub other_shown : closes_other (entry_at tape i).kind (entry_at tape n).kind ≡ true → Bracket (entry_at tape i).start ≡ other_before tape n
  other_shown e = other_by true e

  pub other_same : closes_other (entry_at tape i).kind (entry_at tape n).kind ≡ false → Nothing ≡ other_before tape n
  other_same e = other_by false e
