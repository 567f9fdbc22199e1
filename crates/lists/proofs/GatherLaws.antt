-- The loop that gathers the numbers of the integers, turn by turn. Assumes nothing.
use Prim.Native.Nat.{ℕ, zero, suc, ◌+◌, ◌-◌, ◌*◌, ◌<◌, ◌≤◌, min}
use native.Mathlib.Numerals.{add-one}
use native.Mathlib.Omega.{arith}
use mathlib.Core.Bool.{Bool, cond}
use mathlib.Core.List.{List, [], ◌∷◌, ◌++◌, append-nil}
use mathlib.Core.Path.{◌≡◌, refl, sym, ap, subst, ◌∙◌}
use lib.Dec.{ltb, eqb}
use lib.ListN.{length, take, drop, set, length-set, length-take, drop_of_length-le, take-append-drop}
use lib.Seq.{take_all}
use borrow.Author.Tests.{lt-ltb, le-ltb, ltb-true, ltb-false, eq-eqb, ne_eqb}
use Rattle.lines.specs.Over.{over}
use Rattle.lines.proofs.Laws.{over_full, over_front}
use Rattle.rows.specs.Rows.{width, room_of, entry_at, entries_of}
use Rattle.rows.specs.declared.Entry.{Entry}
use Rattle.rows.proofs.RowLaws.{entries_next}
use Rattle.text.proofs.Choices.{cond_cases}
use Rattle.lists.specs.Gathers.{integers_from, rows_of, gathered, noted}

-- ---- one entry

module _ (e : Entry) (i : ℕ) (list : List ℕ) (k : ℕ) where
  pub noted_full : length list ≤ k → (list, k) ≡ noted e i (list, k)
  unfolding noted
  noted_full h = sym (rw (le-ltb k (length list) h) refl)

  pub noted_other : k < length list → (e.kind ≡ 11 → ⊥) → (list, k) ≡ noted e i (list, k)
  unfolding noted
  noted_other h n = sym (rw (lt-ltb k (length list) h, ne_eqb e.kind 11 n) refl)

  pub noted_in : k < length list → e.kind ≡ 11 → (set list k i, k + 1) ≡ noted e i (list, k)
  unfolding noted
  noted_in h q = sym (rw (lt-ltb k (length list) h, eq-eqb e.kind 11 q) refl)

-- ---- numbers from place k on, as far as there is room

over_nothing : (l : List ℕ) → over l [] ≡ []
unfolding over
over_nothing [] = refl
over_nothing (a ∷ l) = refl

-- what is there and what is left to come
abbrev laying : List ℕ → List ℕ × ℕ → List ℕ
laying rest p = take p.1 p.0 ++ over rest (drop p.1 p.0)

laying_on : (x : ℕ) (rest list : List ℕ) (k : ℕ) → k < length list → laying rest (set list k x, suc k) ≡ laying (x ∷ rest) (list, k)
unfolding over
laying_on x rest [] k h = absurd (omega arith)
laying_on x rest (b ∷ list) zero h = refl
laying_on x rest (b ∷ list) (suc k) h = ap (λ (l : List ℕ). b ∷ l) (laying_on x rest list k (omega arith))

laying_full : (rest list : List ℕ) (k : ℕ) → length list ≤ k → laying rest (list, k) ≡ list
laying_full rest list k h = rw (drop_of_length-le list h, take_all k list h) (ap (λ (l : List ℕ). list ++ l) (over_nothing rest) ∙ append-nil list)

-- what is left to come gives the whole
module _ (all list₀ : List ℕ) where
  abbrev pub Gathering : List ℕ → List ℕ × ℕ → Type 0
  Gathering rest p =
      (laying rest p ≡ over all list₀) × (p.1 + min (length rest) (length p.0 - p.1) ≡ min (length all) (length list₀))
      × (length p.0 ≡ length list₀) × (p.1 ≤ length p.0)

  -- a number more
  gathers_in : (x : ℕ) (rest list : List ℕ) (k : ℕ) → k < length list → Gathering (x ∷ rest) (list, k) → Gathering rest (set list k x, k + 1)
  gathers_in x rest list k h g =
      let n : length (set list k x) ≡ length list = length-set list k x in (
        ap (λ (j : ℕ). laying rest (set list k x, j)) (add-one k) ∙ laying_on x rest list k h ∙ g.0,
        omega (arith, n, g.1),
        n ∙ g.2,
        omega (arith, n),
      )

  -- there is no more room
  gathers_full : (rest more list : List ℕ) (k : ℕ) → length list ≤ k → Gathering rest (list, k) → Gathering more (list, k)
  gathers_full rest more list k h g =
      (laying_full more list k h ∙ sym (laying_full rest list k h) ∙ g.0, omega (arith, g.1, g.3), g.2, g.3)

  gathers : (e : Entry) (i : ℕ) (es : List Entry) (list : List ℕ) (k : ℕ)
      → Gathering (integers_from (e ∷ es) i) (list, k) → Gathering (integers_from es (i + 1)) (noted e i (list, k))
  unfolding integers_from noted
  gathers e i es list k g =
      let rest : List ℕ = integers_from es (i + 1) in
      let left : Bool → Type 0 = λ b. Gathering (cond b (i ∷ rest) rest) (list, k) in
      cond_cases (Gathering rest) (ltb k (length list)) _ _
      (λ t. cond_cases (Gathering rest) (eqb e.kind 11) _ _ (λ q. gathers_in i rest list k (ltb-true _ _ t) (subst left q g)) (λ q. subst left q g))
      (λ f. gathers_full (integers_from (e ∷ es) i) rest list k (ltb-false _ _ f) g)

-- ---- the loop

-- the numbers of the integers from row i on, of so many
abbrev pub from_row : List ℕ → ℕ → ℕ → List ℕ
from_row tape rows i = integers_from (entries_of (rows - i) (drop (width * i) tape)) i

-- those of all rows
abbrev pub all_of : List ℕ → ℕ → List ℕ
all_of tape rows = integers_from (entries_of rows tape) 0

module _ (tape : List ℕ) (rows : ℕ) (list₀ : List ℕ) where
  pub gather_starts : Gathering (all_of tape rows) list₀ (from_row tape rows 0) (list₀, 0)
  gather_starts =
      let e : rows - 0 ≡ rows = omega arith in
      subst (λ (n : ℕ). Gathering (all_of tape rows) list₀ (integers_from (entries_of n tape) 0) (list₀, 0)) (sym e)
      (refl, omega arith, refl, omega arith)

  module _ (list : List ℕ) (k i : ℕ) (g : Gathering (all_of tape rows) list₀ (from_row tape rows i) (list, k)) where
    pub gather_on : i < rows → (next : List ℕ × ℕ) → next ≡ noted (entry_at tape i) i (list, k)
        → Gathering (all_of tape rows) list₀ (from_row tape rows (i + 1)) next
    gather_on h next e =
        let n : rows - i ≡ suc (rows - (i + 1)) = omega arith in
        let es : entries_of (rows - i) (drop (width * i) tape) ≡ entry_at tape i ∷ entries_of (rows - (i + 1)) (drop (width * (i + 1)) tape) =
        ap (λ (m : ℕ). entries_of m (drop (width * i) tape)) n ∙ entries_next (rows - (i + 1)) i tape in
        subst (Gathering (all_of tape rows) list₀ (from_row tape rows (i + 1))) (sym e)
        (gathers (all_of tape rows) list₀ (entry_at tape i) i (entries_of (rows - (i + 1)) (drop (width * (i + 1)) tape)) list k
        (subst (λ (l : List Entry). Gathering (all_of tape rows) list₀ (integers_from l i) (list, k)) es g))

    gather_last : rows ≤ i → Gathering (all_of tape rows) list₀ [] (list, k)
    unfolding integers_from entries_of
    gather_last h =
        let n : rows - i ≡ 0 = omega arith in
        subst (λ (m : ℕ). Gathering (all_of tape rows) list₀ (integers_from (entries_of m (drop (width * i) tape)) i) (list, k)) n g

    pub gather_ends : (n : ℕ) → rows ≡ rows_of n tape → rows ≤ i
        → (k ≡ length (gathered tape n (length list₀))) × (list ≡ over (gathered tape n (length list₀)) list₀)
    unfolding gathered over
    gather_ends n r h =
        let l = gather_last h in
        let all : List ℕ = all_of tape rows in
        let same : take (length list₀) all ≡ gathered tape n (length list₀) = ap (λ (m : ℕ). take (length list₀) (all_of tape m)) r in
        let count : k ≡ length (take (length list₀) all) = omega (arith, l.1, length-take (length list₀) all) in (
          count ∙ ap length same,
          sym (take-append-drop k list) ∙ l.0 ∙ sym (over_full all list₀ (length list₀) (omega arith)) ∙ ap (λ (s : List ℕ). over s list₀) same,
        )

-- the rows are there, and their numbers fit
pub rows_within : (n : ℕ) (tape : List ℕ) → (rows_of n tape ≤ room_of (length tape)) × (rows_of n tape ≤ 65536)
unfolding rows_of
rows_within n tape = (omega arith, omega arith)

-- ---- the list that was gathered

pub gathered_fits : (tape : List ℕ) (n room : ℕ) → length (gathered tape n room) ≤ room
unfolding gathered
gathered_fits tape n room = simp length-take (omega arith)

pub gathered_said : (tape : List ℕ) (n : ℕ) (list left items : List ℕ) (k : ℕ) → k ≡ length (gathered tape n (length list))
    → left ≡ over (gathered tape n (length list)) list → items ≡ take k left → items ≡ gathered tape n (length list)
gathered_said tape n list left items k e f g =
    g ∙ ap (λ (j : ℕ). take j left) e ∙ ap (take (length (gathered tape n (length list)))) f
    ∙ over_front (gathered tape n (length list)) list (gathered_fits tape n (length list))
