-- What the search for the field of the same name finds, said without it: such a field of the same brackets; and where brackets are open and it finds none,
-- there is none. Assumes nothing.
use Prim.Native.Nat.{ℕ, zero, suc, ◌+◌, ◌<◌}
use native.Mathlib.Omega.{arith}
use mathlib.Core.Bool.{Bool, true, false, cond, ◌&&◌}
use mathlib.Core.List.{List, [], ◌∷◌}
use Rattle.std.proofs.Common.{None, Some}
use mathlib.Core.Path.{◌≡◌, ap, refl, subst, sym, ◌∙◌}
use lib.Dec.{eqb}
use lib.ListN.{drop}
use borrow.Author.Tests.{eqb-true}
use Rattle.text.proofs.Choices.{and_true, either, lt_or_le}
use Rattle.text.proofs.ClassLaws.{within_true}
use Rattle.text.specs.Classes.{within}
use Rattle.grammar.proofs.Sides.{no_bracket}
use Rattle.grammar.specs.declared.kinds.Side.{Side}
use Rattle.grammar.specs.declared.kinds.Side.TheVariants.{Opens, Closes, Neither}
use Rattle.rows.specs.Rows.{entry_at}
use Rattle.fields.specs.Fields.{same}
use Rattle.fields.specs.Names.{name_at}
use Rattle.opened.specs.Brackets.{side_at, behind_entry, open_brackets, innermost}
use Rattle.opened.specs.Former.{is_field, is_former, by_side, former_from, former_of}
use Rattle.opened.specs.Opens.{NamedBefore}
use Rattle.opened.proofs.BracketLaws.{behind_others, innermost_before}
use Rattle.opened.proofs.BracketLaws as brackets
use Rattle.fields.proofs.SameLaws.{same_is, same_self}
use Rattle.opened.proofs.FormerLaws.{former_by}

-- ---- what is found

module _ (text tape : List ℕ) (n : ℕ) where
  former_is : (i k : ℕ) → is_former text tape n i k ≡ true → (k ≡ 0) × (is_field tape i ≡ true) × (name_at text tape i ≡ name_at text tape n)
  unfolding is_former
  former_is i k e =
      let a = and_true (eqb k 0) (is_field tape i && same (name_at text tape i) (name_at text tape n)) e in
      let b = and_true (is_field tape i) (same (name_at text tape i) (name_at text tape n)) a.1 in
      (eqb-true k 0 a.0, b.0, same_is (name_at text tape i) (name_at text tape n) b.1)

  -- what is found at j among the first i entries, k brackets being closed behind them
  abbrev Found : ℕ → ℕ → ℕ → Type 0
  Found i k j = (j < i) × (is_field tape j ≡ true) × (name_at text tape j ≡ name_at text tape n) × (innermost tape j ≡ behind_others (open_brackets tape i) k)

  found_here : (i k j : ℕ) (t : Bool) → side_at tape i ≡ Neither → is_former text tape n i k ≡ t → (former_from text tape n i k ≡ Some j → Found i k j)
      → cond t (Some i) (former_from text tape n i k) ≡ Some j → Found (suc i) k j
  found_here i k j true e q rest h =
      let f = former_is i k q in
      let z : i ≡ j = cc in
      let passed : behind_others (open_brackets tape (suc i)) k ≡ behind_others (open_brackets tape i) k = brackets.search_neither tape (suc i) i k refl e in
      let level : innermost tape i ≡ behind_others (open_brackets tape (suc i)) k =
      sym (brackets.search_starts tape i) ∙ ap (behind_others (open_brackets tape i)) (sym f.0) ∙ sym passed in
      subst (λ (m : ℕ). Found (suc i) k m) z (omega arith, f.1, f.2, level)
  found_here i k j false e q rest h =
      let b = rest h in
      (omega (arith, b.0), b.1, b.2, b.3 ∙ sym (brackets.search_neither tape (suc i) i k refl e))

  found_by : (i k j : ℕ) (x : Side) → side_at tape i ≡ x → ((m : ℕ) → former_from text tape n i m ≡ Some j → Found i m j)
      → by_side text tape n x i k (former_from text tape n i) ≡ Some j → Found (suc i) k j
  found_by i zero j Opens e rest h = let z : ◌≡◌ {A = ℕ} 0 1 = cc in absurd (omega arith)
  found_by i (suc k) j Opens e rest h =
      let b = rest k h in
      (omega (arith, b.0), b.1, b.2, b.3 ∙ sym (brackets.search_opens tape (suc i) i (suc k) refl k e refl))
  found_by i k j Closes e rest h =
      let b = rest (suc k) h in
      (omega (arith, b.0), b.1, b.2, b.3 ∙ sym (brackets.search_closes tape (suc i) i k refl (suc k) e refl))
  found_by i k j Neither e rest h = found_here i k j (is_former text tape n i k) e refl (λ g. rest k g) h

  found_from : (i k j : ℕ) → former_from text tape n i k ≡ Some j → Found i k j
  unfolding former_from
  found_from zero k j h = let z : ◌≡◌ {A = ℕ} 0 1 = cc in absurd (omega arith)
  found_from (suc i) k j h = found_by i k j (side_at tape i) refl (λ m g. found_from i m j g) h

  pub former_means : (i : ℕ) → former_of text tape n ≡ Some i → NamedBefore text tape n i
  unfolding former_of
  former_means i h =
      let f = found_from n 0 i h in
      record { before = f.0; is-field = f.1; alike = f.2; together = f.3 ∙ brackets.search_starts tape n }

-- ---- nothing is passed over

-- the open brackets, each before the one inside it
abbrev Falls : ℕ → List ℕ → Type 0
Falls n [] = Unit {0}
Falls n (b ∷ os) = (b < n) × Falls b os

falls_on : (n : ℕ) (os : List ℕ) → Falls n os → Falls (suc n) os
falls_on n [] f = tt
falls_on n (b ∷ os) f = (omega (arith, f.0), f.1)

falls_more : (m n : ℕ) (os : List ℕ) → m < n → Falls m os → Falls n os
falls_more m n [] h f = tt
falls_more m n (b ∷ os) h f = (omega (arith, f.0), f.1)

falls_one : (n : ℕ) (os : List ℕ) → Falls n os → Falls (suc n) (drop 1 os)
falls_one n [] f = tt
falls_one n (b ∷ os) f = falls_more b (suc n) os (omega (arith, f.0)) f.1

falls_by : (n : ℕ) (x : Side) (os : List ℕ) → Falls n os → Falls (suc n) (behind_entry x n os)
falls_by n Opens os f = (omega arith, f)
falls_by n Closes os f = falls_one n os f
falls_by n Neither os f = falls_on n os f

falls_entry : (n : ℕ) (os : List ℕ) (k b : ℕ) → Falls n os → behind_others os k ≡ Some b → b < n
falls_entry n [] k b f h = let z : ◌≡◌ {A = ℕ} 0 1 = cc in absurd (omega arith)
falls_entry n (i ∷ os) zero b f h = let z : i ≡ b = cc in omega (arith, f.0)
falls_entry n (i ∷ os) (suc k) b f h = let l = falls_entry i os k b f.1 h in omega (arith, f.0)

-- no bracket is both the innermost and one around it
falls_apart : (n : ℕ) (os : List ℕ) (k b : ℕ) → Falls n os → behind_others os 0 ≡ Some b → behind_others os k ≡ Some b → k ≡ 0
falls_apart n os zero b f g h = refl
falls_apart n [] (suc k) b f g h = let z : ◌≡◌ {A = ℕ} 0 1 = cc in absurd (omega arith)
falls_apart n (i ∷ os) (suc k) b f g h = let z : i ≡ b = cc in absurd (omega (arith, falls_entry i os k b f.1 h))

module _ (tape : List ℕ) where
  open_falls : (n : ℕ) → Falls n (open_brackets tape n)
  unfolding open_brackets
  open_falls zero = tt
  open_falls (suc n) = falls_by n (side_at tape n) (open_brackets tape n) (open_falls n)

  field_neither : (i : ℕ) → is_field tape i ≡ true → side_at tape i ≡ Neither
  unfolding is_field side_at
  field_neither i e =
      let kind : ℕ = (entry_at tape i).kind in
      let w = within_true 9 10 kind (and_true (within 9 10 kind) (eqb (entry_at tape (i + 1)).kind 8) e).0 in
      sym (no_bracket kind (omega (arith, w.0)))

module _ (text tape : List ℕ) (n b : ℕ) where
  -- entry m is no field of that name in the bracket of entry b
  abbrev Not : ℕ → Type 0
  Not m = is_field tape m ≡ true → name_at text tape m ≡ name_at text tape n → innermost tape m ≡ Some b → ⊥

  abbrev Passed : ℕ → Type 0
  Passed i = (j : ℕ) → j < i → Not j

  passed_more : (i : ℕ) → Passed i → Not i → Passed (suc i)
  passed_more i rest last j h = either (lt_or_le j i) (λ l. rest j l) (λ l. let z : i ≡ j = omega arith in subst Not z last)

  passed_side : (i : ℕ) (x : Side) → side_at tape i ≡ x → (x ≡ Neither → ⊥) → Not i
  passed_side i x e other f a t = other (sym e ∙ field_neither tape i f)

  passed_here : (i k : ℕ) (q : Bool) → behind_others (open_brackets tape i) k ≡ Some b → is_former text tape n i k ≡ q
      → (former_from text tape n i k ≡ None → Passed i) → cond q (Some i) (former_from text tape n i k) ≡ None → Passed (suc i)
  passed_here i k true h e rest g = let z : ◌≡◌ {A = ℕ} 0 1 = cc in absurd (omega arith)
  passed_here i k false h e rest g =
      passed_more i (rest g) (λ f a t.
      let level : k ≡ 0 = falls_apart i (open_brackets tape i) k b (open_falls tape i) (brackets.search_starts tape i ∙ t) h in
      let alike : same (name_at text tape i) (name_at text tape n) ≡ true = ap (same (name_at text tape i)) (sym a) ∙ same_self (name_at text tape i) in
      let both : ◌≡◌ {A = Bool} true false = sym alike ∙ former_by text tape n i k level true f ∙ e in
      let z : ◌≡◌ {A = ℕ} 0 1 = cc in absurd (omega arith))

  passed_by : (i k : ℕ) (x : Side) → side_at tape i ≡ x
      → ((m : ℕ) → behind_others (open_brackets tape i) m ≡ Some b → former_from text tape n i m ≡ None → Passed i)
      → behind_others (open_brackets tape (suc i)) k ≡ Some b → by_side text tape n x i k (former_from text tape n i) ≡ None → Passed (suc i)
  passed_by i zero Opens e rest h g = λ j l f a t.
      let at : Some i ≡ Some b = sym (brackets.search_found tape (suc i) i 0 refl e refl) ∙ h in
      let z : i ≡ b = cc in
      absurd (omega (arith, (innermost_before tape j b t).0))
  passed_by i (suc k) Opens e rest h g =
      passed_more i (rest k (sym (brackets.search_opens tape (suc i) i (suc k) refl k e refl) ∙ h) g)
      (passed_side i Opens e (λ q. let z : ◌≡◌ {A = ℕ} 0 1 = cc in absurd (omega arith)))
  passed_by i k Closes e rest h g =
      passed_more i (rest (suc k) (sym (brackets.search_closes tape (suc i) i k refl (suc k) e refl) ∙ h) g)
      (passed_side i Closes e (λ q. let z : ◌≡◌ {A = ℕ} 0 1 = cc in absurd (omega arith)))
  passed_by i k Neither e rest h g =
      let there : behind_others (open_brackets tape i) k ≡ Some b = sym (brackets.search_neither tape (suc i) i k refl e) ∙ h in
      passed_here i k (is_former text tape n i k) there refl (λ q. rest k there q) g

  passed_from : (i k : ℕ) → behind_others (open_brackets tape i) k ≡ Some b → former_from text tape n i k ≡ None → Passed i
  unfolding former_from
  passed_from zero k h g = λ j l f a t. absurd (omega arith)
  passed_from (suc i) k h g = passed_by i k (side_at tape i) refl (λ m p q. passed_from i m p q) h g

  pub former_finds : innermost tape n ≡ Some b → former_of text tape n ≡ None → (i : ℕ) → NamedBefore text tape n i → ⊥
  unfolding former_of
  former_finds h g i m = passed_from n 0 (brackets.search_starts tape n ∙ h) g i m.before m.is-field m.alike (m.together ∙ h)
