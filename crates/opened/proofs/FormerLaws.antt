-- The search for the field that has the name of an entry already, from behind. Assumes nothing.
use Prim.Native.Nat.{ℕ, zero, suc, ◌+◌, ◌-◌, ◌<◌, ◌≤◌}
use native.Mathlib.Omega.{arith}
use mathlib.Core.Bool.{Bool, true, false, cond, ◌&&◌}
use mathlib.Core.List.{List}
use Rattle.std.proofs.Common.{Option, None, Some}
use mathlib.Core.Path.{◌≡◌, ap, refl, sym, ◌∙◌}
use lib.Dec.{eqb}
use borrow.Author.Tests.{eq-eqb, ne_eqb}
use Rattle.text.specs.Classes.{within}
use Rattle.grammar.specs.declared.kinds.Side.{Side}
use Rattle.grammar.specs.declared.kinds.Side.TheVariants.{Opens, Closes, Neither}
use Rattle.rows.specs.Rows.{entry_at}
use Rattle.fields.specs.Fields.{same}
use Rattle.fields.specs.Names.{name_at}
use Rattle.opened.specs.Brackets.{side_at}
use Rattle.opened.specs.Former.{is_field, is_former, by_side, former_from, former_of}

-- ---- an entry that names a field

module _ (tape : List ℕ) (i kind : ℕ) (kind_is : kind ≡ (entry_at tape i).kind) where
  pub field_by : (t : Bool) → within 9 10 kind ≡ t → (t && eqb (entry_at tape (i + 1)).kind 8) ≡ is_field tape i
  unfolding is_field
  field_by t e = ap (λ (q : Bool). q && eqb (entry_at tape (i + 1)).kind 8) (sym e ∙ ap (within 9 10) kind_is)

module _ (text tape : List ℕ) (n i k : ℕ) where
  pub former_deeper : (k ≡ 0 → ⊥) → false ≡ is_former text tape n i k
  unfolding is_former
  former_deeper h = sym (ap (λ (q : Bool). q && (is_field tape i && same (name_at text tape i) (name_at text tape n))) (ne_eqb k 0 h))

  pub former_by : k ≡ 0 → (t : Bool) → is_field tape i ≡ t → (t && same (name_at text tape i) (name_at text tape n)) ≡ is_former text tape n i k
  unfolding is_former
  former_by h t e =
      let alike : Bool = same (name_at text tape i) (name_at text tape n) in
      ap (λ (q : Bool). q && alike) (sym e) ∙ sym (ap (λ (q : Bool). q && (is_field tape i && alike)) (eq-eqb k 0 h))

-- ---- one entry further in front

module _ (text tape : List ℕ) (n : ℕ) where
  pub search_starts : former_from text tape n n 0 ≡ former_of text tape n
  unfolding former_of
  search_starts = refl

  here : (i j k : ℕ) (x : Side) → i ≡ suc j → side_at tape j ≡ x → former_from text tape n i k ≡ by_side text tape n x j k (former_from text tape n j)
  unfolding former_from
  here i j k x z e =
      ap (λ (m : ℕ). former_from text tape n m k) z ∙ ap (λ (y : Side). by_side text tape n y j k (λ (m : ℕ). former_from text tape n j m)) e

  -- what is left gives the whole
  module _ (i k : ℕ) (whole : Option ℕ) (inv : former_from text tape n i k ≡ whole) (some : 0 < i) where
    turn : (x : Side) → side_at tape (i - 1) ≡ x → by_side text tape n x (i - 1) k (former_from text tape n (i - 1)) ≡ whole
    turn x e = let z : i ≡ suc (i - 1) = omega arith in sym (here i (i - 1) k x z e) ∙ inv

    pub search_stops : side_at tape (i - 1) ≡ Opens → k ≡ 0 → None ≡ whole
    search_stops e h = ap (λ (q : ℕ). by_side text tape n Opens (i - 1) q (former_from text tape n (i - 1))) (sym h) ∙ turn Opens e

    pub search_opens : side_at tape (i - 1) ≡ Opens → (k ≡ 0 → ⊥) → former_from text tape n (i - 1) (k - 1) ≡ whole
    search_opens e h =
        let less : suc (k - 1) ≡ k = omega arith in
        ap (λ (q : ℕ). by_side text tape n Opens (i - 1) q (former_from text tape n (i - 1))) less ∙ turn Opens e

    pub search_closes : side_at tape (i - 1) ≡ Closes → former_from text tape n (i - 1) (k + 1) ≡ whole
    search_closes e = let more : k + 1 ≡ suc k = omega arith in ap (former_from text tape n (i - 1)) more ∙ turn Closes e

    by_former : (t : Bool) → side_at tape (i - 1) ≡ Neither → is_former text tape n (i - 1) k ≡ t
        → cond t (Some (i - 1)) (former_from text tape n (i - 1) k) ≡ whole
    by_former t e h = ap (λ (q : Bool). cond q (Some (i - 1)) (former_from text tape n (i - 1) k)) (sym h) ∙ turn Neither e

    pub search_found : side_at tape (i - 1) ≡ Neither → is_former text tape n (i - 1) k ≡ true → Some (i - 1) ≡ whole
    search_found e h = by_former true e h

    pub search_passes : side_at tape (i - 1) ≡ Neither → is_former text tape n (i - 1) k ≡ false → former_from text tape n (i - 1) k ≡ whole
    search_passes e h = by_former false e h

  pub search_ends : (i k : ℕ) → i ≤ 0 → former_from text tape n i k ≡ None
  unfolding former_from
  search_ends zero k h = refl
  search_ends (suc i) k h = absurd (omega arith)
