-- The test for a name that came before says what it is: equality with one of the names. Assumes nothing.
use Prim.Native.Nat.{ℕ}
use mathlib.Core.Path.{◌≡◌, sym, ap, ◌∙◌}
use mathlib.Core.Bool.{true, false, true≢false}
use mathlib.Core.List.{List, [], ◌∷◌}
use Rattle.text.proofs.Choices.{or_left, or_right, or_cases, either}
use Rattle.fields.specs.Apart.{New}
use Rattle.fields.specs.Fields.{same, is_named}
use Rattle.fields.proofs.SameLaws.{same_is, same_self}

pub same_yes : (a b : List ℕ) → a ≡ b → same a b ≡ true
same_yes a b e = ap (λ (x : List ℕ). same a x) (sym e) ∙ same_self a

module _ (nm : ℕ → List ℕ) where
  -- a name that none before has is new
  pub not_named_new : (i : ℕ) (es : List ℕ) → is_named nm i es ≡ false → New nm i es
  unfolding is_named
  not_named_new i [] e = tt
  not_named_new i (x ∷ es) e = (
    (λ q. true≢false (sym (same_yes (nm i) (nm x) q) ∙ or_left (same (nm i) (nm x)) (is_named nm i es) e)),
    not_named_new i es (or_right (same (nm i) (nm x)) (is_named nm i es) e),
  )

  -- and a new one is one that none before has
  pub new_not_named : (i : ℕ) (es : List ℕ) → New nm i es → is_named nm i es ≡ true → ⊥
  unfolding is_named
  new_not_named i [] h e = true≢false (sym e)
  new_not_named i (x ∷ es) h e =
      either (or_cases (same (nm i) (nm x)) (is_named nm i es) e) (λ q. h.0 (same_is (nm i) (nm x) q)) (λ q. new_not_named i es h.1 q)
