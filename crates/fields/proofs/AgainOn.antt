-- An entry that names a field again is one of those that are read: no earlier one is the answer. Assumes nothing.
use Rattle.std.proofs.Common.{Some, None, Option}
use Prim.Native.Nat.{ℕ, ◌+◌, ◌≤◌}
use native.Mathlib.Omega.{arith}
use mathlib.Core.Path.{◌≡◌}
use mathlib.Core.Bool.{Bool, true, false, cond}
use mathlib.Core.List.{List, [], ◌∷◌}
use Rattle.grammar.specs.declared.kinds.Kind.{Kind}
use Rattle.grammar.specs.declared.states.Frame.{Frame}
use Rattle.grammar.specs.declared.states.Want.{Want}
use Rattle.grammar.specs.declared.states.Want.TheVariants.{Behind}
use Rattle.grammar.specs.declared.states.Move.{Move}
use Rattle.grammar.specs.declared.states.Move.TheVariants.{Stay, Push, Pop, Bad}
use Rattle.grammar.specs.Steps.{step_of}
use Rattle.fields.specs.Fields.{names_field, popped, is_named, noting, by_move, again_from}

-- the two answers differ
pub not_at : {X : Type 0} (j : ℕ) → ◌≡◌ {A = Option ℕ} (None) (Some j) → X
not_at j e = let z : ◌≡◌ {A = ℕ} 0 1 = cc in absurd (omega arith)

-- two answers that are equal have the same entry
pub same_at : (i j : ℕ) → ◌≡◌ {A = Option ℕ} (Some i) (Some j) → i ≡ j
same_at i j e = cc

-- how a walk goes on behind an entry
abbrev pub On : Type 0
On = Want → Frame → List ℕ → List Frame → List (List ℕ) → Option ℕ

module _ (nm : ℕ → List ℕ) where
  -- two walks that go on alike behind an entry are alike from it on: what holds of what follows, of this entry and of nothing found holds of a step
  module _ (P : Option ℕ → Option ℕ → Type 0) (i : ℕ) (on on' : On) (nothing : P None None) (here : P (Some i) (Some i))
      (further : (w : Want) (g : Frame) (es : List ℕ) (σ : List Frame) (τ : List (List ℕ)) → P (on w g es σ τ) (on' w g es σ τ)) where
    by_note : (t : Bool) (w : Want) (g : Frame) (es : List ℕ) (σ : List Frame) (τ : List (List ℕ)) → P (cond t (Some i) (on w g es σ τ)) (cond t (Some i) (on' w g es σ τ))
    by_note true w g es σ τ = here
    by_note false w g es σ τ = further w g es σ τ

    by_noting : (t : Bool) (w : Want) (g : Frame) (es : List ℕ) (σ : List Frame) (τ : List (List ℕ))
        → P (noting nm t i es (λ fs. on w g fs σ τ)) (noting nm t i es (λ fs. on' w g fs σ τ))
    by_noting true w g es σ τ = by_note (is_named nm i es) w g (i ∷ es) σ τ
    by_noting false w g es σ τ = further w g es σ τ

    by_popping : (σ : List Frame) (τ : List (List ℕ)) → P (popped σ τ (λ g fs σ' τ'. on Behind g fs σ' τ')) (popped σ τ (λ g fs σ' τ'. on' Behind g fs σ' τ'))
    by_popping [] τ = nothing
    by_popping (g ∷ σ) [] = further Behind g [] σ []
    by_popping (g ∷ σ) (es ∷ τ) = further Behind g es σ τ

    pub by-step : (m : Move) (f : Frame) (es : List ℕ) (σ : List Frame) (τ : List (List ℕ)) → P (by_move nm m f es σ τ i on) (by_move nm m f es σ τ i on')
    by-step (Stay w g) f es σ τ = by_noting (names_field w) w g es σ τ
    by-step (Push w g) f es σ τ = further w g [] (f ∷ σ) (es ∷ τ)
    by-step Pop f es σ τ = by_popping σ τ
    by-step Bad f es σ τ = nothing

  pub again_from_on : (ks : List Kind) (w : Want) (f : Frame) (es : List ℕ) (σ : List Frame) (τ : List (List ℕ)) (i j : ℕ) → again_from nm ks w f es σ τ i ≡ Some j → i ≤ j
  unfolding again_from
  again_from_on [] w f es σ τ i j e = not_at j e
  again_from_on (k ∷ ks) w f es σ τ i j e =
      by-step (λ x y. x ≡ Some j → i ≤ j) i (λ w' f' es' σ' τ'. again_from nm ks w' f' es' σ' τ' (i + 1)) (λ w' f' es' σ' τ'. again_from nm ks w' f' es' σ' τ' (i + 1))
      (λ z. not_at j z) (λ z. let q : i ≡ j = same_at i j z in omega arith)
      (λ w' g es' σ' τ' z. let q : i + 1 ≤ j = again_from_on ks w' g es' σ' τ' (i + 1) j z in omega arith)
      (step_of w k f) f es σ τ e
