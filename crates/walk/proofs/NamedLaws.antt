-- The loop that judges, with the names of fields: one turn for each thing that an entry can do. Assumes nothing.
use Rattle.std.proofs.Common.{Ok, Err, Some, None, Option}
use Prim.Native.Nat.{ℕ, ◌+◌, ◌<◌}
use native.Mathlib.Omega.{arith}
use mathlib.Core.Bool.{Bool, true, false, cond}
use mathlib.Core.List.{List, [], ◌∷◌}
use mathlib.Core.Logic.{◌⊎◌, inl, inr}
use mathlib.Core.Path.{◌≡◌, ◌∙◌, ap, refl, sym}
use borrow.Author.Tests.{lt-ltb, le-ltb}
use Rattle.text.specs.Refusals.{tape_ends_early, repeated_field}
use Rattle.text.specs.declared.refusal.Refusal.{Refusal}
use Rattle.grammar.specs.declared.kinds.Kind.{Kind}
use Rattle.grammar.specs.declared.states.Frame.{Frame}
use Rattle.grammar.specs.declared.states.Frame.TheVariants.{Top, Square, Tuple, Struct, Key, Pair}
use Rattle.grammar.specs.declared.states.Want.{Want}
use Rattle.grammar.specs.declared.states.Want.TheVariants.{Start, Must, Item, First, FirstName, Named, Behind, Field, FieldName}
use Rattle.grammar.specs.declared.states.Move.{Move}
use Rattle.grammar.specs.declared.states.Move.TheVariants.{Stay, Push, Pop}
use Rattle.grammar.specs.Steps.{step_of}
use Rattle.grammar.specs.Walk.{ended, finish}
use Rattle.fields.specs.inner.Again.{earlier}
use Rattle.fields.specs.Fields.{is_named, names_field, noting, popped, by_move, again_from, by_again}
use Rattle.walk.specs.inner.Gathered.{or_at, again_in, first_of, told_by}
use Rattle.fields.proofs.AgainOn.{again_from_on}
use Rattle.walk.proofs.AgainLaws.{or_else, one_place, earlier_assoc, noted_none, noted_some}

ended_says : (f : Frame) (i : ℕ) → (ended f i ≡ Ok tt) ⊎ (ended f i ≡ Err (tape_ends_early i))
ended_says Top i = inl refl
ended_says Square i = inr refl
ended_says Tuple i = inr refl
ended_says Struct i = inr refl
ended_says Key i = inr refl
ended_says Pair i = inr refl

-- the end of the tape accepts, or refuses at the count
finish_says : (w : Want) (f : Frame) (i : ℕ) → (finish w f i ≡ Ok tt) ⊎ (finish w f i ≡ Err (tape_ends_early i))
finish_says Start f i = inr refl
finish_says Must f i = inr refl
finish_says Item f i = inr refl
finish_says First f i = inr refl
finish_says FirstName f i = inr refl
finish_says Named f i = ended_says f i
finish_says Behind f i = ended_says f i
finish_says Field f i = inr refl
finish_says FieldName f i = inr refl

module _ (nm : ℕ → List ℕ) (whole : Option ℕ) where
  -- the first of what was found in closed brackets and of what is gathered
  abbrev pub so_far : Option ℕ → List ℕ → List (List ℕ) → Option ℕ
  so_far found es τ = earlier found (first_of nm (es ∷ τ))

  -- what is found, and else what is left, gives the whole; and what is found stands before entry i
  pub record Naming (ks : List Kind) (found : Option ℕ) (w : Want) (f : Frame) (es : List ℕ) (σ : List Frame) (τ : List (List ℕ)) (i : ℕ) : Type 0 where
    pub gives : or_else (so_far found es τ) (again_from nm ks w f es σ τ i) ≡ whole
    pub under : (j : ℕ) → so_far found es τ ≡ Some j → j < i

  module _ (ks : List Kind) (found : Option ℕ) (w : Want) (f : Frame) (es : List ℕ) (σ : List Frame) (τ : List (List ℕ)) (i : ℕ) where
    module _ (k : Kind) (h : Naming (k ∷ ks) found w f es σ τ i) where
      -- the rest of the entries, behind what this one does
      abbrev rest : Move → Option ℕ
      rest m = by_move nm m f es σ τ i (λ w' f' es' σ' τ'. again_from nm ks w' f' es' σ' τ' (i + 1))

      turn : (m : Move) → step_of w k f ≡ m → or_else (so_far found es τ) (rest m) ≡ whole
      unfolding again_from
      turn m e = ap (λ (x : Move). or_else (so_far found es τ) (rest x)) (sym e) ∙ h.gives

      later : (j : ℕ) → so_far found es τ ≡ Some j → j < i + 1
      later j e = let z = h.under j e in omega arith

      pub names_stays : (w' : Want) (g : Frame) → step_of w k f ≡ Stay w' g → names_field w' ≡ false → Naming ks found w' g es σ τ (i + 1)
      names_stays w' g e n =
          record {
            gives = ap (λ (b : Bool). or_else (so_far found es τ) (noting nm b i es (λ fs. again_from nm ks w' g fs σ τ (i + 1)))) (sym n) ∙ turn (Stay w' g) e;
            under = later;
          }

      -- entry i one more field of the innermost bracket
      abbrev more : Bool → Option ℕ
      more b = earlier found (earlier (cond b (or_at (again_in nm es) i) (again_in nm es)) (first_of nm τ))

      more_is : (b : Bool) → is_named nm i es ≡ b → so_far found (i ∷ es) τ ≡ more b
      unfolding again_in first_of
      more_is b p = ap more p

      so-far : so_far found es τ ≡ more false
      unfolding again_in first_of
      so-far = refl

      pub names_notes : (w' : Want) (g : Frame) → step_of w k f ≡ Stay w' g → names_field w' ≡ true → Naming ks found w' g (i ∷ es) σ τ (i + 1)
      names_notes w' g e n = go (is_named nm i es) refl (so_far found es τ) refl
        where
          x : Option ℕ
          x = again_from nm ks w' g (i ∷ es) σ τ (i + 1)

          told : (b : Bool) → is_named nm i es ≡ b → (a : Option ℕ) → so_far found es τ ≡ a → or_else a (cond b (Some i) x) ≡ whole
          told b p a q =
              ap (λ (y : Option ℕ). or_else y (cond b (Some i) x)) (sym q)
              ∙ ap (λ (c : Bool). or_else (so_far found es τ) (cond c (Some i) x)) (sym p)
              ∙ ap (λ (c : Bool). or_else (so_far found es τ) (noting nm c i es (λ fs. again_from nm ks w' g fs σ τ (i + 1)))) (sym n)
              ∙ turn (Stay w' g) e

          by : (a : Option ℕ) → so_far found (i ∷ es) τ ≡ a → or_else a x ≡ whole → ((j : ℕ) → a ≡ Some j → j < i + 1) → Naming ks found w' g (i ∷ es) σ τ (i + 1)
          by a q y u = record { gives = ap (λ (z : Option ℕ). or_else z x) q ∙ y; under = λ j r. u j (sym q ∙ r) }

          go : (b : Bool) → is_named nm i es ≡ b → (a : Option ℕ) → so_far found es τ ≡ a → Naming ks found w' g (i ∷ es) σ τ (i + 1)
          go false p a q = by a (more_is false p ∙ sym so-far ∙ q) (told false p a q) (λ j r. later j (q ∙ r))
          go true p None q =
              by (Some i) (more_is true p ∙ noted_none found (again_in nm es) (first_of nm τ) i (sym so-far ∙ q)) (told true p None q) (λ j r. let z = one_place i j r in omega arith)
          go true p (Some m) q =
              by (Some m) (more_is true p ∙ noted_some found (again_in nm es) (first_of nm τ) i m (sym so-far ∙ q) (h.under m q)) (told true p (Some m) q)
              (λ j r. let z = one_place m j r in let y = h.under m q in omega arith)

      pub names_pushes : (w' : Want) (g : Frame) → step_of w k f ≡ Push w' g → Naming ks found w' g [] (f ∷ σ) (es ∷ τ) (i + 1)
      unfolding again_in first_of
      names_pushes w' g e = record { gives = turn (Push w' g) e; under = later }

    pub names_pops : (k : Kind) (g : Frame) (gs : List Frame) (fs : List ℕ) (γ : List (List ℕ)) → σ ≡ g ∷ gs → τ ≡ fs ∷ γ → Naming (k ∷ ks) found w f es σ τ i
        → step_of w k f ≡ Pop → Naming ks (earlier found (again_in nm es)) Behind g fs gs γ (i + 1)
    unfolding first_of
    names_pops k g gs fs γ a b h e =
        let same : so_far found es τ ≡ so_far (earlier found (again_in nm es)) fs γ =
        ap (so_far found es) b ∙ earlier_assoc found (again_in nm es) (first_of nm (fs ∷ γ)) in
        let on : List Frame → List (List ℕ) → Option ℕ = λ s t. popped s t (λ g' es' σ' τ'. again_from nm ks Behind g' es' σ' τ' (i + 1)) in
        record {
          gives = ap (λ (y : Option ℕ). or_else y (on (g ∷ gs) (fs ∷ γ))) (sym same) ∙ ap (λ (s : List Frame). or_else (so_far found es τ) (on s (fs ∷ γ))) (sym a)
              ∙ ap (λ (t : List (List ℕ)). or_else (so_far found es τ) (on σ t)) (sym b) ∙ turn k h Pop e;
          under = λ j r. let z = h.under j (same ∙ r) in omega arith;
        }

    -- where it stops at an entry
    pub stops_refused : Naming ks found w f es σ τ i → (r : Refusal) → r.place ≡ i → told_by (so_far found es τ) (Err r) ≡ by_again whole (Err r)
    stops_refused h r p = go (so_far found es τ) refl
      where
        beyond : (b : Option ℕ) → again_from nm ks w f es σ τ i ≡ b → Err r ≡ by_again b (Err r)
        beyond None q = refl
        beyond (Some m) q = let z = again_from_on nm ks w f es σ τ i m q in rw (le-ltb m r.place (omega arith)) refl

        go : (a : Option ℕ) → so_far found es τ ≡ a → told_by a (Err r) ≡ by_again whole (Err r)
        go (Some j) q =
            let z = h.under j q in
            sym (ap (λ (b : Bool). cond b (Err (repeated_field j)) (Err r)) (lt-ltb j r.place (omega arith)))
            ∙ ap (λ (y : Option ℕ). by_again y (Err r)) (ap (λ (y : Option ℕ). or_else y (again_from nm ks w f es σ τ i)) (sym q) ∙ h.gives)
        go None q =
            beyond (again_from nm ks w f es σ τ i) refl
            ∙ ap (λ (y : Option ℕ). by_again y (Err r)) (ap (λ (y : Option ℕ). or_else y (again_from nm ks w f es σ τ i)) (sym q) ∙ h.gives)

  accepts : (found : Option ℕ) (w : Want) (f : Frame) (es : List ℕ) (σ : List Frame) (τ : List (List ℕ)) (i : ℕ) → Naming [] found w f es σ τ i
      → told_by (so_far found es τ) (Ok tt) ≡ by_again whole (Ok tt)
  unfolding again_from
  accepts found w f es σ τ i h = go (so_far found es τ) h.gives
    where
      go : (a : Option ℕ) → or_else a None ≡ whole → told_by a (Ok tt) ≡ by_again whole (Ok tt)
      go None q = ap (λ (y : Option ℕ). by_again y (Ok tt)) q
      go (Some j) q = ap (λ (y : Option ℕ). by_again y (Ok tt)) q

  -- where the entries end
  pub stops_end : (found : Option ℕ) (w : Want) (f : Frame) (es : List ℕ) (σ : List Frame) (τ : List (List ℕ)) (i : ℕ) → Naming [] found w f es σ τ i
      → told_by (so_far found es τ) (finish w f i) ≡ by_again whole (finish w f i)
  stops_end found w f es σ τ i h = by (finish_says w f i)
    where
      by : (finish w f i ≡ Ok tt) ⊎ (finish w f i ≡ Err (tape_ends_early i)) → told_by (so_far found es τ) (finish w f i) ≡ by_again whole (finish w f i)
      by (inl e) = ap (told_by (so_far found es τ)) e ∙ accepts found w f es σ τ i h ∙ ap (by_again whole) (sym e)
      by (inr e) = ap (told_by (so_far found es τ)) e ∙ stops_refused [] found w f es σ τ i h (tape_ends_early i) refl ∙ ap (by_again whole) (sym e)
