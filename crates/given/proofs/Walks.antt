-- The refusals of the grammar's walk are 24 to 26, and with the names of fields also 31. Assumes nothing.
use Rattle.std.proofs.Common.{Ok, Err, Some, None, Option}
use Prim.Native.Nat.{ℕ, ◌+◌, ◌<◌}
use native.Mathlib.Omega.{arith}
use mathlib.Core.List.{List, [], ◌∷◌}
use mathlib.Core.Logic.{◌⊎◌, inl, inr}
use mathlib.Core.Path.{◌≡◌, refl, subst, sym}
use lib.Dec.{ltb}
use lib.ListN.{length}
use Rattle.grammar.specs.Steps.{step_of}
use Rattle.grammar.specs.Walk.{ended, finish, popped, by_move, check, walk_of}
use Rattle.grammar.specs.declared.kinds.Kind.{Kind}
use Rattle.grammar.specs.declared.states.Frame.{Frame}
use Rattle.grammar.specs.declared.states.Frame.TheVariants.{Top, Square, Tuple, Struct, Key, Pair}
use Rattle.grammar.specs.declared.states.Want.{Want}
use Rattle.grammar.specs.declared.states.Want.TheVariants.{Start, Must, Item, First, FirstName, Named, Behind, Field, FieldName}
use Rattle.grammar.specs.declared.states.Move.{Move}
use Rattle.grammar.specs.declared.states.Move.TheVariants.{Stay, Push, Pop, Bad}
use Rattle.text.proofs.Choices.{either}
use Rattle.text.specs.Refusals.{Told, repeated_field}
use Rattle.text.specs.declared.refusal.Refusal.{Refusal}
use Rattle.fields.specs.Fields.{again_of, by_again, named_walk}
use Rattle.given.specs.Given.{Between, Given, given, within}
use Rattle.given.proofs.Both.{both}
use Rattle.given.proofs.Front.{four_given, number-in, wider}

abbrev pub Of-walk : Told Unit → Type 0
Of-walk (Ok tt) = Unit
Of-walk (Err r) = Between 24 26 r

end : (f : Frame) (i : ℕ) → Of-walk (ended f i)
unfolding within
end Top i = tt
end Square i = refl
end Tuple i = refl
end Struct i = refl
end Key i = refl
end Pair i = refl

finished : (w : Want) (f : Frame) (i : ℕ) → Of-walk (finish w f i)
unfolding within
finished Start f i = refl
finished Must f i = refl
finished Item f i = refl
finished First f i = refl
finished FirstName f i = refl
finished Named f i = end f i
finished Behind f i = end f i
finished Field f i = refl
finished FieldName f i = refl

pop : (σ : List Frame) (on : Frame → List Frame → Told Unit) (i : ℕ) → ((g : Frame) (τ : List Frame) → Of-walk (on g τ)) → Of-walk (popped σ on i)
unfolding within
pop [] on i h = refl
pop (g ∷ σ) on i h = h g σ

by-move : (m : Move) (limit : ℕ) (f : Frame) (σ : List Frame) (i : ℕ) (on : Want → Frame → List Frame → Told Unit)
    → ((w : Want) (g : Frame) (τ : List Frame) → Of-walk (on w g τ)) → Of-walk (by_move m limit f σ i on)
unfolding within
by-move (Stay w g) limit f σ i on h = h w g σ
by-move (Push w g) limit f σ i on h = both Of-walk (ltb (length σ) limit) (h w g (f ∷ σ)) refl
by-move Pop limit f σ i on h = pop σ (λ g τ. on Behind g τ) i (h Behind)
by-move Bad limit f σ i on h = refl

checked : (ks : List Kind) (limit : ℕ) (w : Want) (f : Frame) (σ : List Frame) (i : ℕ) → Of-walk (check ks limit w f σ i)
unfolding check
checked [] limit w f σ i = finished w f i
checked (k ∷ ks) limit w f σ i = by-move (step_of w k f) limit f σ i _ (λ w' g τ. checked ks limit w' g τ (i + 1))

pub verdict_of_walk : (ks : List Kind) (limit : ℕ) → Of-walk (walk_of ks limit)
verdict_of_walk ks limit = checked ks limit Start Top [] 0

-- ---- with the names of fields

-- one of 24 to 26, or 31
abbrev pub Named-refusal : Refusal → Type 0
Named-refusal r = Between 24 26 r ⊎ (r ≡ repeated_field r.place)

abbrev pub Of-named : Told Unit → Type 0
Of-named (Ok tt) = Unit
Of-named (Err r) = Named-refusal r

by-again : (a : Option ℕ) (v : Told Unit) → Of-walk v → Of-named (by_again a v)
by-again None (Ok tt) h = tt
by-again None (Err r) h = inl h
by-again (Some j) (Ok tt) h = inr refl
by-again (Some j) (Err r) h = both Of-named (ltb j r.place) (inr refl) (inl h)

pub verdict_of_named : (nm : ℕ → List ℕ) (ks : List Kind) (limit : ℕ) → Of-named (named_walk nm ks limit)
verdict_of_named nm ks limit = by-again (again_of nm ks) (walk_of ks limit) (verdict_of_walk ks limit)

again_given : (p : ℕ) → Given (repeated_field p)
unfolding given within
again_given p = refl

-- each is given
pub named_given : (r : Refusal) → Named-refusal r → Given r
named_given r h = either h (λ b. four_given r (wider 24 26 4 29 r (omega arith) (omega arith) b)) (λ e. subst Given (sym e) (again_given r.place))

-- and none of the front's
pub named_number : (r : Refusal) → Named-refusal r → ((23 < r.number) × (r.number < 28)) ⊎ (r.number ≡ 31)
named_number r h =
    either h (λ b. let w = number-in 24 26 r b in let x = w.0 in let y = w.1 in inl (omega arith, omega arith))
    (λ e. inr (subst (λ (q : Refusal). q.number ≡ 31) (sym e) refl))
