-- The walk over entries and their names (document 02, CR 2): the steps of the grammar, with the entries that name the fields of each open bracket.
-- proofs/ show that it stops at the first entry that repeats a field of its own ( ), as specs/Apart has it.
use Rattle.std.specs.Prelude.{Ok, Err, Some, None, Option, ℕ, ◌+◌, Bool, true, false, cond, ◌&&◌, ◌||◌, List, [], ◌∷◌, ltb, eqb}
use Rattle.text.specs.Refusals.{Told, repeated_field}
use Rattle.grammar.specs.declared.kinds.Kind.{Kind}
use Rattle.grammar.specs.declared.states.Frame.{Frame}
use Rattle.grammar.specs.declared.states.Frame.TheVariants.{Top}
use Rattle.grammar.specs.declared.states.Want.{Want}
use Rattle.grammar.specs.declared.states.Want.TheVariants.{Start, Must, Item, First, FirstName, Named, Behind, Field, FieldName}
use Rattle.grammar.specs.declared.states.Move.{Move}
use Rattle.grammar.specs.declared.states.Move.TheVariants.{Stay, Push, Pop, Bad}
use Rattle.grammar.specs.Steps.{step_of}
use Rattle.grammar.specs.Walk.{walk_of}

-- The same bytes.
unfoldable pub same : List ℕ → List ℕ → Bool
same [] [] = true
same [] (b ∷ t) = false
same (a ∷ s) [] = false
same (a ∷ s) (b ∷ t) = eqb a b && same s t

-- What is wanted behind an entry that names a field: behind the first name of a ( ), and behind a field's name. A first name is noted before it is known
-- whether the ( ) is one of fields; in one of values no other name is.
abbrev pub names_field : Want → Bool
names_field Start = false
names_field Must = false
names_field Item = false
names_field First = false
names_field FirstName = true
names_field Named = false
names_field Behind = false
names_field Field = false
names_field FieldName = true

-- The bracket that is closed gives way to the one around it, whose fields come back.
abbrev pub popped : List Frame → List (List ℕ) → (Frame → List ℕ → List Frame → List (List ℕ) → Option ℕ) → Option ℕ
popped [] τ on = None
popped (g ∷ σ) [] on = on g [] σ []
popped (g ∷ σ) (es ∷ τ) on = on g es σ τ

module _ (nm : ℕ → List ℕ) where
  -- One of the entries has the name of entry i.
  unfoldable pub is_named : ℕ → List ℕ → Bool
  is_named i [] = false
  is_named i (e ∷ es) = same (nm i) (nm e) || is_named i es

  -- Entry i, where it names a field, is noted or the answer: es are the fields of the innermost bracket so far.
  abbrev pub noting : Bool → ℕ → List ℕ → (List ℕ → Option ℕ) → Option ℕ
  noting true i es on = let further = on (i ∷ es) in cond (is_named i es) (Some i) further
  noting false i es on = on es

  -- A step, the open brackets σ and their fields τ together.
  abbrev pub by_move : Move → Frame → List ℕ → List Frame → List (List ℕ) → ℕ → (Want → Frame → List ℕ → List Frame → List (List ℕ) → Option ℕ) → Option ℕ
  by_move (Stay w g) f es σ τ i on = noting (names_field w) i es (λ fs. on w g fs σ τ)
  by_move (Push w g) f es σ τ i on = on w g [] (f ∷ σ) (es ∷ τ)
  by_move Pop f es σ τ i on = popped σ τ (λ g fs σ' τ'. on Behind g fs σ' τ')
  by_move Bad f es σ τ i on = None

  -- The first entry from entry i on that names a field again: es are the fields of the innermost bracket, τ those of the brackets around it.
  unfoldable pub again_from : List Kind → Want → Frame → List ℕ → List Frame → List (List ℕ) → ℕ → Option ℕ
  again_from [] w f es σ τ i = None
  again_from (k ∷ ks) w f es σ τ i = by_move (step_of w k f) f es σ τ i (λ w' f' es' σ' τ'. again_from ks w' f' es' σ' τ' (i + 1))

  -- The first of all entries.
  abbrev pub again_of : List Kind → Option ℕ
  again_of ks = again_from ks Start Top [] [] [] 0

-- 31 where a field is named again before the entry at which the grammar stops: "in entry order, after 25 at the same entry".
abbrev pub by_again : Option ℕ → Told Unit → Told Unit
by_again None v = v
by_again (Some j) (Ok tt) = Err (repeated_field j)
by_again (Some j) (Err r) = cond (ltb j r.place) (Err (repeated_field j)) (Err r)

-- The whole verdict over entries, nm being the name of each.
abbrev pub named_walk : (ℕ → List ℕ) → List Kind → ℕ → Told Unit
named_walk nm ks limit = by_again (again_of nm ks) (walk_of ks limit)
