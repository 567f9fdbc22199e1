-- What is not refused yet begins a document: from each state of the walk there is a way to the end. Assumes nothing.
use Prim.Native.Nat.{ℕ}
use mathlib.Core.List.{List, [], ◌∷◌}
use Rattle.grammar.specs.Grammar.{scalar, tuple, none, no_pair, no_field, Document}
use Rattle.grammar.proofs.Meaning.{AtBehind, AtItem, AtFirst, AtFirstName, AtField, AtFieldName, Means}
use Rattle.grammar.specs.declared.kinds.Kind.{Kind}
use Rattle.grammar.specs.declared.kinds.Kind.TheVariants.{CloseRound, CloseSquare, CloseCurly, Colon, Scalar}
use Rattle.grammar.specs.declared.states.Frame.{Frame}
use Rattle.grammar.specs.declared.states.Frame.TheVariants.{Top, Square, Tuple, Struct, Key, Pair}
use Rattle.grammar.specs.declared.states.Want.{Want}
use Rattle.grammar.specs.declared.states.Want.TheVariants.{Start, Must, Item, First, FirstName, Named, Behind, Field, FieldName}

module _ (lim : ℕ) where
  -- some document begins so
  abbrev pub Viable : (List Kind → List Kind) → Type 0
  Viable p = (k : List Kind) × Document lim (p k)

  pub behind_viable : (σ : List Frame) (f : Frame) (p : List Kind → List Kind) → AtBehind lim σ f p → Viable p
  behind_viable [] Top p s = ([], s)
  behind_viable [] Square p s = absurd s
  behind_viable [] Tuple p s = absurd s
  behind_viable [] Struct p s = absurd s
  behind_viable [] Key p s = absurd s
  behind_viable [] Pair p s = absurd s
  behind_viable (g ∷ σ) Top p s = absurd s
  behind_viable (g ∷ σ) Square p s = let r = behind_viable σ g (λ k. p (CloseSquare ∷ k)) s.0 in (CloseSquare ∷ r.0, r.1)
  behind_viable (g ∷ σ) Tuple p s = let r = behind_viable σ g (λ k. p (CloseRound ∷ k)) s.0 in (CloseRound ∷ r.0, r.1)
  behind_viable (g ∷ σ) Struct p s = let r = behind_viable σ g (λ k. p (CloseRound ∷ k)) s.0 in (CloseRound ∷ r.0, r.1)
  behind_viable (g ∷ σ) Pair p s = let r = behind_viable σ g (λ k. p (CloseCurly ∷ k)) s.0 in (CloseCurly ∷ r.0, r.1)
  behind_viable (g ∷ σ) Key p s = let r = behind_viable σ g (λ k. p (Colon ∷ Scalar ∷ CloseCurly ∷ k)) (s scalar tt).0 in (Colon ∷ Scalar ∷ CloseCurly ∷ r.0, r.1)

  item_viable : (σ : List Frame) (f : Frame) (p : List Kind → List Kind) → AtItem lim σ f p → Viable p
  item_viable [] Top p s = absurd s
  item_viable [] Square p s = absurd s
  item_viable [] Tuple p s = absurd s
  item_viable [] Struct p s = absurd s
  item_viable [] Key p s = absurd s
  item_viable [] Pair p s = absurd s
  item_viable (g ∷ σ) Top p s = absurd s
  item_viable (g ∷ σ) Square p s = let r = behind_viable σ g (λ k. p (CloseSquare ∷ k)) (s none tt) in (CloseSquare ∷ r.0, r.1)
  item_viable (g ∷ σ) Tuple p s = let r = behind_viable σ g (λ k. p (CloseRound ∷ k)) (s none tt) in (CloseRound ∷ r.0, r.1)
  item_viable (g ∷ σ) Struct p s = absurd s
  item_viable (g ∷ σ) Key p s = let r = behind_viable σ g (λ k. p (CloseCurly ∷ k)) (s no_pair tt) in (CloseCurly ∷ r.0, r.1)
  item_viable (g ∷ σ) Pair p s = absurd s

  first_viable : (σ : List Frame) (f : Frame) (p : List Kind → List Kind) → AtFirst lim σ f p → Viable p
  first_viable [] Top p s = absurd s
  first_viable [] Square p s = absurd s
  first_viable [] Tuple p s = absurd s
  first_viable [] Struct p s = absurd s
  first_viable [] Key p s = absurd s
  first_viable [] Pair p s = absurd s
  first_viable (g ∷ σ) Top p s = absurd s
  first_viable (g ∷ σ) Square p s = absurd s
  first_viable (g ∷ σ) Tuple p s = let r = behind_viable σ g (λ k. p (CloseRound ∷ k)) (s (tuple none) tt) in (CloseRound ∷ r.0, r.1)
  first_viable (g ∷ σ) Struct p s = absurd s
  first_viable (g ∷ σ) Key p s = absurd s
  first_viable (g ∷ σ) Pair p s = absurd s

  firstname_viable : (σ : List Frame) (f : Frame) (p : List Kind → List Kind) → AtFirstName lim σ f p → Viable p
  firstname_viable [] Top p s = absurd s
  firstname_viable [] Square p s = absurd s
  firstname_viable [] Tuple p s = absurd s
  firstname_viable [] Struct p s = absurd s
  firstname_viable [] Key p s = absurd s
  firstname_viable [] Pair p s = absurd s
  firstname_viable (g ∷ σ) Top p s = absurd s
  firstname_viable (g ∷ σ) Square p s = absurd s
  firstname_viable (g ∷ σ) Tuple p s = let r = behind_viable σ g (λ k. p (CloseRound ∷ k)) s.0.0 in (CloseRound ∷ r.0, r.1)
  firstname_viable (g ∷ σ) Struct p s = absurd s
  firstname_viable (g ∷ σ) Key p s = absurd s
  firstname_viable (g ∷ σ) Pair p s = absurd s

  field_viable : (σ : List Frame) (f : Frame) (p : List Kind → List Kind) → AtField lim σ f p → Viable p
  field_viable [] Top p s = absurd s
  field_viable [] Square p s = absurd s
  field_viable [] Tuple p s = absurd s
  field_viable [] Struct p s = absurd s
  field_viable [] Key p s = absurd s
  field_viable [] Pair p s = absurd s
  field_viable (g ∷ σ) Top p s = absurd s
  field_viable (g ∷ σ) Square p s = absurd s
  field_viable (g ∷ σ) Tuple p s = absurd s
  field_viable (g ∷ σ) Struct p s = let r = behind_viable σ g (λ k. p (CloseRound ∷ k)) (s no_field tt) in (CloseRound ∷ r.0, r.1)
  field_viable (g ∷ σ) Key p s = absurd s
  field_viable (g ∷ σ) Pair p s = absurd s

  fieldname_viable : (σ : List Frame) (f : Frame) (p : List Kind → List Kind) → AtFieldName lim σ f p → Viable p
  fieldname_viable [] Top p s = absurd s
  fieldname_viable [] Square p s = absurd s
  fieldname_viable [] Tuple p s = absurd s
  fieldname_viable [] Struct p s = absurd s
  fieldname_viable [] Key p s = absurd s
  fieldname_viable [] Pair p s = absurd s
  fieldname_viable (g ∷ σ) Top p s = absurd s
  fieldname_viable (g ∷ σ) Square p s = absurd s
  fieldname_viable (g ∷ σ) Tuple p s = absurd s
  fieldname_viable (g ∷ σ) Struct p s = let r = behind_viable σ g (λ k. p (Colon ∷ Scalar ∷ CloseRound ∷ k)) (s scalar tt).0 in (Colon ∷ Scalar ∷ CloseRound ∷ r.0, r.1)
  fieldname_viable (g ∷ σ) Key p s = absurd s
  fieldname_viable (g ∷ σ) Pair p s = absurd s

  pub viable : (w : Want) (σ : List Frame) (f : Frame) (p : List Kind → List Kind) → Means lim w σ f p → Viable p
  viable Start σ f p s = let r = behind_viable σ f (λ k. p (Scalar ∷ k)) (s 0 scalar tt) in (Scalar ∷ r.0, r.1)
  viable Must σ f p s = let r = behind_viable σ f (λ k. p (Scalar ∷ k)) (s scalar tt) in (Scalar ∷ r.0, r.1)
  viable Item σ f p s = item_viable σ f p s
  viable First σ f p s = first_viable σ f p s
  viable FirstName σ f p s = firstname_viable σ f p s
  viable Named σ f p s = behind_viable σ f p s.0
  viable Behind σ f p s = behind_viable σ f p s
  viable Field σ f p s = field_viable σ f p s
  viable FieldName σ f p s = fieldname_viable σ f p s
