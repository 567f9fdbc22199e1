-- What each state of the walk means: `p` was read so far (p k: that, then k), and every way to go on that the grammar allows makes a document.
-- Each step keeps it. Assumes nothing.
use Prim.Native.Nat.{ℕ, suc, ◌<◌}
use mathlib.Core.List.{List, [], ◌∷◌}
use lib.ListN.{length}
use Rattle.grammar.specs.Grammar.{Value, scalar, name, list, map, round, called, Round, tuple, struct, Items, none, one, more, Pairs, no_pair, one_pair, more_pairs, Fields, no_field, one_field, more_fields, value, inner, items, pairs, fields, attributes, Fits, FitRound, FitItems, FitPairs, FitFields, Document}
use Rattle.grammar.specs.Steps.{close_round, close_square, close_pair, close_key, comma, colon, value_of, start_of, item_of, first_of, behind_of, named_of, first_name_of, field_of, field_name_of, step_of}
use Rattle.grammar.specs.declared.kinds.Kind.{Kind}
use Rattle.grammar.specs.declared.kinds.Kind.TheVariants.{OpenRound, CloseRound, OpenSquare, CloseSquare, OpenCurly, CloseCurly, Comma, Colon, Name, Scalar, Attribute}
use Rattle.grammar.specs.declared.states.Frame.{Frame}
use Rattle.grammar.specs.declared.states.Frame.TheVariants.{Top, Square, Tuple, Struct, Key, Pair}
use Rattle.grammar.specs.declared.states.Want.{Want}
use Rattle.grammar.specs.declared.states.Want.TheVariants.{Start, Must, Item, First, FirstName, Named, Behind, Field, FieldName}
use Rattle.grammar.specs.declared.states.Move.{Move}
use Rattle.grammar.specs.declared.states.Move.TheVariants.{Stay, Push, Pop, Bad}

module _ (lim : ℕ) where
  -- behind a value
  abbrev pub AtBehind : List Frame → Frame → (List Kind → List Kind) → Type 0
  AtBehind [] Top p = Document lim (p [])
  AtBehind [] Square p = ⊥
  AtBehind [] Tuple p = ⊥
  AtBehind [] Struct p = ⊥
  AtBehind [] Key p = ⊥
  AtBehind [] Pair p = ⊥
  AtBehind (g ∷ σ) Top p = ⊥
  AtBehind (g ∷ σ) Square p = AtBehind σ g (λ k. p (CloseSquare ∷ k)) × ((xs : Items) → FitItems lim xs (suc (length σ)) → AtBehind σ g (λ k. p (Comma ∷ items xs (CloseSquare ∷ k))))
  AtBehind (g ∷ σ) Tuple p = AtBehind σ g (λ k. p (CloseRound ∷ k)) × ((xs : Items) → FitItems lim xs (suc (length σ)) → AtBehind σ g (λ k. p (Comma ∷ items xs (CloseRound ∷ k))))
  AtBehind (g ∷ σ) Struct p = AtBehind σ g (λ k. p (CloseRound ∷ k)) × ((xs : Fields) → FitFields lim xs (suc (length σ)) → AtBehind σ g (λ k. p (Comma ∷ fields xs (CloseRound ∷ k))))
  AtBehind (g ∷ σ) Key p = (v : Value) → Fits lim v (suc (length σ)) → (AtBehind σ g (λ k. p (Colon ∷ value v (CloseCurly ∷ k))) × ((xs : Pairs) → FitPairs lim xs (suc (length σ)) → AtBehind σ g (λ k. p (Colon ∷ value v (Comma ∷ pairs xs (CloseCurly ∷ k))))))
  AtBehind (g ∷ σ) Pair p = AtBehind σ g (λ k. p (CloseCurly ∷ k)) × ((xs : Pairs) → FitPairs lim xs (suc (length σ)) → AtBehind σ g (λ k. p (Comma ∷ pairs xs (CloseCurly ∷ k))))

  -- where an item or the end may stand
  abbrev pub AtItem : List Frame → Frame → (List Kind → List Kind) → Type 0
  AtItem [] Top p = ⊥
  AtItem [] Square p = ⊥
  AtItem [] Tuple p = ⊥
  AtItem [] Struct p = ⊥
  AtItem [] Key p = ⊥
  AtItem [] Pair p = ⊥
  AtItem (g ∷ σ) Top p = ⊥
  AtItem (g ∷ σ) Square p = (xs : Items) → FitItems lim xs (suc (length σ)) → AtBehind σ g (λ k. p (items xs (CloseSquare ∷ k)))
  AtItem (g ∷ σ) Tuple p = (xs : Items) → FitItems lim xs (suc (length σ)) → AtBehind σ g (λ k. p (items xs (CloseRound ∷ k)))
  AtItem (g ∷ σ) Struct p = ⊥
  AtItem (g ∷ σ) Key p = (xs : Pairs) → FitPairs lim xs (suc (length σ)) → AtBehind σ g (λ k. p (pairs xs (CloseCurly ∷ k)))
  AtItem (g ∷ σ) Pair p = ⊥

  -- behind an opening round bracket
  abbrev pub AtFirst : List Frame → Frame → (List Kind → List Kind) → Type 0
  AtFirst [] Top p = ⊥
  AtFirst [] Square p = ⊥
  AtFirst [] Tuple p = ⊥
  AtFirst [] Struct p = ⊥
  AtFirst [] Key p = ⊥
  AtFirst [] Pair p = ⊥
  AtFirst (g ∷ σ) Top p = ⊥
  AtFirst (g ∷ σ) Square p = ⊥
  AtFirst (g ∷ σ) Tuple p = (r : Round) → FitRound lim r (suc (length σ)) → AtBehind σ g (λ k. p (inner r (CloseRound ∷ k)))
  AtFirst (g ∷ σ) Struct p = ⊥
  AtFirst (g ∷ σ) Key p = ⊥
  AtFirst (g ∷ σ) Pair p = ⊥

  -- behind a name there
  abbrev pub AtFirstName : List Frame → Frame → (List Kind → List Kind) → Type 0
  AtFirstName [] Top p = ⊥
  AtFirstName [] Square p = ⊥
  AtFirstName [] Tuple p = ⊥
  AtFirstName [] Struct p = ⊥
  AtFirstName [] Key p = ⊥
  AtFirstName [] Pair p = ⊥
  AtFirstName (g ∷ σ) Top p = ⊥
  AtFirstName (g ∷ σ) Square p = ⊥
  AtFirstName (g ∷ σ) Tuple p = AtBehind (g ∷ σ) Tuple p × ((r : Round) → Fits lim (called r) (suc (length σ)) → AtBehind (g ∷ σ) Tuple (λ k. p (OpenRound ∷ inner r (CloseRound ∷ k)))) × ((v : Value) → Fits lim v (suc (length σ)) → AtBehind (g ∷ σ) Struct (λ k. p (Colon ∷ value v k)))
  AtFirstName (g ∷ σ) Struct p = ⊥
  AtFirstName (g ∷ σ) Key p = ⊥
  AtFirstName (g ∷ σ) Pair p = ⊥

  -- where a field or the end may stand
  abbrev pub AtField : List Frame → Frame → (List Kind → List Kind) → Type 0
  AtField [] Top p = ⊥
  AtField [] Square p = ⊥
  AtField [] Tuple p = ⊥
  AtField [] Struct p = ⊥
  AtField [] Key p = ⊥
  AtField [] Pair p = ⊥
  AtField (g ∷ σ) Top p = ⊥
  AtField (g ∷ σ) Square p = ⊥
  AtField (g ∷ σ) Tuple p = ⊥
  AtField (g ∷ σ) Struct p = (xs : Fields) → FitFields lim xs (suc (length σ)) → AtBehind σ g (λ k. p (fields xs (CloseRound ∷ k)))
  AtField (g ∷ σ) Key p = ⊥
  AtField (g ∷ σ) Pair p = ⊥

  -- behind the name of a field
  abbrev pub AtFieldName : List Frame → Frame → (List Kind → List Kind) → Type 0
  AtFieldName [] Top p = ⊥
  AtFieldName [] Square p = ⊥
  AtFieldName [] Tuple p = ⊥
  AtFieldName [] Struct p = ⊥
  AtFieldName [] Key p = ⊥
  AtFieldName [] Pair p = ⊥
  AtFieldName (g ∷ σ) Top p = ⊥
  AtFieldName (g ∷ σ) Square p = ⊥
  AtFieldName (g ∷ σ) Tuple p = ⊥
  AtFieldName (g ∷ σ) Struct p = (v : Value) → Fits lim v (suc (length σ)) → AtBehind (g ∷ σ) Struct (λ k. p (Colon ∷ value v k))
  AtFieldName (g ∷ σ) Key p = ⊥
  AtFieldName (g ∷ σ) Pair p = ⊥

  -- what each want means
  abbrev pub Means : Want → List Frame → Frame → (List Kind → List Kind) → Type 0
  Means Start σ f p = (n : ℕ) (v : Value) → Fits lim v (length σ) → AtBehind σ f (λ k. p (attributes n (value v k)))
  Means Must σ f p = (v : Value) → Fits lim v (length σ) → AtBehind σ f (λ k. p (value v k))
  Means Item σ f p = AtItem σ f p
  Means First σ f p = AtFirst σ f p
  Means FirstName σ f p = AtFirstName σ f p
  Means Named σ f p = AtBehind σ f p × ((r : Round) → Fits lim (called r) (length σ) → AtBehind σ f (λ k. p (OpenRound ∷ inner r (CloseRound ∷ k))))
  Means Behind σ f p = AtBehind σ f p
  Means Field σ f p = AtField σ f p
  Means FieldName σ f p = AtFieldName σ f p

  -- behind the closing bracket
  abbrev pub Popped : List Frame → (List Kind → List Kind) → Type 0
  Popped [] p = ⊥
  Popped (g ∷ σ) p = AtBehind σ g p

  -- behind an entry that does so
  abbrev pub Next : Move → List Frame → Frame → (List Kind → List Kind) → Type 0
  Next (Stay w g) σ f p = Means w σ g p
  Next (Push w g) σ f p = length σ < lim → Means w (f ∷ σ) g p
  Next Pop σ f p = Popped σ p
  Next Bad σ f p = Unit {0}

  -- ---- each mark, by the innermost bracket

  comma_ok : (σ : List Frame) (f : Frame) (p : List Kind → List Kind) → AtBehind σ f p → Next (comma f) σ f (λ k. p (Comma ∷ k))
  comma_ok [] Top p s = tt
  comma_ok [] Square p s = absurd s
  comma_ok [] Tuple p s = absurd s
  comma_ok [] Struct p s = absurd s
  comma_ok [] Key p s = tt
  comma_ok [] Pair p s = absurd s
  comma_ok (g ∷ σ) Top p s = tt
  comma_ok (g ∷ σ) Square p s = s.1
  comma_ok (g ∷ σ) Tuple p s = s.1
  comma_ok (g ∷ σ) Struct p s = s.1
  comma_ok (g ∷ σ) Key p s = tt
  comma_ok (g ∷ σ) Pair p s = s.1

  colon_ok : (σ : List Frame) (f : Frame) (p : List Kind → List Kind) → AtBehind σ f p → Next (colon f) σ f (λ k. p (Colon ∷ k))
  colon_ok [] Top p s = tt
  colon_ok [] Square p s = tt
  colon_ok [] Tuple p s = tt
  colon_ok [] Struct p s = tt
  colon_ok [] Key p s = absurd s
  colon_ok [] Pair p s = tt
  colon_ok (g ∷ σ) Top p s = tt
  colon_ok (g ∷ σ) Square p s = tt
  colon_ok (g ∷ σ) Tuple p s = tt
  colon_ok (g ∷ σ) Struct p s = tt
  colon_ok (g ∷ σ) Key p s = s
  colon_ok (g ∷ σ) Pair p s = tt

  round_ok : (σ : List Frame) (f : Frame) (p : List Kind → List Kind) → AtBehind σ f p → Next (close_round f) σ f (λ k. p (CloseRound ∷ k))
  round_ok [] Top p s = tt
  round_ok [] Square p s = tt
  round_ok [] Tuple p s = absurd s
  round_ok [] Struct p s = absurd s
  round_ok [] Key p s = tt
  round_ok [] Pair p s = tt
  round_ok (g ∷ σ) Top p s = tt
  round_ok (g ∷ σ) Square p s = tt
  round_ok (g ∷ σ) Tuple p s = s.0
  round_ok (g ∷ σ) Struct p s = s.0
  round_ok (g ∷ σ) Key p s = tt
  round_ok (g ∷ σ) Pair p s = tt

  square_ok : (σ : List Frame) (f : Frame) (p : List Kind → List Kind) → AtBehind σ f p → Next (close_square f) σ f (λ k. p (CloseSquare ∷ k))
  square_ok [] Top p s = tt
  square_ok [] Square p s = absurd s
  square_ok [] Tuple p s = tt
  square_ok [] Struct p s = tt
  square_ok [] Key p s = tt
  square_ok [] Pair p s = tt
  square_ok (g ∷ σ) Top p s = tt
  square_ok (g ∷ σ) Square p s = s.0
  square_ok (g ∷ σ) Tuple p s = tt
  square_ok (g ∷ σ) Struct p s = tt
  square_ok (g ∷ σ) Key p s = tt
  square_ok (g ∷ σ) Pair p s = tt

  pair_ok : (σ : List Frame) (f : Frame) (p : List Kind → List Kind) → AtBehind σ f p → Next (close_pair f) σ f (λ k. p (CloseCurly ∷ k))
  pair_ok [] Top p s = tt
  pair_ok [] Square p s = tt
  pair_ok [] Tuple p s = tt
  pair_ok [] Struct p s = tt
  pair_ok [] Key p s = tt
  pair_ok [] Pair p s = absurd s
  pair_ok (g ∷ σ) Top p s = tt
  pair_ok (g ∷ σ) Square p s = tt
  pair_ok (g ∷ σ) Tuple p s = tt
  pair_ok (g ∷ σ) Struct p s = tt
  pair_ok (g ∷ σ) Key p s = tt
  pair_ok (g ∷ σ) Pair p s = s.0

  item_round : (σ : List Frame) (f : Frame) (p : List Kind → List Kind) → AtItem σ f p → Next (close_round f) σ f (λ k. p (CloseRound ∷ k))
  item_round [] Top p s = tt
  item_round [] Square p s = tt
  item_round [] Tuple p s = absurd s
  item_round [] Struct p s = absurd s
  item_round [] Key p s = tt
  item_round [] Pair p s = tt
  item_round (g ∷ σ) Top p s = tt
  item_round (g ∷ σ) Square p s = tt
  item_round (g ∷ σ) Tuple p s = s none tt
  item_round (g ∷ σ) Struct p s = absurd s
  item_round (g ∷ σ) Key p s = tt
  item_round (g ∷ σ) Pair p s = tt

  item_square : (σ : List Frame) (f : Frame) (p : List Kind → List Kind) → AtItem σ f p → Next (close_square f) σ f (λ k. p (CloseSquare ∷ k))
  item_square [] Top p s = tt
  item_square [] Square p s = absurd s
  item_square [] Tuple p s = tt
  item_square [] Struct p s = tt
  item_square [] Key p s = tt
  item_square [] Pair p s = tt
  item_square (g ∷ σ) Top p s = tt
  item_square (g ∷ σ) Square p s = s none tt
  item_square (g ∷ σ) Tuple p s = tt
  item_square (g ∷ σ) Struct p s = tt
  item_square (g ∷ σ) Key p s = tt
  item_square (g ∷ σ) Pair p s = tt

  item_key : (σ : List Frame) (f : Frame) (p : List Kind → List Kind) → AtItem σ f p → Next (close_key f) σ f (λ k. p (CloseCurly ∷ k))
  item_key [] Top p s = tt
  item_key [] Square p s = tt
  item_key [] Tuple p s = tt
  item_key [] Struct p s = tt
  item_key [] Key p s = absurd s
  item_key [] Pair p s = tt
  item_key (g ∷ σ) Top p s = tt
  item_key (g ∷ σ) Square p s = tt
  item_key (g ∷ σ) Tuple p s = tt
  item_key (g ∷ σ) Struct p s = tt
  item_key (g ∷ σ) Key p s = s no_pair tt
  item_key (g ∷ σ) Pair p s = tt

  first_round : (σ : List Frame) (f : Frame) (p : List Kind → List Kind) → AtFirst σ f p → Next (close_round f) σ f (λ k. p (CloseRound ∷ k))
  first_round [] Top p s = tt
  first_round [] Square p s = tt
  first_round [] Tuple p s = absurd s
  first_round [] Struct p s = absurd s
  first_round [] Key p s = tt
  first_round [] Pair p s = tt
  first_round (g ∷ σ) Top p s = tt
  first_round (g ∷ σ) Square p s = tt
  first_round (g ∷ σ) Tuple p s = s (tuple none) tt
  first_round (g ∷ σ) Struct p s = absurd s
  first_round (g ∷ σ) Key p s = tt
  first_round (g ∷ σ) Pair p s = tt

  field_round : (σ : List Frame) (f : Frame) (p : List Kind → List Kind) → AtField σ f p → Next (close_round f) σ f (λ k. p (CloseRound ∷ k))
  field_round [] Top p s = tt
  field_round [] Square p s = tt
  field_round [] Tuple p s = absurd s
  field_round [] Struct p s = absurd s
  field_round [] Key p s = tt
  field_round [] Pair p s = tt
  field_round (g ∷ σ) Top p s = tt
  field_round (g ∷ σ) Square p s = tt
  field_round (g ∷ σ) Tuple p s = absurd s
  field_round (g ∷ σ) Struct p s = s no_field tt
  field_round (g ∷ σ) Key p s = tt
  field_round (g ∷ σ) Pair p s = tt

  -- ---- what one want means for another

  item_value : (σ : List Frame) (f : Frame) (p : List Kind → List Kind) → AtItem σ f p → Means Must σ f p
  item_value [] Top p s = absurd s
  item_value [] Square p s = absurd s
  item_value [] Tuple p s = absurd s
  item_value [] Struct p s = absurd s
  item_value [] Key p s = absurd s
  item_value [] Pair p s = absurd s
  item_value (g ∷ σ) Top p s = absurd s
  item_value (g ∷ σ) Square p s = λ v h. (s (one v) h, λ xs hx. s (more v xs) (h, hx))
  item_value (g ∷ σ) Tuple p s = λ v h. (s (one v) h, λ xs hx. s (more v xs) (h, hx))
  item_value (g ∷ σ) Struct p s = absurd s
  item_value (g ∷ σ) Key p s = λ v h w hw. (s (one_pair v w) (h, hw), λ ps hp. s (more_pairs v w ps) (h, hw, hp))
  item_value (g ∷ σ) Pair p s = absurd s

  first_value : (σ : List Frame) (f : Frame) (p : List Kind → List Kind) → AtFirst σ f p → Means Must σ f p
  first_value [] Top p s = absurd s
  first_value [] Square p s = absurd s
  first_value [] Tuple p s = absurd s
  first_value [] Struct p s = absurd s
  first_value [] Key p s = absurd s
  first_value [] Pair p s = absurd s
  first_value (g ∷ σ) Top p s = absurd s
  first_value (g ∷ σ) Square p s = absurd s
  first_value (g ∷ σ) Tuple p s = λ v h. (s (tuple (one v)) h, λ xs hx. s (tuple (more v xs)) (h, hx))
  first_value (g ∷ σ) Struct p s = absurd s
  first_value (g ∷ σ) Key p s = absurd s
  first_value (g ∷ σ) Pair p s = absurd s

  first_name : (σ : List Frame) (f : Frame) (p : List Kind → List Kind) → AtFirst σ f p → AtFirstName σ f (λ k. p (Name ∷ k))
  first_name [] Top p s = absurd s
  first_name [] Square p s = absurd s
  first_name [] Tuple p s = absurd s
  first_name [] Struct p s = absurd s
  first_name [] Key p s = absurd s
  first_name [] Pair p s = absurd s
  first_name (g ∷ σ) Top p s = absurd s
  first_name (g ∷ σ) Square p s = absurd s
  first_name (g ∷ σ) Tuple p s = ((s (tuple (one name)) tt, λ xs hx. s (tuple (more name xs)) (tt, hx)), (λ r h. (s (tuple (one (called r))) h, λ xs hx. s (tuple (more (called r) xs)) (h, hx))), λ v h. (s (struct (one_field v)) h, λ fs hf. s (struct (more_fields v fs)) (h, hf)))
  first_name (g ∷ σ) Struct p s = absurd s
  first_name (g ∷ σ) Key p s = absurd s
  first_name (g ∷ σ) Pair p s = absurd s

  firstname_named : (σ : List Frame) (f : Frame) (p : List Kind → List Kind) → AtFirstName σ f p → Means Named σ f p
  firstname_named [] Top p s = absurd s
  firstname_named [] Square p s = absurd s
  firstname_named [] Tuple p s = absurd s
  firstname_named [] Struct p s = absurd s
  firstname_named [] Key p s = absurd s
  firstname_named [] Pair p s = absurd s
  firstname_named (g ∷ σ) Top p s = absurd s
  firstname_named (g ∷ σ) Square p s = absurd s
  firstname_named (g ∷ σ) Tuple p s = (s.0, s.1)
  firstname_named (g ∷ σ) Struct p s = absurd s
  firstname_named (g ∷ σ) Key p s = absurd s
  firstname_named (g ∷ σ) Pair p s = absurd s

  firstname_colon : (σ : List Frame) (f : Frame) (p : List Kind → List Kind) → AtFirstName σ f p → Means Must σ Struct (λ k. p (Colon ∷ k))
  firstname_colon [] Top p s = absurd s
  firstname_colon [] Square p s = absurd s
  firstname_colon [] Tuple p s = absurd s
  firstname_colon [] Struct p s = absurd s
  firstname_colon [] Key p s = absurd s
  firstname_colon [] Pair p s = absurd s
  firstname_colon (g ∷ σ) Top p s = absurd s
  firstname_colon (g ∷ σ) Square p s = absurd s
  firstname_colon (g ∷ σ) Tuple p s = s.2
  firstname_colon (g ∷ σ) Struct p s = absurd s
  firstname_colon (g ∷ σ) Key p s = absurd s
  firstname_colon (g ∷ σ) Pair p s = absurd s

  field_name : (σ : List Frame) (f : Frame) (p : List Kind → List Kind) → AtField σ f p → AtFieldName σ f (λ k. p (Name ∷ k))
  field_name [] Top p s = absurd s
  field_name [] Square p s = absurd s
  field_name [] Tuple p s = absurd s
  field_name [] Struct p s = absurd s
  field_name [] Key p s = absurd s
  field_name [] Pair p s = absurd s
  field_name (g ∷ σ) Top p s = absurd s
  field_name (g ∷ σ) Square p s = absurd s
  field_name (g ∷ σ) Tuple p s = absurd s
  field_name (g ∷ σ) Struct p s = λ v h. (s (one_field v) h, λ fs hf. s (more_fields v fs) (h, hf))
  field_name (g ∷ σ) Key p s = absurd s
  field_name (g ∷ σ) Pair p s = absurd s

  fieldname_colon : (σ : List Frame) (f : Frame) (p : List Kind → List Kind) → AtFieldName σ f p → Means Must σ f (λ k. p (Colon ∷ k))
  fieldname_colon [] Top p s = absurd s
  fieldname_colon [] Square p s = absurd s
  fieldname_colon [] Tuple p s = absurd s
  fieldname_colon [] Struct p s = absurd s
  fieldname_colon [] Key p s = absurd s
  fieldname_colon [] Pair p s = absurd s
  fieldname_colon (g ∷ σ) Top p s = absurd s
  fieldname_colon (g ∷ σ) Square p s = absurd s
  fieldname_colon (g ∷ σ) Tuple p s = absurd s
  fieldname_colon (g ∷ σ) Struct p s = s
  fieldname_colon (g ∷ σ) Key p s = absurd s
  fieldname_colon (g ∷ σ) Pair p s = absurd s

  -- ---- each kind, by what may stand there

  value_step : (k : Kind) (σ : List Frame) (f : Frame) (p : List Kind → List Kind) → Means Must σ f p → Next (value_of k f) σ f (λ r. p (k ∷ r))
  value_step OpenRound σ f p s = λ lt r h. s (round r) (lt, h)
  value_step CloseRound σ f p s = tt
  value_step OpenSquare σ f p s = λ lt xs h. s (list xs) (lt, h)
  value_step CloseSquare σ f p s = tt
  value_step OpenCurly σ f p s = λ lt xs h. s (map xs) (lt, h)
  value_step CloseCurly σ f p s = tt
  value_step Comma σ f p s = tt
  value_step Colon σ f p s = tt
  value_step Name σ f p s = (s name tt, λ r h. s (called r) h)
  value_step Scalar σ f p s = s scalar tt
  value_step Attribute σ f p s = tt

  start_step : (k : Kind) (σ : List Frame) (f : Frame) (p : List Kind → List Kind) → Means Start σ f p → Next (start_of k f) σ f (λ r. p (k ∷ r))
  start_step OpenRound σ f p s = value_step OpenRound σ f p (λ v h. s 0 v h)
  start_step CloseRound σ f p s = value_step CloseRound σ f p (λ v h. s 0 v h)
  start_step OpenSquare σ f p s = value_step OpenSquare σ f p (λ v h. s 0 v h)
  start_step CloseSquare σ f p s = value_step CloseSquare σ f p (λ v h. s 0 v h)
  start_step OpenCurly σ f p s = value_step OpenCurly σ f p (λ v h. s 0 v h)
  start_step CloseCurly σ f p s = value_step CloseCurly σ f p (λ v h. s 0 v h)
  start_step Comma σ f p s = value_step Comma σ f p (λ v h. s 0 v h)
  start_step Colon σ f p s = value_step Colon σ f p (λ v h. s 0 v h)
  start_step Name σ f p s = value_step Name σ f p (λ v h. s 0 v h)
  start_step Scalar σ f p s = value_step Scalar σ f p (λ v h. s 0 v h)
  start_step Attribute σ f p s = λ n v h. s (suc n) v h

  item_step : (k : Kind) (σ : List Frame) (f : Frame) (p : List Kind → List Kind) → AtItem σ f p → Next (item_of k f) σ f (λ r. p (k ∷ r))
  item_step OpenRound σ f p s = value_step OpenRound σ f p (item_value σ f p s)
  item_step CloseRound σ f p s = item_round σ f p s
  item_step OpenSquare σ f p s = value_step OpenSquare σ f p (item_value σ f p s)
  item_step CloseSquare σ f p s = item_square σ f p s
  item_step OpenCurly σ f p s = value_step OpenCurly σ f p (item_value σ f p s)
  item_step CloseCurly σ f p s = item_key σ f p s
  item_step Comma σ f p s = value_step Comma σ f p (item_value σ f p s)
  item_step Colon σ f p s = value_step Colon σ f p (item_value σ f p s)
  item_step Name σ f p s = value_step Name σ f p (item_value σ f p s)
  item_step Scalar σ f p s = value_step Scalar σ f p (item_value σ f p s)
  item_step Attribute σ f p s = value_step Attribute σ f p (item_value σ f p s)

  first_step : (k : Kind) (σ : List Frame) (f : Frame) (p : List Kind → List Kind) → AtFirst σ f p → Next (first_of k f) σ f (λ r. p (k ∷ r))
  first_step OpenRound σ f p s = value_step OpenRound σ f p (first_value σ f p s)
  first_step CloseRound σ f p s = first_round σ f p s
  first_step OpenSquare σ f p s = value_step OpenSquare σ f p (first_value σ f p s)
  first_step CloseSquare σ f p s = value_step CloseSquare σ f p (first_value σ f p s)
  first_step OpenCurly σ f p s = value_step OpenCurly σ f p (first_value σ f p s)
  first_step CloseCurly σ f p s = value_step CloseCurly σ f p (first_value σ f p s)
  first_step Comma σ f p s = value_step Comma σ f p (first_value σ f p s)
  first_step Colon σ f p s = value_step Colon σ f p (first_value σ f p s)
  first_step Name σ f p s = first_name σ f p s
  first_step Scalar σ f p s = value_step Scalar σ f p (first_value σ f p s)
  first_step Attribute σ f p s = value_step Attribute σ f p (first_value σ f p s)

  behind_step : (k : Kind) (σ : List Frame) (f : Frame) (p : List Kind → List Kind) → AtBehind σ f p → Next (behind_of k f) σ f (λ r. p (k ∷ r))
  behind_step OpenRound σ f p s = tt
  behind_step CloseRound σ f p s = round_ok σ f p s
  behind_step OpenSquare σ f p s = tt
  behind_step CloseSquare σ f p s = square_ok σ f p s
  behind_step OpenCurly σ f p s = tt
  behind_step CloseCurly σ f p s = pair_ok σ f p s
  behind_step Comma σ f p s = comma_ok σ f p s
  behind_step Colon σ f p s = colon_ok σ f p s
  behind_step Name σ f p s = tt
  behind_step Scalar σ f p s = tt
  behind_step Attribute σ f p s = tt

  named_step : (k : Kind) (σ : List Frame) (f : Frame) (p : List Kind → List Kind) → Means Named σ f p → Next (named_of k f) σ f (λ r. p (k ∷ r))
  named_step OpenRound σ f p s = λ lt r h. s.1 r (lt, h)
  named_step CloseRound σ f p s = behind_step CloseRound σ f p s.0
  named_step OpenSquare σ f p s = behind_step OpenSquare σ f p s.0
  named_step CloseSquare σ f p s = behind_step CloseSquare σ f p s.0
  named_step OpenCurly σ f p s = behind_step OpenCurly σ f p s.0
  named_step CloseCurly σ f p s = behind_step CloseCurly σ f p s.0
  named_step Comma σ f p s = behind_step Comma σ f p s.0
  named_step Colon σ f p s = behind_step Colon σ f p s.0
  named_step Name σ f p s = behind_step Name σ f p s.0
  named_step Scalar σ f p s = behind_step Scalar σ f p s.0
  named_step Attribute σ f p s = behind_step Attribute σ f p s.0

  firstname_step : (k : Kind) (σ : List Frame) (f : Frame) (p : List Kind → List Kind) → AtFirstName σ f p → Next (first_name_of k f) σ f (λ r. p (k ∷ r))
  firstname_step OpenRound σ f p s = named_step OpenRound σ f p (firstname_named σ f p s)
  firstname_step CloseRound σ f p s = named_step CloseRound σ f p (firstname_named σ f p s)
  firstname_step OpenSquare σ f p s = named_step OpenSquare σ f p (firstname_named σ f p s)
  firstname_step CloseSquare σ f p s = named_step CloseSquare σ f p (firstname_named σ f p s)
  firstname_step OpenCurly σ f p s = named_step OpenCurly σ f p (firstname_named σ f p s)
  firstname_step CloseCurly σ f p s = named_step CloseCurly σ f p (firstname_named σ f p s)
  firstname_step Comma σ f p s = named_step Comma σ f p (firstname_named σ f p s)
  firstname_step Colon σ f p s = firstname_colon σ f p s
  firstname_step Name σ f p s = named_step Name σ f p (firstname_named σ f p s)
  firstname_step Scalar σ f p s = named_step Scalar σ f p (firstname_named σ f p s)
  firstname_step Attribute σ f p s = named_step Attribute σ f p (firstname_named σ f p s)

  field_step : (k : Kind) (σ : List Frame) (f : Frame) (p : List Kind → List Kind) → AtField σ f p → Next (field_of k f) σ f (λ r. p (k ∷ r))
  field_step OpenRound σ f p s = tt
  field_step CloseRound σ f p s = field_round σ f p s
  field_step OpenSquare σ f p s = tt
  field_step CloseSquare σ f p s = tt
  field_step OpenCurly σ f p s = tt
  field_step CloseCurly σ f p s = tt
  field_step Comma σ f p s = tt
  field_step Colon σ f p s = tt
  field_step Name σ f p s = field_name σ f p s
  field_step Scalar σ f p s = tt
  field_step Attribute σ f p s = tt

  fieldname_step : (k : Kind) (σ : List Frame) (f : Frame) (p : List Kind → List Kind) → AtFieldName σ f p → Next (field_name_of k f) σ f (λ r. p (k ∷ r))
  fieldname_step OpenRound σ f p s = tt
  fieldname_step CloseRound σ f p s = tt
  fieldname_step OpenSquare σ f p s = tt
  fieldname_step CloseSquare σ f p s = tt
  fieldname_step OpenCurly σ f p s = tt
  fieldname_step CloseCurly σ f p s = tt
  fieldname_step Comma σ f p s = tt
  fieldname_step Colon σ f p s = fieldname_colon σ f p s
  fieldname_step Name σ f p s = tt
  fieldname_step Scalar σ f p s = tt
  fieldname_step Attribute σ f p s = tt

  pub step_means : (w : Want) (k : Kind) (σ : List Frame) (f : Frame) (p : List Kind → List Kind) → Means w σ f p → Next (step_of w k f) σ f (λ r. p (k ∷ r))
  step_means Start k σ f p s = start_step k σ f p s
  step_means Must k σ f p s = value_step k σ f p s
  step_means Item k σ f p s = item_step k σ f p s
  step_means First k σ f p s = first_step k σ f p s
  step_means FirstName k σ f p s = firstname_step k σ f p s
  step_means Named k σ f p s = named_step k σ f p s
  step_means Behind k σ f p s = behind_step k σ f p s
  step_means Field k σ f p s = field_step k σ f p s
  step_means FieldName k σ f p s = fieldname_step k σ f p s
