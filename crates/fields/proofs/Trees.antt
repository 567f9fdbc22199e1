-- The walk over the entries of a tree finds the first of its fields that is named again. Assumes nothing.
use Rattle.std.proofs.Common.{Some, Option}
use Prim.Native.Nat.{ℕ, zero, suc, ◌+◌}
use native.Mathlib.Omega.{arith}
use mathlib.Core.Path.{◌≡◌, refl, ap, ◌∙◌}
use mathlib.Core.Bool.{cond}
use mathlib.Core.List.{List, [], ◌∷◌}
use Rattle.grammar.specs.Grammar.{Value, scalar, name, list, map, round, called, Round, tuple, struct, Items, none, one, more, Pairs, no_pair, one_pair, more_pairs, Fields, no_field, one_field, more_fields, value, inner, items, pairs, fields, attributes}
use Rattle.grammar.specs.Links.{behind, behind_round, behind_items, behind_pairs, behind_fields}
use Rattle.grammar.specs.declared.kinds.Kind.{Kind}
use Rattle.grammar.specs.declared.kinds.Kind.TheVariants.{CloseRound, CloseSquare, CloseCurly, Comma, Colon}
use Rattle.grammar.specs.declared.states.Frame.{Frame}
use Rattle.grammar.specs.declared.states.Frame.TheVariants.{Top, Square, Tuple, Struct, Key, Pair}
use Rattle.grammar.specs.declared.states.Want.TheVariants.{Start, Must, Item, First, FirstName, Named, Behind, Field}
use Rattle.fields.specs.Fields.{is_named, again_from, again_of}
use Rattle.fields.proofs.Judged.{Judged, end, judged, judged_round, judged_items, judged_pairs, judged_fields, first}

-- what may follow a value
data Follows : List Kind → Type 0 where
  f_end : Follows []
  f_comma : {k : List Kind} → Follows (Comma ∷ k)
  f_colon : {k : List Kind} → Follows (Colon ∷ k)
  f_round : {k : List Kind} → Follows (CloseRound ∷ k)
  f_square : {k : List Kind} → Follows (CloseSquare ∷ k)
  f_curly : {k : List Kind} → Follows (CloseCurly ∷ k)

-- what may follow the first value of a round bracket
data Follows1 : List Kind → Type 0 where
  f1_comma : {k : List Kind} → Follows1 (Comma ∷ k)
  f1_round : {k : List Kind} → Follows1 (CloseRound ∷ k)

-- what is noted at the first value of a ( ) of values: its name, which is the only one
abbrev noted : Value → ℕ → List ℕ
noted scalar i = []
noted name i = i ∷ []
noted (list xs) i = []
noted (map ps) i = []
noted (round r) i = []
noted (called r) i = i ∷ []

module _ (nm : ℕ → List ℕ) where
  -- behind a name is as behind a value, unless a round bracket opens
  named : {k : List Kind} → Follows k → (f : Frame) (es : List ℕ) (σ : List Frame) (τ : List (List ℕ)) (i : ℕ)
      → again_from nm k Named f es σ τ i ≡ again_from nm k Behind f es σ τ i
  unfolding again_from
  named f_end f es σ τ i = refl
  named f_comma f es σ τ i = refl
  named f_colon f es σ τ i = refl
  named f_round f es σ τ i = refl
  named f_square f es σ τ i = refl
  named f_curly f es σ τ i = refl

  first_named : {k : List Kind} → Follows1 k → (f : Frame) (es : List ℕ) (σ : List Frame) (τ : List (List ℕ)) (i : ℕ)
      → again_from nm k FirstName f es σ τ i ≡ again_from nm k Named f es σ τ i
  unfolding again_from
  first_named f1_comma f es σ τ i = refl
  first_named f1_round f es σ τ i = refl

  -- where a value may stand, it begins as where it must
  item_must : (v : Value) (k : List Kind) (f : Frame) (es : List ℕ) (σ : List Frame) (τ : List (List ℕ)) (i : ℕ)
      → again_from nm (value v k) Item f es σ τ i ≡ again_from nm (value v k) Must f es σ τ i
  unfolding again_from
  item_must scalar k f es σ τ i = refl
  item_must name k f es σ τ i = refl
  item_must (list xs) k f es σ τ i = refl
  item_must (map ps) k f es σ τ i = refl
  item_must (round r) k f es σ τ i = refl
  item_must (called r) k f es σ τ i = refl

  start_must : (v : Value) (k : List Kind) (f : Frame) (es : List ℕ) (σ : List Frame) (τ : List (List ℕ)) (i : ℕ)
      → again_from nm (value v k) Start f es σ τ i ≡ again_from nm (value v k) Must f es σ τ i
  unfolding again_from
  start_must scalar k f es σ τ i = refl
  start_must name k f es σ τ i = refl
  start_must (list xs) k f es σ τ i = refl
  start_must (map ps) k f es σ τ i = refl
  start_must (round r) k f es σ τ i = refl
  start_must (called r) k f es σ τ i = refl

  -- at the front of a ( ) too, but for the name that is noted
  first_must : (v : Value) (k : List Kind) → Follows1 k → (f : Frame) (σ : List Frame) (τ : List (List ℕ)) (i : ℕ)
      → again_from nm (value v k) First f [] σ τ i ≡ again_from nm (value v k) Must f (noted v i) σ τ i
  unfolding again_from is_named
  first_must scalar k e f σ τ i = refl
  first_must name k e f σ τ i = first_named e f (i ∷ []) σ τ (i + 1)
  first_must (list xs) k e f σ τ i = refl
  first_must (map ps) k e f σ τ i = refl
  first_must (round r) k e f σ τ i = refl
  first_must (called r) k e f σ τ i = refl

  -- a field's name is judged, and then what follows it
  noticed : (i : ℕ) (es : List ℕ) (x y : Option ℕ) → x ≡ y → cond (is_named nm i es) (Some i) x ≡ cond (is_named nm i es) (Some i) y
  noticed i es x y e = ap (λ (z : Option ℕ). cond (is_named nm i es) (Some i) z) e

  mutual
    unfolding again_from is_named

    -- m: the fields of what follows the tree
    must : (v : Value) (k : List Kind) (f : Frame) (es : List ℕ) (σ : List Frame) (τ : List (List ℕ)) (i : ℕ) (m : Judged) → Follows k
        → again_from nm k Behind f es σ τ (behind v i) ≡ first nm m → again_from nm (value v k) Must f es σ τ i ≡ first nm (judged v i m)
    must scalar k f es σ τ i m e h = h
    must name k f es σ τ i m e h = named e f es σ τ (i + 1) ∙ h
    must (list xs) k f es σ τ i m e h = square xs k f es σ τ (i + 1) m h
    must (map ps) k f es σ τ i m e h = curly ps k f es σ τ (i + 1) m h
    must (round r) k f es σ τ i m e h = inside r k f es σ τ (i + 1) m h
    must (called r) k f es σ τ i m e h = inside r k f es σ τ (i + 1 + 1) m h

    inside : (r : Round) (k : List Kind) (f : Frame) (es : List ℕ) (σ : List Frame) (τ : List (List ℕ)) (i : ℕ) (m : Judged)
        → again_from nm k Behind f es σ τ (behind_round r i + 1) ≡ first nm m
        → again_from nm (inner r (CloseRound ∷ k)) First Tuple [] (f ∷ σ) (es ∷ τ) i ≡ first nm (judged_round r i m)
    inside (tuple xs) k f es σ τ i m h = front xs k f es σ τ i m h
    inside (struct fs) k f es σ τ i m h = front_field fs k f es σ τ i m h

    square : (xs : Items) (k : List Kind) (f : Frame) (es : List ℕ) (σ : List Frame) (τ : List (List ℕ)) (i : ℕ) (m : Judged)
        → again_from nm k Behind f es σ τ (behind_items xs i + 1) ≡ first nm m
        → again_from nm (items xs (CloseSquare ∷ k)) Item Square [] (f ∷ σ) (es ∷ τ) i ≡ first nm (judged_items xs i m)
    square none k f es σ τ i m h = h
    square (one v) k f es σ τ i m h =
        item_must v (CloseSquare ∷ k) Square [] (f ∷ σ) (es ∷ τ) i ∙ must v (CloseSquare ∷ k) Square [] (f ∷ σ) (es ∷ τ) i m f_square h
    square (more v xs) k f es σ τ i m h =
        item_must v (Comma ∷ items xs (CloseSquare ∷ k)) Square [] (f ∷ σ) (es ∷ τ) i
        ∙ must v (Comma ∷ items xs (CloseSquare ∷ k)) Square [] (f ∷ σ) (es ∷ τ) i (judged_items xs (behind v i + 1) m) f_comma
        (square xs k f es σ τ (behind v i + 1) m h)

    -- ns: the name that the front noted
    items_in : (xs : Items) (k : List Kind) (f : Frame) (ns es : List ℕ) (σ : List Frame) (τ : List (List ℕ)) (i : ℕ) (m : Judged)
        → again_from nm k Behind f es σ τ (behind_items xs i + 1) ≡ first nm m
        → again_from nm (items xs (CloseRound ∷ k)) Item Tuple ns (f ∷ σ) (es ∷ τ) i ≡ first nm (judged_items xs i m)
    items_in none k f ns es σ τ i m h = h
    items_in (one v) k f ns es σ τ i m h =
        item_must v (CloseRound ∷ k) Tuple ns (f ∷ σ) (es ∷ τ) i ∙ must v (CloseRound ∷ k) Tuple ns (f ∷ σ) (es ∷ τ) i m f_round h
    items_in (more v xs) k f ns es σ τ i m h =
        item_must v (Comma ∷ items xs (CloseRound ∷ k)) Tuple ns (f ∷ σ) (es ∷ τ) i
        ∙ must v (Comma ∷ items xs (CloseRound ∷ k)) Tuple ns (f ∷ σ) (es ∷ τ) i (judged_items xs (behind v i + 1) m) f_comma
        (items_in xs k f ns es σ τ (behind v i + 1) m h)

    front : (xs : Items) (k : List Kind) (f : Frame) (es : List ℕ) (σ : List Frame) (τ : List (List ℕ)) (i : ℕ) (m : Judged)
        → again_from nm k Behind f es σ τ (behind_items xs i + 1) ≡ first nm m
        → again_from nm (items xs (CloseRound ∷ k)) First Tuple [] (f ∷ σ) (es ∷ τ) i ≡ first nm (judged_items xs i m)
    front none k f es σ τ i m h = h
    front (one v) k f es σ τ i m h =
        first_must v (CloseRound ∷ k) f1_round Tuple (f ∷ σ) (es ∷ τ) i ∙ must v (CloseRound ∷ k) Tuple (noted v i) (f ∷ σ) (es ∷ τ) i m f_round h
    front (more v xs) k f es σ τ i m h =
        first_must v (Comma ∷ items xs (CloseRound ∷ k)) f1_comma Tuple (f ∷ σ) (es ∷ τ) i
        ∙ must v (Comma ∷ items xs (CloseRound ∷ k)) Tuple (noted v i) (f ∷ σ) (es ∷ τ) i (judged_items xs (behind v i + 1) m) f_comma
        (items_in xs k f (noted v i) es σ τ (behind v i + 1) m h)

    -- ns: the fields before
    fields_in : (fs : Fields) (k : List Kind) (f : Frame) (ns es : List ℕ) (σ : List Frame) (τ : List (List ℕ)) (i : ℕ) (m : Judged)
        → again_from nm k Behind f es σ τ (behind_fields fs i + 1) ≡ first nm m
        → again_from nm (fields fs (CloseRound ∷ k)) Field Struct ns (f ∷ σ) (es ∷ τ) i ≡ first nm (judged_fields fs i ns m)
    fields_in no_field k f ns es σ τ i m h = h
    fields_in (one_field v) k f ns es σ τ i m h =
        noticed i ns (again_from nm (value v (CloseRound ∷ k)) Must Struct (i ∷ ns) (f ∷ σ) (es ∷ τ) (i + 1 + 1)) (first nm (judged v (i + 1 + 1) m))
        (must v (CloseRound ∷ k) Struct (i ∷ ns) (f ∷ σ) (es ∷ τ) (i + 1 + 1) m f_round h)
    fields_in (more_fields v fs) k f ns es σ τ i m h =
        let rest = judged_fields fs (behind v (i + 1 + 1) + 1) (i ∷ ns) m in
        noticed i ns (again_from nm (value v (Comma ∷ fields fs (CloseRound ∷ k))) Must Struct (i ∷ ns) (f ∷ σ) (es ∷ τ) (i + 1 + 1)) (first nm (judged v (i + 1 + 1) rest))
        (must v (Comma ∷ fields fs (CloseRound ∷ k)) Struct (i ∷ ns) (f ∷ σ) (es ∷ τ) (i + 1 + 1) rest f_comma
        (fields_in fs k f (i ∷ ns) es σ τ (behind v (i + 1 + 1) + 1) m h))

    front_field : (fs : Fields) (k : List Kind) (f : Frame) (es : List ℕ) (σ : List Frame) (τ : List (List ℕ)) (i : ℕ) (m : Judged)
        → again_from nm k Behind f es σ τ (behind_fields fs i + 1) ≡ first nm m
        → again_from nm (fields fs (CloseRound ∷ k)) First Tuple [] (f ∷ σ) (es ∷ τ) i ≡ first nm (judged_fields fs i [] m)
    front_field no_field k f es σ τ i m h = h
    front_field (one_field v) k f es σ τ i m h = must v (CloseRound ∷ k) Struct (i ∷ []) (f ∷ σ) (es ∷ τ) (i + 1 + 1) m f_round h
    front_field (more_fields v fs) k f es σ τ i m h =
        must v (Comma ∷ fields fs (CloseRound ∷ k)) Struct (i ∷ []) (f ∷ σ) (es ∷ τ) (i + 1 + 1) (judged_fields fs (behind v (i + 1 + 1) + 1) (i ∷ []) m) f_comma
        (fields_in fs k f (i ∷ []) es σ τ (behind v (i + 1 + 1) + 1) m h)

    curly : (ps : Pairs) (k : List Kind) (f : Frame) (es : List ℕ) (σ : List Frame) (τ : List (List ℕ)) (i : ℕ) (m : Judged)
        → again_from nm k Behind f es σ τ (behind_pairs ps i + 1) ≡ first nm m
        → again_from nm (pairs ps (CloseCurly ∷ k)) Item Key [] (f ∷ σ) (es ∷ τ) i ≡ first nm (judged_pairs ps i m)
    curly no_pair k f es σ τ i m h = h
    curly (one_pair a b) k f es σ τ i m h =
        item_must a (Colon ∷ value b (CloseCurly ∷ k)) Key [] (f ∷ σ) (es ∷ τ) i
        ∙ must a (Colon ∷ value b (CloseCurly ∷ k)) Key [] (f ∷ σ) (es ∷ τ) i (judged b (behind a i + 1) m) f_colon
        (must b (CloseCurly ∷ k) Pair [] (f ∷ σ) (es ∷ τ) (behind a i + 1) m f_curly h)
    curly (more_pairs a b ps) k f es σ τ i m h =
        let rest = judged_pairs ps (behind b (behind a i + 1) + 1) m in
        item_must a (Colon ∷ value b (Comma ∷ pairs ps (CloseCurly ∷ k))) Key [] (f ∷ σ) (es ∷ τ) i
        ∙ must a (Colon ∷ value b (Comma ∷ pairs ps (CloseCurly ∷ k))) Key [] (f ∷ σ) (es ∷ τ) i (judged b (behind a i + 1) rest) f_colon
        (must b (Comma ∷ pairs ps (CloseCurly ∷ k)) Pair [] (f ∷ σ) (es ∷ τ) (behind a i + 1) rest f_comma
        (curly ps k f es σ τ (behind b (behind a i + 1) + 1) m h))

  tree_in : (v : Value) (i : ℕ) → again_from nm (value v []) Start Top [] [] [] i ≡ first nm (judged v i end)
  unfolding again_from
  tree_in v i = start_must v [] Top [] [] [] i ∙ must v [] Top [] [] [] i end f_end refl

  attrs_in : (n : ℕ) (k : List Kind) (i : ℕ) → again_from nm (attributes n k) Start Top [] [] [] i ≡ again_from nm k Start Top [] [] [] (i + n)
  unfolding again_from
  attrs_in zero k i = ap (λ (j : ℕ). again_from nm k Start Top [] [] [] j) (omega arith)
  attrs_in (suc n) k i = attrs_in n k (i + 1) ∙ ap (λ (j : ℕ). again_from nm k Start Top [] [] [] j) (omega arith)

  -- the fields of a document, its tree behind its attributes
  pub again_written : (n : ℕ) (v : Value) → again_of nm (attributes n (value v [])) ≡ first nm (judged v n end)
  again_written n v = attrs_in n (value v []) 0 ∙ ap (λ (j : ℕ). again_from nm (value v []) Start Top [] [] [] j) (omega arith) ∙ tree_in v n
