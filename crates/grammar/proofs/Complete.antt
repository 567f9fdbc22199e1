-- Every document within the limit is accepted. Assumes nothing.
use Rattle.std.proofs.Common.{Ok, Err}
use Rattle.text.specs.Refusals.{Told, depth_limit_passed}
use Prim.Native.Nat.{ℕ, zero, suc, ◌+◌, ◌<◌}
use mathlib.Core.Path.{◌≡◌, refl, ap, ◌∙◌}
use mathlib.Core.Bool.{cond}
use mathlib.Core.List.{List, [], ◌∷◌}
use lib.Dec.{ltb}
use lib.ListN.{length}
use borrow.Author.Tests.{lt-ltb}
use Rattle.grammar.specs.Grammar.{Value, scalar, name, list, map, round, called, Round, tuple, struct, Items, none, one, more, Pairs, no_pair, one_pair, more_pairs, Fields, no_field, one_field, more_fields, value, inner, items, pairs, fields, attributes, Fits, FitRound, FitItems, FitPairs, FitFields, Document}
use Rattle.grammar.specs.Links.{behind, behind_round, behind_items, behind_pairs, behind_fields}
use Rattle.grammar.specs.Walk.{check}
use Rattle.grammar.specs.declared.kinds.Kind.{Kind}
use Rattle.grammar.specs.declared.kinds.Kind.TheVariants.{CloseRound, CloseSquare, CloseCurly, Comma, Colon}
use Rattle.grammar.specs.declared.states.Frame.{Frame}
use Rattle.grammar.specs.declared.states.Frame.TheVariants.{Top, Square, Tuple, Struct, Key, Pair}
use Rattle.grammar.specs.declared.states.Want.TheVariants.{Start, Must, Item, First, FirstName, Named, Behind, Field}

-- what may follow a value
data Follows : List Kind → Type 0 where
  f_end : Follows []
  f_comma : {k : List Kind} → Follows (Comma ∷ k)
  f_colon : {k : List Kind} → Follows (Colon ∷ k)
  f_round : {k : List Kind} → Follows (CloseRound ∷ k)
  f_square : {k : List Kind} → Follows (CloseSquare ∷ k)
  f_curly : {k : List Kind} → Follows (CloseCurly ∷ k)

-- what may follow the first value of a round bracket
data Follows1 : List Kind → Type 0 where
  f1_comma : {k : List Kind} → Follows1 (Comma ∷ k)
  f1_round : {k : List Kind} → Follows1 (CloseRound ∷ k)

module _ (lim : ℕ) where
  -- behind a name is as behind a value, unless a round bracket opens
  named : {k : List Kind} → Follows k → (f : Frame) (σ : List Frame) (i : ℕ) → check k lim Named f σ i ≡ check k lim Behind f σ i
  unfolding check
  named f_end f σ i = refl
  named f_comma f σ i = refl
  named f_colon f σ i = refl
  named f_round f σ i = refl
  named f_square f σ i = refl
  named f_curly f σ i = refl

  first_named : {k : List Kind} → Follows1 k → (f : Frame) (σ : List Frame) (i : ℕ) → check k lim FirstName f σ i ≡ check k lim Named f σ i
  unfolding check
  first_named f1_comma f σ i = refl
  first_named f1_round f σ i = refl

  -- where a value may stand, it begins as where it must
  item_must : (v : Value) (k : List Kind) (f : Frame) (σ : List Frame) (i : ℕ) → check (value v k) lim Item f σ i ≡ check (value v k) lim Must f σ i
  unfolding check
  item_must scalar k f σ i = refl
  item_must name k f σ i = refl
  item_must (list xs) k f σ i = refl
  item_must (map ps) k f σ i = refl
  item_must (round r) k f σ i = refl
  item_must (called r) k f σ i = refl

  start_must : (v : Value) (k : List Kind) (f : Frame) (σ : List Frame) (i : ℕ) → check (value v k) lim Start f σ i ≡ check (value v k) lim Must f σ i
  unfolding check
  start_must scalar k f σ i = refl
  start_must name k f σ i = refl
  start_must (list xs) k f σ i = refl
  start_must (map ps) k f σ i = refl
  start_must (round r) k f σ i = refl
  start_must (called r) k f σ i = refl

  first_must : (v : Value) (k : List Kind) → Follows1 k → (f : Frame) (σ : List Frame) (i : ℕ) → check (value v k) lim First f σ i ≡ check (value v k) lim Must f σ i
  unfolding check
  first_must scalar k e f σ i = refl
  first_must name k e f σ i = first_named e f σ (i + 1)
  first_must (list xs) k e f σ i = refl
  first_must (map ps) k e f σ i = refl
  first_must (round r) k e f σ i = refl
  first_must (called r) k e f σ i = refl

  -- an opening bracket within the limit
  opens : (σ : List Frame) (i : ℕ) (a b : Told Unit) → length σ < lim → a ≡ b → cond (ltb (length σ) lim) a (Err (depth_limit_passed i)) ≡ b
  opens σ i a b h e = rw (lt-ltb (length σ) lim h) e

  mutual
    unfolding check

    must : (v : Value) (k : List Kind) (f : Frame) (σ : List Frame) (i : ℕ) → Fits lim v (length σ) → Follows k
        → check (value v k) lim Must f σ i ≡ check k lim Behind f σ (behind v i)
    must scalar k f σ i h e = refl
    must name k f σ i h e = named e f σ (i + 1)
    must (list xs) k f σ i h e = opens σ i _ _ h.0 (square xs k f σ (i + 1) h.1)
    must (map ps) k f σ i h e = opens σ i _ _ h.0 (curly ps k f σ (i + 1) h.1)
    must (round r) k f σ i h e = opens σ i _ _ h.0 (inside r k f σ (i + 1) h.1)
    must (called r) k f σ i h e = opens σ (i + 1) _ _ h.0 (inside r k f σ (i + 1 + 1) h.1)

    inside : (r : Round) (k : List Kind) (f : Frame) (σ : List Frame) (i : ℕ) → FitRound lim r (suc (length σ))
        → check (inner r (CloseRound ∷ k)) lim First Tuple (f ∷ σ) i ≡ check k lim Behind f σ (behind_round r i + 1)
    inside (tuple xs) k f σ i h = front xs k f σ i h
    inside (struct fs) k f σ i h = front_field fs k f σ i h

    square : (xs : Items) (k : List Kind) (f : Frame) (σ : List Frame) (i : ℕ) → FitItems lim xs (suc (length σ))
        → check (items xs (CloseSquare ∷ k)) lim Item Square (f ∷ σ) i ≡ check k lim Behind f σ (behind_items xs i + 1)
    square none k f σ i h = refl
    square (one v) k f σ i h = item_must v (CloseSquare ∷ k) Square (f ∷ σ) i ∙ must v (CloseSquare ∷ k) Square (f ∷ σ) i h f_square
    square (more v xs) k f σ i h =
        item_must v (Comma ∷ items xs (CloseSquare ∷ k)) Square (f ∷ σ) i ∙ must v (Comma ∷ items xs (CloseSquare ∷ k)) Square (f ∷ σ) i h.0 f_comma
        ∙ square xs k f σ (behind v i + 1) h.1

    items_in : (xs : Items) (k : List Kind) (f : Frame) (σ : List Frame) (i : ℕ) → FitItems lim xs (suc (length σ))
        → check (items xs (CloseRound ∷ k)) lim Item Tuple (f ∷ σ) i ≡ check k lim Behind f σ (behind_items xs i + 1)
    items_in none k f σ i h = refl
    items_in (one v) k f σ i h = item_must v (CloseRound ∷ k) Tuple (f ∷ σ) i ∙ must v (CloseRound ∷ k) Tuple (f ∷ σ) i h f_round
    items_in (more v xs) k f σ i h =
        item_must v (Comma ∷ items xs (CloseRound ∷ k)) Tuple (f ∷ σ) i ∙ must v (Comma ∷ items xs (CloseRound ∷ k)) Tuple (f ∷ σ) i h.0 f_comma
        ∙ items_in xs k f σ (behind v i + 1) h.1

    front : (xs : Items) (k : List Kind) (f : Frame) (σ : List Frame) (i : ℕ) → FitItems lim xs (suc (length σ))
        → check (items xs (CloseRound ∷ k)) lim First Tuple (f ∷ σ) i ≡ check k lim Behind f σ (behind_items xs i + 1)
    front none k f σ i h = refl
    front (one v) k f σ i h = first_must v (CloseRound ∷ k) f1_round Tuple (f ∷ σ) i ∙ must v (CloseRound ∷ k) Tuple (f ∷ σ) i h f_round
    front (more v xs) k f σ i h =
        first_must v (Comma ∷ items xs (CloseRound ∷ k)) f1_comma Tuple (f ∷ σ) i ∙ must v (Comma ∷ items xs (CloseRound ∷ k)) Tuple (f ∷ σ) i h.0 f_comma
        ∙ items_in xs k f σ (behind v i + 1) h.1

    fields_in : (fs : Fields) (k : List Kind) (f : Frame) (σ : List Frame) (i : ℕ) → FitFields lim fs (suc (length σ))
        → check (fields fs (CloseRound ∷ k)) lim Field Struct (f ∷ σ) i ≡ check k lim Behind f σ (behind_fields fs i + 1)
    fields_in no_field k f σ i h = refl
    fields_in (one_field v) k f σ i h = must v (CloseRound ∷ k) Struct (f ∷ σ) (i + 1 + 1) h f_round
    fields_in (more_fields v fs) k f σ i h =
        must v (Comma ∷ fields fs (CloseRound ∷ k)) Struct (f ∷ σ) (i + 1 + 1) h.0 f_comma
        ∙ fields_in fs k f σ (behind v (i + 1 + 1) + 1) h.1

    front_field : (fs : Fields) (k : List Kind) (f : Frame) (σ : List Frame) (i : ℕ) → FitFields lim fs (suc (length σ))
        → check (fields fs (CloseRound ∷ k)) lim First Tuple (f ∷ σ) i ≡ check k lim Behind f σ (behind_fields fs i + 1)
    front_field no_field k f σ i h = refl
    front_field (one_field v) k f σ i h = must v (CloseRound ∷ k) Struct (f ∷ σ) (i + 1 + 1) h f_round
    front_field (more_fields v fs) k f σ i h =
        must v (Comma ∷ fields fs (CloseRound ∷ k)) Struct (f ∷ σ) (i + 1 + 1) h.0 f_comma
        ∙ fields_in fs k f σ (behind v (i + 1 + 1) + 1) h.1

    curly : (ps : Pairs) (k : List Kind) (f : Frame) (σ : List Frame) (i : ℕ) → FitPairs lim ps (suc (length σ))
        → check (pairs ps (CloseCurly ∷ k)) lim Item Key (f ∷ σ) i ≡ check k lim Behind f σ (behind_pairs ps i + 1)
    curly no_pair k f σ i h = refl
    curly (one_pair a b) k f σ i h =
        item_must a (Colon ∷ value b (CloseCurly ∷ k)) Key (f ∷ σ) i ∙ must a (Colon ∷ value b (CloseCurly ∷ k)) Key (f ∷ σ) i h.0 f_colon
        ∙ must b (CloseCurly ∷ k) Pair (f ∷ σ) (behind a i + 1) h.1 f_curly
    curly (more_pairs a b ps) k f σ i h =
        item_must a (Colon ∷ value b (Comma ∷ pairs ps (CloseCurly ∷ k))) Key (f ∷ σ) i
        ∙ must a (Colon ∷ value b (Comma ∷ pairs ps (CloseCurly ∷ k))) Key (f ∷ σ) i h.0 f_colon
        ∙ must b (Comma ∷ pairs ps (CloseCurly ∷ k)) Pair (f ∷ σ) (behind a i + 1) h.1 f_comma
        ∙ curly ps k f σ (behind b (behind a i + 1) + 1) h.2

  attrs_in : (n : ℕ) (k : List Kind) (i : ℕ) → ((j : ℕ) → check k lim Start Top [] j ≡ Ok tt) → check (attributes n k) lim Start Top [] i ≡ Ok tt
  unfolding check
  attrs_in zero k i h = h i
  attrs_in (suc n) k i h = attrs_in n k (i + 1) h

  tree_in : (v : Value) (j : ℕ) → Fits lim v 0 → check (value v []) lim Start Top [] j ≡ Ok tt
  unfolding check
  tree_in v j h = start_must v [] Top [] j ∙ must v [] Top [] j h f_end

  pub complete : (ks : List Kind) → Document lim ks → check ks lim Start Top [] 0 ≡ Ok tt
  complete ks d = ap (λ (l : List Kind). check l lim Start Top [] 0) d.written ∙ attrs_in d.attrs (value d.tree []) 0 (λ j. tree_in d.tree j d.fits)
