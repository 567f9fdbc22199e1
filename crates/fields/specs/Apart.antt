-- No field is named again (document 02, CR 2): "Within one `( )` of fields no name may come again", told by the grammar's trees; and what 31 says: "31, repeated
-- field, with the entry number, in entry order, after 25 at the same entry."
use Rattle.std.specs.Prelude.{◌≡◌, List, [], ◌∷◌, ◌++◌, ℕ, ◌+◌, ◌<◌, length}
use Rattle.grammar.specs.declared.kinds.Kind.{Kind}
use Rattle.grammar.specs.Grammar.{Value, scalar, name, list, map, round, called, Round, tuple, struct, Items, none, one, more, Pairs, no_pair, one_pair, more_pairs, Fields, no_field, one_field, more_fields, Document}
use Rattle.grammar.specs.Links.{behind}
use Rattle.grammar.specs.Refused.{Split, up_to}

module _ (nm : ℕ → List ℕ) where
  -- Entry i has another name than each of these entries; nm is the name of each.
  abbrev pub New : ℕ → List ℕ → Type 0
  New i [] = Unit {0}
  New i (e ∷ es) = (nm i ≡ nm e → ⊥) × New i es

  module _ (n : ℕ) where
    -- In a tree that begins at entry i, no field among the first n entries has the name of one before it in its own ( ).
    abbrev mutual
      pub Apart : Value → ℕ → Type 0
      Apart scalar i = Unit {0}
      Apart name i = Unit {0}
      Apart (list xs) i = ApartItems xs (i + 1)
      Apart (map ps) i = ApartPairs ps (i + 1)
      Apart (round r) i = ApartRound r (i + 1)
      Apart (called r) i = ApartRound r (i + 1 + 1)

      pub ApartRound : Round → ℕ → Type 0
      ApartRound (tuple xs) i = ApartItems xs i
      ApartRound (struct fs) i = ApartFields fs i []

      pub ApartItems : Items → ℕ → Type 0
      ApartItems none i = Unit {0}
      ApartItems (one v) i = Apart v i
      ApartItems (more v xs) i = Apart v i × ApartItems xs (behind v i + 1)

      pub ApartPairs : Pairs → ℕ → Type 0
      ApartPairs no_pair i = Unit {0}
      ApartPairs (one_pair a b) i = Apart a i × Apart b (behind a i + 1)
      ApartPairs (more_pairs a b ps) i = Apart a i × Apart b (behind a i + 1) × ApartPairs ps (behind b (behind a i + 1) + 1)

      -- es: the entries that name the fields before
      pub ApartFields : Fields → ℕ → List ℕ → Type 0
      ApartFields no_field i es = Unit {0}
      ApartFields (one_field v) i es = (i < n → New i es) × Apart v (i + 1 + 1)
      ApartFields (more_fields v fs) i es = (i < n → New i es) × Apart v (i + 1 + 1) × ApartFields fs (behind v (i + 1 + 1) + 1) (i ∷ es)

    -- The same of a document.
    abbrev pub ApartIn : {limit : ℕ} {ks : List Kind} → Document limit ks → Type 0
    ApartIn d = Apart d.tree d.attrs

  -- A document within the limit, no field of which is named again.
  pub record Distinct (limit : ℕ) (ks : List Kind) : Type 0 where
    pub document : Document limit ks
    pub apart : ApartIn (length ks) document

  -- Some document within the limit begins with these entries, and none of them names a field again.
  pub record BeginsApart (limit : ℕ) (a : List Kind) : Type 0 where
    pub rest : List Kind
    pub document : Document limit (a ++ rest)
    pub apart : ApartIn (length a) document

  -- 31 at entry j: but for repeated names a document within the limit begins with the entries up to j, and j is the first that repeats a field of its own ( ).
  pub record Repeated (ks : List Kind) (limit j : ℕ) : Type 0 where
    pub at : Split ks j
    pub rest : List Kind
    pub document : Document limit (up_to at ++ rest)
    pub apart : ApartIn j document
    pub again : ApartIn (j + 1) document → ⊥
