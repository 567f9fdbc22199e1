-- The grammar of entries (document 01, module 10): "Attributes, then one value, then nothing. A value: a scalar; a name or raw name; `[ ]` of values;
-- `{ }` of value `:` value; `( )`, with or without a name before it, of values, or of name `:` value throughout if the first two entries are a name
-- and `:`; each name may be raw. Commas between, one allowed behind the last. Depth counts open brackets."
-- Trees, and the entries that each is written with: a list of entries is a document exactly where some tree is written with it.
use Rattle.std.specs.Prelude.{◌≡◌, List, [], ◌∷◌, ℕ, zero, suc, ◌<◌}
use Rattle.grammar.specs.declared.kinds.Kind.{Kind}
use Rattle.grammar.specs.declared.kinds.Kind.TheVariants.{OpenRound, CloseRound, OpenSquare, CloseSquare, OpenCurly, CloseCurly, Comma, Colon, Name, Scalar, Attribute}

mutual
  -- A scalar; a name; [ ] of values; { } of value : value; ( ), without or with a name before it.
  pub data Value : Type 0 where
    scalar : Value
    name : Value
    list : Items → Value
    map : Pairs → Value
    round : Round → Value
    called : Round → Value

  -- What ( ) holds: values, or name : value throughout. No values begin with a name and a colon, so the first two entries tell which;
  -- with nothing in it, ( ) is both, and its links are the same.
  pub data Round : Type 0 where
    tuple : Items → Round
    struct : Fields → Round

  -- Commas between, one allowed behind the last: nothing; one value; a value, a comma and more, which may be nothing.
  pub data Items : Type 0 where
    none : Items
    one : Value → Items
    more : Value → Items → Items

  -- The same of value : value.
  pub data Pairs : Type 0 where
    no_pair : Pairs
    one_pair : Value → Value → Pairs
    more_pairs : Value → Value → Pairs → Pairs

  -- The same of name : value.
  pub data Fields : Type 0 where
    no_field : Fields
    one_field : Value → Fields
    more_fields : Value → Fields → Fields

-- The entries that a tree is written with, and behind them the entries k.
abbrev mutual
  pub value : Value → List Kind → List Kind
  value scalar k = Scalar ∷ k
  value name k = Name ∷ k
  value (list xs) k = OpenSquare ∷ items xs (CloseSquare ∷ k)
  value (map ps) k = OpenCurly ∷ pairs ps (CloseCurly ∷ k)
  value (round r) k = OpenRound ∷ inner r (CloseRound ∷ k)
  value (called r) k = Name ∷ OpenRound ∷ inner r (CloseRound ∷ k)

  pub inner : Round → List Kind → List Kind
  inner (tuple xs) k = items xs k
  inner (struct fs) k = fields fs k

  pub items : Items → List Kind → List Kind
  items none k = k
  items (one v) k = value v k
  items (more v xs) k = value v (Comma ∷ items xs k)

  pub pairs : Pairs → List Kind → List Kind
  pairs no_pair k = k
  pairs (one_pair a b) k = value a (Colon ∷ value b k)
  pairs (more_pairs a b ps) k = value a (Colon ∷ value b (Comma ∷ pairs ps k))

  pub fields : Fields → List Kind → List Kind
  fields no_field k = k
  fields (one_field v) k = Name ∷ Colon ∷ value v k
  fields (more_fields v fs) k = Name ∷ Colon ∷ value v (Comma ∷ fields fs k)

-- So many attributes, and behind them the entries k.
abbrev pub attributes : ℕ → List Kind → List Kind
attributes zero k = k
attributes (suc n) k = Attribute ∷ attributes n k

-- A tree inside `deep` open brackets never has more than `limit` of them open.
abbrev mutual
  pub Fits : ℕ → Value → ℕ → Type 0
  Fits limit scalar deep = Unit {0}
  Fits limit name deep = Unit {0}
  Fits limit (list xs) deep = (deep < limit) × FitItems limit xs (suc deep)
  Fits limit (map ps) deep = (deep < limit) × FitPairs limit ps (suc deep)
  Fits limit (round r) deep = (deep < limit) × FitRound limit r (suc deep)
  Fits limit (called r) deep = (deep < limit) × FitRound limit r (suc deep)

  pub FitRound : ℕ → Round → ℕ → Type 0
  FitRound limit (tuple xs) deep = FitItems limit xs deep
  FitRound limit (struct fs) deep = FitFields limit fs deep

  pub FitItems : ℕ → Items → ℕ → Type 0
  FitItems limit none deep = Unit {0}
  FitItems limit (one v) deep = Fits limit v deep
  FitItems limit (more v xs) deep = Fits limit v deep × FitItems limit xs deep

  pub FitPairs : ℕ → Pairs → ℕ → Type 0
  FitPairs limit no_pair deep = Unit {0}
  FitPairs limit (one_pair a b) deep = Fits limit a deep × Fits limit b deep
  FitPairs limit (more_pairs a b ps) deep = Fits limit a deep × Fits limit b deep × FitPairs limit ps deep

  pub FitFields : ℕ → Fields → ℕ → Type 0
  FitFields limit no_field deep = Unit {0}
  FitFields limit (one_field v) deep = Fits limit v deep
  FitFields limit (more_fields v fs) deep = Fits limit v deep × FitFields limit fs deep

-- A document within the limit: attributes, then one value, then nothing.
pub record Document (limit : ℕ) (entries : List Kind) : Type 0 where
  pub attrs : ℕ
  pub tree : Value
  pub fits : Fits limit tree 0
  pub written : entries ≡ attributes attrs (value tree [])
