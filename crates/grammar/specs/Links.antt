-- Links (document 01, module 10): "Links join opening and closing bracket; any other entry links to itself."
use Rattle.std.specs.Prelude.{List, [], ◌∷◌, ℕ, zero, suc, ◌+◌}
use Rattle.grammar.specs.declared.kinds.Kind.{Kind}
use Rattle.grammar.specs.Grammar.{Value, scalar, name, list, map, round, called, Round, tuple, struct, Items, none, one, more, Pairs, no_pair, one_pair, more_pairs, Fields, no_field, one_field, more_fields, Document}

-- The entry number behind a tree that begins at entry i.
abbrev mutual
  pub behind : Value → ℕ → ℕ
  behind scalar i = i + 1
  behind name i = i + 1
  behind (list xs) i = behind_items xs (i + 1) + 1
  behind (map ps) i = behind_pairs ps (i + 1) + 1
  behind (round r) i = behind_round r (i + 1) + 1
  behind (called r) i = behind_round r (i + 1 + 1) + 1

  pub behind_round : Round → ℕ → ℕ
  behind_round (tuple xs) i = behind_items xs i
  behind_round (struct fs) i = behind_fields fs i

  pub behind_items : Items → ℕ → ℕ
  behind_items none i = i
  behind_items (one v) i = behind v i
  behind_items (more v xs) i = behind_items xs (behind v i + 1)

  pub behind_pairs : Pairs → ℕ → ℕ
  behind_pairs no_pair i = i
  behind_pairs (one_pair a b) i = behind b (behind a i + 1)
  behind_pairs (more_pairs a b ps) i = behind_pairs ps (behind b (behind a i + 1) + 1)

  pub behind_fields : Fields → ℕ → ℕ
  behind_fields no_field i = i
  behind_fields (one_field v) i = behind v (i + 1 + 1)
  behind_fields (more_fields v fs) i = behind_fields fs (behind v (i + 1 + 1) + 1)

-- The links of a tree that begins at entry i, and behind them the links k: a bracket to its partner, any other entry to itself.
abbrev mutual
  pub links : Value → ℕ → List ℕ → List ℕ
  links scalar i k = i ∷ k
  links name i k = i ∷ k
  links (list xs) i k = behind_items xs (i + 1) ∷ links_items xs (i + 1) (i ∷ k)
  links (map ps) i k = behind_pairs ps (i + 1) ∷ links_pairs ps (i + 1) (i ∷ k)
  links (round r) i k = behind_round r (i + 1) ∷ links_round r (i + 1) (i ∷ k)
  links (called r) i k = i ∷ behind_round r (i + 1 + 1) ∷ links_round r (i + 1 + 1) ((i + 1) ∷ k)

  pub links_round : Round → ℕ → List ℕ → List ℕ
  links_round (tuple xs) i k = links_items xs i k
  links_round (struct fs) i k = links_fields fs i k

  pub links_items : Items → ℕ → List ℕ → List ℕ
  links_items none i k = k
  links_items (one v) i k = links v i k
  links_items (more v xs) i k = links v i (behind v i ∷ links_items xs (behind v i + 1) k)

  pub links_pairs : Pairs → ℕ → List ℕ → List ℕ
  links_pairs no_pair i k = k
  links_pairs (one_pair a b) i k = links a i (behind a i ∷ links b (behind a i + 1) k)
  links_pairs (more_pairs a b ps) i k =
      links a i (behind a i ∷ links b (behind a i + 1) (behind b (behind a i + 1) ∷ links_pairs ps (behind b (behind a i + 1) + 1) k))

  pub links_fields : Fields → ℕ → List ℕ → List ℕ
  links_fields no_field i k = k
  links_fields (one_field v) i k = i ∷ (i + 1) ∷ links v (i + 1 + 1) k
  links_fields (more_fields v fs) i k =
      i ∷ (i + 1) ∷ links v (i + 1 + 1) (behind v (i + 1 + 1) ∷ links_fields fs (behind v (i + 1 + 1) + 1) k)

-- So many entries from i on that link to themselves, and behind them the links k.
abbrev pub selves : ℕ → ℕ → List ℕ → List ℕ
selves zero i k = k
selves (suc n) i k = i ∷ selves n (i + 1) k

-- The links of a document, one per entry: its attributes, then its tree.
abbrev pub links_of : {limit : ℕ} {entries : List Kind} → Document limit entries → List ℕ
links_of d = selves d.attrs 0 (links d.tree d.attrs [])
