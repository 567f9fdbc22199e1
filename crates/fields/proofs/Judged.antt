-- The fields of a tree in entry order: none of the first n is named again exactly where the first that is stands behind them. Assumes nothing.
use Rattle.std.proofs.Common.{Some, None, Option}
use Prim.Native.Nat.{ℕ, ◌+◌, ◌<◌, ◌≤◌}
use native.Mathlib.Omega.{arith}
use mathlib.Core.Path.{◌≡◌, refl}
use mathlib.Core.Bool.{Bool, true, false, cond}
use mathlib.Core.List.{List, [], ◌∷◌}
use Rattle.grammar.specs.Grammar.{Value, scalar, name, list, map, round, called, Round, tuple, struct, Items, none, one, more, Pairs, no_pair, one_pair, more_pairs, Fields, no_field, one_field, more_fields}
use Rattle.grammar.specs.Links.{behind, behind_round, behind_items, behind_pairs, behind_fields}
use Rattle.fields.specs.Apart.{New}
use Rattle.fields.specs.Fields.{is_named}
use Rattle.text.proofs.Choices.{either, lt_or_le}
use Rattle.fields.proofs.AgainOn.{not_at, same_at}
use Rattle.fields.proofs.NewNames.{not_named_new, new_not_named}

-- fields to be judged: an entry, those before it in its own ( ), and what follows
pub data Judged : Type 0 where
  end : Judged
  field : ℕ → List ℕ → Judged → Judged

-- the fields of a tree that begins at entry i, and behind them those of what follows
abbrev mutual
  pub judged : Value → ℕ → Judged → Judged
  judged scalar i k = k
  judged name i k = k
  judged (list xs) i k = judged_items xs (i + 1) k
  judged (map ps) i k = judged_pairs ps (i + 1) k
  judged (round r) i k = judged_round r (i + 1) k
  judged (called r) i k = judged_round r (i + 1 + 1) k

  pub judged_round : Round → ℕ → Judged → Judged
  judged_round (tuple xs) i k = judged_items xs i k
  judged_round (struct fs) i k = judged_fields fs i [] k

  pub judged_items : Items → ℕ → Judged → Judged
  judged_items none i k = k
  judged_items (one v) i k = judged v i k
  judged_items (more v xs) i k = judged v i (judged_items xs (behind v i + 1) k)

  pub judged_pairs : Pairs → ℕ → Judged → Judged
  judged_pairs no_pair i k = k
  judged_pairs (one_pair a b) i k = judged a i (judged b (behind a i + 1) k)
  judged_pairs (more_pairs a b ps) i k = judged a i (judged b (behind a i + 1) (judged_pairs ps (behind b (behind a i + 1) + 1) k))

  pub judged_fields : Fields → ℕ → List ℕ → Judged → Judged
  judged_fields no_field i es k = k
  judged_fields (one_field v) i es k = field i es (judged v (i + 1 + 1) k)
  judged_fields (more_fields v fs) i es k = field i es (judged v (i + 1 + 1) (judged_fields fs (behind v (i + 1 + 1) + 1) (i ∷ es) k))

-- in entry order, from entry i on
abbrev pub From : ℕ → Judged → Type 0
From i end = Unit {0}
From i (field j es k) = (i ≤ j) × From j k

from_less : (i j : ℕ) (k : Judged) → i ≤ j → From j k → From i k
from_less i j end le h = tt
from_less i j (field m es k) le h = (omega (arith, h.0), h.1)

mutual
  pub from_value : (v : Value) (i : ℕ) (k : Judged) → From (behind v i) k → From i (judged v i k)
  from_value scalar i k h = from_less i (i + 1) k (omega arith) h
  from_value name i k h = from_less i (i + 1) k (omega arith) h
  from_value (list xs) i k h =
      from_less i (i + 1) (judged_items xs (i + 1) k) (omega arith) (from_items xs (i + 1) k (from_less (behind_items xs (i + 1)) (behind_items xs (i + 1) + 1) k (omega arith) h))
  from_value (map ps) i k h =
      from_less i (i + 1) (judged_pairs ps (i + 1) k) (omega arith) (from_pairs ps (i + 1) k (from_less (behind_pairs ps (i + 1)) (behind_pairs ps (i + 1) + 1) k (omega arith) h))
  from_value (round r) i k h =
      from_less i (i + 1) (judged_round r (i + 1) k) (omega arith) (from_round r (i + 1) k (from_less (behind_round r (i + 1)) (behind_round r (i + 1) + 1) k (omega arith) h))
  from_value (called r) i k h =
      from_less i (i + 1 + 1) (judged_round r (i + 1 + 1) k) (omega arith)
      (from_round r (i + 1 + 1) k (from_less (behind_round r (i + 1 + 1)) (behind_round r (i + 1 + 1) + 1) k (omega arith) h))

  from_round : (r : Round) (i : ℕ) (k : Judged) → From (behind_round r i) k → From i (judged_round r i k)
  from_round (tuple xs) i k h = from_items xs i k h
  from_round (struct fs) i k h = from_fields fs i [] k h

  from_items : (xs : Items) (i : ℕ) (k : Judged) → From (behind_items xs i) k → From i (judged_items xs i k)
  from_items none i k h = h
  from_items (one v) i k h = from_value v i k h
  from_items (more v xs) i k h =
      from_value v i (judged_items xs (behind v i + 1) k)
      (from_less (behind v i) (behind v i + 1) (judged_items xs (behind v i + 1) k) (omega arith) (from_items xs (behind v i + 1) k h))

  from_pairs : (ps : Pairs) (i : ℕ) (k : Judged) → From (behind_pairs ps i) k → From i (judged_pairs ps i k)
  from_pairs no_pair i k h = h
  from_pairs (one_pair a b) i k h =
      let rest = judged b (behind a i + 1) k in
      from_value a i rest (from_less (behind a i) (behind a i + 1) rest (omega arith) (from_value b (behind a i + 1) k h))
  from_pairs (more_pairs a b ps) i k h =
      let e = behind b (behind a i + 1) in
      let more_of = judged_pairs ps (e + 1) k in
      let rest = judged b (behind a i + 1) more_of in
      from_value a i rest (from_less (behind a i) (behind a i + 1) rest (omega arith)
      (from_value b (behind a i + 1) more_of (from_less e (e + 1) more_of (omega arith) (from_pairs ps (e + 1) k h))))

  from_fields : (fs : Fields) (i : ℕ) (es : List ℕ) (k : Judged) → From (behind_fields fs i) k → From i (judged_fields fs i es k)
  from_fields no_field i es k h = h
  from_fields (one_field v) i es k h = (omega arith, from_less i (i + 1 + 1) (judged v (i + 1 + 1) k) (omega arith) (from_value v (i + 1 + 1) k h))
  from_fields (more_fields v fs) i es k h =
      let e = behind v (i + 1 + 1) in
      let rest = judged_fields fs (e + 1) (i ∷ es) k in (
        omega arith,
        from_less i (i + 1 + 1) (judged v (i + 1 + 1) rest) (omega arith)
            (from_value v (i + 1 + 1) rest (from_less e (e + 1) rest (omega arith) (from_fields fs (e + 1) (i ∷ es) k h))),
      )

module _ (nm : ℕ → List ℕ) where
  -- the first that is named again
  abbrev pub first : Judged → Option ℕ
  first end = None
  first (field i es k) = cond (is_named nm i es) (Some i) (first k)

  module _ (n : ℕ) where
    -- none of the first n entries is
    abbrev pub AllNew : Judged → Type 0
    AllNew end = Unit {0}
    AllNew (field i es k) = (i < n → New nm i es) × AllNew k

    -- behind the first n there is nothing to judge
    beyond : (i : ℕ) (k : Judged) → n ≤ i → From i k → AllNew k
    beyond i end le h = tt
    beyond i (field j es k) le h = let q : i ≤ j = h.0 in ((λ lt. absurd (omega arith)), beyond j k (omega arith) h.1)

    -- one field in front of others: where it is the answer, it stands behind the first n
    one_first : (t : Bool) (i j : ℕ) (x : Option ℕ) → (t ≡ true → i < n → ⊥) → (x ≡ Some j → n ≤ j) → ◌≡◌ {A = Option ℕ} (cond t (Some i) x) (Some j) → n ≤ j
    one_first true i j x shut rest e = let q : i ≡ j = same_at i j e in either (lt_or_le i n) (λ lt. absurd (shut refl lt)) (λ le. omega arith)
    one_first false i j x shut rest e = rest e

    -- where none of the first n is named again, the first that is stands behind them
    pub new_first : (k : Judged) (j : ℕ) → AllNew k → first k ≡ Some j → n ≤ j
    new_first end j h e = not_at j e
    new_first (field i es k) j h e = one_first (is_named nm i es) i j (first k) (λ q lt. new_not_named nm i es (h.0 lt) q) (λ z. new_first k j h.1 z) e

    one_new : (t : Bool) (i : ℕ) (es : List ℕ) (k : Judged) → is_named nm i es ≡ t → From i k → ((j : ℕ) → ◌≡◌ {A = Option ℕ} (cond t (Some i) (first k)) (Some j) → n ≤ j)
        → (((j : ℕ) → first k ≡ Some j → n ≤ j) → AllNew k) → AllNew (field i es k)
    one_new true i es k q f h rest = let le : n ≤ i = h i refl in ((λ lt. absurd (omega arith)), beyond i k le f)
    one_new false i es k q f h rest = ((λ lt. not_named_new nm i es q), rest h)

    -- and where it does, none of them is
    pub first_new : (i : ℕ) (k : Judged) → From i k → ((j : ℕ) → first k ≡ Some j → n ≤ j) → AllNew k
    first_new i end f h = tt
    first_new i (field m es k) f h = one_new (is_named nm m es) m es k refl f.1 h (λ z. first_new m k f.1 z)
