-- The same entries in whatever order: what is left alone, done twice or permuted, and what of one list holds of the other. Assumes nothing.
use Rattle.std.proofs.Common.{Option}
use Prim.Native.Nat.{ℕ, ◌<◌}
use mathlib.Core.Path.{◌∙◌, refl, sym}
use mathlib.Core.List.{List}
use lib.ListN.{length, get_or}
use Rattle.std.proofs.lemmas.Grind.{get_or_default_zero}
use Rattle.std.proofs.lemmas.List.Sorted.{Contains-permutation, IsPermutation-sym, length_permutation}
use Rattle.std.specs.List.{Contains}
use Rattle.std.specs.List.Sorted.{IsPermutation}
use Rattle.fields.specs.inner.Again.{In, Repeats, FirstIn, nowhere, at}
use Rattle.fields.specs.Names.{HasName}
use Rattle.fields.specs.inner.Order.{AllNamed, SameEntries}

pub entries_same : (es : List ℕ) → SameEntries es es
entries_same es = record { as_many = refl; none_new = λ x i. i; none_lost = λ x i. i }

pub entries_twice : (es fs gs : List ℕ) → SameEntries es fs → SameEntries fs gs → SameEntries es gs
entries_twice es fs gs a b = record {
  as_many = b.as_many ∙ a.as_many;
  none_new = λ x i. a.none_new x (b.none_new x i);
  none_lost = λ x i. b.none_lost x (a.none_lost x i);
}

-- each of them by its place
pub named_at : (text tape es : List ℕ) → AllNamed text tape es → (k : ℕ) → k < length es → HasName text tape (get_or es k 0)
named_at text tape es n k h = n (get_or es k 0) (record { place = k; inside = h; there = refl })

pub named_left : (text tape es fs : List ℕ) → AllNamed text tape es → SameEntries es fs → AllNamed text tape fs
named_left text tape es fs n s x i = n x (s.none_new x i)

module _ (nm : ℕ → List ℕ) (es fs : List ℕ) (s : SameEntries es fs) where
  repeats_before : (j : ℕ) → Repeats nm fs j → Repeats nm es j
  repeats_before j r = record { is_one = s.none_new j r.is_one; former = r.former; also = s.none_new r.former r.also; before = r.before; alike = r.alike }

  repeats_left : (j : ℕ) → Repeats nm es j → Repeats nm fs j
  repeats_left j r = record { is_one = s.none_lost j r.is_one; former = r.former; also = s.none_lost r.former r.also; before = r.before; alike = r.alike }

  -- the first that repeats is the same
  pub first_before : {a : Option ℕ} → FirstIn nm fs a → FirstIn nm es a
  first_before (nowhere f) = nowhere (λ j r. f j (repeats_left j r))
  first_before (at j r l) = at j (repeats_before j r) (λ i q. l i (repeats_left i q))

-- a permutation leaves the same
in_contained : (es : List ℕ) (x : ℕ) → In x es → Contains es x
in_contained es x i = (i.place, i.inside, get_or_default_zero es i.place x i.inside ∙ i.there)

contained_in : (es : List ℕ) (x : ℕ) → Contains es x → In x es
contained_in es x c = record { place = c.0; inside = c.1; there = sym (get_or_default_zero es c.0 x c.1) ∙ c.2 }

pub entries_permuted : (es fs : List ℕ) → IsPermutation es fs → SameEntries es fs
entries_permuted es fs p = record {
  as_many = length_permutation es fs p;
  none_new = λ x i. contained_in es x (Contains-permutation fs es x (IsPermutation-sym es fs p) (in_contained fs x i));
  none_lost = λ x i. contained_in fs x (Contains-permutation es fs x p (in_contained es x i));
}

pub entries_moved : (es fs gs : List ℕ) → SameEntries es fs → IsPermutation fs gs → SameEntries es gs
entries_moved es fs gs s p = entries_twice es fs gs s (entries_permuted fs gs p)
