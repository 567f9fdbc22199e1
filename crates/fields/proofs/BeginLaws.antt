-- Entries begin a document with its fields apart exactly where they begin one and none of them is found to name a field again. Assumes nothing.
use Rattle.std.proofs.Common.{Some}
use Prim.Native.Nat.{ℕ, ◌≤◌}
use mathlib.Core.Path.{◌≡◌}
use mathlib.Core.List.{List, ◌++◌}
use lib.ListN.{length}
use Rattle.text.proofs.Choices.{either, lt_or_le}
use Rattle.grammar.specs.Refused.{Begins}
use Rattle.grammar.specs.declared.kinds.Kind.{Kind}
use Rattle.fields.specs.Apart.{BeginsApart}
use Rattle.fields.specs.Fields.{again_of}
use Rattle.fields.proofs.Apartness.{apart_behind, behind_apart}
use Rattle.fields.proofs.Beginnings.{found_more, found_first}

module _ (nm : ℕ → List ℕ) (limit : ℕ) (a b : List Kind) where
  pub begins_apart : Begins limit a → ((i : ℕ) → again_of nm (a ++ b) ≡ Some i → length a ≤ i) → BeginsApart nm limit a
  begins_apart v h = record { rest = v.0; document = v.1; apart = behind_apart nm (length a) v.1 later }
    where
      later : (i : ℕ) → again_of nm (a ++ v.0) ≡ Some i → length a ≤ i
      later i e = either (lt_or_le i (length a)) (λ lt. h i (found_more nm a b i (found_first nm a v.0 i e lt))) (λ le. le)

  pub apart_begins : BeginsApart nm limit a → (i : ℕ) → again_of nm (a ++ b) ≡ Some i → length a ≤ i
  apart_begins v i e =
      either (lt_or_le i (length a))
      (λ lt. apart_behind nm (length a) v.document v.apart i (found_more nm a v.rest i (found_first nm a b i e lt)))
      (λ le. le)
