-- A higher limit gives the same answer over entries and their names, unless it was 24. Assumes nothing.
use Rattle.std.proofs.Common.{Err, Some, None, Option}
use Rattle.text.specs.Refusals.{Told, depth_limit_passed, repeated_field}
use Prim.Native.Nat.{ℕ, ◌≤◌}
use native.Mathlib.Omega.{arith}
use mathlib.Core.Path.{◌≡◌, refl, sym, ap, ◌∙◌}
use mathlib.Core.List.{List, [], ◌++◌}
use Rattle.text.proofs.Choices.{either, lt_or_le}
use Rattle.grammar.specs.Refused.{up_to}
use Rattle.grammar.specs.Walk.{walk_of}
use Rattle.grammar.specs.declared.kinds.Kind.{Kind}
use Rattle.grammar.specs.declared.states.Frame.TheVariants.{Top}
use Rattle.grammar.specs.declared.states.Want.TheVariants.{Start}
use Rattle.grammar.proofs.Accepts.{document_more}
use Rattle.grammar.proofs.Outcomes.{Outcome, whole, wrong, deep, early, answer}
use Rattle.fields.specs.Apart.{Repeated}
use Rattle.fields.specs.Fields.{again_of, by_again, named_walk}
use Rattle.fields.proofs.AgainOn.{same_at}
use Rattle.fields.proofs.NamedAgain.{repeated_found, repeats, named_31, gives_31}
use Rattle.fields.proofs.Verdicts.{by_passed, other_by}

-- a field that is named again within a limit is within a higher one
pub repeated_more : (nm : ℕ → List ℕ) (ks : List Kind) (limit l j : ℕ) → limit ≤ l → Repeated nm ks limit j → Repeated nm ks l j
repeated_more nm ks limit l j le r =
    repeats nm ks l j r.at (repeated_found nm ks limit j r) (r.rest, document_more (up_to r.at ++ r.rest) limit l le r.document)

module _ (nm : ℕ → List ℕ) (ks : List Kind) (limit l : ℕ) (le : limit ≤ l) where
  -- 31 stays
  same_31 : (j : ℕ) → named_walk nm ks limit ≡ Err (repeated_field j) → named_walk nm ks l ≡ named_walk nm ks limit
  same_31 j e = gives_31 nm ks l j (repeated_more nm ks limit l j le (named_31 nm ks limit j e)) ∙ sym e

  -- the grammar's 24 was not the answer, so a field before it is named again
  over_24 : (a : Option ℕ) (i : ℕ) → again_of nm ks ≡ a → walk_of ks limit ≡ Err (depth_limit_passed i)
      → (named_walk nm ks limit ≡ Err (depth_limit_passed i) → ⊥) → named_walk nm ks l ≡ named_walk nm ks limit
  over_24 None i e q n = absurd (n (ap (λ (x : Option ℕ). by_again x (walk_of ks limit)) e ∙ q))
  over_24 (Some j) i e q n =
      let is : named_walk nm ks limit ≡ by_again (Some j) (Err (depth_limit_passed i)) = ap (λ (x : Option ℕ). by_again x (walk_of ks limit)) e ∙ ap (by_again (Some j)) q in
      either (lt_or_le j i)
      (λ lt. same_31 j (is ∙ by_passed j (Err (depth_limit_passed i)) lt))
      (λ ge. absurd (n (is ∙ other_by (Some j) 24 i (λ m z. let s : j ≡ m = same_at j m z in omega arith))))

  pub named_higher : ((j : ℕ) → named_walk nm ks limit ≡ Err (depth_limit_passed j) → ⊥) → named_walk nm ks l ≡ named_walk nm ks limit
  named_higher n = go (walk_of ks limit) (answer limit ks) refl
    where
      plainly : walk_of ks l ≡ walk_of ks limit → named_walk nm ks l ≡ named_walk nm ks limit
      plainly e = ap (by_again (again_of nm ks)) e

      go : (w : Told Unit) → Outcome limit Start Top [] (λ k. k) ks 0 w → walk_of ks limit ≡ w → named_walk nm ks l ≡ named_walk nm ks limit
      go w (whole d q) e = plainly (q l le ∙ sym e)
      go w (wrong p k b i x h v q) e = plainly (ap (λ (z : List Kind). walk_of z l) x ∙ q l le b ∙ sym e)
      go w (deep p k b i x h v q L le' y) e = over_24 (again_of nm ks) i refl e (n i)
      go w (early i h v q) e = plainly (q l le ∙ sym e)
