-- The grammar's walk passes an entry exactly where a document within the limit begins with the entries up to it. Assumes nothing.
use Rattle.std.proofs.Common.{Err}
use Rattle.text.specs.Refusals.{Told, refusal}
use Prim.Native.Nat.{ℕ, suc, ◌+◌, ◌<◌}
use native.Mathlib.Omega.{arith}
use mathlib.Core.Path.{◌≡◌, sym, ap, ◌∙◌, subst}
use mathlib.Core.List.{List, [], ◌∷◌, ◌++◌, append_assoc}
use lib.ListN.{length, length-append}
use Rattle.grammar.specs.Grammar.{Document}
use Rattle.grammar.specs.Refused.{Begins, Split, up_to}
use Rattle.grammar.specs.Walk.{check, walk_of}
use Rattle.grammar.specs.declared.kinds.Kind.{Kind}
use Rattle.grammar.specs.declared.states.Frame.TheVariants.{Top}
use Rattle.grammar.specs.declared.states.Want.TheVariants.{Start}
use Rattle.grammar.proofs.Accepts.{accepts, not_refused}
use Rattle.grammar.proofs.Outcomes.{Outcome, whole, wrong, deep, early, answer}
use Rattle.grammar.proofs.Prefixes.{Compared, alike, first_ends, second_ends, compared, append_one}
use Rattle.fields.proofs.Splits.{begins_less, split_up}
use Rattle.fields.proofs.Verdicts.{Passes}

-- an entry and what follows it make a list longer
longer : (p : List Kind) (k : Kind) (m a : List Kind) → a ≡ p ++ k ∷ m → length p < length a
longer p k m a e = let q : length a ≡ length p + suc (length m) = ap length e ∙ length-append p (k ∷ m) in omega arith

module _ (ks : List Kind) (limit j : ℕ) (at : Split ks j) where
  -- where a place behind entry j stands, a document that begins with what is before it begins with the entries up to j
  up_before : (p : List Kind) (k : Kind) (b : List Kind) → ks ≡ p ++ k ∷ b → j < length p → Begins limit p → Begins limit (up_to at)
  up_before p k b x lt v = by (compared p k b at.before at.there at.after (sym x ∙ at.split))
    where
      by : Compared p k at.before at.there → Begins limit (up_to at)
      by (alike e f) = let q : length p ≡ length at.before = ap length e in let w = at.place in absurd (omega arith)
      by (first_ends m e) = let q : length p < length at.before = longer p k m at.before e in let w = at.place in absurd (omega arith)
      by (second_ends m e) = begins_less limit p (up_to at) m (e ∙ sym (append_one at.before at.there m)) v

  pub passed_begins : Passes j (walk_of ks limit) → Begins limit (up_to at)
  passed_begins h = go (walk_of ks limit) (answer limit ks) h
    where
      go : (w : Told Unit) → Outcome limit Start Top [] (λ k. k) ks 0 w → Passes j w → Begins limit (up_to at)
      go w (whole d q) h = (at.after, subst (λ (x : List Kind). Document limit x) (split_up at) d)
      go w (wrong p k b i x e v q) h = up_before p k b x (omega arith) v
      go w (deep p k b i x e v q L le y) h = up_before p k b x (omega arith) v
      go w (early i e v q) h = begins_less limit ks (up_to at) at.after (split_up at) v

  -- a walk that stops at a place whatever follows stops at none up to j, where a document begins with the entries up to j
  not_there : (p : List Kind) (k : Kind) (b : List Kind) (n i : ℕ) → ks ≡ p ++ k ∷ b → Begins limit (up_to at)
      → ((r : List Kind) → check (p ++ k ∷ r) limit Start Top [] 0 ≡ Err (refusal n i)) → j < length p
  not_there p k b n i x v q = by (compared p k b at.before at.there at.after (sym x ∙ at.split))
    where
      stops : (r : List Kind) → Document limit (p ++ k ∷ r) → j < length p
      stops r d = not_refused n i (sym (q r) ∙ accepts (p ++ k ∷ r) limit d)

      there : Document limit (at.before ++ at.there ∷ v.0)
      there = subst (λ (x : List Kind). Document limit x) (append_one at.before at.there v.0) v.1

      by : Compared p k at.before at.there → j < length p
      by (alike e f) = stops v.0 (subst (λ (x : List Kind). Document limit x) (ap (λ (y : List Kind). y ++ at.there ∷ v.0) (sym e) ∙ ap (λ (y : Kind). p ++ y ∷ v.0) (sym f)) there)
      by (first_ends m e) =
          stops (m ++ at.there ∷ v.0) (subst (λ (x : List Kind). Document limit x) (ap (λ (y : List Kind). y ++ at.there ∷ v.0) e ∙ append_assoc p (k ∷ m) (at.there ∷ v.0)) there)
      by (second_ends m e) = let q : length at.before < length p = longer at.before at.there m p e in let w = at.place in omega arith

  pub begins_passed : Begins limit (up_to at) → Passes j (walk_of ks limit)
  begins_passed v = go (walk_of ks limit) (answer limit ks)
    where
      go : (w : Told Unit) → Outcome limit Start Top [] (λ k. k) ks 0 w → Passes j w
      go w (whole d q) = tt
      go w (wrong p k b i x e u q) = let z : j < length p = not_there p k b 25 i x v (λ r. q limit (omega arith) r) in omega arith
      go w (deep p k b i x e u q L le y) = let z : j < length p = not_there p k b 24 i x v q in omega arith
      go w (early i e u q) =
          let z : length at.before < length ks = longer at.before at.there at.after ks at.split in
          let y = at.place in
          omega arith
