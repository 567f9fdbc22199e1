-- 24, 25 and 26 are given exactly in the grammar's cases, where no entry before names a field again. Assumes nothing.
use Rattle.std.proofs.Common.{Err, Some}
use Prim.Native.Nat.{ℕ, ◌≤◌}
use native.Mathlib.Omega.{arith}
use mathlib.Core.Path.{◌≡◌, sym, ap, ◌∙◌, subst}
use mathlib.Core.List.{List, [], ◌∷◌, append-nil}
use lib.ListN.{length, take}
use Rattle.text.specs.Refusals.{refusal, depth_limit_passed, not_allowed_here, tape_ends_early}
use Rattle.grammar.specs.Refused.{Begins, Split, NotAllowed, TooDeep, EndsEarly, OpensOver}
use Rattle.grammar.specs.Walk.{walk_of}
use Rattle.grammar.specs.declared.kinds.Kind.{Kind}
use Rattle.grammar.proofs.Refusals.{refused_24, refused_25, refused_26, gives_24, gives_25, gives_26}
use Rattle.grammar.proofs.Depth.{refused_24_opens}
use Rattle.fields.specs.Apart.{BeginsApart}
use Rattle.fields.specs.Fields.{again_of, by_again, named_walk}
use Rattle.fields.proofs.BeginLaws.{begins_apart, apart_begins}
use Rattle.fields.proofs.Splits.{take_split}
use Rattle.fields.proofs.Verdicts.{by-other, other_by}

module _ (nm : ℕ → List ℕ) (ks : List Kind) (limit j : ℕ) where
  -- the grammar's refusal stands where no entry before it is found
  other : (n : ℕ) → walk_of ks limit ≡ Err (refusal n j) → ((i : ℕ) → again_of nm ks ≡ Some i → j ≤ i) → named_walk nm ks limit ≡ Err (refusal n j)
  other n e h = ap (by_again (again_of nm ks)) e ∙ other_by (again_of nm ks) n j h

  -- none before j is found exactly where the entries before it begin a document with its fields apart
  apart_before : (at : Split ks j) → Begins limit at.before → ((i : ℕ) → again_of nm ks ≡ Some i → j ≤ i) → BeginsApart nm limit (take j ks)
  apart_before at v h =
      subst (λ (x : List Kind). BeginsApart nm limit x) (sym (take_split at))
      (begins_apart nm limit at.before (at.there ∷ at.after) v
      (λ i e. let le : j ≤ i = h i (ap (again_of nm) at.split ∙ e) in let w = at.place in omega arith))

  before_apart : (at : Split ks j) → BeginsApart nm limit (take j ks) → (i : ℕ) → again_of nm ks ≡ Some i → j ≤ i
  before_apart at b i e =
      let c : BeginsApart nm limit at.before = subst (λ (x : List Kind). BeginsApart nm limit x) (take_split at) b in
      let le : length at.before ≤ i = apart_begins nm limit at.before (at.there ∷ at.after) c i (ap (again_of nm) (sym at.split) ∙ e) in
      let w = at.place in
      omega arith

  pub named_25 : named_walk nm ks limit ≡ Err (not_allowed_here j) → NotAllowed ks limit j × BeginsApart nm limit (take j ks)
  named_25 e =
      let o = by-other (again_of nm ks) (walk_of ks limit) 25 j (λ z. absurd (omega arith)) e in
      let r = refused_25 ks limit j o.0 in
      (r, apart_before r.at r.begins o.1)

  pub gives_named_25 : NotAllowed ks limit j → BeginsApart nm limit (take j ks) → named_walk nm ks limit ≡ Err (not_allowed_here j)
  gives_named_25 r b = other 25 (gives_25 ks limit j r) (before_apart r.at b)

  pub named_24 : named_walk nm ks limit ≡ Err (depth_limit_passed j) → TooDeep ks limit j × BeginsApart nm limit (take j ks) × OpensOver ks limit j
  named_24 e =
      let o = by-other (again_of nm ks) (walk_of ks limit) 24 j (λ z. absurd (omega arith)) e in
      let r = refused_24 ks limit j o.0 in
      (r, apart_before r.at r.begins o.1, refused_24_opens ks limit j o.0)

  pub gives_named_24 : TooDeep ks limit j → BeginsApart nm limit (take j ks) → named_walk nm ks limit ≡ Err (depth_limit_passed j)
  gives_named_24 r b = other 24 (gives_24 ks limit j r) (before_apart r.at b)

  pub named_26 : named_walk nm ks limit ≡ Err (tape_ends_early j) → EndsEarly ks limit j × BeginsApart nm limit ks
  named_26 e =
      let o = by-other (again_of nm ks) (walk_of ks limit) 26 j (λ z. absurd (omega arith)) e in
      let r = refused_26 ks limit j o.0 in
      let w = r.place in
      (r, begins_apart nm limit ks [] r.begins (λ i z. let le : j ≤ i = o.1 i (ap (again_of nm) (sym (append-nil ks)) ∙ z) in omega arith))

pub gives_named_26 : (nm : ℕ → List ℕ) (ks : List Kind) (limit : ℕ) → EndsEarly ks limit (length ks) → BeginsApart nm limit ks
    → named_walk nm ks limit ≡ Err (tape_ends_early (length ks))
gives_named_26 nm ks limit r b =
    other nm ks limit (length ks) 26 (gives_26 ks limit r.begins (r.none_is limit))
    (λ i e. apart_begins nm limit ks [] b i (ap (again_of nm) (append-nil ks) ∙ e))
