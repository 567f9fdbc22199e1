-- 31 is given exactly in its case, and then no document with its fields apart begins with the entries up to the one that it names. Assumes nothing.
use Rattle.std.proofs.Common.{Err, Some, None, Option}
use Prim.Native.Nat.{ℕ, ◌+◌, ◌<◌, ◌≤◌}
use native.Mathlib.Omega.{arith}
use mathlib.Core.Path.{◌≡◌, refl, sym, ap, ◌∙◌}
use mathlib.Core.List.{List, ◌++◌}
use lib.ListN.{length, take, drop, take-append-drop}
use lib.Seq.{length-take-le}
use Rattle.text.proofs.Choices.{either, lt_or_le}
use Rattle.text.specs.Refusals.{repeated_field}
use Rattle.grammar.specs.Grammar.{Document}
use Rattle.grammar.specs.Refused.{Begins, Split, up_to}
use Rattle.grammar.specs.Walk.{walk_of}
use Rattle.grammar.specs.declared.kinds.Kind.{Kind}
use Rattle.fields.specs.Apart.{ApartIn, Repeated, BeginsApart}
use Rattle.fields.specs.Fields.{again_of, by_again, named_walk}
use Rattle.fields.proofs.AgainOn.{not_at, same_at}
use Rattle.fields.proofs.Apartness.{apart_behind, behind_apart}
use Rattle.fields.proofs.Beginnings.{found_more, found_first, found_inside}
use Rattle.fields.proofs.BeginLaws.{apart_begins}
use Rattle.fields.proofs.Passed.{passed_begins, begins_passed}
use Rattle.fields.proofs.Splits.{split_there, split_up, up_length}
use Rattle.fields.proofs.Verdicts.{walk_plain, by_passed, by_31}

module _ (nm : ℕ → List ℕ) where
  -- the entries up to j decide whether j is found
  up_found : {ks : List Kind} {j : ℕ} (at : Split ks j) → again_of nm ks ≡ Some j → again_of nm (up_to at) ≡ Some j
  up_found {j = j} at e = let q = up_length at in found_first nm (up_to at) at.after j (ap (again_of nm) (sym (split_up at)) ∙ e) (omega arith)

  found_up : {ks : List Kind} {j : ℕ} (at : Split ks j) → again_of nm (up_to at) ≡ Some j → again_of nm ks ≡ Some j
  found_up {j = j} at e = ap (again_of nm) (split_up at) ∙ found_more nm (up_to at) at.after j e

  -- the first that is found in a document: apart up to it, and not with it
  pub first_found : {limit : ℕ} {ks : List Kind} (d : Document limit ks) (j : ℕ) → ApartIn nm j d → (ApartIn nm (j + 1) d → ⊥) → again_of nm ks ≡ Some j
  first_found {ks = ks} d j a n = go (again_of nm ks) refl
    where
      go : (x : Option ℕ) → again_of nm ks ≡ x → x ≡ Some j
      go None e = absurd (n (behind_apart nm (j + 1) d (λ i z. not_at i (sym e ∙ z))))
      go (Some i) e =
          let le : j ≤ i = apart_behind nm j d a i e in
          either (lt_or_le j i)
          (λ lt. absurd (n (behind_apart nm (j + 1) d (λ m z. let s : i ≡ m = same_at i m (sym e ∙ z) in omega arith))))
          (λ ge. let s : i ≡ j = omega arith in ap Some s)

  module _ (ks : List Kind) (limit j : ℕ) where
    -- the entry that 31 names is found
    pub repeated_found : Repeated nm ks limit j → again_of nm ks ≡ Some j
    repeated_found r =
        let up = up_length r.at in
        found_up r.at (found_first nm (up_to r.at) r.rest j (first_found r.document j r.apart r.again) (omega arith))

    -- an entry that is found, where a document within the limit begins with the entries up to it
    pub repeats : (at : Split ks j) → again_of nm ks ≡ Some j → Begins limit (up_to at) → Repeated nm ks limit j
    repeats at e v =
        let there : again_of nm (up_to at ++ v.0) ≡ Some j = found_more nm (up_to at) v.0 j (up_found at e) in
        record {
          at = at;
          rest = v.0;
          document = v.1;
          apart = behind_apart nm j v.1 (λ i z. let s : j ≡ i = same_at j i (sym there ∙ z) in omega arith);
          again = λ a. let le : j + 1 ≤ j = apart_behind nm (j + 1) v.1 a j there in absurd (omega arith);
        }

    pub named_31 : named_walk nm ks limit ≡ Err (repeated_field j) → Repeated nm ks limit j
    named_31 e =
        let o = by_31 (again_of nm ks) (walk_of ks limit) j (walk_plain ks limit) e in
        let at = split_there ks j (found_inside nm ks j o.0) in
        repeats at o.0 (passed_begins ks limit j at o.1)

    pub gives_31 : Repeated nm ks limit j → named_walk nm ks limit ≡ Err (repeated_field j)
    gives_31 r =
        ap (λ (a : Option ℕ). by_again a (walk_of ks limit)) (repeated_found r)
        ∙ by_passed j (walk_of ks limit) (begins_passed ks limit j r.at (r.rest, r.document))

    pub repeated_none : Repeated nm ks limit j → (l : ℕ) → BeginsApart nm l (take (j + 1) ks) → ⊥
    repeated_none r l b =
        let e = repeated_found r in
        let lt : j < length ks = found_inside nm ks j e in
        let n : length (take (j + 1) ks) ≡ j + 1 = length-take-le (j + 1) ks (omega arith) in
        let le : length (take (j + 1) ks) ≤ j = apart_begins nm l (take (j + 1) ks) (drop (j + 1) ks) b j (ap (again_of nm) (take-append-drop (j + 1) ks) ∙ e) in
        absurd (omega arith)
