-- The walk over entries and their names accepts exactly the documents within the limit with the fields of each ( ) apart. Assumes nothing.
use Rattle.std.proofs.Common.{Ok, Some, None, Option}
use Prim.Native.Nat.{ℕ, ◌<◌, ◌≤◌}
use native.Mathlib.Omega.{arith}
use mathlib.Core.Path.{◌≡◌, refl, sym, ◌∙◌}
use mathlib.Core.List.{List}
use lib.ListN.{length}
use Rattle.grammar.specs.declared.kinds.Kind.{Kind}
use Rattle.grammar.specs.Walk.{walk_of}
use Rattle.grammar.proofs.Accepts.{accepts, accepted_is}
use Rattle.fields.specs.Apart.{Distinct}
use Rattle.fields.specs.Fields.{again_of, by_again, named_walk}
use Rattle.fields.proofs.AgainOn.{not_at}
use Rattle.fields.proofs.Apartness.{apart_behind, behind_apart}
use Rattle.fields.proofs.Beginnings.{found_inside}
use Rattle.fields.proofs.Verdicts.{by_accepted}

module _ (nm : ℕ → List ℕ) (ks : List Kind) (limit : ℕ) where
  -- what it accepts the grammar accepts
  pub named_plain : named_walk nm ks limit ≡ Ok tt → walk_of ks limit ≡ Ok tt
  named_plain e = (by_accepted (again_of nm ks) (walk_of ks limit) e).1

  pub named_accepted : named_walk nm ks limit ≡ Ok tt → Distinct nm limit ks
  named_accepted e =
      let nowhere = (by_accepted (again_of nm ks) (walk_of ks limit) e).0 in
      let d = accepted_is ks limit (named_plain e) in
      record { document = d; apart = behind_apart nm (length ks) d (λ j z. not_at j (sym nowhere ∙ z)) }

  pub accepts_named : Distinct nm limit ks → named_walk nm ks limit ≡ Ok tt
  accepts_named d = go (again_of nm ks) refl
    where
      go : (a : Option ℕ) → again_of nm ks ≡ a → by_again a (walk_of ks limit) ≡ Ok tt
      go None e = accepts ks limit d.document
      go (Some j) e =
          let inside : j < length ks = found_inside nm ks j e in
          let behind : length ks ≤ j = apart_behind nm (length ks) d.document d.apart j e in
          absurd (omega arith)
