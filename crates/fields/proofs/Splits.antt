-- Entries split at one of them. Assumes nothing.
use Prim.Native.Nat.{ℕ, suc, ◌+◌, ◌<◌}
use native.Mathlib.Omega.{arith}
use mathlib.Core.Path.{◌≡◌, sym, ap, ◌∙◌, subst}
use mathlib.Core.List.{List, [], ◌∷◌, ◌++◌, append_assoc}
use lib.ListN.{length, get_or, take, drop, length-append}
use lib.Seq.{split_at, take_at, length-take-le}
use Rattle.grammar.specs.Grammar.{Document}
use Rattle.grammar.specs.Refused.{Begins, Split, up_to}
use Rattle.grammar.proofs.Prefixes.{append_one}
use Rattle.grammar.specs.declared.kinds.Kind.{Kind}
use Rattle.grammar.specs.declared.kinds.Kind.TheVariants.{Scalar}

-- any entry splits them
pub split_there : (ks : List Kind) (j : ℕ) → j < length ks → Split ks j
split_there ks j lt =
    record { before = take j ks; there = get_or ks j Scalar; after = drop (suc j) ks; split = split_at ks j Scalar lt; place = sym (length-take-le j ks (omega arith)) }

-- a beginning of a beginning is one
pub begins_less : (limit : ℕ) (a p q : List Kind) → a ≡ p ++ q → Begins limit a → Begins limit p
begins_less limit a p q e b = (q ++ b.0, subst (λ (x : List Kind). Document limit x) (ap (λ (x : List Kind). x ++ b.0) e ∙ append_assoc p q b.0) b.1)

module _ {ks : List Kind} {j : ℕ} (at : Split ks j) where
  -- those before it are the first j
  pub take_split : take j ks ≡ at.before
  take_split = ap (take j) at.split ∙ take_at at.before (at.there ∷ at.after) j (sym at.place)

  -- those up to it, and the rest
  pub split_up : ks ≡ up_to at ++ at.after
  split_up = at.split ∙ sym (append_one at.before at.there at.after)

  pub up_length : length (up_to at) ≡ j + 1
  up_length = length-append at.before (at.there ∷ []) ∙ ap (λ (n : ℕ). n + 1) (sym at.place)
