-- The walk accepts exactly the entries that are a document within the limit. Assumes nothing.
use Rattle.std.proofs.Common.{Ok, Err}
use Rattle.text.specs.Refusals.{Told, refusal}
use Prim.Native.Nat.{ℕ, suc, ◌≤◌}
use native.Mathlib.Omega.{arith}
use mathlib.Core.Path.{◌≡◌, ap}
use mathlib.Core.List.{List, []}
use Rattle.text.specs.declared.refusal.Refusal.{Refusal}
use Rattle.grammar.specs.Grammar.{Value, scalar, name, list, map, round, called, Round, tuple, struct, Items, none, one, more, Pairs, no_pair, one_pair, more_pairs, Fields, no_field, one_field, more_fields, Fits, FitRound, FitItems, FitPairs, FitFields, Document}
use Rattle.grammar.specs.Walk.{walk_of}
use Rattle.grammar.proofs.Outcomes.{Outcome, whole, wrong, deep, early, answer}
use Rattle.grammar.proofs.Complete.{complete}
use Rattle.grammar.specs.declared.kinds.Kind.{Kind}
use Rattle.grammar.specs.declared.states.Frame.TheVariants.{Top}
use Rattle.grammar.specs.declared.states.Want.TheVariants.{Start}

-- a tree that fits a limit fits a higher one
mutual
  fits_more : (v : Value) (l m d : ℕ) → l ≤ m → Fits l v d → Fits m v d
  fits_more scalar l m d le h = tt
  fits_more name l m d le h = tt
  fits_more (list xs) l m d le h = (omega (arith, h.0), items_more xs l m (suc d) le h.1)
  fits_more (map ps) l m d le h = (omega (arith, h.0), pairs_more ps l m (suc d) le h.1)
  fits_more (round r) l m d le h = (omega (arith, h.0), round_more r l m (suc d) le h.1)
  fits_more (called r) l m d le h = (omega (arith, h.0), round_more r l m (suc d) le h.1)

  round_more : (r : Round) (l m d : ℕ) → l ≤ m → FitRound l r d → FitRound m r d
  round_more (tuple xs) l m d le h = items_more xs l m d le h
  round_more (struct fs) l m d le h = fields_more fs l m d le h

  items_more : (xs : Items) (l m d : ℕ) → l ≤ m → FitItems l xs d → FitItems m xs d
  items_more none l m d le h = tt
  items_more (one v) l m d le h = fits_more v l m d le h
  items_more (more v xs) l m d le h = (fits_more v l m d le h.0, items_more xs l m d le h.1)

  pairs_more : (ps : Pairs) (l m d : ℕ) → l ≤ m → FitPairs l ps d → FitPairs m ps d
  pairs_more no_pair l m d le h = tt
  pairs_more (one_pair a b) l m d le h = (fits_more a l m d le h.0, fits_more b l m d le h.1)
  pairs_more (more_pairs a b ps) l m d le h = (fits_more a l m d le h.0, fits_more b l m d le h.1, pairs_more ps l m d le h.2)

  fields_more : (fs : Fields) (l m d : ℕ) → l ≤ m → FitFields l fs d → FitFields m fs d
  fields_more no_field l m d le h = tt
  fields_more (one_field v) l m d le h = fits_more v l m d le h
  fields_more (more_fields v fs) l m d le h = (fits_more v l m d le h.0, fields_more fs l m d le h.1)

pub document_more : (ks : List Kind) (l m : ℕ) → l ≤ m → Document l ks → Document m ks
document_more ks l m le d = record { attrs = d.attrs; tree = d.tree; fits = fits_more d.tree l m 0 le d.fits; written = d.written }

-- the two answers differ
pub not_refused : {X : Type 0} (n j : ℕ) → ◌≡◌ {A = Told Unit} (Err (refusal n j)) (Ok tt) → X
not_refused n j e = let z : ◌≡◌ {A = ℕ} 0 1 = cc in absurd (omega arith)

-- what is a document within the limit is accepted, and what is accepted is one
pub accepts : (ks : List Kind) (limit : ℕ) → Document limit ks → walk_of ks limit ≡ Ok tt
accepts ks limit d = complete limit ks d

pub accepted_is : (ks : List Kind) (limit : ℕ) → walk_of ks limit ≡ Ok tt → Document limit ks
accepted_is ks limit e = go (walk_of ks limit) (answer limit ks) e
  where
    go : (a : Told Unit) → Outcome limit Start Top [] (λ k. k) ks 0 a → a ≡ Ok tt → Document limit ks
    go a (whole d q) e = d
    go a (wrong p k b j x h v q) e = not_refused 25 j e
    go a (deep p k b j x h v q L le y) e = not_refused 24 j e
    go a (early j h v q) e = not_refused 26 j e

-- two refusals that are equal have the same number and place
pub refusals : (n m j i : ℕ) → ◌≡◌ {A = Told Unit} (Err (refusal n j)) (Err (refusal m i)) → (n ≡ m) × (j ≡ i)
refusals n m j i e = let r : refusal n j ≡ refusal m i = cc in (ap (λ (x : Refusal). x.number) r, ap (λ (x : Refusal). x.place) r)
