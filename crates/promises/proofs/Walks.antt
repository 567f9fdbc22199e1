-- What is promised of `walk`. Each line is a theorem's statement; its proof only says where it is proved. Assumes nothing.
use Rattle.std.proofs.Common.{Ok, Err}
use Prim.Native.Nat.{ℕ, ◌+◌, ◌<◌, ◌≤◌}
use mathlib.Core.Bool.{◌&&◌, cond, false, true}
use mathlib.Core.List.{List, [], ◌++◌}
use mathlib.Core.Logic.{◌↔◌, ◌⊎◌}
use mathlib.Core.Path.{◌≡◌}
use lib.Dec.{ltb}
use lib.ListN.{length, take}
use Rattle.text.specs.Judged.{judged_of}
use Rattle.text.specs.Refusals.{Told, depth_limit_passed, no_room, not_allowed_here, not_in_order, repeated_field, tape_ends_early, unfit}
use Rattle.text.specs.declared.refusal.Refusal.{Refusal}
use Rattle.rows.specs.Order.{former_end, in_order}
use Rattle.rows.specs.Rows.{entries_of, entry_at, room_of}
use Rattle.grammar.specs.Grammar.{Value, value}
use Rattle.grammar.specs.Kinds.{kinds_of, side_of}
use Rattle.grammar.specs.Links.{behind}
use Rattle.grammar.specs.Nested.{Nested, Partner}
use Rattle.grammar.specs.Refused.{EndsEarly, NotAllowed, OpensOver, TooDeep, open_after}
use Rattle.grammar.specs.declared.kinds.Kind.{Kind}
use Rattle.grammar.specs.declared.kinds.Side.TheVariants.{Neither}
use Rattle.grammar.proofs.Alone.{alone_exactly}
use Rattle.grammar.proofs.OneNesting as nesting
use Rattle.grammar.proofs.Reach.{behind_length}
use Rattle.fields.specs.Apart.{BeginsApart, Distinct, Repeated}
use Rattle.fields.specs.Fields.{named_walk}
use Rattle.fields.specs.Names.{name_at, raws_fit}
use Rattle.sarridok.specs.Passed.{Links, Passed}
use Rattle.sarridok.specs.Walked.{links_after, walk_of}
use Rattle.sarridok.proofs.WalkDetermined.{links_determined, walk_determined}
use Rattle.sarridok.proofs.WalkMeans as means
use Rattle.fronts.specs.Fronts.{FrontOf}
use Rattle.fronts.proofs.Gaps as gaps
use Rattle.fronts.proofs.WalkFronts as fronts
use Rattle.given.specs.Given.{Given}
use Rattle.given.proofs.Calls.{walk_given}

module _ (text tape : List ℕ) (count limit links : ℕ) where
  -- Accepted exactly where text, limit, tape and room are fit and the entries are a document within the limit, no field of which is named again in its ( ).
  pub walk_accepts : (walk_of text tape count limit links ≡ Ok tt) ↔ (Passed text tape count limit links × Distinct (name_at text tape) limit (kinds_of (entries_of count tape)))
  walk_accepts = (
    (λ e. ((means.accepted_passed text tape count limit links e).0, means.accepted_distinct text tape count limit links e)),
    (λ w. means.document_accepted text tape count limit links w.0 w.1),
  )

  -- 1 and 2 exactly where the text is too long or not UTF-8, and past both exactly where it is sound.
  pub walk_front : FrontOf text (walk_of text tape count limit links)
      (cond (ltb 128 limit) (Err unfit) (cond (ltb (room_of (length tape)) count) (Err not_in_order)
      (cond (in_order (entries_of count tape) (length text) && raws_fit text (entries_of count tape))
      (cond (ltb links count) (Err no_room) (named_walk (name_at text tape) (kinds_of (entries_of count tape)) limit)) (Err not_in_order))))
  walk_front = fronts.walk_front text tape count limit links

  -- 28, 23 and 22 exactly in their cases: 23 where the count does not fit, the entries are not in order within the text, or a raw name is none.
  pub walk_28 : (walk_of text tape count limit links ≡ Err unfit) ↔ ((judged_of text ≡ Ok tt) × (128 < limit))
  walk_28 = fronts.walk_28 text tape count limit links

  pub walk_23 : (walk_of text tape count limit links ≡ Err not_in_order) ↔ ((judged_of text ≡ Ok tt) × (limit ≤ 128)
      × ((room_of (length tape) < count) ⊎ ((in_order (entries_of count tape) (length text) ≡ false) ⊎ (raws_fit text (entries_of count tape) ≡ false))))
  walk_23 = fronts.walk_23 text tape count limit links

  -- A gap that is not the distance from the former entry's end, or from the text's start, is 23.
  pub walk_gap : (k : ℕ) → k < count → (former_end 0 (entries_of count tape) k + (entry_at tape k).gap ≡ (entry_at tape k).start → ⊥) → judged_of text ≡ Ok tt → limit ≤ 128
      → walk_of text tape count limit links ≡ Err not_in_order
  walk_gap k below off fit h = gaps.walk_gap tape count k below text limit links fit h off

  pub walk_22 : (walk_of text tape count limit links ≡ Err no_room)
      ↔ ((judged_of text ≡ Ok tt) × (limit ≤ 128) × (count ≤ room_of (length tape)) × (in_order (entries_of count tape) (length text) ≡ true) × (raws_fit text (entries_of count tape) ≡ true) × (links < count))
  walk_22 = fronts.walk_22 text tape count limit links

  -- 24 exactly where a document begins with the entries up to it but none within the limit does, and no field is named again before it; there an opening
  -- bracket stands, and the limit is how many are open.
  pub walk_24 : (j : ℕ) → (walk_of text tape count limit links ≡ Err (depth_limit_passed j))
      ↔ (Passed text tape count limit links × TooDeep (kinds_of (entries_of count tape)) limit j × BeginsApart (name_at text tape) limit (take j (kinds_of (entries_of count tape))))
  walk_24 j = ((λ e. let w = means.says_24 text tape count limit links j e in (w.0, w.1, w.2)), (λ w. means.answers_24 text tape count limit links j w.0 w.1 w.2))

  pub walk_24_opens : (j : ℕ) → walk_of text tape count limit links ≡ Err (depth_limit_passed j) → OpensOver (kinds_of (entries_of count tape)) limit j
  walk_24_opens j e = (means.says_24 text tape count limit links j e).3

  -- 25 exactly at the first entry such that no document begins with the entries up to it, where no field is named again before it.
  pub walk_25 : (j : ℕ) → (walk_of text tape count limit links ≡ Err (not_allowed_here j))
      ↔ (Passed text tape count limit links × NotAllowed (kinds_of (entries_of count tape)) limit j × BeginsApart (name_at text tape) limit (take j (kinds_of (entries_of count tape))))
  walk_25 j = (means.says_25 text tape count limit links j, (λ w. means.answers_25 text tape count limit links j w.0 w.1 w.2))

  -- 26 exactly at the count, where a document begins with all the entries and none is them, and none of them names a field again.
  pub walk_26 : (walk_of text tape count limit links ≡ Err (tape_ends_early count))
      ↔ (Passed text tape count limit links × EndsEarly (kinds_of (entries_of count tape)) limit count × BeginsApart (name_at text tape) limit (kinds_of (entries_of count tape)))
  walk_26 = (means.says_26 text tape count limit links count, (λ w. means.answers_26 text tape count limit links w.0 w.1 w.2))

  -- 31 exactly at entry j where, but for repeated names, a document within the limit begins with the entries up to j, and j is the first that repeats a field of
  -- its own ( ); and then no document with its fields apart begins so, within any limit.
  pub walk_31 : (j : ℕ) → (walk_of text tape count limit links ≡ Err (repeated_field j)) ↔ (Passed text tape count limit links × Repeated (name_at text tape) (kinds_of (entries_of count tape)) limit j)
  walk_31 j = (means.says_31 text tape count limit links j, (λ w. means.answers_31 text tape count limit links j w.0 w.1))

  pub walk_31_none : (j : ℕ) → walk_of text tape count limit links ≡ Err (repeated_field j) → (l : ℕ) → BeginsApart (name_at text tape) l (take (j + 1) (kinds_of (entries_of count tape))) → ⊥
  walk_31_none = means.none_begins text tape count limit links

  -- Behind any number of an accepted walk's entries no more brackets are open than its limit.
  pub walk_depth : walk_of text tape count limit links ≡ Ok tt → (a b : List Kind) → kinds_of (entries_of count tape) ≡ a ++ b → open_after a 0 ≤ limit
  walk_depth = means.accepted_depth text tape count limit links

  -- A limit up to 128 that is higher gives the same answer, unless it was 24.
  pub walk_higher : (more : ℕ) → limit ≤ more → more ≤ 128 → ((j : ℕ) → walk_of text tape count limit links ≡ Err (depth_limit_passed j) → ⊥)
      → walk_of text tape count more links ≡ walk_of text tape count limit links
  walk_higher more = means.higher_same text tape count limit more links

  -- A refusal's number is 1, 2, one of 4 to 29, or 31, and its reason 1 to 8 where that is 13, else 0.
  pub walk_numbers : (r : Refusal) → walk_of text tape count limit links ≡ Err r → Given r
  walk_numbers = walk_given text tape count limit links

-- ---- the links afterwards

module _ (text tape : List ℕ) (count limit : ℕ) (out : List ℕ) where
  -- An accepted walk leaves the links that join the document's brackets, and behind them what stood there.
  pub walk_links : walk_of text tape count limit (length out) ≡ Ok tt → Links text tape count limit out (links_after text tape count limit out)
  walk_links = means.accepted_links text tape count limit out

  -- A refused one leaves every link.
  pub refused_walk : (r : Refusal) → walk_of text tape count limit (length out) ≡ Err r → links_after text tape count limit out ≡ out
  refused_walk = means.refused_leaves text tape count limit out

  -- Two answers that meet the promise are equal, and so are the links.
  pub one_walk : (x y : Told Unit) (u v : List ℕ) → (x ≡ walk_of text tape count limit (length out)) × (u ≡ links_after text tape count limit out)
      → (y ≡ walk_of text tape count limit (length out)) × (v ≡ links_after text tape count limit out) → (x ≡ y) × (u ≡ v)
  one_walk x y u v p q = (walk_determined text tape count limit (length out) x y p.0 q.0, links_determined text tape count limit out u v p.1 q.1)

-- What links to itself is exactly what has no partner.
pub walk_alone : (k : Kind) → (side_of k ≡ Neither) ↔ ((j : Kind) → (Partner k j → ⊥) × (Partner j k → ⊥))
walk_alone = alone_exactly

-- There is one way only to join the brackets of entries.
pub one_nesting : (ks : List Kind) (l l' : List ℕ) → Nested ks l → Nested ks l' → l ≡ l'
one_nesting = nesting.one_nesting

-- Behind a value stands the entry that is as many on as the value is written with: by it the entries of a document's fields are numbered.
pub walk_reach : (v : Value) (i : ℕ) → behind v i ≡ i + length (value v [])
walk_reach = behind_length
