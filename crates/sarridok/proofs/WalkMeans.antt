-- What the answers of `walk` say: accepted exactly where the tape is in order and its entries are a document within the limit, no field of which is named again,
-- the links then that document's; refused at an entry exactly as the grammar has it, 31 where a field is named again; a higher limit, the same answer and links
-- unless it was 24. Assumes nothing.
use Rattle.std.proofs.Common.{Ok, Err, Some, None, Option}
use Prim.Native.Nat.{ℕ, suc, ◌+◌, ◌≤◌, ◌<◌}
use native.Mathlib.Omega.{arith}
use mathlib.Core.Bool.{Bool, true, false, cond, ◌&&◌}
use mathlib.Core.List.{List, [], ◌∷◌, ◌++◌}
use mathlib.Core.Logic.{◌⊎◌, inl, inr}
use mathlib.Core.Path.{◌≡◌, ap, refl, subst, sym, ◌∙◌}
use lib.Dec.{ltb}
use lib.ListN.{length, drop, take}
use borrow.Author.Tests.{le-ltb, ltb-false}
use Rattle.text.specs.Judged.{judged_of, behind_judged, by_utf8}
use Rattle.text.specs.Refusals.{Told, too_long, not_utf8, unfit, not_in_order, no_room, refusal, depth_limit_passed, not_allowed_here, tape_ends_early, repeated_field}
use Rattle.text.specs.Utf8.{utf8_of}
use Rattle.text.specs.declared.refusal.Refusal.{Refusal}
use Rattle.text.proofs.Choices.{either}
use Rattle.rows.specs.Rows.{room_of, entries_of}
use Rattle.rows.specs.Order.{in_order}
use Rattle.rows.proofs.RowLaws.{length_entries}
use Rattle.rows.specs.declared.Entry.{Entry}
use Rattle.grammar.specs.Kinds.{kinds_of}
use Rattle.grammar.specs.Links.{links_of}
use Rattle.sarridok.specs.Passed.{Links, Passed}
use Rattle.grammar.specs.Refused.{NotAllowed, TooDeep, OpensOver, EndsEarly, open_after}
use Rattle.grammar.specs.declared.kinds.Kind.{Kind}
use Rattle.grammar.proofs.Depth.{accepted_within}
use Rattle.fields.specs.Apart.{Distinct, BeginsApart, Repeated}
use Rattle.fields.specs.Fields.{named_walk}
use Rattle.fields.specs.Names.{name_at, raws_fit}
use Rattle.fields.proofs.NamedAccepted.{named_accepted, accepts_named, named_plain}
use Rattle.fields.proofs.NamedAgain.{named_31, gives_31, repeated_none}
use Rattle.fields.proofs.NamedHigher.{named_higher}
use Rattle.fields.proofs.NamedRefused.{named_25, gives_named_25, named_24, gives_named_24, named_26, gives_named_26}
use Rattle.grammar.proofs.Stored.{linked}
use Rattle.grammar.proofs.Nesting.{links_nested}
use Rattle.sarridok.specs.Walked.{behind_walk_front, walk_of, left_by, links_after}
use Rattle.sarridok.proofs.WalkFront.{walk_judged}

-- ---- the two ends of an answer

not_accepted : {X : Type 0} (r : Refusal) → ◌≡◌ {A = Told Unit} (Err r) (Ok tt) → X
not_accepted r e = let z : ◌≡◌ {A = ℕ} 0 1 = cc in absurd (omega arith)

same_refusal : (q r : Refusal) → ◌≡◌ {A = Told Unit} (Err q) (Err r) → q ≡ r
same_refusal q r e = cc

same_number : (q r : Refusal) → ◌≡◌ {A = Told Unit} (Err q) (Err r) → q.number ≡ r.number
same_number q r e = ap (λ (x : Refusal). x.number) (same_refusal q r e)

kinds_size : (es : List Entry) → length (kinds_of es) ≡ length es
unfolding kinds_of
kinds_size [] = refl
kinds_size (e ∷ es) = ap suc (kinds_size es)

-- a text that is not read is refused with 1 or 2
unread_number : (text : List ℕ) (r : Refusal) → judged_of text ≡ Err r → r.number < 24
unfolding judged_of
unread_number text r e = go (ltb 65536 (length text)) (utf8_of text) e
  where
    told : (q : Refusal) → q.number < 24 → ◌≡◌ {A = Told Unit} (Err q) (Err r) → r.number < 24
    told q h e = let z : q ≡ r = cc in let n : q.number ≡ r.number = ap (λ (x : Refusal). x.number) z in omega arith

    by : (u : Option ℕ) → by_utf8 u ≡ Err r → r.number < 24
    by None e = let z : ◌≡◌ {A = ℕ} 0 1 = cc in absurd (omega arith)
    by (Some p) e = told (not_utf8 p) (omega arith) e

    go : (a : Bool) (u : Option ℕ) → ◌≡◌ {A = Told Unit} (cond a (Err too_long) (by_utf8 u)) (Err r) → r.number < 24
    go true u e = told too_long (omega arith) e
    go false u e = by u e

-- ---- which way an answer came

module _ (text tape : List ℕ) (count limit links : ℕ) where
  -- the kinds of the entries
  abbrev pub kinds_at : List Kind
  kinds_at = kinds_of (entries_of count tape)

  -- the name of each
  abbrev pub names : ℕ → List ℕ
  names = name_at text tape

  abbrev own : Told Unit
  own = named_walk names kinds_at limit

  -- a refusal in front of the entries is none of 24 to 26, and not 31
  pub data Way (x : Told Unit) : Type 0 where
    in_front : (r : Refusal) → x ≡ Err r → (r.number < 24) ⊎ ((26 < r.number) × (r.number < 31)) → Way x
    behind-front : Passed text tape count limit links → own ≡ x → Way x

  -- a text that is read
  way_read : judged_of text ≡ Ok tt → (x : Told Unit)
      → cond (ltb 128 limit) (Err unfit) (cond (ltb (room_of (length tape)) count) (Err not_in_order)
      (cond (in_order (entries_of count tape) (length text) && raws_fit text (entries_of count tape)) (cond (ltb links count) (Err no_room) own) (Err not_in_order))) ≡ x → Way x
  way_read fit x e = go (ltb 128 limit) (ltb (room_of (length tape)) count) (in_order (entries_of count tape) (length text)) (raws_fit text (entries_of count tape)) (ltb links count) refl refl refl refl refl e
    where
      go : (a b c d f : Bool) → ltb 128 limit ≡ a → ltb (room_of (length tape)) count ≡ b → in_order (entries_of count tape) (length text) ≡ c → raws_fit text (entries_of count tape) ≡ d → ltb links count ≡ f
          → cond a (Err unfit) (cond b (Err not_in_order) (cond (c && d) (cond f (Err no_room) own) (Err not_in_order))) ≡ x → Way x
      go true b c d f p q r s t e = in_front unfit (sym e) (inr (omega arith, omega arith))
      go false true c d f p q r s t e = in_front not_in_order (sym e) (inl (omega arith))
      go false false false d f p q r s t e = in_front not_in_order (sym e) (inl (omega arith))
      go false false true false f p q r s t e = in_front not_in_order (sym e) (inl (omega arith))
      go false false true true true p q r s t e = in_front no_room (sym e) (inl (omega arith))
      go false false true true false p q r s t e =
          behind-front (record { fit = fit; shallow = ltb-false 128 limit p; fits = ltb-false (room_of (length tape)) count q; ordered = r; raws = s; room = ltb-false links count t }) e

  pub way : (x : Told Unit) → walk_of text tape count limit links ≡ x → Way x
  unfolding walk_of behind_walk_front
  way x e = go (judged_of text) refl e
    where
      go : (j : Told Unit) → judged_of text ≡ j
          → behind_judged j (cond (ltb 128 limit) (Err unfit) (cond (ltb (room_of (length tape)) count) (Err not_in_order)
          (cond (in_order (entries_of count tape) (length text) && raws_fit text (entries_of count tape)) (cond (ltb links count) (Err no_room) own) (Err not_in_order)))) ≡ x → Way x
      go (Ok tt) p e = way_read p x e
      go (Err r) p e = in_front r (sym e) (inl (unread_number text r p))

  -- behind the front the verdict decides
  pub passed_judged : Passed text tape count limit links → (v : Told Unit) → v ≡ own → walk_of text tape count limit links ≡ v
  passed_judged p v e = walk_judged text tape count limit links p.fit p.shallow p.fits p.ordered p.raws p.room v e

  -- ---- accepted, exactly where the entries are a document no field of which is named again

  pub accepted_passed : walk_of text tape count limit links ≡ Ok tt → Passed text tape count limit links × (own ≡ Ok tt)
  accepted_passed e = go (way (Ok tt) e)
    where
      go : Way (Ok tt) → Passed text tape count limit links × (own ≡ Ok tt)
      go (in_front r q n) = not_accepted r (sym q)
      go (behind-front p q) = (p, q)

  pub accepted_distinct : walk_of text tape count limit links ≡ Ok tt → Distinct names limit kinds_at
  accepted_distinct e = named_accepted names kinds_at limit (accepted_passed e).1

  pub document_accepted : Passed text tape count limit links → Distinct names limit kinds_at → walk_of text tape count limit links ≡ Ok tt
  document_accepted p d = passed_judged p (Ok tt) (sym (accepts_named names kinds_at limit d))

  -- behind any number of its entries no more brackets are open than the limit
  pub accepted_depth : walk_of text tape count limit links ≡ Ok tt → (a b : List Kind) → kinds_at ≡ a ++ b → open_after a 0 ≤ limit
  accepted_depth e a b s = accepted_within kinds_at limit (named_plain names kinds_at limit (accepted_passed e).1) a b s

  -- ---- refused at an entry, exactly as the grammar has it

  entry_refusal : (n j : ℕ) → ((23 < n) × (n < 27)) ⊎ (n ≡ 31) → walk_of text tape count limit links ≡ Err (refusal n j) → Passed text tape count limit links × (own ≡ Err (refusal n j))
  entry_refusal n j which e = go (way (Err (refusal n j)) e)
    where
      clash : (m : ℕ) → n ≡ m → (m < 24) ⊎ ((26 < m) × (m < 31)) → ⊥
      clash m z w = either w (λ h. either which (λ i. let y = i.0 in absurd (omega arith)) (λ i. absurd (omega arith)))
          (λ h. let x = h.0 in let u = h.1 in either which (λ i. let y = i.1 in absurd (omega arith)) (λ i. absurd (omega arith)))

      go : Way (Err (refusal n j)) → Passed text tape count limit links × (own ≡ Err (refusal n j))
      go (in_front r q m) = absurd (clash r.number (same_number (refusal n j) r q) m)
      go (behind-front p q) = (p, q)

  pub says_25 : (j : ℕ) → walk_of text tape count limit links ≡ Err (not_allowed_here j)
      → Passed text tape count limit links × NotAllowed kinds_at limit j × BeginsApart names limit (take j kinds_at)
  says_25 j e = let w = entry_refusal 25 j (inl (omega arith, omega arith)) e in let n = named_25 names kinds_at limit j w.1 in (w.0, n.0, n.1)

  pub says_24 : (j : ℕ) → walk_of text tape count limit links ≡ Err (depth_limit_passed j)
      → Passed text tape count limit links × TooDeep kinds_at limit j × BeginsApart names limit (take j kinds_at) × OpensOver kinds_at limit j
  says_24 j e = let w = entry_refusal 24 j (inl (omega arith, omega arith)) e in let n = named_24 names kinds_at limit j w.1 in (w.0, n.0, n.1, n.2)

  pub says_26 : (j : ℕ) → walk_of text tape count limit links ≡ Err (tape_ends_early j)
      → Passed text tape count limit links × EndsEarly kinds_at limit j × BeginsApart names limit kinds_at
  says_26 j e = let w = entry_refusal 26 j (inl (omega arith, omega arith)) e in let n = named_26 names kinds_at limit j w.1 in (w.0, n.0, n.1)

  pub says_31 : (j : ℕ) → walk_of text tape count limit links ≡ Err (repeated_field j) → Passed text tape count limit links × Repeated names kinds_at limit j
  says_31 j e = let w = entry_refusal 31 j (inr refl) e in (w.0, named_31 names kinds_at limit j w.1)

  pub answers_25 : (j : ℕ) → Passed text tape count limit links → NotAllowed kinds_at limit j → BeginsApart names limit (take j kinds_at) → walk_of text tape count limit links ≡ Err (not_allowed_here j)
  answers_25 j p n b = passed_judged p (Err (not_allowed_here j)) (sym (gives_named_25 names kinds_at limit j n b))

  pub answers_24 : (j : ℕ) → Passed text tape count limit links → TooDeep kinds_at limit j → BeginsApart names limit (take j kinds_at) → walk_of text tape count limit links ≡ Err (depth_limit_passed j)
  answers_24 j p t b = passed_judged p (Err (depth_limit_passed j)) (sym (gives_named_24 names kinds_at limit j t b))

  pub answers_26 : Passed text tape count limit links → EndsEarly kinds_at limit count → BeginsApart names limit kinds_at → walk_of text tape count limit links ≡ Err (tape_ends_early count)
  answers_26 p t b =
      let n : length kinds_at ≡ count = kinds_size (entries_of count tape) ∙ length_entries count tape in
      passed_judged p (Err (tape_ends_early count))
      (ap (λ (j : ℕ). Err (tape_ends_early j)) (sym n) ∙ sym (gives_named_26 names kinds_at limit (subst (EndsEarly kinds_at limit) (sym n) t) b))

  pub answers_31 : (j : ℕ) → Passed text tape count limit links → Repeated names kinds_at limit j → walk_of text tape count limit links ≡ Err (repeated_field j)
  answers_31 j p r = passed_judged p (Err (repeated_field j)) (sym (gives_31 names kinds_at limit j r))

  -- no document with its fields apart begins so
  pub none_begins : (j : ℕ) → walk_of text tape count limit links ≡ Err (repeated_field j) → (l : ℕ) → BeginsApart names l (take (j + 1) kinds_at) → ⊥
  none_begins j e l b = let w = says_31 j e in repeated_none names kinds_at limit j w.1 l b

-- ---- the links

module _ (text tape : List ℕ) (count limit : ℕ) (out : List ℕ) where
  -- a refused call leaves them
  pub refused_leaves : (r : Refusal) → walk_of text tape count limit (length out) ≡ Err r → links_after text tape count limit out ≡ out
  unfolding links_after
  refused_leaves r e = ap (λ (t : Told Unit). left_by t (entries_of count tape) out) e

  -- an accepted one stores those of the document, which join its brackets, and leaves what stands behind them
  pub accepted_links : walk_of text tape count limit (length out) ≡ Ok tt → Links text tape count limit out (links_after text tape count limit out)
  unfolding links_after
  accepted_links e =
      let a = accepted_passed text tape count limit (length out) e in
      let ks : List Kind = kinds_of (entries_of count tape) in
      let d : Distinct (name_at text tape) limit ks = accepted_distinct text tape count limit (length out) e in
      let n : length ks ≡ count = kinds_size (entries_of count tape) ∙ length_entries count tape in
      record {
        document = d;
        links = links_of d.document;
        nested = links_nested ks d.document;
        stored = ap (λ (t : Told Unit). left_by t (entries_of count tape) out) e ∙ linked d.document out (omega (arith, a.0.room)) ∙ ap (λ (j : ℕ). links_of d.document ++ drop j out) n;
      }

-- ---- a higher limit

module _ (text tape : List ℕ) (count limit more links : ℕ) where
  -- the front asks no more of one limit than of another
  front_same : (on : Told Unit) → limit ≤ 128 → more ≤ 128 → behind_walk_front text tape count more links on ≡ behind_walk_front text tape count limit links on
  unfolding behind_walk_front
  front_same on a b = simp (le-ltb _ _ a, le-ltb _ _ b)

  -- it refuses whatever stands behind it, or passes it on
  front_either : (on off : Told Unit) → (behind_walk_front text tape count limit links on ≡ behind_walk_front text tape count limit links off) ⊎ (behind_walk_front text tape count limit links on ≡ on)
  unfolding behind_walk_front
  front_either on off = go (judged_of text) (ltb 128 limit) (ltb (room_of (length tape)) count) (in_order (entries_of count tape) (length text) && raws_fit text (entries_of count tape)) (ltb links count)
    where
      front : Told Unit → Bool → Bool → Bool → Bool → Told Unit → Told Unit
      front j a b c d t = behind_judged j (cond a (Err unfit) (cond b (Err not_in_order) (cond c (cond d (Err no_room) t) (Err not_in_order))))

      go : (j : Told Unit) (a b c d : Bool) → (front j a b c d on ≡ front j a b c d off) ⊎ (front j a b c d on ≡ on)
      go (Err r) a b c d = inl refl
      go (Ok tt) true b c d = inl refl
      go (Ok tt) false true c d = inl refl
      go (Ok tt) false false false d = inl refl
      go (Ok tt) false false true true = inl refl
      go (Ok tt) false false true false = inr refl

  -- the same answer, unless it was 24
  pub higher_same : limit ≤ more → more ≤ 128 → ((j : ℕ) → walk_of text tape count limit links ≡ Err (depth_limit_passed j) → ⊥) → walk_of text tape count more links ≡ walk_of text tape count limit links
  unfolding walk_of
  higher_same le top other =
      let ks : List Kind = kinds_of (entries_of count tape) in
      let nm : ℕ → List ℕ = name_at text tape in
      let same = front_same (named_walk nm ks more) (omega arith) top in
      either (front_either (named_walk nm ks limit) (named_walk nm ks more))
      (λ e. same ∙ sym e)
      (λ e. same ∙ ap (behind_walk_front text tape count limit links) (named_higher nm ks limit more le (λ j z. other j (e ∙ z))))

-- and the same links
pub higher_links : (text tape : List ℕ) (count limit more : ℕ) (out : List ℕ) → limit ≤ more → more ≤ 128
    → ((j : ℕ) → walk_of text tape count limit (length out) ≡ Err (depth_limit_passed j) → ⊥) → links_after text tape count more out ≡ links_after text tape count limit out
unfolding links_after
higher_links text tape count limit more out le top other = ap (λ (t : Told Unit). left_by t (entries_of count tape) out) (higher_same text tape count limit more (length out) le top other)
