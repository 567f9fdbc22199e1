-- Each refusal of the walk is given exactly in its case: 25 at the first entry such that no document begins with the entries up to it, 24 where one
-- does but none within the limit, 26 where all the entries begin a document and are none; a higher limit, the same answer unless it was 24. Assumes nothing.
use Rattle.std.proofs.Common.{Ok, Err}
use Rattle.text.specs.Refusals.{Told, refusal, depth_limit_passed, not_allowed_here, tape_ends_early}
use Prim.Native.Nat.{ℕ, ◌+◌, ◌≤◌}
use native.Mathlib.Omega.{arith}
use mathlib.Core.Path.{◌≡◌, refl, sym, ap, ◌∙◌, subst}
use mathlib.Core.List.{List, [], ◌∷◌, ◌++◌, append_assoc, append-nil}
use lib.ListN.{length}
use Rattle.grammar.specs.Grammar.{Document}
use Rattle.grammar.specs.Walk.{check, walk_of}
use Rattle.grammar.proofs.Outcomes.{Outcome, whole, wrong, deep, early, answer}
use Rattle.grammar.proofs.Complete.{complete}
use Rattle.grammar.specs.Refused.{Begins, up_to, NotAllowed, TooDeep, EndsEarly, Split}
use Rattle.grammar.proofs.Accepts.{document_more, not_refused, refusals}
use Rattle.grammar.proofs.Prefixes.{Compared, alike, first_ends, second_ends, compared, append_one}
use Rattle.grammar.specs.declared.kinds.Kind.{Kind}
use Rattle.grammar.specs.declared.states.Frame.TheVariants.{Top}
use Rattle.grammar.specs.declared.states.Want.TheVariants.{Start}

-- what refuses whatever follows, from a limit on, begins no document
no_document : (a : List Kind) (k : Kind) (limit l n j : ℕ) → ((r : List Kind) → check (a ++ k ∷ r) (limit + l) Start Top [] 0 ≡ Err (refusal n j)) → Begins l (a ++ k ∷ []) → ⊥
no_document a k limit l n j q b =
    let d : Document l (a ++ k ∷ b.0) = subst (λ (x : List Kind). Document l x) (append_one a k b.0) b.1 in
    not_refused n j (sym (q b.0) ∙ complete (limit + l) (a ++ k ∷ b.0) (document_more (a ++ k ∷ b.0) l (limit + l) (omega arith) d))

-- ---- what a refusal says

pub refused_25 : (ks : List Kind) (limit j : ℕ) → walk_of ks limit ≡ Err (not_allowed_here j) → NotAllowed ks limit j
refused_25 ks limit j e = go (walk_of ks limit) (answer limit ks) e
  where
    go : (a : Told Unit) → Outcome limit Start Top [] (λ k. k) ks 0 a → a ≡ Err (not_allowed_here j) → NotAllowed ks limit j
    go a (whole d q) e = not_refused 25 j (sym e)
    go a (wrong p k b i x h v q) e =
        let w : i ≡ j = (refusals 25 25 i j e).1 in
        record {
          at = record { before = p; there = k; after = b; split = x; place = omega arith };
          begins = v;
          none_does = λ l w. no_document p k limit l 25 i (λ r. q (limit + l) (omega arith) r) w;
        }
    go a (deep p k b i x h v q L le y) e = let w = (refusals 24 25 i j e).0 in absurd (omega arith)
    go a (early i h v q) e = let w = (refusals 26 25 i j e).0 in absurd (omega arith)

pub refused_26 : (ks : List Kind) (limit j : ℕ) → walk_of ks limit ≡ Err (tape_ends_early j) → EndsEarly ks limit j
refused_26 ks limit j e = go (walk_of ks limit) (answer limit ks) e
  where
    go : (a : Told Unit) → Outcome limit Start Top [] (λ k. k) ks 0 a → a ≡ Err (tape_ends_early j) → EndsEarly ks limit j
    go a (whole d q) e = not_refused 26 j (sym e)
    go a (wrong p k b i x h v q) e = let w = (refusals 25 26 i j e).0 in absurd (omega arith)
    go a (deep p k b i x h v q L le y) e = let w = (refusals 24 26 i j e).0 in absurd (omega arith)
    go a (early i h v q) e =
        let w : i ≡ j = (refusals 26 26 i j e).1 in
        record {
          place = omega arith;
          begins = v;
          none_is = λ l d. not_refused 26 i (sym (q (limit + l) (omega arith)) ∙ complete (limit + l) ks (document_more ks l (limit + l) (omega arith) d));
        }

pub refused_24 : (ks : List Kind) (limit j : ℕ) → walk_of ks limit ≡ Err (depth_limit_passed j) → TooDeep ks limit j
refused_24 ks limit j e = go (walk_of ks limit) (answer limit ks) e
  where
    go : (a : Told Unit) → Outcome limit Start Top [] (λ k. k) ks 0 a → a ≡ Err (depth_limit_passed j) → TooDeep ks limit j
    go a (whole d q) e = not_refused 24 j (sym e)
    go a (wrong p k b i x h v q) e = let w = (refusals 25 24 i j e).0 in absurd (omega arith)
    go a (deep p k b i x h v q L le y) e =
        let w : i ≡ j = (refusals 24 24 i j e).1 in
        record {
          at = record { before = p; there = k; after = b; split = x; place = omega arith };
          begins = v;
          none_within = λ w. not_refused 24 i (sym (q w.0) ∙ complete limit (p ++ k ∷ w.0) (subst (λ (x : List Kind). Document limit x) (append_one p k w.0) w.1));
          beyond = (L, (refused_26 (p ++ k ∷ []) L (i + 1) y).begins);
        }
    go a (early i h v q) e = let w = (refusals 26 24 i j e).0 in absurd (omega arith)

-- ---- and that it is given wherever that is so

-- a beginning of a beginning is one
begins_first : (l : ℕ) (a : List Kind) (k : Kind) (m : List Kind) → Begins l (a ++ k ∷ m) → Begins l (a ++ k ∷ [])
begins_first l a k m b =
    (m ++ b.0, subst (λ (x : List Kind). Document l x) (append_assoc a (k ∷ m) b.0 ∙ sym (append_one a k (m ++ b.0))) b.1)

-- whatever is refused at an entry, no document within the limit begins with the entries up to it
none_at : (a : List Kind) (k : Kind) (limit n j : ℕ) → ((r : List Kind) → check (a ++ k ∷ r) limit Start Top [] 0 ≡ Err (refusal n j)) → Begins limit (a ++ k ∷ []) → ⊥
none_at a k limit n j q b =
    not_refused n j (sym (q b.0) ∙ complete limit (a ++ k ∷ b.0) (subst (λ (x : List Kind). Document limit x) (append_one a k b.0) b.1))

module _ (ks : List Kind) (limit j : ℕ) (at : Split ks j) (begins : Begins limit at.before) (stops : Begins limit (up_to at) → ⊥) where
  -- not later: the entries up to it begin no document
  not_later : (l : ℕ) (m : List Kind) → l ≤ limit → Begins l (at.before ++ at.there ∷ m) → ⊥
  not_later l m le b =
      let f = begins_first l at.before at.there m b in
      stops (f.0, document_more (up_to at ++ f.0) l limit le f.1)

  -- not earlier: those before it do
  not_earlier : (p : List Kind) (k : Kind) (n i : ℕ) (m : List Kind) → ((r : List Kind) → check (p ++ k ∷ r) limit Start Top [] 0 ≡ Err (refusal n i)) → at.before ≡ p ++ k ∷ m → ⊥
  not_earlier p k n i m q e = none_at p k limit n i q (begins_first limit p k m (subst (λ (l : List Kind). Begins limit l) e begins))

  -- so the walk stops there, and it is 25 or 24
  pub stopped_there : (X : Told Unit → Type 0)
      → (((L : ℕ) → limit ≤ L → (r : List Kind) → check (at.before ++ at.there ∷ r) L Start Top [] 0 ≡ Err (not_allowed_here j)) → X (Err (not_allowed_here j)))
      → ((L : ℕ) → Begins L (up_to at) → X (Err (depth_limit_passed j)))
      → X (walk_of ks limit)
  stopped_there X bad over = go (walk_of ks limit) (answer limit ks)
    where
      here : (p : List Kind) (k : Kind) (i : ℕ) → i ≡ 0 + length p → p ≡ at.before → i ≡ j
      here p k i h e = let l : length p ≡ length at.before = ap length e in let w = at.place in omega arith

      go : (a : Told Unit) → Outcome limit Start Top [] (λ k. k) ks 0 a → X a
      go a (whole d q) = absurd (not_later limit at.after (omega arith) ([], subst (λ (l : List Kind). Document limit l) (at.split ∙ sym (append-nil (at.before ++ at.there ∷ at.after))) d))
      go a (wrong p k b i x h v q) = by (compared p k b at.before at.there at.after (sym x ∙ at.split))
        where
          by : Compared p k at.before at.there → X (Err (not_allowed_here i))
          by (alike e f) =
              let z : i ≡ j = here p k i h e in
              subst (λ (n : ℕ). X (Err (not_allowed_here n))) (sym z)
              (bad (λ L le r. subst (λ (y : List Kind). check (y ++ at.there ∷ r) L Start Top [] 0 ≡ Err (not_allowed_here j)) e
              (subst (λ (y : Kind). check (p ++ y ∷ r) L Start Top [] 0 ≡ Err (not_allowed_here j)) f
              (subst (λ (n : ℕ). check (p ++ k ∷ r) L Start Top [] 0 ≡ Err (not_allowed_here n)) z (q L le r)))))
          by (first_ends m e) = absurd (not_earlier p k 25 i m (λ r. q limit (omega arith) r) e)
          by (second_ends m e) = absurd (not_later limit m (omega arith) (subst (λ (l : List Kind). Begins limit l) e v))
      go a (deep p k b i x h v q L le y) = by (compared p k b at.before at.there at.after (sym x ∙ at.split))
        where
          by : Compared p k at.before at.there → X (Err (depth_limit_passed i))
          by (alike e f) =
              let z : i ≡ j = here p k i h e in
              subst (λ (n : ℕ). X (Err (depth_limit_passed n))) (sym z)
              (over L (subst (λ (l : List Kind). Begins L (l ++ at.there ∷ [])) e (subst (λ (c : Kind). Begins L (p ++ c ∷ [])) f (refused_26 (p ++ k ∷ []) L (i + 1) y).begins)))
          by (first_ends m e) = absurd (not_earlier p k 24 i m q e)
          by (second_ends m e) = absurd (not_later limit m (omega arith) (subst (λ (l : List Kind). Begins limit l) e v))
      go a (early i h v q) = absurd (not_later limit at.after (omega arith) (subst (λ (l : List Kind). Begins limit l) at.split v))

pub gives_25 : (ks : List Kind) (limit j : ℕ) → NotAllowed ks limit j → walk_of ks limit ≡ Err (not_allowed_here j)
gives_25 ks limit j n =
    stopped_there ks limit j n.at n.begins (n.none_does limit) (λ a. a ≡ Err (not_allowed_here j)) (λ q. refl) (λ L b. absurd (n.none_does L b))

pub gives_24 : (ks : List Kind) (limit j : ℕ) → TooDeep ks limit j → walk_of ks limit ≡ Err (depth_limit_passed j)
gives_24 ks limit j t =
    stopped_there ks limit j t.at t.begins t.none_within (λ a. a ≡ Err (depth_limit_passed j))
    (λ q. absurd (no_document t.at.before t.at.there limit t.beyond.0 25 j (λ r. q (limit + t.beyond.0) (omega arith) r) t.beyond.1))
    (λ L b. refl)

pub gives_26 : (ks : List Kind) (limit : ℕ) → Begins limit ks → (Document limit ks → ⊥) → walk_of ks limit ≡ Err (tape_ends_early (length ks))
gives_26 ks limit b n = go (walk_of ks limit) (answer limit ks)
  where
    clash : (p : List Kind) (k : Kind) (c : List Kind) (m j : ℕ) → ks ≡ p ++ k ∷ c → ((r : List Kind) → check (p ++ k ∷ r) limit Start Top [] 0 ≡ Err (refusal m j)) → ⊥
    clash p k c m j x q =
        let d : Document limit (p ++ k ∷ (c ++ b.0)) = subst (λ (l : List Kind). Document limit l) (ap (λ (l : List Kind). l ++ b.0) x ∙ append_assoc p (k ∷ c) b.0) b.1 in
        not_refused m j (sym (q (c ++ b.0)) ∙ complete limit (p ++ k ∷ (c ++ b.0)) d)

    go : (a : Told Unit) → Outcome limit Start Top [] (λ k. k) ks 0 a → a ≡ Err (tape_ends_early (length ks))
    go a (whole d q) = absurd (n d)
    go a (wrong p k c j x h v q) = absurd (clash p k c 25 j x (λ r. q limit (omega arith) r))
    go a (deep p k c j x h v q L le y) = absurd (clash p k c 24 j x q)
    go a (early j h v q) = let e : j ≡ length ks = omega arith in ap (λ (n : ℕ). Err (tape_ends_early n)) e

-- ---- a higher limit

-- a higher limit gives the same answer, unless it was 24
pub higher : (ks : List Kind) (limit l : ℕ) → limit ≤ l → ((j : ℕ) → walk_of ks limit ≡ Err (depth_limit_passed j) → ⊥) → walk_of ks l ≡ walk_of ks limit
higher ks limit l le no24 = go (walk_of ks limit) (answer limit ks) (λ j. no24 j)
  where
    go : (a : Told Unit) → Outcome limit Start Top [] (λ k. k) ks 0 a → ((j : ℕ) → a ≡ Err (depth_limit_passed j) → ⊥) → walk_of ks l ≡ a
    go a (whole d q) n = q l le
    go a (wrong p k b i x h v q) n = ap (λ (z : List Kind). walk_of z l) x ∙ q l le b
    go a (deep p k b i x h v q L le y) n = absurd (n i refl)
    go a (early i h v q) n = q l le

pub accepted_higher : (ks : List Kind) (limit l : ℕ) → limit ≤ l → walk_of ks limit ≡ Ok tt → walk_of ks l ≡ Ok tt
accepted_higher ks limit l le e = higher ks limit l le (λ j z. not_refused 24 j (sym z ∙ e)) ∙ e
