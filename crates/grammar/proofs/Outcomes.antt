-- What an answer says of the entries: the theorem behind those of acceptance and refusals, by induction on the entries. Assumes nothing.
use Rattle.std.proofs.Common.{Ok, Err}
use Rattle.text.specs.Refusals.{Told, depth_limit_passed, not_allowed_here, tape_ends_early}
use Prim.Native.Nat.{ℕ, suc, ◌+◌, ◌<◌, ◌≤◌}
use native.Mathlib.Omega.{arith}
use mathlib.Core.Path.{◌≡◌, refl, sym, ap, ◌∙◌, subst}
use mathlib.Core.Bool.{Bool, true, false, cond}
use mathlib.Core.List.{List, [], ◌∷◌, ◌++◌}
use lib.Dec.{ltb}
use lib.ListN.{length}
use borrow.Author.Tests.{lt-ltb, le-ltb, ltb-true, ltb-false}
use Rattle.grammar.specs.Grammar.{Document}
use Rattle.grammar.specs.Steps.{step_of}
use Rattle.grammar.specs.Walk.{ended, finish, by_move, check}
use Rattle.grammar.proofs.Meaning.{AtBehind, Means, Popped, Next, step_means}
use Rattle.grammar.proofs.Viable.{Viable, behind_viable, viable}
use Rattle.grammar.proofs.Early.{opened}
use Rattle.grammar.specs.declared.kinds.Kind.{Kind}
use Rattle.grammar.specs.declared.states.Frame.{Frame}
use Rattle.grammar.specs.declared.states.Frame.TheVariants.{Top, Square, Tuple, Struct, Key, Pair}
use Rattle.grammar.specs.declared.states.Want.{Want}
use Rattle.grammar.specs.declared.states.Want.TheVariants.{Start, Must, Item, First, FirstName, Named, Behind, Field, FieldName}
use Rattle.grammar.specs.declared.states.Move.{Move}
use Rattle.grammar.specs.declared.states.Move.TheVariants.{Stay, Push, Pop, Bad}

module _ (lim : ℕ) where
  -- What an answer says of the entries ks, read from entry i on behind p: a document; or a place such that the entries before it begin a
  -- document and, whatever follows, no limit from this one on lets the entry there pass (25), or this limit does not (24); or all begin one (26)
  pub data Outcome (w : Want) (f : Frame) (σ : List Frame) (p : List Kind → List Kind) (ks : List Kind) (i : ℕ) : Told Unit → Type 0 where
    whole : Document lim (p ks) → ((L : ℕ) → lim ≤ L → check ks L w f σ i ≡ Ok tt) → Outcome w f σ p ks i (Ok tt)
    wrong : (a : List Kind) (k : Kind) (b : List Kind) (j : ℕ) → ks ≡ a ++ k ∷ b → j ≡ i + length a → Viable lim (λ r. p (a ++ r))
        → ((L : ℕ) → lim ≤ L → (r : List Kind) → check (a ++ k ∷ r) L w f σ i ≡ Err (not_allowed_here j)) → Outcome w f σ p ks i (Err (not_allowed_here j))
    deep : (a : List Kind) (k : Kind) (b : List Kind) (j : ℕ) → ks ≡ a ++ k ∷ b → j ≡ i + length a → Viable lim (λ r. p (a ++ r))
        → ((r : List Kind) → check (a ++ k ∷ r) lim w f σ i ≡ Err (depth_limit_passed j)) → (L : ℕ) → lim ≤ L → check (a ++ k ∷ []) L w f σ i ≡ Err (tape_ends_early (j + 1)) → Outcome w f σ p ks i (Err (depth_limit_passed j))
    early : (j : ℕ) → j ≡ i + length ks → Viable lim (λ r. p (ks ++ r)) → ((L : ℕ) → lim ≤ L → check ks L w f σ i ≡ Err (tape_ends_early j)) → Outcome w f σ p ks i (Err (tape_ends_early j))

  -- an entry that passes
  on : {w : Want} {f : Frame} {σ : List Frame} {p : List Kind → List Kind} {ks : List Kind} {i : ℕ} {w' : Want} {f' : Frame} {σ' : List Frame} {ans : Told Unit}
      → (k : Kind) → ((L : ℕ) → lim ≤ L → (r : List Kind) → check (k ∷ r) L w f σ i ≡ check r L w' f' σ' (i + 1))
      → Outcome w' f' σ' (λ r. p (k ∷ r)) ks (i + 1) ans → Outcome w f σ p (k ∷ ks) i ans
  on {ks = ks} k go (whole d q) = whole d (λ L le. go L le ks ∙ q L le)
  on k go (wrong a c b j e h v nn) = wrong (k ∷ a) c b j (ap (λ (l : List Kind). k ∷ l) e) (omega arith) v (λ L le r. go L le (a ++ c ∷ r) ∙ nn L le r)
  on k go (deep a c b j e h v nn L le q) = deep (k ∷ a) c b j (ap (λ (l : List Kind). k ∷ l) e) (omega arith) v (λ r. go lim (omega arith) (a ++ c ∷ r) ∙ nn r) L le (go L le (a ++ c ∷ []) ∙ q)
  on {ks = ks} k go (early j h v q) = early j (omega arith) v (λ L le. go L le ks ∙ q L le)

  moved : (w : Want) (k : Kind) (L : ℕ) (f : Frame) (σ : List Frame) (i : ℕ) (r : List Kind) (m : Move) → step_of w k f ≡ m
      → check (k ∷ r) L w f σ i ≡ by_move m L f σ i (λ w' f' σ'. check r L w' f' σ' (i + 1))
  unfolding check
  moved w k L f σ i r m e = ap (λ (x : Move). by_move x L f σ i (λ w' f' σ'. check r L w' f' σ' (i + 1))) e

  pushed : (w : Want) (k : Kind) (L : ℕ) (f : Frame) (σ : List Frame) (i : ℕ) (r : List Kind) (w' : Want) (g : Frame) → step_of w k f ≡ Push w' g → length σ < L
      → check (k ∷ r) L w f σ i ≡ check r L w' g (f ∷ σ) (i + 1)
  pushed w k L f σ i r w' g e h = moved w k L f σ i r (Push w' g) e ∙ ap (λ (t : Bool). cond t (check r L w' g (f ∷ σ) (i + 1)) (Err (depth_limit_passed i))) (lt-ltb (length σ) L h)

  stopped : (w : Want) (k : Kind) (L : ℕ) (f : Frame) (σ : List Frame) (i : ℕ) (r : List Kind) (w' : Want) (g : Frame) → step_of w k f ≡ Push w' g → L ≤ length σ
      → check (k ∷ r) L w f σ i ≡ Err (depth_limit_passed i)
  stopped w k L f σ i r w' g e h = moved w k L f σ i r (Push w' g) e ∙ ap (λ (t : Bool). cond t (check r L w' g (f ∷ σ) (i + 1)) (Err (depth_limit_passed i))) (le-ltb (length σ) L h)

  module _ (w : Want) (k : Kind) (f : Frame) (p : List Kind → List Kind) (ks : List Kind) (i : ℕ) where
    popping : (σ : List Frame) → step_of w k f ≡ Pop → Popped lim σ (λ r. p (k ∷ r))
        → ((w' : Want) (g : Frame) (τ : List Frame) → Means lim w' τ g (λ r. p (k ∷ r)) → Outcome w' g τ (λ r. p (k ∷ r)) ks (i + 1) (check ks lim w' g τ (i + 1)))
        → Outcome w f σ p (k ∷ ks) i (check (k ∷ ks) lim w f σ i)
    popping [] e n rec = absurd n
    popping (g ∷ τ) e n rec =
        subst (λ (x : Told Unit). Outcome w f (g ∷ τ) p (k ∷ ks) i x) (sym (moved w k lim f (g ∷ τ) i ks Pop e))
        (on k (λ L le r. moved w k L f (g ∷ τ) i r Pop e) (rec Behind g τ n))

    pushing : (σ : List Frame) (w' : Want) (g : Frame) (t : Bool) → ltb (length σ) lim ≡ t → step_of w k f ≡ Push w' g → Viable lim p → (length σ < lim → Means lim w' (f ∷ σ) g (λ r. p (k ∷ r)))
        → ((w' : Want) (g : Frame) (τ : List Frame) → Means lim w' τ g (λ r. p (k ∷ r)) → Outcome w' g τ (λ r. p (k ∷ r)) ks (i + 1) (check ks lim w' g τ (i + 1)))
        → Outcome w f σ p (k ∷ ks) i (check (k ∷ ks) lim w f σ i)
    pushing σ w' g true q e v n rec =
        let h : length σ < lim = ltb-true (length σ) lim q in
        subst (λ (x : Told Unit). Outcome w f σ p (k ∷ ks) i x) (sym (pushed w k lim f σ i ks w' g e h))
        (on k (λ L le r. pushed w k L f σ i r w' g e (omega arith)) (rec w' g (f ∷ σ) (n h)))
    pushing σ w' g false q e v n rec =
        let h : lim ≤ length σ = ltb-false (length σ) lim q in
        subst (λ (x : Told Unit). Outcome w f σ p (k ∷ ks) i x) (sym (stopped w k lim f σ i ks w' g e h))
        (deep [] k ks i refl (omega arith) v (λ r. stopped w k lim f σ i r w' g e h) (suc (length σ)) (omega arith) (pushed w k (suc (length σ)) f σ i [] w' g e (omega arith) ∙ opened w k f w' g e (suc (length σ)) (f ∷ σ) (i + 1)))

    by_step : (σ : List Frame) (m : Move) → step_of w k f ≡ m → Viable lim p → Next lim m σ f (λ r. p (k ∷ r))
        → ((w' : Want) (g : Frame) (τ : List Frame) → Means lim w' τ g (λ r. p (k ∷ r)) → Outcome w' g τ (λ r. p (k ∷ r)) ks (i + 1) (check ks lim w' g τ (i + 1)))
        → Outcome w f σ p (k ∷ ks) i (check (k ∷ ks) lim w f σ i)
    by_step σ (Stay w' g) e v n rec =
        subst (λ (x : Told Unit). Outcome w f σ p (k ∷ ks) i x) (sym (moved w k lim f σ i ks (Stay w' g) e))
        (on k (λ L le r. moved w k L f σ i r (Stay w' g) e) (rec w' g σ n))
    by_step σ (Push w' g) e v n rec = pushing σ w' g (ltb (length σ) lim) refl e v n rec
    by_step σ Pop e v n rec = popping σ e n rec
    by_step σ Bad e v n rec =
        subst (λ (x : Told Unit). Outcome w f σ p (k ∷ ks) i x) (sym (moved w k lim f σ i ks Bad e))
        (wrong [] k ks i refl (omega arith) v (λ L le r. moved w k L f σ i r Bad e))

  ending : (f : Frame) (w : Want) (σ : List Frame) (i : ℕ) (p : List Kind → List Kind) → AtBehind lim σ f p → ((L : ℕ) → check [] L w f σ i ≡ ended f i) → Outcome w f σ p [] i (ended f i)
  ending Top w [] i p s q = whole s (λ L le. q L)
  ending Top w (g ∷ σ) i p s q = absurd s
  ending Square w σ i p s q = early i (omega arith) (behind_viable lim σ Square p s) (λ L le. q L)
  ending Tuple w σ i p s q = early i (omega arith) (behind_viable lim σ Tuple p s) (λ L le. q L)
  ending Struct w σ i p s q = early i (omega arith) (behind_viable lim σ Struct p s) (λ L le. q L)
  ending Key w σ i p s q = early i (omega arith) (behind_viable lim σ Key p s) (λ L le. q L)
  ending Pair w σ i p s q = early i (omega arith) (behind_viable lim σ Pair p s) (λ L le. q L)

  finishing : (w : Want) (f : Frame) (σ : List Frame) (i : ℕ) (p : List Kind → List Kind) → Means lim w σ f p → Outcome w f σ p [] i (finish w f i)
  unfolding check
  finishing Start f σ i p s = early i (omega arith) (viable lim Start σ f p s) (λ L le. refl)
  finishing Must f σ i p s = early i (omega arith) (viable lim Must σ f p s) (λ L le. refl)
  finishing Item f σ i p s = early i (omega arith) (viable lim Item σ f p s) (λ L le. refl)
  finishing First f σ i p s = early i (omega arith) (viable lim First σ f p s) (λ L le. refl)
  finishing FirstName f σ i p s = early i (omega arith) (viable lim FirstName σ f p s) (λ L le. refl)
  finishing Named f σ i p s = ending f Named σ i p s.0 (λ L. refl)
  finishing Behind f σ i p s = ending f Behind σ i p s (λ L. refl)
  finishing Field f σ i p s = early i (omega arith) (viable lim Field σ f p s) (λ L le. refl)
  finishing FieldName f σ i p s = early i (omega arith) (viable lim FieldName σ f p s) (λ L le. refl)

  pub outcome : (ks : List Kind) (w : Want) (f : Frame) (σ : List Frame) (i : ℕ) (p : List Kind → List Kind) → Means lim w σ f p → Outcome w f σ p ks i (check ks lim w f σ i)
  unfolding check
  outcome [] w f σ i p s = finishing w f σ i p s
  outcome (k ∷ ks) w f σ i p s =
      by_step w k f p ks i σ (step_of w k f) refl (viable lim w σ f p s) (step_means lim w k σ f p s) (λ w' g τ n. outcome ks w' g τ (i + 1) (λ r. p (k ∷ r)) n)

  start : Means lim Start [] Top (λ k. k)
  start n v h = record { attrs = n; tree = v; fits = h; written = refl }

  pub answer : (ks : List Kind) → Outcome Start Top [] (λ k. k) ks 0 (check ks lim Start Top [] 0)
  answer ks = outcome ks Start Top [] 0 (λ k. k) start
