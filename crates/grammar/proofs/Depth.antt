-- 24 stands at the opening bracket that makes the open ones more than the limit, and no accepted walk has more open than that. Assumes nothing.
use Rattle.std.proofs.Common.{Ok, Err}
use Rattle.text.specs.Refusals.{Told, refusal, depth_limit_passed}
use Prim.Native.Nat.{ℕ, ◌+◌, ◌-◌, ◌≤◌}
use native.Mathlib.Omega.{arith}
use mathlib.Core.Path.{◌≡◌, refl, sym, ap, ◌∙◌}
use mathlib.Core.Bool.{Bool, true, false, cond}
use mathlib.Core.List.{List, [], ◌∷◌, ◌++◌}
use lib.Dec.{ltb}
use lib.ListN.{length}
use borrow.Author.Tests.{ltb-true, ltb-false}
use Rattle.grammar.specs.Kinds.{side_of}
use Rattle.grammar.specs.Steps.{step_of}
use Rattle.grammar.specs.Walk.{ended, finish, popped, by_move, check, walk_of}
use Rattle.grammar.specs.Refused.{open_behind, open_after, OpensOver}
use Rattle.grammar.proofs.Accepts.{not_refused, refusals}
use Rattle.grammar.proofs.Sides.{Agrees, agrees}
use Rattle.grammar.specs.declared.kinds.Kind.{Kind}
use Rattle.grammar.specs.declared.kinds.Side.{Side}
use Rattle.grammar.specs.declared.kinds.Side.TheVariants.{Opens, Closes, Neither}
use Rattle.grammar.specs.declared.states.Frame.{Frame}
use Rattle.grammar.specs.declared.states.Frame.TheVariants.{Top, Square, Tuple, Struct, Key, Pair}
use Rattle.grammar.specs.declared.states.Want.{Want}
use Rattle.grammar.specs.declared.states.Want.TheVariants.{Start, Must, Item, First, FirstName, Named, Behind, Field, FieldName}
use Rattle.grammar.specs.declared.states.Move.{Move}
use Rattle.grammar.specs.declared.states.Move.TheVariants.{Stay, Push, Pop, Bad}

-- the same of the entries from entry i on, where so many brackets were open before them
record Over (ks : List Kind) (limit d i j : ℕ) : Type 0 where
  before : List Kind
  there : Kind
  after : List Kind
  split : ks ≡ before ++ there ∷ after
  place : j ≡ i + length before
  opens : side_of there ≡ Opens
  full : open_after before d ≡ limit

-- an entry more in front
over_next : (k : Kind) (ks : List Kind) (limit d e i j : ℕ) → open_behind (side_of k) d ≡ e → Over ks limit e (i + 1) j → Over (k ∷ ks) limit d i j
unfolding open_after
over_next k ks limit d e i j q o =
    record {
      before = k ∷ o.before;
      there = o.there;
      after = o.after;
      split = ap (λ (l : List Kind). k ∷ l) o.split;
      place = omega (arith, o.place);
      opens = o.opens;
      full = ap (open_after o.before) q ∙ o.full;
    }

-- the side of an entry, by what it does
stays : (s : Side) (w : Want) (f : Frame) → Agrees s (Stay w f) → s ≡ Neither
stays Opens w f a = absurd a
stays Closes w f a = absurd a
stays Neither w f a = refl

pushes : (s : Side) (w : Want) (f : Frame) → Agrees s (Push w f) → s ≡ Opens
pushes Opens w f a = refl
pushes Closes w f a = absurd a
pushes Neither w f a = absurd a

pops : (s : Side) → Agrees s Pop → s ≡ Closes
pops Opens a = absurd a
pops Closes a = refl
pops Neither a = absurd a

not_24 : {X : Type 0} (n i j : ℕ) → (n ≡ 24 → ⊥) → ◌≡◌ {A = Told Unit} (Err (refusal n i)) (Err (depth_limit_passed j)) → X
not_24 n i j h e = absurd (h (refusals n 24 i j e).0)

ended_24 : {X : Type 0} (f : Frame) (i j : ℕ) → ended f i ≡ Err (depth_limit_passed j) → X
ended_24 Top i j e = not_refused 24 j (sym e)
ended_24 Square i j e = not_24 26 i j (λ z. absurd (omega arith)) e
ended_24 Tuple i j e = not_24 26 i j (λ z. absurd (omega arith)) e
ended_24 Struct i j e = not_24 26 i j (λ z. absurd (omega arith)) e
ended_24 Key i j e = not_24 26 i j (λ z. absurd (omega arith)) e
ended_24 Pair i j e = not_24 26 i j (λ z. absurd (omega arith)) e

finish_24 : {X : Type 0} (w : Want) (f : Frame) (i j : ℕ) → finish w f i ≡ Err (depth_limit_passed j) → X
finish_24 Start f i j e = not_24 26 i j (λ z. absurd (omega arith)) e
finish_24 Must f i j e = not_24 26 i j (λ z. absurd (omega arith)) e
finish_24 Item f i j e = not_24 26 i j (λ z. absurd (omega arith)) e
finish_24 First f i j e = not_24 26 i j (λ z. absurd (omega arith)) e
finish_24 FirstName f i j e = not_24 26 i j (λ z. absurd (omega arith)) e
finish_24 Named f i j e = ended_24 f i j e
finish_24 Behind f i j e = ended_24 f i j e
finish_24 Field f i j e = not_24 26 i j (λ z. absurd (omega arith)) e
finish_24 FieldName f i j e = not_24 26 i j (λ z. absurd (omega arith)) e

module _ (limit j : ℕ) where
  module _ (k : Kind) (ks : List Kind) (f : Frame) (i : ℕ)
      (rec : (w : Want) (g : Frame) (τ : List Frame) → length τ ≤ limit → check ks limit w g τ (i + 1) ≡ Err (depth_limit_passed j) → Over ks limit (length τ) (i + 1) j) where
    by_pop : (σ : List Frame) → side_of k ≡ Closes → length σ ≤ limit → popped σ (λ g τ. check ks limit Behind g τ (i + 1)) i ≡ Err (depth_limit_passed j) → Over (k ∷ ks) limit (length σ) i j
    by_pop [] s h e = not_24 25 i j (λ z. absurd (omega arith)) e
    by_pop (g ∷ τ) s h e =
        let q : length (g ∷ τ) - 1 ≡ length τ = omega arith in
        over_next k ks limit (length (g ∷ τ)) (length τ) i j (ap (λ (x : Side). open_behind x (length (g ∷ τ))) s ∙ q) (rec Behind g τ (omega arith) e)

    by_push : (σ : List Frame) (w : Want) (g : Frame) → side_of k ≡ Opens → length σ ≤ limit → (t : Bool) → ltb (length σ) limit ≡ t
        → ◌≡◌ {A = Told Unit} (cond t (check ks limit w g (f ∷ σ) (i + 1)) (Err (depth_limit_passed i))) (Err (depth_limit_passed j)) → Over (k ∷ ks) limit (length σ) i j
    unfolding open_after
    by_push σ w g s h true q e =
        let z : length σ + 1 ≡ length (f ∷ σ) = omega arith in
        over_next k ks limit (length σ) (length (f ∷ σ)) i j (ap (λ (x : Side). open_behind x (length σ)) s ∙ z) (rec w g (f ∷ σ) (omega (arith, ltb-true (length σ) limit q)) e)
    by_push σ w g s h false q e =
        let l : limit ≤ length σ = ltb-false (length σ) limit q in
        record { before = []; there = k; after = ks; split = refl; place = omega (arith, (refusals 24 24 i j e).1); opens = s; full = omega arith }

    by-move : (σ : List Frame) (m : Move) → Agrees (side_of k) m → length σ ≤ limit
        → by_move m limit f σ i (λ w g τ. check ks limit w g τ (i + 1)) ≡ Err (depth_limit_passed j) → Over (k ∷ ks) limit (length σ) i j
    by-move σ (Stay w g) a h e = over_next k ks limit (length σ) (length σ) i j (ap (λ (x : Side). open_behind x (length σ)) (stays (side_of k) w g a)) (rec w g σ h e)
    by-move σ (Push w g) a h e = by_push σ w g (pushes (side_of k) w g a) h (ltb (length σ) limit) refl e
    by-move σ Pop a h e = by_pop σ (pops (side_of k) a) h e
    by-move σ Bad a h e = not_24 25 i j (λ z. absurd (omega arith)) e

  over : (ks : List Kind) (w : Want) (f : Frame) (σ : List Frame) (i : ℕ) → length σ ≤ limit → check ks limit w f σ i ≡ Err (depth_limit_passed j) → Over ks limit (length σ) i j
  unfolding check
  over [] w f σ i h e = finish_24 w f i j e
  over (k ∷ ks) w f σ i h e = by-move k ks f i (λ w' g τ h' e'. over ks w' g τ (i + 1) h' e') σ (step_of w k f) (agrees w k f) h e

-- 24 stands at an opening bracket, and the limit is how many are open before it
pub refused_24_opens : (ks : List Kind) (limit j : ℕ) → walk_of ks limit ≡ Err (depth_limit_passed j) → OpensOver ks limit j
refused_24_opens ks limit j e =
    let o = over limit j ks Start Top [] 0 (omega arith) e in
    record {
      at = record { before = o.before; there = o.there; after = o.after; split = o.split; place = omega (arith, o.place) };
      opens = o.opens;
      full = o.full;
    }

-- ---- no accepted walk has more brackets open than its limit

module _ (limit : ℕ) (k : Kind) (a b : List Kind) (f : Frame) (i : ℕ)
    (rec : (w : Want) (g : Frame) (τ : List Frame) → length τ ≤ limit → check (a ++ b) limit w g τ (i + 1) ≡ Ok tt → open_after a (length τ) ≤ limit) where
  -- so many are open behind the entry
  open_then : (d e : ℕ) → open_behind (side_of k) d ≡ e → open_after a e ≤ limit → open_after (k ∷ a) d ≤ limit
  unfolding open_after
  open_then d e q h = rw q h

  pop_within : (σ : List Frame) → side_of k ≡ Closes → length σ ≤ limit → popped σ (λ g τ. check (a ++ b) limit Behind g τ (i + 1)) i ≡ Ok tt → open_after (k ∷ a) (length σ) ≤ limit
  pop_within [] s h e = not_refused 25 i e
  pop_within (g ∷ τ) s h e =
      let q : length (g ∷ τ) - 1 ≡ length τ = omega arith in
      open_then (length (g ∷ τ)) (length τ) (ap (λ (x : Side). open_behind x (length (g ∷ τ))) s ∙ q) (rec Behind g τ (omega arith) e)

  push_within : (σ : List Frame) (w : Want) (g : Frame) → side_of k ≡ Opens → (t : Bool) → ltb (length σ) limit ≡ t
      → ◌≡◌ {A = Told Unit} (cond t (check (a ++ b) limit w g (f ∷ σ) (i + 1)) (Err (depth_limit_passed i))) (Ok tt) → open_after (k ∷ a) (length σ) ≤ limit
  push_within σ w g s true q e =
      let z : length σ + 1 ≡ length (f ∷ σ) = omega arith in
      open_then (length σ) (length (f ∷ σ)) (ap (λ (x : Side). open_behind x (length σ)) s ∙ z) (rec w g (f ∷ σ) (omega (arith, ltb-true (length σ) limit q)) e)
  push_within σ w g s false q e = not_refused 24 i e

  move_within : (σ : List Frame) (m : Move) → Agrees (side_of k) m → length σ ≤ limit → by_move m limit f σ i (λ w g τ. check (a ++ b) limit w g τ (i + 1)) ≡ Ok tt
      → open_after (k ∷ a) (length σ) ≤ limit
  move_within σ (Stay w g) s h e = open_then (length σ) (length σ) (ap (λ (x : Side). open_behind x (length σ)) (stays (side_of k) w g s)) (rec w g σ h e)
  move_within σ (Push w g) s h e = push_within σ w g (pushes (side_of k) w g s) (ltb (length σ) limit) refl e
  move_within σ Pop s h e = pop_within σ (pops (side_of k) s) h e
  move_within σ Bad s h e = not_refused 25 i e

within : (limit : ℕ) (a b : List Kind) (w : Want) (f : Frame) (σ : List Frame) (i : ℕ) → length σ ≤ limit → check (a ++ b) limit w f σ i ≡ Ok tt → open_after a (length σ) ≤ limit
unfolding check open_after
within limit [] b w f σ i h e = h
within limit (k ∷ a) b w f σ i h e = move_within limit k a b f i (λ w' g τ h' e'. within limit a b w' g τ (i + 1) h' e') σ (step_of w k f) (agrees w k f) h e

-- behind any number of its entries
pub accepted_within : (ks : List Kind) (limit : ℕ) → walk_of ks limit ≡ Ok tt → (a b : List Kind) → ks ≡ a ++ b → open_after a 0 ≤ limit
accepted_within ks limit e a b s = within limit a b Start Top [] 0 (omega arith) (sym (ap (λ (l : List Kind). walk_of l limit) s) ∙ e)
