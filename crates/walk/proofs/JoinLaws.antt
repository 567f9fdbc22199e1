-- The loop that joins: an accepted walk never closes what is not open, nor opens more than the limit. Assumes nothing.
use Rattle.std.proofs.Common.{Ok, Err}
use Rattle.text.specs.Refusals.{Told, depth_limit_passed}
use Prim.Native.Nat.{ℕ, ◌+◌, ◌-◌, ◌<◌, ◌≤◌}
use native.Mathlib.Omega.{arith}
use mathlib.Core.Path.{◌≡◌, refl, sym, ap, ◌∙◌, subst}
use mathlib.Core.Bool.{Bool, true, false, cond}
use mathlib.Core.List.{List, [], ◌∷◌}
use lib.Dec.{ltb}
use lib.ListN.{length, set, get_or}
use lib.Seq.{get_or-set_same, get_or-set_other}
use borrow.Author.Tests.{ltb-true, ltb-false}
use Rattle.rows.specs.Rows.{entry_at, entries_of}
use Rattle.grammar.specs.declared.kinds.Kind.{Kind}
use Rattle.grammar.specs.declared.kinds.Side.{Side}
use Rattle.grammar.specs.declared.kinds.Side.TheVariants.{Opens, Closes, Neither}
use Rattle.grammar.specs.declared.states.Frame.{Frame}
use Rattle.grammar.specs.declared.states.Frame.TheVariants.{Top}
use Rattle.grammar.specs.declared.states.Want.{Want}
use Rattle.grammar.specs.declared.states.Want.TheVariants.{Start, Behind}
use Rattle.grammar.specs.declared.states.Move.{Move}
use Rattle.grammar.specs.declared.states.Move.TheVariants.{Stay, Push, Pop, Bad}
use Rattle.grammar.specs.Kinds.{kind_of, kinds_of, side_of}
use Rattle.grammar.specs.Steps.{step_of}
use Rattle.grammar.specs.Walk.{popped, by_move, check, joined, by_side, link, walk_of, linked_of}
use Rattle.grammar.proofs.Accepts.{not_refused}
use Rattle.grammar.proofs.Sides.{Agrees, agrees}
use Rattle.walk.proofs.Rest.{rest, rest_start, rest_front, rest_end}
use Rattle.walk.proofs.Stacks.{stack_of, stack_push, stack_pop}

-- accepted from entry i on, with so many brackets open, within the limit
pub record Going (limit : ℕ) (ks : List Kind) (depth i : ℕ) : Type 0 where
  pub want : Want
  pub inside : Frame
  pub outer : List Frame
  pub deep : length outer ≡ depth
  pub goes : check ks limit want inside outer i ≡ Ok tt

module _ (limit : ℕ) (k : Kind) (ks : List Kind) (depth i : ℕ) where
  step_goes : (g : Going limit (k ∷ ks) depth i) (m : Move) → step_of g.want k g.inside ≡ m
      → by_move m limit g.inside g.outer i (λ w f σ. check ks limit w f σ (i + 1)) ≡ Ok tt
  unfolding check
  step_goes g m e = sym (ap (λ (x : Move). by_move x limit g.inside g.outer i (λ w f σ. check ks limit w f σ (i + 1))) e) ∙ g.goes

  pub opening : side_of k ≡ Opens → Going limit (k ∷ ks) depth i → (depth < limit) × Going limit ks (depth + 1) (i + 1)
  opening e g = go (step_of g.want k g.inside) (subst (λ (s : Side). Agrees s (step_of g.want k g.inside)) e (agrees g.want k g.inside)) (step_goes g (step_of g.want k g.inside) refl)
    where
      deeper : (w : Want) (f : Frame) (t : Bool) → ltb (length g.outer) limit ≡ t
          → ◌≡◌ {A = Told Unit} (cond t (check ks limit w f (g.inside ∷ g.outer) (i + 1)) (Err (depth_limit_passed i))) (Ok tt) → (depth < limit) × Going limit ks (depth + 1) (i + 1)
      deeper w f true q r = (omega (arith, ltb-true (length g.outer) limit q, g.deep), record { want = w; inside = f; outer = g.inside ∷ g.outer; deep = omega (arith, g.deep); goes = r })
      deeper w f false q r = not_refused 24 i r

      go : (m : Move) → Agrees Opens m → by_move m limit g.inside g.outer i (λ w f σ. check ks limit w f σ (i + 1)) ≡ Ok tt → (depth < limit) × Going limit ks (depth + 1) (i + 1)
      go (Stay w f) a r = absurd a
      go (Push w f) a r = deeper w f (ltb (length g.outer) limit) refl r
      go Pop a r = absurd a
      go Bad a r = not_refused 25 i r

  pub closing : side_of k ≡ Closes → Going limit (k ∷ ks) depth i → (0 < depth) × Going limit ks (depth - 1) (i + 1)
  closing e g = go (step_of g.want k g.inside) (subst (λ (s : Side). Agrees s (step_of g.want k g.inside)) e (agrees g.want k g.inside)) (step_goes g (step_of g.want k g.inside) refl)
    where
      out : (σ : List Frame) → length σ ≡ depth → popped σ (λ f τ. check ks limit Behind f τ (i + 1)) i ≡ Ok tt → (0 < depth) × Going limit ks (depth - 1) (i + 1)
      out [] q r = not_refused 25 i r
      out (f ∷ τ) q r = (omega arith, record { want = Behind; inside = f; outer = τ; deep = omega arith; goes = r })

      go : (m : Move) → Agrees Closes m → by_move m limit g.inside g.outer i (λ w f σ. check ks limit w f σ (i + 1)) ≡ Ok tt → (0 < depth) × Going limit ks (depth - 1) (i + 1)
      go (Stay w f) a r = absurd a
      go (Push w f) a r = absurd a
      go Pop a r = out g.outer g.deep r
      go Bad a r = not_refused 25 i r

  pub passing : side_of k ≡ Neither → Going limit (k ∷ ks) depth i → Going limit ks depth (i + 1)
  passing e g = go (step_of g.want k g.inside) (subst (λ (s : Side). Agrees s (step_of g.want k g.inside)) e (agrees g.want k g.inside)) (step_goes g (step_of g.want k g.inside) refl)
    where
      go : (m : Move) → Agrees Neither m → by_move m limit g.inside g.outer i (λ w f σ. check ks limit w f σ (i + 1)) ≡ Ok tt → Going limit ks depth (i + 1)
      go (Stay w f) a r = record { want = w; inside = f; outer = g.outer; deep = g.deep; goes = r }
      go (Push w f) a r = absurd a
      go Pop a r = absurd a
      go Bad a r = not_refused 25 i r

-- the loop that writes the links
module _ (t : List ℕ) (count : ℕ) (out₀ : List ℕ) where
  -- each open place lies before i
  abbrev Below : List ℕ → ℕ → ℕ → Type 0
  Below places d i = (e : ℕ) → e < d → get_or places e 0 < i

  pub record Joining (places : List ℕ) (d i : ℕ) (out : List ℕ) : Type 0 where
    pub going : Going 128 (rest t count i) d i
    pub below : Below places d i
    pub same : link (rest t count i) (stack_of 0 places d) i out ≡ linked_of (kinds_of (entries_of count t)) out₀

  pub joins_start : (places : List ℕ) → walk_of (kinds_of (entries_of count t)) 128 ≡ Ok tt → Joining places 0 0 out₀
  joins_start places a =
      record {
        going = record { want = Start; inside = Top; outer = []; deep = refl; goes = ap (λ (l : List Kind). walk_of l 128) (rest_start t count) ∙ a };
        below = λ e h. absurd (omega arith);
        same = ap (λ (l : List Kind). link l [] 0 out₀) (rest_start t count);
      }

  module _ (places : List ℕ) (d i : ℕ) (out : List ℕ) (inv : Joining places d i out) where
    pub joins_end : count ≤ i → out ≡ linked_of (kinds_of (entries_of count t)) out₀
    unfolding link
    joins_end h = sym (ap (λ (l : List Kind). link l (stack_of 0 places d) i out) (rest_end t count i h)) ∙ inv.same

    module _ (k : Kind) (lt : i < count) (ek : k ≡ kind_of (entry_at t i).kind) where
      front : rest t count i ≡ k ∷ rest t count (i + 1)
      front = rest_front t count i lt ∙ ap (λ (x : Kind). x ∷ rest t count (i + 1)) (sym ek)

      now : Going 128 (k ∷ rest t count (i + 1)) d i
      now = subst (λ (l : List Kind). Going 128 l d i) front inv.going

      turn : (s : Side) → side_of k ≡ s → by_side s (stack_of 0 places d) i out (λ σ' out'. link (rest t count (i + 1)) σ' (i + 1) out') ≡ linked_of (kinds_of (entries_of count t)) out₀
      unfolding link
      turn s e =
          sym (ap (λ (x : Side). by_side x (stack_of 0 places d) i out (λ σ' out'. link (rest t count (i + 1)) σ' (i + 1) out')) e)
          ∙ sym (ap (λ (l : List Kind). link l (stack_of 0 places d) i out) front) ∙ inv.same

      pub open-fits : side_of k ≡ Opens → d < 128
      open-fits e = (opening 128 k (rest t count (i + 1)) d i e now).0

      pub join_opens : side_of k ≡ Opens → length places ≡ 128 → Joining (set places d i) (d + 1) (i + 1) (set out i i)
      join_opens e l =
          let o = opening 128 k (rest t count (i + 1)) d i e now in
          record {
            going = o.1;
            below = λ x h. under x h (ltb x d) refl;
            same = ap (λ (σ : List ℕ). link (rest t count (i + 1)) σ (i + 1) (set out i i)) (stack_push 0 places i d (omega (arith, o.0))) ∙ turn Opens e;
          }
        where
          under : (x : ℕ) → x < d + 1 → (b : Bool) → ltb x d ≡ b → get_or (set places d i) x 0 < i + 1
          under x h true q =
              let lo : x < d = ltb-true x d q in
              let w : get_or (set places d i) x 0 ≡ get_or places x 0 = get_or-set_other places d x i 0 (λ z. absurd (omega arith)) in
              omega (arith, inv.below x lo)
          under x h false q =
              let hi : d ≤ x = ltb-false x d q in
              let z : x ≡ d = omega arith in
              let w : get_or (set places d i) x 0 ≡ i = ap (λ (n : ℕ). get_or (set places d i) n 0) z ∙ get_or-set_same places d i 0 (omega (arith, (opening 128 k (rest t count (i + 1)) d i e now).0)) in
              omega arith

      pub close_fits : side_of k ≡ Closes → (0 < d) × (get_or places (d - 1) 0 < i)
      close_fits e = let c = (closing 128 k (rest t count (i + 1)) d i e now).0 in (c, inv.below (d - 1) (omega arith))

      pub join_closes : side_of k ≡ Closes → Joining places (d - 1) (i + 1) (set (set out i (get_or places (d - 1) 0)) (get_or places (d - 1) 0) i)
      join_closes e =
          let c = closing 128 k (rest t count (i + 1)) d i e now in
          record {
            going = c.1;
            below = λ x h. let w = inv.below x (omega arith) in omega arith;
            same = sym (ap (λ (σ : List ℕ). joined σ i out (λ σ' out'. link (rest t count (i + 1)) σ' (i + 1) out')) (stack_pop 0 places d c.0)) ∙ turn Closes e;
          }

      pub join_passes : side_of k ≡ Neither → Joining places d (i + 1) (set out i i)
      join_passes e =
          record {
            going = passing 128 k (rest t count (i + 1)) d i e now;
            below = λ x h. let w = inv.below x h in omega arith;
            same = turn Neither e;
          }
