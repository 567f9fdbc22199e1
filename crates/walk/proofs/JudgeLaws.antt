-- The loop that judges: one turn for each thing that an entry can do. Assumes nothing.
use Rattle.std.proofs.Common.{Err}
use Rattle.text.specs.Refusals.{Told, depth_limit_passed, not_allowed_here}
use Prim.Native.Nat.{ℕ, ◌+◌, ◌-◌, ◌<◌, ◌≤◌}
use mathlib.Core.Path.{◌≡◌, sym, ap, ◌∙◌}
use mathlib.Core.Bool.{Bool, true, false, cond}
use mathlib.Core.List.{List, ◌∷◌}
use lib.Dec.{ltb}
use lib.ListN.{length, set, get_or}
use borrow.Author.Tests.{lt-ltb, le-ltb}
use Rattle.rows.specs.Rows.{entry_at, entries_of}
use Rattle.grammar.specs.declared.kinds.Kind.{Kind}
use Rattle.grammar.specs.declared.states.Frame.{Frame}
use Rattle.grammar.specs.declared.states.Frame.TheVariants.{Top}
use Rattle.grammar.specs.declared.states.Want.{Want}
use Rattle.grammar.specs.declared.states.Want.TheVariants.{Start, Behind}
use Rattle.grammar.specs.declared.states.Move.{Move}
use Rattle.grammar.specs.declared.states.Move.TheVariants.{Stay, Push, Pop, Bad}
use Rattle.grammar.specs.Kinds.{kind_of, kinds_of}
use Rattle.grammar.specs.Steps.{step_of}
use Rattle.grammar.specs.Walk.{finish, popped, by_move, check, walk_of}
use Rattle.walk.proofs.Rest.{rest, rest_start, rest_front, rest_end}
use Rattle.walk.proofs.Stacks.{stack_of, stack_push, stack_pop, stack_length}

module _ (t : List ℕ) (count : ℕ) where
  module _ (limit : ℕ) where
    abbrev pub whole : Told Unit
    whole = walk_of (kinds_of (entries_of count t)) limit

    -- what is left gives the whole
    abbrev pub Judging : List Frame → ℕ → Want → Frame → ℕ → Type 0
    Judging outer d w f i = check (rest t count i) limit w f (stack_of Top outer d) i ≡ whole

    pub judge_starts : (outer : List Frame) → Judging outer 0 Start Top 0
    judge_starts outer = ap (λ (l : List Kind). walk_of l limit) (rest_start t count)

    module _ (outer : List Frame) (d : ℕ) (w : Want) (f : Frame) (i : ℕ) (inv : Judging outer d w f i) where
      pub judge_ends : (r : Told Unit) → r ≡ finish w f i → count ≤ i → r ≡ whole
      unfolding check
      judge_ends r e h = e ∙ sym (ap (λ (l : List Kind). check l limit w f (stack_of Top outer d) i) (rest_end t count i h)) ∙ inv

      module _ (k : Kind) (lt : i < count) (ek : k ≡ kind_of (entry_at t i).kind) where
        turn : (m : Move) → step_of w k f ≡ m → by_move m limit f (stack_of Top outer d) i (λ w' f' σ'. check (rest t count (i + 1)) limit w' f' σ' (i + 1)) ≡ whole
        unfolding check
        turn m e =
            ap (λ (x : Move). by_move x limit f (stack_of Top outer d) i (λ w' f' σ'. check (rest t count (i + 1)) limit w' f' σ' (i + 1))) (sym e)
            ∙ ap (λ (x : Kind). check (x ∷ rest t count (i + 1)) limit w f (stack_of Top outer d) i) ek
            ∙ ap (λ (l : List Kind). check l limit w f (stack_of Top outer d) i) (sym (rest_front t count i lt))
            ∙ inv

        pub judge_bad : step_of w k f ≡ Bad → Err (not_allowed_here i) ≡ whole
        judge_bad e = turn Bad e

        pub judge_stays : (w' : Want) (f' : Frame) → step_of w k f ≡ Stay w' f' → Judging outer d w' f' (i + 1)
        judge_stays w' f' e = turn (Stay w' f') e

        pub judge_deep : (w' : Want) (f' : Frame) → step_of w k f ≡ Push w' f' → limit ≤ d → Err (depth_limit_passed i) ≡ whole
        judge_deep w' f' e h =
            let q : ltb (length (stack_of Top outer d)) limit ≡ false = ap (λ (n : ℕ). ltb n limit) (stack_length Top outer d) ∙ le-ltb d limit h in
            sym (ap (λ (b : Bool). cond b (check (rest t count (i + 1)) limit w' f' (f ∷ stack_of Top outer d) (i + 1)) (Err (depth_limit_passed i))) q) ∙ turn (Push w' f') e

        pub judge_pushes : (w' : Want) (f' : Frame) → step_of w k f ≡ Push w' f' → d < limit → d < length outer → Judging (set outer d f) (d + 1) w' f' (i + 1)
        judge_pushes w' f' e h l =
            let q : ltb (length (stack_of Top outer d)) limit ≡ true = ap (λ (n : ℕ). ltb n limit) (stack_length Top outer d) ∙ lt-ltb d limit h in
            ap (λ (σ : List Frame). check (rest t count (i + 1)) limit w' f' σ (i + 1)) (stack_push Top outer f d l)
            ∙ sym (ap (λ (b : Bool). cond b (check (rest t count (i + 1)) limit w' f' (f ∷ stack_of Top outer d) (i + 1)) (Err (depth_limit_passed i))) q) ∙ turn (Push w' f') e

        pub judge_empty : step_of w k f ≡ Pop → d ≡ 0 → Err (not_allowed_here i) ≡ whole
        judge_empty e h = sym (ap (λ (n : ℕ). popped (stack_of Top outer n) (λ g τ. check (rest t count (i + 1)) limit Behind g τ (i + 1)) i) h) ∙ turn Pop e

        pub judge_pops : step_of w k f ≡ Pop → 0 < d → Judging outer (d - 1) Behind (get_or outer (d - 1) Top) (i + 1)
        judge_pops e h = sym (ap (λ (σ : List Frame). popped σ (λ g τ. check (rest t count (i + 1)) limit Behind g τ (i + 1)) i) (stack_pop Top outer d h)) ∙ turn Pop e
