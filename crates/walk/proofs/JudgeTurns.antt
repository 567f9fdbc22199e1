-- The loop that judges, with its arrays: what holds between two entries, and that each turn keeps it. Assumes nothing.
use Rattle.std.proofs.Common.{Err, None, Option}
use Rattle.text.specs.Refusals.{Told, depth_limit_passed, not_allowed_here}
use Prim.Native.Nat.{ℕ, suc, ◌+◌, ◌-◌, ◌*◌, ◌<◌, ◌≤◌}
use native.Mathlib.Omega.{arith}
use mathlib.Core.Bool.{Bool, true, false, cond}
use mathlib.Core.List.{List, [], ◌∷◌}
use mathlib.Core.Path.{◌≡◌, ◌∙◌, ap, refl, subst, sym}
use lib.ListN.{length, get_or, set, length-set}
use lib.Seq.{get_or-set_same, get_or-set_other}
use Rattle.text.proofs.Choices.{either, lt_or_le}
use Rattle.text.specs.declared.refusal.Refusal.{Refusal}
use Rattle.rows.specs.Rows.{entry_at, entries_of}
use Rattle.grammar.specs.declared.kinds.Kind.{Kind}
use Rattle.grammar.specs.declared.states.Frame.{Frame}
use Rattle.grammar.specs.declared.states.Frame.TheVariants.{Top}
use Rattle.grammar.specs.declared.states.Want.{Want}
use Rattle.grammar.specs.declared.states.Want.TheVariants.{Start, Behind}
use Rattle.grammar.specs.declared.states.Move.TheVariants.{Stay, Push, Pop}
use Rattle.grammar.specs.Kinds.{kind_of, kinds_of}
use Rattle.grammar.specs.Steps.{step_of}
use Rattle.grammar.specs.Walk.{walk_of, finish}
use Rattle.fields.specs.inner.Again.{earlier}
use Rattle.fields.specs.Fields.{names_field, again_of, by_again, named_walk}
use Rattle.fields.specs.Names.{HasName, name_at}
use Rattle.walk.specs.inner.Gathered.{part, base_of, inner_of, outers_of, Rising, Fields, Alike, again_in, first_of, told_by}
use Rattle.walk.specs.inner.Turns.{Stops, at_end, deep, closes_none, not_allowed}
use Rattle.walk.proofs.AgainLaws.{somewhere}
use Rattle.walk.proofs.GatherLaws.{inner_alike, outers_alike, push_inner, push_outers, push_rising, rising_under, store_inner, store_outers}
use Rattle.walk.proofs.JudgeLaws.{Judging, judge_starts, judge_ends, judge_bad, judge_stays, judge_deep, judge_pushes, judge_empty, judge_pops}
use Rattle.walk.proofs.NamedLaws.{Naming, names_stays, names_notes, names_pushes, names_pops, stops_refused, stops_end}
use Rattle.walk.proofs.NamesReady.{ready, names, names_ready, named_ready, ready_one}
use Rattle.walk.proofs.OpenLaws.{fields_under, rising_next, inner_next, outers_next}
use Rattle.walk.proofs.Rest.{rest, rest_start, rest_front, rest_end}
use Rattle.walk.proofs.Stacks.{stack_of, stack_push, stack_pop}

module _ (text tape : List ℕ) (count limit : ℕ) where
  abbrev nm : ℕ → List ℕ
  nm = name_at text tape

  abbrev kinds : List Kind
  kinds = kinds_of (entries_of count tape)

  abbrev whole : Option ℕ
  whole = again_of nm kinds

  -- what holds between two entries
  pub record Turning (f : List ℕ) (outer : List Frame) (bases : List ℕ) (d top : ℕ) (w : Want) (inside : Frame) (found : Option ℕ) (i : ℕ) : Type 0 where
    pub judging : Judging tape count limit outer d w inside i
    pub naming : Naming nm whole (rest tape count i) found w inside (inner_of f bases d top) (stack_of Top outer d) (outers_of f bases d) i
    pub rising : Rising bases d top
    pub held : Fields text tape f top
    pub before : (p : ℕ) → p < top → get_or f p 0 < i
    pub half : 2 * top + ready w ≤ i

  -- what the call gives where it stops
  abbrev gathered : List ℕ → List ℕ → ℕ → ℕ → Option ℕ → Option ℕ
  gathered f bases d top found = earlier found (first_of nm (inner_of f bases d top ∷ outers_of f bases d))

  pub turn_starts : (f : List ℕ) (outer : List Frame) (bases : List ℕ) → Turning f outer bases 0 0 Start Top None 0
  unfolding first_of again_in outers_of Rising part base_of
  turn_starts f outer bases =
      record {
        judging = judge_starts tape count limit outer;
        naming = record { gives = ap (again_of nm) (rest_start tape count); under = λ j e. somewhere j (sym e) };
        rising = tt;
        held = record { room = omega arith; few = omega arith; named = λ p h. absurd (omega arith); rise = λ p q u v. absurd (omega arith) };
        before = λ p h. absurd (omega arith);
        half = omega arith;
      }

  module _ (f : List ℕ) (outer : List Frame) (bases : List ℕ) (d top : ℕ) (w : Want) (inside : Frame) (found : Option ℕ) (i : ℕ) (t : Turning f outer bases d top w inside found i) where
    -- ---- where it stops

    stop_at : (r : Refusal) → r.place ≡ i → Err r ≡ walk_of kinds limit → told_by (gathered f bases d top found) (Err r) ≡ named_walk nm kinds limit
    stop_at r p e =
        stops_refused nm whole (rest tape count i) found w inside (inner_of f bases d top) (stack_of Top outer d) (outers_of f bases d) i t.naming r p ∙ ap (by_again whole) e

    pub stop_with : (v : Told Unit) → Stops tape count limit i d w inside v → told_by (gathered f bases d top found) v ≡ named_walk nm kinds limit
    stop_with _ (at_end h) =
        stops_end nm whole found w inside (inner_of f bases d top) (stack_of Top outer d) (outers_of f bases d) i
        (subst (λ (l : List Kind). Naming nm whole l found w inside (inner_of f bases d top) (stack_of Top outer d) (outers_of f bases d) i) (rest_end tape count i h) t.naming)
        ∙ ap (by_again whole) (judge_ends tape count limit outer d w inside i t.judging (finish w inside i) refl h)
    stop_with _ (deep w' g s z) = stop_at (depth_limit_passed i) refl (judge_deep tape count limit outer d w inside i t.judging (kind_of (entry_at tape i).kind) s.there refl w' g s.does z)
    stop_with _ (closes_none s z) = stop_at (not_allowed_here i) refl (judge_empty tape count limit outer d w inside i t.judging (kind_of (entry_at tape i).kind) s.there refl s.does z)
    stop_with _ (not_allowed s) = stop_at (not_allowed_here i) refl (judge_bad tape count limit outer d w inside i t.judging (kind_of (entry_at tape i).kind) s.there refl s.does)

    module _ (k : Kind) (lt : i < count) (ek : k ≡ kind_of (entry_at tape i).kind) where
      abbrev Rested : Want → Frame → List ℕ → List Frame → List (List ℕ) → Option ℕ → ℕ → Type 0
      Rested w f es σ τ a n = Naming nm whole (rest tape count n) a w f es σ τ n

      here : Naming nm whole (k ∷ rest tape count (i + 1)) found w inside (inner_of f bases d top) (stack_of Top outer d) (outers_of f bases d) i
      here =
          subst (λ (x : Kind). Naming nm whole (x ∷ rest tape count (i + 1)) found w inside (inner_of f bases d top) (stack_of Top outer d) (outers_of f bases d) i) (sym ek)
          (subst (λ (l : List Kind). Naming nm whole l found w inside (inner_of f bases d top) (stack_of Top outer d) (outers_of f bases d) i) (rest_front tape count i lt) t.naming)

      -- ---- an entry that passes

      sooner : (p : ℕ) → p < top → get_or f p 0 < i + 1
      sooner p h = let z = t.before p h in omega arith

      turn_stays : (w' : Want) (g : Frame) → step_of w k inside ≡ Stay w' g → names_field w' ≡ false → Turning f outer bases d top w' g found (i + 1)
      turn_stays w' g e n =
          record {
            judging = judge_stays tape count limit outer d w inside i t.judging k lt ek w' g e;
            naming = names_stays nm whole (rest tape count (i + 1)) found w inside (inner_of f bases d top) (stack_of Top outer d) (outers_of f bases d) i k here w' g e n;
            rising = t.rising;
            held = t.held;
            before = sooner;
            half = let x = t.half in let y = ready_one w' in omega arith;
          }

      -- there is room for one more field
      pub room-for : (w' : Want) (g : Frame) → step_of w k inside ≡ Stay w' g → names_field w' ≡ true → 2 * top + 1 ≤ i
      room-for w' g e n = let z : ready w ≡ 1 = names_ready w k inside (ap names e ∙ n) in let y = t.half in omega arith

      turn_notes : (w' : Want) (g : Frame) → step_of w k inside ≡ Stay w' g → names_field w' ≡ true → HasName text tape i → count ≤ 2 * length f → length f ≤ 32768
          → Turning (set f top i) outer bases d (top + 1) w' g found (i + 1)
      turn_notes w' g e n has much few =
          let r = room-for w' g e n in
          let fits : top < length f = omega arith in
          let same : (p : ℕ) → p < top → get_or (set f top i) p 0 ≡ get_or f p 0 = λ p h. get_or-set_other f top p i 0 (λ q. absurd (omega arith)) in
          let new : get_or (set f top i) top 0 ≡ i = get_or-set_same f top i 0 fits in
          record {
            judging = judge_stays tape count limit outer d w inside i t.judging k lt ek w' g e;
            naming =
                subst (λ (es : List ℕ). Rested w' g es (stack_of Top outer d) (outers_of (set f top i) bases d) found (i + 1)) (sym (store_inner f bases d top i fits t.rising))
                (subst (λ (τ : List (List ℕ)). Rested w' g (i ∷ inner_of f bases d top) (stack_of Top outer d) τ found (i + 1)) (sym (store_outers f bases d top i fits t.rising))
                (names_notes nm whole (rest tape count (i + 1)) found w inside (inner_of f bases d top) (stack_of Top outer d) (outers_of f bases d) i k here w' g e n));
            rising = rising_under bases d top (top + 1) t.rising (omega arith);
            held =
                record {
                  room = let z = length-set f top i in omega arith;
                  few = omega arith;
                  named = λ p h. either (lt_or_le p top) (λ l. subst (HasName text tape) (sym (same p l)) (t.held.named p l))
                      (λ l. let z : p ≡ top = omega arith in subst (HasName text tape) (sym (ap (λ (q : ℕ). get_or (set f top i) q 0) z ∙ new)) has);
                  rise = λ p q u v. either (lt_or_le q top)
                      (λ l. let a = same p (omega arith) in let b = same q l in let z = t.held.rise p q u l in omega arith)
                      (λ l. let z : q ≡ top = omega arith in let a = same p (omega arith) in let b = ap (λ (m : ℕ). get_or (set f top i) m 0) z ∙ new in let y = t.before p (omega arith) in omega arith);
                };
            before = λ p h. either (lt_or_le p top) (λ l. let a = same p l in let z = t.before p l in omega arith)
                (λ l. let z : p ≡ top = omega arith in let b = ap (λ (m : ℕ). get_or (set f top i) m 0) z ∙ new in omega arith);
            half = let z = named_ready w' n in omega arith;
          }

      -- the two as one, by what the entry is put down as
      pub turn_noted : (w' : Want) (g : Frame) → step_of w k inside ≡ Stay w' g → HasName text tape i → count ≤ 2 * length f → length f ≤ 32768
          → (f' : List ℕ) (top' : ℕ) → top' ≡ cond (names_field w') (top + 1) top → f' ≡ cond (names_field w') (set f top i) f
          → (length f' ≡ length f) × Turning f' outer bases d top' w' g found (i + 1)
      turn_noted w' g e has much few f' top' p q = by (names_field w') refl p q
        where
          meets : (h : List ℕ) (n : ℕ) → top' ≡ n → f' ≡ h → length h ≡ length f → Turning h outer bases d n w' g found (i + 1)
              → (length f' ≡ length f) × Turning f' outer bases d top' w' g found (i + 1)
          meets h n a b l z =
              (ap length b ∙ l, subst (λ (x : List ℕ). Turning x outer bases d top' w' g found (i + 1)) (sym b) (subst (λ (m : ℕ). Turning h outer bases d m w' g found (i + 1)) (sym a) z))

          by : (b : Bool) → names_field w' ≡ b → top' ≡ cond b (top + 1) top → f' ≡ cond b (set f top i) f
              → (length f' ≡ length f) × Turning f' outer bases d top' w' g found (i + 1)
          by true n a b = meets (set f top i) (top + 1) a b (length-set f top i) (turn_notes w' g e n has much few)
          by false n a b = meets f top a b refl (turn_stays w' g e n)

      pub turn_pushes : (w' : Want) (g : Frame) → step_of w k inside ≡ Push w' g → d < limit → d < length outer → d < length bases
          → Turning f (set outer d inside) (set bases d top) (d + 1) top w' g found (i + 1)
      turn_pushes w' g e h l m =
          record {
            judging = judge_pushes tape count limit outer d w inside i t.judging k lt ek w' g e h l;
            naming =
                subst (λ (es : List ℕ). Rested w' g es (stack_of Top (set outer d inside) (d + 1)) (outers_of f (set bases d top) (d + 1)) found (i + 1)) (sym (push_inner f bases d top m t.rising))
                (subst (λ (σ : List Frame). Rested w' g [] σ (outers_of f (set bases d top) (d + 1)) found (i + 1)) (sym (stack_push Top outer inside d l))
                (subst (λ (τ : List (List ℕ)). Rested w' g [] (inside ∷ stack_of Top outer d) τ found (i + 1)) (sym (push_outers f bases d top m t.rising))
                (names_pushes nm whole (rest tape count (i + 1)) found w inside (inner_of f bases d top) (stack_of Top outer d) (outers_of f bases d) i k here w' g e)));
            rising = push_rising f bases d top m t.rising;
            held = t.held;
            before = sooner;
            half = let x = t.half in let y = ready_one w' in omega arith;
          }

      pub turn_pops : (g : List ℕ) (a : Option ℕ) → step_of w k inside ≡ Pop → 0 < d → Alike f g (get_or bases (d - 1) 0)
          → a ≡ earlier found (again_in nm (part f (get_or bases (d - 1) 0) (top - get_or bases (d - 1) 0)))
          → Turning g outer bases (d - 1) (get_or bases (d - 1) 0) Behind (get_or outer (d - 1) Top) a (i + 1)
      turn_pops g a e h l q =
          let b : ℕ = get_or bases (d - 1) 0 in
          let z : d ≡ suc (d - 1) = omega arith in
          let n = rising_next bases d (d - 1) top z t.rising in
          record {
            judging = judge_pops tape count limit outer d w inside i t.judging k lt ek e h;
            naming =
                subst (λ (y : Option ℕ). Rested Behind (get_or outer (d - 1) Top) (inner_of g bases (d - 1) b) (stack_of Top outer (d - 1)) (outers_of g bases (d - 1)) y (i + 1)) (sym (q ∙ ap (λ (m : List ℕ). earlier found (again_in nm m)) (sym (inner_next f bases d (d - 1) top z))))
                (subst (λ (es : List ℕ). Rested Behind (get_or outer (d - 1) Top) es (stack_of Top outer (d - 1)) (outers_of g bases (d - 1)) (earlier found (again_in nm (inner_of f bases d top))) (i + 1)) (sym (inner_alike f g bases b (d - 1) b l n.1 (omega arith)))
                (subst (λ (τ : List (List ℕ)). Rested Behind (get_or outer (d - 1) Top) (inner_of f bases (d - 1) b) (stack_of Top outer (d - 1)) τ (earlier found (again_in nm (inner_of f bases d top))) (i + 1)) (sym (outers_alike f g bases b (d - 1) b l n.1 (omega arith)))
                (names_pops nm whole (rest tape count (i + 1)) found w inside (inner_of f bases d top) (stack_of Top outer d) (outers_of f bases d) i k (get_or outer (d - 1) Top) (stack_of Top outer (d - 1)) (inner_of f bases (d - 1) b) (outers_of f bases (d - 1))
                (stack_pop Top outer d h) (outers_next f bases d (d - 1) z) here e)));
            rising = n.1;
            held = fields_under text tape f g top b t.held l n.0;
            before = λ p u. subst (λ (x : ℕ). x < i + 1) (sym (l.below p u)) (sooner p (omega (arith, n.0)));
            half = let x = t.half in let y = n.0 in omega arith;
          }
