-- What a walk asks before any entry: 1 and 2, then 28, 23 and 22, exactly in their cases. Assumes nothing.
use Rattle.std.proofs.Common.{Ok, Err}
use Prim.Native.Nat.{ℕ, ◌<◌, ◌≤◌}
use native.Mathlib.Omega.{arith}
use mathlib.Core.Bool.{Bool, ◌&&◌, cond, false, true}
use mathlib.Core.List.{List}
use mathlib.Core.Logic.{◌↔◌, ◌⊎◌, inl, inr}
use mathlib.Core.Path.{◌≡◌, ◌∙◌, ap, refl, subst, sym}
use lib.Dec.{ltb}
use lib.ListN.{length}
use Rattle.text.specs.Judged.{judged_of}
use Rattle.text.specs.Refusals.{Told, no_room, not_in_order, unfit}
use Rattle.text.specs.declared.refusal.Refusal.{Refusal}
use Rattle.text.proofs.Choices.{bool_cases, either, lt_or_le}
use Rattle.rows.specs.Order.{in_order}
use Rattle.rows.specs.Rows.{entries_of, room_of}
use Rattle.grammar.specs.Kinds.{kinds_of}
use Rattle.fields.specs.Fields.{named_walk}
use Rattle.fields.specs.Names.{name_at, raws_fit}
use Rattle.sarridok.specs.Walked.{behind_walk_front, walk_of}
use Rattle.sarridok.proofs.WalkFront as laws
use Rattle.given.proofs.Walks.{Of-named, named_number, verdict_of_named}
use Rattle.fronts.specs.Fronts.{FrontOf}
use Rattle.fronts.proofs.Judgement.{front_higher, judged_low}
use Rattle.fronts.proofs.Numbers.{number_in}

-- an answer of the walk itself is none of 22, 23 and 28
abbrev Own : Told Unit → Type 0
Own x = (number_in x < 22) ⊎ (((23 < number_in x) × (number_in x < 28)) ⊎ (number_in x ≡ 31))

own_judged : (v : Told Unit) → Of-named v → Own v
own_judged (Ok tt) h = inl (omega arith)
own_judged (Err r) h = inr (named_number r h)

-- nor is the judgement of the text
own_unread : (text : List ℕ) (r : Refusal) → judged_of text ≡ Err r → Own (Err r)
own_unread text r e = inl (let z = judged_low text r e in omega arith)

not_own : (x : Told Unit) (n : ℕ) → Own x → number_in x ≡ n → (n ≡ 22) ⊎ ((n ≡ 23) ⊎ (n ≡ 28)) → ⊥
not_own x n o e c = by c (either o (λ h. inl (omega arith)) (λ h. inr (either h (λ w. let a = w.0 in let b = w.1 in inl (omega arith, omega arith)) (λ w. inr (omega arith)))))
  where
    by : (n ≡ 22) ⊎ ((n ≡ 23) ⊎ (n ≡ 28)) → (n < 22) ⊎ (((23 < n) × (n < 28)) ⊎ (n ≡ 31)) → ⊥
    by (inl a) (inl h) = omega arith
    by (inl a) (inr (inl h)) = omega (arith, h.0)
    by (inl a) (inr (inr h)) = omega arith
    by (inr (inl a)) (inl h) = omega arith
    by (inr (inl a)) (inr (inl h)) = omega (arith, h.0)
    by (inr (inl a)) (inr (inr h)) = omega arith
    by (inr (inr a)) (inl h) = omega arith
    by (inr (inr a)) (inr (inl h)) = omega (arith, h.1)
    by (inr (inr a)) (inr (inr h)) = omega arith

module _ (text tape : List ℕ) (count limit links : ℕ) where
  abbrev answer : Told Unit
  answer = walk_of text tape count limit links

  abbrev verdict_here : Told Unit
  verdict_here = named_walk (name_at text tape) (kinds_of (entries_of count tape)) limit

  -- the tape is not one of this text
  abbrev Torn : Type 0
  Torn = (room_of (length tape) < count) ⊎ ((in_order (entries_of count tape) (length text) ≡ false) ⊎ (raws_fit text (entries_of count tape) ≡ false))

  -- the ways that a walk goes
  data Way : Type 0 where
    unread : (r : Refusal) → judged_of text ≡ Err r → Own answer → Way
    deep : judged_of text ≡ Ok tt → 128 < limit → answer ≡ Err unfit → Way
    torn : judged_of text ≡ Ok tt → limit ≤ 128 → Torn → answer ≡ Err not_in_order → Way
    full : judged_of text ≡ Ok tt → limit ≤ 128 → count ≤ room_of (length tape) → in_order (entries_of count tape) (length text) ≡ true → raws_fit text (entries_of count tape) ≡ true → links < count
        → answer ≡ Err no_room → Way
    past : Own answer → Way

  module _ (fit : judged_of text ≡ Ok tt) where
    own : answer ≡ verdict_here → Own answer
    own e = rw e (own_judged verdict_here (verdict_of_named (name_at text tape) (kinds_of (entries_of count tape)) limit))

    way_read : Way
    way_read =
        either (lt_or_le 128 limit) (λ h. deep fit h (laws.walk_28 text tape count limit links fit h)) λ a.
        either (lt_or_le (room_of (length tape)) count) (λ h. torn fit a (inl h) (laws.walk_23 text tape count limit links fit a h)) λ b.
        either (bool_cases (in_order (entries_of count tape) (length text)))
        (λ c. either (bool_cases (raws_fit text (entries_of count tape)))
        (λ d. either (lt_or_le links count) (λ h. full fit a b c d h (laws.walk_22 text tape count limit links fit a b c d h)) λ h.
        past (own (laws.walk_judged text tape count limit links fit a b c d h verdict_here refl)))
        (λ d. torn fit a (inr (inr d)) (laws.walk_23_raws text tape count limit links fit a b c d)))
        (λ c. torn fit a (inr (inl c)) (laws.walk_23_order text tape count limit links fit a b c))

  way : Way
  way = go (judged_of text) refl
    where
      go : (j : Told Unit) → judged_of text ≡ j → Way
      go (Ok tt) e = way_read e
      go (Err r) e = unread r e (rw (laws.walk_unread text tape count limit links r e) (own_unread text r e))

  clash : {X : Type 0} (r q : Told Unit) → answer ≡ r → answer ≡ q → (number_in r ≡ number_in q → ⊥) → X
  clash r q a b d = absurd (d (ap number_in (sym a ∙ b)))

  pub walk_28 : (walk_of text tape count limit links ≡ Err unfit) ↔ ((judged_of text ≡ Ok tt) × (128 < limit))
  walk_28 = ((λ e. go e way), (λ w. laws.walk_28 text tape count limit links w.0 w.1))
    where
      go : answer ≡ Err unfit → Way → (judged_of text ≡ Ok tt) × (128 < limit)
      go e (unread r j o) = absurd (not_own answer 28 o (ap number_in e) (inr (inr refl)))
      go e (deep j h q) = (j, h)
      go e (torn j a o q) = clash (Err unfit) (Err not_in_order) e q (λ n. omega arith)
      go e (full j a b c d h q) = clash (Err unfit) (Err no_room) e q (λ n. omega arith)
      go e (past o) = absurd (not_own answer 28 o (ap number_in e) (inr (inr refl)))

  pub walk_23 : (walk_of text tape count limit links ≡ Err not_in_order) ↔ ((judged_of text ≡ Ok tt) × (limit ≤ 128)
      × ((room_of (length tape) < count) ⊎ ((in_order (entries_of count tape) (length text) ≡ false) ⊎ (raws_fit text (entries_of count tape) ≡ false))))
  walk_23 = ((λ e. go e way), (λ w. back w.0 w.1 w.2))
    where
      go : answer ≡ Err not_in_order → Way → (judged_of text ≡ Ok tt) × (limit ≤ 128) × Torn
      go e (unread r j o) = absurd (not_own answer 23 o (ap number_in e) (inr (inl refl)))
      go e (deep j h q) = clash (Err not_in_order) (Err unfit) e q (λ n. omega arith)
      go e (torn j a o q) = (j, a, o)
      go e (full j a b c d h q) = clash (Err not_in_order) (Err no_room) e q (λ n. omega arith)
      go e (past o) = absurd (not_own answer 23 o (ap number_in e) (inr (inl refl)))

      back : judged_of text ≡ Ok tt → limit ≤ 128 → Torn → answer ≡ Err not_in_order
      back j a (inl h) = laws.walk_23 text tape count limit links j a h
      back j a (inr o) =
          either (lt_or_le (room_of (length tape)) count) (λ h. laws.walk_23 text tape count limit links j a h) λ b.
          either (bool_cases (in_order (entries_of count tape) (length text)))
          (λ c. either o (λ n. laws.walk_23_order text tape count limit links j a b n) (λ d. laws.walk_23_raws text tape count limit links j a b c d))
          (λ c. laws.walk_23_order text tape count limit links j a b c)

  pub walk_22 : (walk_of text tape count limit links ≡ Err no_room)
      ↔ ((judged_of text ≡ Ok tt) × (limit ≤ 128) × (count ≤ room_of (length tape)) × (in_order (entries_of count tape) (length text) ≡ true) × (raws_fit text (entries_of count tape) ≡ true) × (links < count))
  walk_22 = ((λ e. go e way), (λ w. laws.walk_22 text tape count limit links w.0 w.1 w.2 w.3 w.4 w.5))
    where
      go : answer ≡ Err no_room → Way
          → (judged_of text ≡ Ok tt) × (limit ≤ 128) × (count ≤ room_of (length tape)) × (in_order (entries_of count tape) (length text) ≡ true) × (raws_fit text (entries_of count tape) ≡ true) × (links < count)
      go e (unread r j o) = absurd (not_own answer 22 o (ap number_in e) (inl refl))
      go e (deep j h q) = clash (Err no_room) (Err unfit) e q (λ n. omega arith)
      go e (torn j a o q) = clash (Err no_room) (Err not_in_order) e q (λ n. omega arith)
      go e (full j a b c d h q) = (j, a, b, c, d, h)
      go e (past o) = absurd (not_own answer 22 o (ap number_in e) (inl refl))

  -- 1 and 2 exactly where the text is too long or not UTF-8
  pub walk_front : FrontOf text (walk_of text tape count limit links)
      (cond (ltb 128 limit) (Err unfit) (cond (ltb (room_of (length tape)) count) (Err not_in_order)
      (cond (in_order (entries_of count tape) (length text) && raws_fit text (entries_of count tape)) (cond (ltb links count) (Err no_room) verdict_here) (Err not_in_order))))
  unfolding walk_of behind_walk_front
  walk_front = front_higher text _ (above _ (over (ltb 128 limit) (ltb (room_of (length tape)) count) (in_order (entries_of count tape) (length text) && raws_fit text (entries_of count tape)) (ltb links count)))
    where
      -- accepted, or refused above 2
      Above : Told Unit → Type 0
      Above (Ok t) = Unit {0}
      Above (Err r) = 2 < r.number

      above : (x : Told Unit) → Above x → (r : Refusal) → x ≡ Err r → 2 < r.number
      above x h r e = subst Above e h

      own_above : (v : Told Unit) → Of-named v → Above v
      own_above (Ok tt) h = tt
      own_above (Err r) h = either (named_number r h) (λ w. let z = w.0 in omega arith) (λ w. omega arith)

      over : (a b c d : Bool) → Above (cond a (Err unfit) (cond b (Err not_in_order) (cond c (cond d (Err no_room) verdict_here) (Err not_in_order))))
      over true b c d = omega arith
      over false true c d = omega arith
      over false false false d = omega arith
      over false false true true = omega arith
      over false false true false = own_above verdict_here (verdict_of_named (name_at text tape) (kinds_of (entries_of count tape)) limit)
