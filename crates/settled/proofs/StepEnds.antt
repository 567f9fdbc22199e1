-- Steps through an attribute that end before a byte up to 0x7F do not depend on what comes behind it, whether they go on or are refused. Assumes nothing.
use Rattle.std.proofs.Common.{Ok, Err}
use Prim.Native.Nat.{◌+◌, ◌-◌, ◌<◌, ◌≤◌, ℕ}
use native.Mathlib.Omega.{arith}
use mathlib.Core.Bool.{Bool, cond, false, true}
use mathlib.Core.List.{List, ◌++◌, ◌∷◌, append_assoc}
use mathlib.Core.Path.{◌∙◌, ◌≡◌, ap, refl, subst, sym}
use lib.Dec.{eqb}
use lib.ListN.{get_or-append, drop, get_or, length, length-append, length-drop}
use lib.Seq.{drop-append-le}
use Rattle.comments.specs.Gaps.{gap_of}
use Rattle.comments.specs.declared.gap.Gap.{Gap}
use Rattle.comments.specs.declared.gap.Gap.TheVariants.{Clear, InLine, Refused}
use Rattle.text.proofs.Choices.{cond_cases}
use Rattle.attributes.specs.Attributes.{opened_of}
use Rattle.text.specs.Refusals.{expected_attribute, Told}
use Rattle.attributes.specs.Steps.{all_at, and_then, step_behind, consume_from, consume_of, sign_at, sign_from, skip_from}
use Rattle.settled.proofs.GapStays.{GapBy, gap_keeps}
use Rattle.settled.specs.Stood.{all_end, sign_by, sign_here, sign_stood, step_end}

-- a step does not go back
gap_least : (at : ℕ) (g : Gap) → at ≤ step_end (step_behind at g)
gap_least at (Clear n) = omega arith
gap_least at (InLine n) = omega arith
gap_least at (Refused r) = omega arith

pub skip_least : (s : List ℕ) (at : ℕ) → at ≤ step_end (skip_from s at)
unfolding skip_from
skip_least s at = gap_least at (gap_of (drop at s))

pub all-end : (all : Bool) (t : Told ℕ) → all_end (all_at all t) ≡ step_end t
all-end all (Ok p) = refl
all-end all (Err r) = refl

pub from_least : (b : ℕ) (s : List ℕ) (all : Bool) (at : ℕ) → at ≤ all_end (consume_from b s all at)
unfolding consume_from
from_least b s all at = cond_cases (λ (x : Told (Bool × ℕ)). at ≤ all_end x) (eqb (get_or s at 0) b) (all_at all (skip_from s (at + 1))) (Ok (false, at)) (λ e. omega (arith, all-end all (skip_from s (at + 1)), skip_least s (at + 1))) (λ e. omega arith)

pub consume_least : (b : ℕ) (s : List ℕ) (x : Told (Bool × ℕ)) → all_end x ≤ all_end (consume_of b s x)
consume_least b s (Ok (all, at)) = from_least b s all at
consume_least b s (Err r) = omega arith

-- a sign stands at or behind where it is looked for, and behind it where it is found
pub here_least : (b : ℕ) (s : List ℕ) (p : ℕ) → p ≤ sign_here b s p
unfolding sign_here
here_least b s p = cond_cases (λ (n : ℕ). p ≤ n) (eqb (get_or s p 0) b) (step_end (skip_from s (p + 1))) p (λ e. omega (arith, skip_least s (p + 1))) (λ e. omega arith)

pub sign_least : (b : ℕ) (s : List ℕ) (at : ℕ) → at ≤ sign_stood b s at
unfolding sign_stood
sign_least b s at = go (skip_from s at) (skip_least s at)
  where
    go : (t : Told ℕ) → at ≤ step_end t → at ≤ sign_by b s t
    go (Ok p) h = omega (arith, here_least b s p)
    go (Err r) h = h

pub sign_found : (b : ℕ) (s : List ℕ) (at p : ℕ) → sign_from b s at ≡ Ok p → sign_stood b s at ≡ p
unfolding sign_stood sign_here sign_from sign_at
sign_found b s at p h = go (skip_from s at) h
  where
    test : (q : ℕ) (t : Bool) → ◌≡◌ {A = Told ℕ} (cond t (skip_from s (q + 1)) (Err (expected_attribute 0))) (Ok p) → cond t (step_end (skip_from s (q + 1))) q ≡ p
    test q true h = ap step_end h
    test q false h = let z : ◌≡◌ {A = ℕ} 0 1 = cc in absurd (omega arith)

    go : (t : Told ℕ) → and_then t (sign_at b s) ≡ Ok p → sign_by b s t ≡ p
    go (Ok q) h = test q (eqb (get_or s q 0) b) h
    go (Err r) h = let z : ◌≡◌ {A = ℕ} 0 1 = cc in absurd (omega arith)

module _ (c : ℕ) (low : c < 0x80) where
  module _ (a w v : List ℕ) where
    abbrev s : List ℕ
    s = a ++ c ∷ w

    pub tail : (k : ℕ) → k ≤ length a → drop k s ≡ drop k a ++ c ∷ w
    tail k h = drop-append-le k a (c ∷ w) h

    pub tail_on : (k : ℕ) → k ≤ length a → drop k (s ++ v) ≡ drop k a ++ c ∷ (w ++ v)
    tail_on k h = ap (drop k) (append_assoc a (c ∷ w) v) ∙ drop-append-le k a (c ∷ (w ++ v)) h

    pub at_same : (i : ℕ) → i ≤ length a → get_or (s ++ v) i 0 ≡ get_or s i 0
    at_same i h = get_or-append s v 0 i (omega (arith, length-append a (c ∷ w)))

    by-gap : (n at : ℕ) (g : Gap) → at ≤ n → step_end (step_behind at g) ≤ n → GapBy (n - at) g
    by-gap n at (Clear k) l h = omega arith
    by-gap n at (InLine k) l h = omega arith
    by-gap n at (Refused r) l h = omega arith

    pub skip_keeps : (at : ℕ) → at ≤ length a → step_end (skip_from s at) ≤ length a → skip_from (s ++ v) at ≡ skip_from s at
    unfolding skip_from
    skip_keeps at l h =
        let b : GapBy (length a - at) (gap_of (drop at s)) = by-gap (length a) at (gap_of (drop at s)) l h in
        let b' : GapBy (length (drop at a)) (gap_of (drop at a ++ c ∷ w)) =
        subst (λ (n : ℕ). GapBy n (gap_of (drop at a ++ c ∷ w))) (sym (length-drop at a)) (subst (λ (x : List ℕ). GapBy (length a - at) (gap_of x)) (tail at l) b) in
        ap (λ (x : List ℕ). step_behind at (gap_of x)) (tail_on at l)
        ∙ ap (step_behind at) (gap_keeps c low (drop at a) w (w ++ v) b')
        ∙ ap (λ (x : List ℕ). step_behind at (gap_of x)) (sym (tail at l))

    -- ---- signs
    from_keeps : (b : ℕ) (all : Bool) (at : ℕ) → at ≤ length a → all_end (consume_from b s all at) ≤ length a → consume_from b (s ++ v) all at ≡ consume_from b s all at
    unfolding consume_from
    from_keeps b all at l h = rw (at_same at l) (go (eqb (get_or s at 0) b) refl h)
      where
        go : (t : Bool) → eqb (get_or s at 0) b ≡ t → all_end (cond t (all_at all (skip_from s (at + 1))) (Ok (false, at))) ≤ length a
            → cond t (all_at all (skip_from (s ++ v) (at + 1))) (Ok (false, at)) ≡ cond t (all_at all (skip_from s (at + 1))) (Ok (false, at))
        go false e h = refl
        go true e h =
            let end : step_end (skip_from s (at + 1)) ≤ length a = omega (arith, h, all-end all (skip_from s (at + 1))) in
            ap (all_at all) (skip_keeps (at + 1) (omega (arith, skip_least s (at + 1))) end)

    pub consume_keeps : (b : ℕ) (x : Told (Bool × ℕ)) → all_end (consume_of b s x) ≤ length a → consume_of b (s ++ v) x ≡ consume_of b s x
    consume_keeps b (Ok (all, at)) h = from_keeps b all at (omega (arith, from_least b s all at)) h
    consume_keeps b (Err r) h = refl

    -- `#`, `!` and `[`
    pub opened_keeps : all_end (opened_of s) ≤ length a → opened_of (s ++ v) ≡ opened_of s
    unfolding opened_of
    opened_keeps h =
        let x : Told (Bool × ℕ) = consume_of 0x23 s (Ok (true, 0)) in
        let y : Told (Bool × ℕ) = consume_of 0x21 s x in
        let ly = consume_least 0x5b s y in
        let lx = consume_least 0x21 s x in
        ap (λ (z : Told (Bool × ℕ)). consume_of 0x5b (s ++ v) (consume_of 0x21 (s ++ v) z)) (consume_keeps 0x23 (Ok (true, 0)) (omega arith))
        ∙ ap (consume_of 0x5b (s ++ v)) (consume_keeps 0x21 x (omega arith))
        ∙ consume_keeps 0x5b y h

    -- a sign that has to stand there
    pub here_keeps : {A : Type 0} (b p : ℕ) (f : Told ℕ → A) (x : A) → p ≤ length a → sign_here b s p ≤ length a
        → cond (eqb (get_or (s ++ v) p 0) b) (f (skip_from (s ++ v) (p + 1))) x ≡ cond (eqb (get_or s p 0) b) (f (skip_from s (p + 1))) x
    unfolding sign_here
    here_keeps b p f x l h = rw (at_same p l) (test (eqb (get_or s p 0) b) h)
      where
        test : (t : Bool) → cond t (step_end (skip_from s (p + 1))) p ≤ length a → cond t (f (skip_from (s ++ v) (p + 1))) x ≡ cond t (f (skip_from s (p + 1))) x
        test true h = ap f (skip_keeps (p + 1) (omega (arith, skip_least s (p + 1))) h)
        test false h = refl

    pub sign_keeps : (b at : ℕ) → at ≤ length a → sign_stood b s at ≤ length a → sign_from b (s ++ v) at ≡ sign_from b s at
    unfolding sign_stood sign_from sign_at
    sign_keeps b at l h = go (skip_from s at) refl h
      where
        go : (t : Told ℕ) → skip_from s at ≡ t → sign_by b s t ≤ length a → and_then (skip_from (s ++ v) at) (sign_at b (s ++ v)) ≡ and_then (skip_from s at) (sign_at b s)
        go (Ok p) e h =
            let lp : p ≤ length a = omega (arith, here_least b s p) in
            let q : skip_from (s ++ v) at ≡ Ok p = skip_keeps at l (subst (λ (t : Told ℕ). step_end t ≤ length a) (sym e) lp) ∙ e in
            rw (q, e) (here_keeps b p (λ t. t) (Err (expected_attribute 0)) lp h)
        go (Err r) e h =
            let q : skip_from (s ++ v) at ≡ Err r = skip_keeps at l (subst (λ (t : Told ℕ). step_end t ≤ length a) (sym e) h) ∙ e in
            rw (q, e)
