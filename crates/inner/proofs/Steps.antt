-- The refusals of the steps through an attribute are inner. Assumes nothing.
use Rattle.std.proofs.Common.{Ok, Err}
use Rattle.text.specs.Refusals.{Told}
use Prim.Native.Nat.{ℕ, ◌+◌}
use mathlib.Core.Bool.{Bool}
use mathlib.Core.List.{List}
use mathlib.Core.Path.{refl}
use lib.Dec.{eqb}
use lib.ListN.{drop, get_or}
use Rattle.attributes.specs.Steps.{step_behind, skip_from, all_at, consume_from, consume_of, and_then, sign_at, sign_from}
use Rattle.comments.specs.Gaps.{gap_of}
use Rattle.comments.specs.declared.gap.Gap.{Gap}
use Rattle.comments.specs.declared.gap.Gap.TheVariants.{Clear, InLine, Refused as NoGap}
use Rattle.inner.specs.Inner.{Inner, within}
use Rattle.inner.proofs.Both.{both}
use Rattle.inner.proofs.Gaps.{Inner-gap, gap_inner}

abbrev pub Inner-step : Told ℕ → Type 0
Inner-step (Ok p) = Unit
Inner-step (Err r) = Inner r

abbrev pub Inner-all : Told (Bool × ℕ) → Type 0
Inner-all (Ok (all, p)) = Unit
Inner-all (Err r) = Inner r

by-gap : (at : ℕ) (g : Gap) → Inner-gap g → Inner-step (step_behind at g)
by-gap at (Clear n) h = tt
by-gap at (InLine n) h = tt
by-gap at (NoGap r) h = h

pub skip_inner : (s : List ℕ) (at : ℕ) → Inner-step (skip_from s at)
unfolding skip_from
skip_inner s at = by-gap at (gap_of (drop at s)) (gap_inner (drop at s))

pub all-at : (all : Bool) (a : Told ℕ) → Inner-step a → Inner-all (all_at all a)
all-at all (Ok p) h = tt
all-at all (Err r) h = h

pub consume-from : (b : ℕ) (s : List ℕ) (all : Bool) (at : ℕ) → Inner-all (consume_from b s all at)
unfolding consume_from
consume-from b s all at = both Inner-all (eqb (get_or s at 0) b) (all-at all (skip_from s (at + 1)) (skip_inner s (at + 1))) tt

pub consume : (b : ℕ) (s : List ℕ) (a : Told (Bool × ℕ)) → Inner-all a → Inner-all (consume_of b s a)
consume b s (Ok (all, at)) h = consume-from b s all at
consume b s (Err r) h = h

and-then : (a : Told ℕ) (go : ℕ → Told ℕ) → Inner-step a → ((p : ℕ) → Inner-step (go p)) → Inner-step (and_then a go)
and-then (Ok p) go h k = k p
and-then (Err r) go h k = h

sign-at : (b : ℕ) (s : List ℕ) (at : ℕ) → Inner-step (sign_at b s at)
unfolding sign_at within
sign-at b s at = both Inner-step (eqb (get_or s at 0) b) (skip_inner s (at + 1)) refl

pub sign_inner : (b : ℕ) (s : List ℕ) (at : ℕ) → Inner-step (sign_from b s at)
unfolding sign_from
sign_inner b s at = and-then (skip_from s at) (sign_at b s) (skip_inner s at) (sign-at b s)
