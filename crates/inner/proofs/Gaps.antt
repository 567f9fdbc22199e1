-- The refusals of whitespace and comments are inner. Assumes nothing.
use Prim.Native.Nat.{ℕ, ◌+◌, zero, suc, pred}
use mathlib.Core.List.{List, [], ◌∷◌}
use mathlib.Core.Path.{refl}
use lib.ListN.{length}
use Rattle.comments.specs.Gaps.{item_of, by_item, gap_from, gap_of}
use Rattle.comments.specs.declared.gap.Item.{Item}
use Rattle.comments.specs.declared.gap.Item.TheVariants.{Blank, LineOpen, BlockOpen, Unexpected, Ended, Other}
use Rattle.comments.specs.declared.gap.Gap.{Gap}
use Rattle.comments.specs.declared.gap.Gap.TheVariants.{Clear, InLine, Refused as NoGap}
use Rattle.inner.specs.Inner.{Inner, within}

abbrev pub Inner-gap : Gap → Type 0
Inner-gap (Clear n) = Unit
Inner-gap (InLine n) = Unit
Inner-gap (NoGap r) = Inner r

by-item : (i : Item) (on : ℕ → Gap) (at end : ℕ) → ((n : ℕ) → Inner-gap (on n)) → Inner-gap (by_item i on at end)
unfolding within
by-item (Blank n) on at end h = h n
by-item LineOpen on at end h = tt
by-item BlockOpen on at end h = refl
by-item (Unexpected n) on at end h = refl
by-item Ended on at end h = refl
by-item Other on at end h = tt

gap-from : (s : List ℕ) (left at : ℕ) → Inner-gap (gap_from s left at)
unfolding gap_from
gap-from [] left at = tt
gap-from (a ∷ s) (suc left) at = gap-from s left (at + 1)
gap-from (a ∷ s) zero at = by-item (item_of (a ∷ s)) (λ n. gap_from s (pred n) (at + 1)) at (at + length (a ∷ s)) (λ n. gap-from s (pred n) (at + 1))

pub gap_inner : (s : List ℕ) → Inner-gap (gap_of s)
unfolding gap_of
gap_inner s = gap-from s 0 0
