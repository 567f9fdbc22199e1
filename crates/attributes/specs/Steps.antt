-- Steps through an attribute, at places of the part that begins with its `#`: whitespace and comments (document 01, module 2), and signs.
-- 19: "attribute; the `#`". The crate's `consume_all` goes on where a sign is missing, so that a refusal behind a later sign comes first.
use Rattle.std.specs.Prelude.{Ok, Err, ℕ, ◌+◌, Bool, false, cond, List, get_or, drop, eqb}
use Rattle.text.specs.Refusals.{Told, placed_behind, expected_attribute}
use Rattle.comments.specs.Gaps.{gap_of}
use Rattle.comments.specs.declared.gap.Gap.{Gap}
use Rattle.comments.specs.declared.gap.Gap.TheVariants.{Clear, InLine, Refused as NoGap}

-- The place behind a gap; an open line comment ends with the text.
abbrev pub step_behind : ℕ → Gap → Told ℕ
step_behind at (Clear n) = Ok (at + n)
step_behind at (InLine n) = Ok (at + n)
step_behind at (NoGap r) = Err (placed_behind at r)

-- Behind the whitespace and comments at a place.
unfoldable pub skip_from : List ℕ → ℕ → Told ℕ
skip_from s at = step_behind at (gap_of (drop at s))

-- A step as part of `consume_all`.
abbrev pub all_at : Bool → Told ℕ → Told (Bool × ℕ)
all_at all (Ok p) = Ok (all, p)
all_at all (Err r) = Err r

-- One sign of `consume_all` at a place: behind it, and behind whitespace, if it stands there; else nothing is passed.
unfoldable pub consume_from : ℕ → List ℕ → Bool → ℕ → Told (Bool × ℕ)
consume_from b s all at = cond (eqb (get_or s at 0) b) (all_at all (skip_from s (at + 1))) (Ok (false, at))

-- One sign more of `consume_all`.
abbrev pub consume_of : ℕ → List ℕ → Told (Bool × ℕ) → Told (Bool × ℕ)
consume_of b s (Ok (all, at)) = consume_from b s all at
consume_of b s (Err r) = Err r

-- What follows a step that went on.
abbrev pub and_then : Told ℕ → (ℕ → Told ℕ) → Told ℕ
and_then (Ok p) go = go p
and_then (Err r) go = Err r

-- A sign that has to stand at a place, and whitespace behind it.
unfoldable pub sign_at : ℕ → List ℕ → ℕ → Told ℕ
sign_at b s at = cond (eqb (get_or s at 0) b) (skip_from s (at + 1)) (Err (expected_attribute 0))

-- A sign that has to stand there, between whitespace.
unfoldable pub sign_from : ℕ → List ℕ → ℕ → Told ℕ
sign_from b s at = and_then (skip_from s at) (sign_at b s)
