-- One blank or comment of a piece. Assumes nothing.
use Rattle.std.proofs.Common.{Some, None, Option, Result, Ok, Err}
use Prim.Native.Nat.{◌<◌, ℕ}
use native.Mathlib.Omega.{arith}
use mathlib.Core.List.{List}
use mathlib.Core.Path.{◌∙◌, ◌≡◌, ap, refl, sym}
use lib.ListN.{drop, get_or, length}
use Rattle.comments.proofs.GapLaws.{comment_block}
use Rattle.comments.specs.Blocks.{block_end}
use Rattle.comments.specs.Gaps.{block_item, comment_of}
use Rattle.gaps.proofs.BlockOpens.{block_moved, later_end}
use Rattle.gaps.specs.Opens.{block_open}
use Rattle.gaps.specs.inner.Steps.{rest_by, rest_of, step_by}
use Rattle.gaps.specs.declared.state.Open.{Open}
use Rattle.gaps.specs.declared.step.Step.{Step}
use Rattle.gaps.specs.declared.step.Step.TheVariants as step

-- what a block comment comes to, by how far it goes
abbrev pub step_rest : Result ℕ Open → Step
step_rest (Ok n) = step.On n
step_rest (Err o) = step.Still o

by_end : (s : List ℕ) (c : Option ℕ) → step_by s (block_item c) ≡ step_rest (rest_by (block_open (drop 2 s) 0) (later_end 2 c))
by_end s (Some n) = ap step.On (omega arith)
by_end s None = refl

pub block_step : (s : List ℕ) → 1 < length s → get_or s 0 0 ≡ 0x2f → get_or s 1 0 ≡ 0x2a → step_by s (comment_of s) ≡ step_rest (rest_of s 2 0)
unfolding rest_of block_end
block_step s p e f =
    ap (step_by s) (comment_block s p e f)
    ∙ by_end s (block_end (drop 2 s))
    ∙ ap (λ (c : Option ℕ). step_rest (rest_by (block_open (drop 2 s) 0) c)) (sym (block_moved (drop 2 s) 1 2 0))
