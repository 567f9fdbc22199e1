-- The steps of `pass_gap`, at places of the piece.
use Rattle.std.specs.Prelude.{ℕ, suc, List, drop, length, Some, None, Option, Result, Ok, Err}
use Rattle.comments.specs.Blocks.{block_from}
use Rattle.comments.specs.Gaps.{gap_from}
use Rattle.comments.specs.Lines.{line_from}
use Rattle.comments.specs.declared.gap.Item.{Item}
use Rattle.comments.specs.declared.gap.Item.TheVariants.{Blank, LineOpen, BlockOpen, Unexpected, Ended, Other}
use Rattle.gaps.specs.Opens.{block_open, open_from}
use Rattle.gaps.specs.Passes.{passed_by}
use Rattle.gaps.specs.declared.pass.Passed.{Passed}
use Rattle.gaps.specs.declared.pass.Passed.TheVariants as passed
use Rattle.gaps.specs.declared.state.Open.{Open}
use Rattle.gaps.specs.declared.state.Open.TheVariants.{Slash, Line}
use Rattle.gaps.specs.declared.step.Step.{Step}
use Rattle.gaps.specs.declared.step.Step.TheVariants as step

-- How far a block comment goes, by its end.
abbrev pub rest_by : Open → Option ℕ → Result ℕ Open
rest_by left (Some n) = Ok n
rest_by left None = Err left

-- From the place i in a block comment with `level` others around it.
unfoldable pub rest_of : List ℕ → ℕ → ℕ → Result ℕ Open
rest_of s i level = rest_by (block_open (drop i s) level) (block_from (drop i s) (suc level) i)

-- What an item comes to that s begins with.
abbrev pub step_by : List ℕ → Item → Step
step_by s (Blank n) = step.On n
step_by s LineOpen = step.Still Line
step_by s BlockOpen = step.Still (block_open (drop 2 s) 0)
step_by s (Unexpected n) = step.Odd n
step_by s Ended = step.Still Slash
step_by s Other = step.Begins

-- From the place i of a piece, where nothing is open.
unfoldable pub clear_at : List ℕ → ℕ → Passed
clear_at s i = passed_by (gap_from (drop i s) 0 i) (open_from (drop i s) 0) 0 (length s)

-- Behind a comment, or in it.
abbrev pub behind_end : List ℕ → Open → Option ℕ → Passed
behind_end s left (Some n) = clear_at s n
behind_end s left None = passed.Within left

-- From the place i in a line comment.
unfoldable pub line_at : List ℕ → ℕ → Passed
line_at s i = behind_end s Line (line_from (drop i s) i)

-- From the place i in a block comment with `level` others around it.
unfoldable pub block_at : List ℕ → ℕ → ℕ → Passed
block_at s i level = behind_end s (block_open (drop i s) level) (block_from (drop i s) (suc level) i)
