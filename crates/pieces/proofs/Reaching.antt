-- A gap that reaches to the end of a text. Assumes nothing.
use Prim.Native.Nat.{ℕ}
use mathlib.Core.List.{List}
use mathlib.Core.Path.{◌≡◌}
use lib.ListN.{length}
use Rattle.comments.specs.Gaps.{gap_of}
use Rattle.comments.specs.declared.gap.Gap.TheVariants as gap
use Rattle.text.specs.Refusals.{eof, unclosed_block_comment}
use Rattle.gaps.specs.Opens.{open_of, unpaired}
use Rattle.gaps.specs.declared.state.Open.TheVariants.{Slash, Line, Block}

-- whitespace and comments reach to the end of y, and this is open there
pub data Reaches (y : List ℕ) : Type 0 where
  passed : gap_of y ≡ gap.Clear (length y) → Reaches y
  slash : gap_of y ≡ gap.Refused (eof (length y)) → open_of y ≡ Slash → Reaches y
  line : gap_of y ≡ gap.InLine (length y) → open_of y ≡ Line → Reaches y
  block : (level last : ℕ) → unpaired last ≡ last → gap_of y ≡ gap.Refused (unclosed_block_comment (length y)) → open_of y ≡ Block level last → Reaches y
