use native.Mathlib.Nat.{add-zero}
use Rattle.text.proofs.AsciiLaws.{or_ascii}
use Rattle.text.specs.Runs.{ascii_for}
use Rattle.text.proofs.ascii.ascii8.Goals as goal

pub returns : goal.returns
unfolding ascii_for
returns c = simp (or_ascii, add-zero)
