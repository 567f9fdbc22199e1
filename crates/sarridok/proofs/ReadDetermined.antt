-- Two answers that meet the promise of `read` are equal, and so are the tapes behind them. Assumes nothing.
use Prim.Native.Nat.{ℕ}
use mathlib.Core.List.{List}
use mathlib.Core.Path.{◌∙◌, ◌≡◌, sym}
use lib.ListN.{length}
use Rattle.text.specs.Refusals.{Told}
use Rattle.read.specs.Read.{read_answer, read_tape}

-- what a read promises of its answer and of the tape afterwards
pub record Reads (text tape : List ℕ) (a : Told ℕ) (after : List ℕ) : Type 0 where
  pub answer : a ≡ read_answer text (length tape)
  pub tape_after : after ≡ read_tape text tape

pub read_determined : (text tape : List ℕ) (a b : Told ℕ) (after after' : List ℕ) → Reads text tape a after → Reads text tape b after' → (a ≡ b) × (after ≡ after')
read_determined text tape a b after after' p q = (p.answer ∙ sym q.answer, p.tape_after ∙ sym q.tape_after)
