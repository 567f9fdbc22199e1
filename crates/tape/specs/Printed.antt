-- What the program prints (document 01, "Worked texts"): "The tape program reads standard input, has a tape of 16,384 numbers, and prints .. For a refusal
-- it prints `refused`, number and place."
use Rattle.std.specs.Prelude.{Ok, Err, ℕ, List, [], ◌∷◌, ◌++◌, length}
use Rattle.read.specs.Read.{read_answer, read_tape}
use Rattle.show.specs.Answers.{placed_text}
use Rattle.show.specs.Readings.{read_text}
use Rattle.text.specs.Refusals.{Told}

-- The answer of a read: each entry on a line of its own, or the refusal without its reason, which document 01 does not print.
abbrev pub said_text : List ℕ → Told ℕ → List ℕ
said_text tape (Ok n) = read_text 10 tape n
said_text tape (Err r) = placed_text r

-- And an LF behind it.
unfoldable pub printed_text : List ℕ → List ℕ → List ℕ
printed_text text tape = said_text (read_tape text tape) (read_answer text (length tape)) ++ 10 ∷ []
