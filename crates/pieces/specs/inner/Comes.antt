-- What the bytes that are taken come to, told as numbers.
use Rattle.std.specs.Prelude.{ℕ, ◌+◌, List, length, take}
use Rattle.text.specs.Refusals.{unexpected_char}
use Rattle.gaps.specs.Passes.{passed_of}
use Rattle.gaps.specs.declared.state.Open.{Open}
use Rattle.gaps.specs.declared.pass.Passed.{Passed}
use Rattle.gaps.specs.declared.pass.Passed.TheVariants.{Begins, Within, Unexpected}
use Rattle.pieces.specs.Come.{later, sooner}
use Rattle.pieces.specs.inner.Runs.{ran_of}
use Rattle.pieces.specs.declared.come.Reached.{Reached}
use Rattle.pieces.specs.declared.turn.Stands.TheVariants as stands

-- By where the whitespace and comments end.
abbrev pub come_by : Passed → List ℕ → ℕ → ℕ → Reached
come_by (Begins k) s kept whole = record { from = k; ran = ran_of s k kept whole }
come_by (Within o) s kept whole = record { from = 0; ran = record { count = 0; end = 0; bytes = length s; stands = stands.Within o } }
come_by (Unexpected p) s kept whole =
    record { from = 0; ran = record { count = 0; end = 0; bytes = sooner (later p (kept + 1)) (length s); stands = stands.Stopped (unexpected_char p) } }

-- What s gives.
unfoldable pub come_of : Open → List ℕ → ℕ → ℕ → Reached
come_of o s kept whole = come_by (passed_of o (take whole s)) s kept whole
