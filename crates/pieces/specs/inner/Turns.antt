-- One decision over the bytes of a piece, as the code takes it; that decisions one after the other are what the bytes give one by one is proved (proofs/RunLaws.antt).
use Rattle.std.specs.Prelude.{ℕ, ◌+◌, ◌-◌, cond, List, eqb, leb, ltb, drop, get_or, length, take}
use Rattle.text.specs.Refusals.{entry_too_long, placed_behind, unexpected_char}
use Rattle.gaps.specs.Passes.{passed_of}
use Rattle.gaps.specs.declared.state.Open.TheVariants.{Clear}
use Rattle.gaps.specs.declared.pass.Passed.{Passed}
use Rattle.gaps.specs.declared.pass.Passed.TheVariants.{Begins, Within, Unexpected}
use Rattle.pieces.specs.Bars.{most_held}
use Rattle.pieces.specs.Come.{later, sooner}
use Rattle.pieces.specs.inner.Waiting.{stridden}
use Rattle.pieces.specs.declared.verdict.Verdict.{Verdict}
use Rattle.pieces.specs.declared.verdict.Verdict.TheVariants.{Nothing, Gives, Shuts}
use Rattle.pieces.specs.declared.turn.Turned.{Turned}
use Rattle.pieces.specs.declared.turn.Turned.TheVariants.{On, Over}
use Rattle.pieces.specs.declared.turn.Stands.TheVariants as stands

-- The bytes of s between two places.
abbrev pub between : ℕ → ℕ → List ℕ → List ℕ
between a b s = drop a (take b s)

-- At a `/` and what is no comment, which end at a place.
unfoldable pub behind_slash_at : List ℕ → ℕ → ℕ → ℕ → Turned
behind_slash_at s at place seen =
    cond (eqb (get_or s (place - 1) 0) 0x2f) (Over 0 at (length s) (stands.Held at))
    (cond (eqb seen (length s)) (Over 0 at seen (stands.Held at)) (Over 0 at (later place (seen + 1)) (stands.Stopped (unexpected_char place))))

-- Nothing is decided of what has begun at `start`.
unfoldable pub undecided_at : List ℕ → ℕ → ℕ → ℕ → Turned
undecided_at s at start seen =
    cond (ltb (later seen (start + most_held)) (length s)) (Over 0 at (later seen (start + most_held)) (stands.Stopped (entry_too_long start)))
    (Over 0 at (length s) (stands.Begun start))

-- What the first deciding byte says.
abbrev pub turn_by : Verdict → List ℕ → ℕ → ℕ → ℕ → ℕ → Turned
turn_by Nothing s at start seen bytes = undecided_at s at start seen
turn_by (Gives n end) s at start seen bytes = On n (start + end) bytes
turn_by (Shuts n end d) s at start seen bytes = Over n (cond (eqb n 0) at (start + end)) bytes (stands.Stopped (placed_behind start d))

-- What is decided of what has begun at `start`, within the bytes that may be held.
unfoldable pub decided_at : List ℕ → ℕ → ℕ → ℕ → Turned
decided_at s at start seen =
    let here = later seen start in
    let to = sooner (start + most_held) (length s) in
    let w = stridden (between start to s) (here - start) in
    cond (leb to here) (undecided_at s at start seen) (turn_by w.verdict s at start seen (start + w.bytes))

abbrev pub turn_passed : Passed → List ℕ → ℕ → ℕ → Turned
turn_passed (Within o) s at seen = Over 0 at (length s) (stands.Within o)
turn_passed (Unexpected p) s at seen = behind_slash_at s at (at + p) seen
turn_passed (Begins k) s at seen = decided_at s at (at + k) seen

-- The next decision.
unfoldable pub turn_of : List ℕ → ℕ → ℕ → ℕ → Turned
turn_of s at seen whole = turn_passed (passed_of Clear (between at whole s)) s at seen
