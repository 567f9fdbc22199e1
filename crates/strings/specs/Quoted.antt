-- Quoted strings and byte strings (document 01, module 4): "The closing quote is searched for before any escape is judged."
use Rattle.std.specs.Prelude.{Ok, Err, ℕ, ◌+◌, List, Bool, false, cond, ◌||◌, length, drop, ltb}
use Rattle.text.specs.Refusals.{Told, placed_behind, expected_string_end}
use Rattle.text.specs.Runs.{run}
use Rattle.escapes.specs.declared.answers.Mode.{Mode}
use Rattle.strings.specs.declared.literal.Literal.{Literal}
use Rattle.strings.specs.Pieces.{Body, unquoted, body_of}
use Rattle.strings.specs.Pieces.Body.{closes, unclosed, spoilt, next}

-- A string that was read.
abbrev pub literal : ℕ → ℕ → ℕ → ℕ → Bool → Literal
literal l b e d c = record { len = l; start = b; end = e; decoded = d; escaped = c }

-- What a body comes to. It started at `start`, and what is left of it stands at `at`; the last escape or continuation ended at `from`, from where the end
-- is searched for; so many bytes are decoded, and something was escaped or not.
unfoldable pub measured : Body → ℕ → ℕ → ℕ → ℕ → Bool → Told Literal
measured closes start from at decoded escaped = Ok (literal (at + 1) start at decoded escaped)
measured unclosed start from at decoded escaped = Err (expected_string_end from)
measured (spoilt r) start from at decoded escaped = Err (placed_behind at r)
measured (next n bytes changed rest) start from at decoded escaped =
    measured rest start (cond changed (at + n) from) (at + n) (decoded + length bytes) (escaped || changed)

-- The string whose contents begin at `start`: without any quote behind it nothing is judged.
unfoldable pub quoted_of : Mode → ℕ → List ℕ → Told Literal
quoted_of m start s =
    cond (ltb (run unquoted (drop start s)) (length (drop start s))) (measured (body_of m (drop start s)) start start start 0 false)
    (Err (expected_string_end start))
