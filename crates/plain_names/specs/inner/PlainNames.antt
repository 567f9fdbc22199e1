-- Plain names, which the reading loop takes by itself. Document 01 does not speak of them: what a name is the token reader says, and that a plain name is
-- what it reads is proved in proofs/PlainNames.antt. No string, byte literal or raw name is one, since a quote or `#` stands behind its letters.
use Rattle.std.specs.Prelude.{ℕ, cond, not, ◌&&◌, List, get_or}
use Rattle.names.specs.Classify.{begins_float}
use Rattle.reading.specs.Owed.{quiet_byte}
use Rattle.text.specs.Classes.{ascii_first, ascii_next}
use Rattle.text.specs.Runs.{run}

-- The length of the plain name at the front: ASCII letters, digits and `_` with a quiet byte behind them, the first no digit, that do not begin with `inf`
-- or `NaN`; 0 where there is none.
unfoldable pub plain_name : List ℕ → ℕ
plain_name s = let n = run ascii_next s in cond (ascii_first (get_or s 0 0) && (quiet_byte (get_or s n 0) && not (begins_float s))) n 0
