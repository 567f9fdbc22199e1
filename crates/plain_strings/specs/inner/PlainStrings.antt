-- Plain strings, which the reading loop takes by itself. Document 01 does not speak of them: what a string is the token reader says, and that a plain
-- string is what it reads is proved in proofs/PlainStrings.antt.
use Rattle.std.specs.Prelude.{ℕ, ◌+◌, cond, ◌&&◌, List, eqb, drop, get_or}
use Rattle.strings.specs.Pieces.{plain}
use Rattle.text.specs.Runs.{run}

-- The length of the plain string at the front with its quotes: bytes that stand for themselves between two quotes; 0 where there is none.
unfoldable pub plain_string : List ℕ → ℕ
plain_string s = let n = run plain (drop 1 s) in cond (eqb (get_or s 0 0) 0x22 && eqb (get_or s (n + 1) 0) 0x22) (n + 2) 0
