-- What the bytes that are taken of a piece give (document 02, change request 3): first the whitespace and comments that the state stands in are passed; from where a
-- token begins on, the bytes are taken one by one (crate arriving). Places are counted from the front of what was kept.
use Rattle.std.specs.Prelude.{ℕ, ◌+◌, ◌-◌, cond, List, [], ◌++◌, leb, drop, length, take}
use Rattle.text.specs.Refusals.{unexpected_char}
use Rattle.text.specs.declared.refusal.Refusal.{Refusal}
use Rattle.rows.specs.declared.Entry.{Entry}
use Rattle.gaps.specs.Passes.{passed_of}
use Rattle.gaps.specs.declared.state.Open.{Open}
use Rattle.gaps.specs.declared.pass.Passed.{Passed}
use Rattle.gaps.specs.declared.pass.Passed.TheVariants.{Begins, Within, Unexpected}
use Rattle.arriving.specs.Arrivals.{Coming, Given, going, halted, shut}
use Rattle.pieces.specs.Bars.{bytes_give}

-- Where the text stands: nothing has begun, and this is open; or so many bytes have come behind the end of the last entry; or it is refused.
pub data Standing : Type 0 where
  within : Open → Standing
  behind : ℕ → List ℕ → Standing
  stopped : Refusal → Standing

-- What bytes give, where the text stands behind them, and how many of them were taken.
pub record Came : Type 0 where
  pub entries : List Entry
  pub standing : Standing
  pub bytes : ℕ

-- The later of two places.
unfoldable pub later : ℕ → ℕ → ℕ
later a b = cond (leb a b) b a

-- The sooner of two places.
unfoldable pub sooner : ℕ → ℕ → ℕ
sooner a b = cond (leb a b) a b

-- Where an arrival stands.
abbrev pub stands_at : Coming → Standing
stands_at (going at rest) = behind at rest
stands_at (shut d) = stopped d
stands_at (halted d) = stopped d

-- What bytes give of which so many were passed before.
abbrev pub came_behind : ℕ → Given → Came
came_behind passed g = record { entries = g.entries; standing = stands_at g.next; bytes = passed + g.bytes }

-- What s gives, of which the first `kept` bytes were there before, by where its whitespace and comments end.
abbrev pub came_by : Passed → ℕ → List ℕ → Came
came_by (Begins k) kept s = came_behind (later k kept - kept) (bytes_give (going k (drop k (take kept s))) (drop (later k kept) s))
came_by (Within o) kept s = record { entries = []; standing = within o; bytes = length s - kept }
came_by (Unexpected p) kept s = record { entries = []; standing = stopped (unexpected_char p); bytes = sooner (later p (kept + 1)) (length s) - kept }

-- What the whole characters and then the bytes of one that has not come whole give, the first `kept` of which were there before, where this was open.
unfoldable pub came_of : Open → ℕ → List ℕ → List ℕ → Came
came_of o kept whole part = came_by (passed_of o whole) kept (whole ++ part)
