-- A text that arrives (document 02, change request 3), byte by byte. What stands between two bytes: the end of the last entry given and the bytes behind it,
-- or a refusal, which every later byte gets.
use Rattle.std.specs.Prelude.{ℕ, ◌+◌, ◌-◌, Bool, true, false, cond, ◌&&◌, ◌||◌, List, [], ◌∷◌, ◌++◌, leb, eqb, length, drop}
use Rattle.text.specs.declared.refusal.Refusal.{Refusal}
use Rattle.text.specs.Refusals.{placed_behind}
use Rattle.rows.specs.declared.Entry.{Entry}
use Rattle.reading.specs.Tokens.{Answer, token, stop, refuse}
use Rattle.reading.specs.Readings.{Reading, complete, broken, entry, read_part, entries, end_of, ◌▸◌}
use Rattle.arriving.specs.Owing.{Reader}

-- `going at rest`: the last entry given ended at `at`, and `rest` has come behind it. `shut`: the reading is refused. `halted`: a byte was not taken, told before
-- anything it would decide: bad UTF-8, the byte after the last allowed, or one more behind an entry that is undecided for too long.
pub data Coming : Type 0 where
  going : ℕ → List ℕ → Coming
  shut : Refusal → Coming
  halted : Refusal → Coming

-- What bytes give, what stands behind them, and how many of them were taken: those up to a refusal, with the byte that gives it unless it halts.
pub record Given : Type 0 where
  pub entries : List Entry
  pub next : Coming
  pub bytes : ℕ

-- Whether a byte is taken, by the end of the last entry, what came behind it, and the byte.
pub data Passing : Type 0 where
  pass : Passing
  halt : Refusal → Passing

-- ---- a refusal that stays

abbrev pub is_refused : Answer → Bool
is_refused (refuse d) = true
is_refused (token t) = false
is_refused stop = false

-- What has come from an entry's end on is refused, and so however it goes on.
unfoldable pub spoilt : Reader → List ℕ → Bool
spoilt R s = R.settles s && is_refused (R.tok s)

-- ---- which entries are decided

-- The entries of a reading that end at n or before, up to the first that does not.
unfoldable pub up_to : ℕ → Reading → List Entry
up_to n complete = []
up_to n (broken d) = []
up_to n (entry e r) = let rest = up_to n r in cond (leb e.end n) (e ∷ rest) []

-- The entries of a reading of s that its last byte b decides: all where b closes the last of them; those that end before b where b decides; all where what is
-- behind them is refused for good; else none.
abbrev pub decided_of : Reader → ℕ → List ℕ → ℕ → Reading → List Entry
decided_of R at s b r =
    cond (R.closes b && eqb (end_of at (entries r)) (at + length s)) (entries r)
    (cond (R.decides b) (up_to (at + length s - 1) r)
    (cond (R.stops b && spoilt R (drop (end_of at (entries r) - at) s)) (entries r) []))

-- The entries that the last byte b of s decides.
unfoldable pub decided : Reader → ℕ → List ℕ → ℕ → List Entry
decided R at s b = decided_of R at s b (read_part R.tok at s)

-- ---- a byte

-- The refusal of what is left, if it is one.
abbrev pub by_answer : Answer → ℕ → List ℕ → Coming
by_answer (refuse d) at left = shut (placed_behind at d)
by_answer (token t) at left = going at left
by_answer stop at left = going at left

-- What is left from `at` on: refused, or kept.
unfoldable pub left_at : Reader → ℕ → List ℕ → Coming
left_at R at left = cond (R.settles left) (by_answer (R.tok left) at left) (going at left)

-- Behind these entries of s.
abbrev pub behind : Reader → ℕ → List ℕ → List Entry → Given
behind R at s es = record { entries = es; next = left_at R (end_of at es) (drop (end_of at es - at) s); bytes = 1 }

-- The last byte b of s is looked at: it stops, or it ends a character for which s is refused at once.
unfoldable pub looks : Reader → List ℕ → ℕ → Bool
looks R s b = R.stops b || R.once s

-- Behind the last byte b of s: what it decides, or s is kept.
abbrev pub taken : Reader → ℕ → List ℕ → ℕ → Given
taken R at s b = cond (looks R s b) (behind R at s (decided R at s b)) (record { entries = []; next = going at s; bytes = 1 })

-- By whether the byte is taken.
abbrev pub by_passing : Passing → Given → Given
by_passing pass g = g
by_passing (halt d) g = record { entries = []; next = halted d; bytes = 0 }

-- One byte.
abbrev pub step : Reader → (ℕ → List ℕ → ℕ → Passing) → Coming → ℕ → Given
step R bar (going at rest) b = by_passing (bar at rest b) (taken R at (rest ++ b ∷ []) b)
step R bar (shut d) b = record { entries = []; next = shut d; bytes = 0 }
step R bar (halted d) b = record { entries = []; next = halted d; bytes = 0 }

-- ---- a piece, and the end

-- A piece: its bytes one after the other.
unfoldable pub piece : Reader → (ℕ → List ℕ → ℕ → Passing) → Coming → List ℕ → Given
piece R bar a [] = record { entries = []; next = a; bytes = 0 }
piece R bar a (b ∷ s) =
    let g = step R bar a b in let h = piece R bar g.next s in record { entries = g.entries ++ h.entries; next = h.next; bytes = g.bytes + h.bytes }

-- What the end of the text gives: the reading of what is kept.
abbrev pub ended : Reader → Coming → Reading
ended R (going at rest) = read_part R.tok at rest
ended R (shut d) = broken d
ended R (halted d) = broken d

-- All that is given from an arrival on, by the bytes s and the end behind them.
abbrev pub arrived : Reader → (ℕ → List ℕ → ℕ → Passing) → Coming → List ℕ → Reading
arrived R bar a s = (piece R bar a s).entries ▸ ended R (piece R bar a s).next

-- ---- pieces

-- Pieces one after the other: all that they give together.
unfoldable pub pieces : Reader → (ℕ → List ℕ → ℕ → Passing) → Coming → List (List ℕ) → Given
pieces R bar a [] = record { entries = []; next = a; bytes = 0 }
pieces R bar a (p ∷ ps) =
    let g = piece R bar a p in let h = pieces R bar g.next ps in record { entries = g.entries ++ h.entries; next = h.next; bytes = g.bytes + h.bytes }

-- The text that pieces make.
unfoldable pub joined : List (List ℕ) → List ℕ
joined [] = []
joined (p ∷ ps) = p ++ joined ps
