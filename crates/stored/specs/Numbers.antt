-- A state as numbers (docs/ARRIVAL.md: "plain numbers and bytes, which a host may store over a loss of power"). Nine of them,
-- `taken,part,gap,level,last,number,place,reason,former`, and how many bytes are kept. gap is 0 where nothing is open, 1 behind a `/`, 2 in a line comment, 3 in a
-- block comment, with `level` others around it and `last` its last byte.
use Rattle.std.specs.Prelude.{ℕ, ◌-◌, ◌^◌, cond, ◌&&◌, ◌||◌, List, [], ◌∷◌, ◌++◌, Option, None, Some, eqb, leb, ltb, drop, get_or, length}
use Rattle.gaps.specs.declared.state.Open.{Open}
use Rattle.gaps.specs.declared.state.Open.TheVariants.{Clear, Slash, Line, Block}
use Rattle.pieces.specs.declared.state.Arrival.{Arrival}

-- ---- read

-- What is open where there is no block comment.
abbrev pub plain_of : ℕ → Option Open
plain_of n = cond (eqb n 0) (Some Clear) (cond (eqb n 1) (Some Slash) (cond (eqb n 2) (Some Line) None))

-- What three numbers say is open: only a block comment has a level and a last byte, which is below 256.
unfoldable pub gap_of : ℕ → ℕ → ℕ → Option Open
gap_of n level last =
    cond (eqb n 3) (cond (ltb 255 last) None (Some (Block level last)))
    (cond (eqb level 0 && eqb last 0) (plain_of n) None)

-- The state that nine numbers say, with so many bytes kept.
abbrev pub numbered : List ℕ → ℕ → Open → Arrival
numbered s kept o =
    record {
      taken = get_or s 0 0;
      kept = kept;
      part = get_or s 1 0;
      former = get_or s 8 0;
      gap = o;
      refusal = record { number = get_or s 5 0; reason = get_or s 7 0; place = get_or s 6 0 };
    }

-- The same where the gap is known: a refusal's number and reason are below 256.
abbrev pub state_by : Option Open → List ℕ → ℕ → Option Arrival
state_by (Some o) s kept = cond (ltb 255 (get_or s 5 0) || ltb 255 (get_or s 7 0)) None (Some (numbered s kept o))
state_by None s kept = None

-- What nine numbers say.
unfoldable pub state_of : List ℕ → ℕ → Option Arrival
state_of s kept = state_by (gap_of (get_or s 2 0) (get_or s 3 0) (get_or s 4 0)) s kept

-- ---- stored

-- A number, or the largest of 32 bits.
unfoldable pub low : ℕ → ℕ
low n = cond (ltb (2 ^ 32 - 1) n) (2 ^ 32 - 1) n

-- The number of what is open,
abbrev pub gap_number : Open → ℕ
gap_number Clear = 0
gap_number Slash = 1
gap_number Line = 2
gap_number (Block level last) = 3

-- how many comments stand around it,
abbrev pub level_number : Open → ℕ
level_number Clear = 0
level_number Slash = 0
level_number Line = 0
level_number (Block level last) = level

-- and its last byte.
abbrev pub last_number : Open → ℕ
last_number Clear = 0
last_number Slash = 0
last_number Line = 0
last_number (Block level last) = last

-- A state's ten numbers: the nine, and how many bytes are kept.
unfoldable pub numbers_of : Arrival → List ℕ
numbers_of a =
    low a.taken ∷ low a.part ∷ gap_number a.gap ∷ level_number a.gap ∷ last_number a.gap ∷ a.refusal.number ∷ low a.refusal.place ∷ a.refusal.reason
    ∷ low a.former ∷ low a.kept ∷ []

-- A slice with a state's numbers at its front, and behind them what stood there; one that is shorter stays as it was.
unfoldable pub stored_in : Arrival → List ℕ → List ℕ
stored_in a s = cond (leb 10 (length s)) (numbers_of a ++ drop 10 s) s
