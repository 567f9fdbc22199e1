-- A state as text: the nine numbers of crate stored, `taken,part,gap,level,last,number,place,reason,former`, and the bytes that are kept.
use Rattle.std.specs.Prelude.{Some, None, Option, ℕ, cond, List, ◌∷◌, ◌++◌, eqb, length, take}
use Rattle.gaps.specs.declared.state.Open.{Open}
use Rattle.gaps.specs.declared.state.Open.TheVariants.{Clear, Slash, Line, Block}
use Rattle.lines.specs.Ascii.{ascii}
use Rattle.lines.specs.Decimal.{decimal}
use Rattle.pieces.specs.declared.state.Arrival.{Arrival}
use Rattle.show.specs.Hexes.{hex_text}
use Rattle.arrivals.specs.declared.states.Spoken.{Spoken}
use Rattle.arrivals.specs.declared.states.Spoken.TheVariants as spoken

-- ---- read

-- What numbers say that a word has.
abbrev pub spoken_by : Option Arrival → Spoken
spoken_by (Some a) = spoken.State a
spoken_by None = spoken.Unfit

-- ---- shown

-- A number behind a comma.
unfoldable pub item_text : ℕ → List ℕ
item_text n = 44 ∷ decimal n

-- Three numbers.
unfoldable pub three_text : ℕ → ℕ → ℕ → List ℕ
three_text a b c = item_text a ++ item_text b ++ item_text c

-- What is open.
abbrev pub open_text : Open → List ℕ
open_text Clear = three_text 0 0 0
open_text Slash = three_text 1 0 0
open_text Line = three_text 2 0 0
open_text (Block level last) = three_text 3 level last

-- A state's nine numbers.
unfoldable pub state_text : Arrival → List ℕ
state_text a =
    decimal a.taken ++ item_text a.part ++ open_text a.gap ++ three_text a.refusal.number a.refusal.place a.refusal.reason
    ++ item_text a.former

-- Bytes in hex, `-` for none.
unfoldable pub bytes_text : List ℕ → List ℕ
bytes_text s = cond (eqb (length s) 0) (ascii "-") (hex_text s)

-- ` -> STATE KEPT`, with what is kept at the buffer's front.
unfoldable pub stands_text : Arrival → List ℕ → List ℕ
stands_text a buffer = ascii " -> " ++ state_text a ++ (32 ∷ bytes_text (take a.kept buffer))
