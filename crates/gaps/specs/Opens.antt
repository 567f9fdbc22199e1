-- What is open where a text that arrives stands between two pieces, within whitespace and comments (document 02, change request 3): "We want to hand over each
-- piece and get the entries decided so far. .. However the text is cut, the entries .. and the last answer are those of one reading". Of whitespace and
-- comments only what is open has to be kept: proofs/Canon.antt.
use Rattle.std.specs.Prelude.{ℕ, zero, suc, pred, ◌+◌, ◌-◌, List, [], ◌∷◌, ◌++◌, cond, ◌≡◌, drop, eqb}
use Rattle.comments.specs.Blocks.{decision_of}
use Rattle.comments.specs.Gaps.{gap_of, item_of}
use Rattle.comments.specs.declared.block.Decision.TheVariants as decision
use Rattle.comments.specs.declared.gap.Gap.{Gap}
use Rattle.comments.specs.declared.gap.Gap.TheVariants as gap
use Rattle.comments.specs.declared.gap.Item.{Item}
use Rattle.comments.specs.declared.gap.Item.TheVariants.{Blank, LineOpen, BlockOpen, Unexpected, Ended, Other}
use Rattle.text.specs.Refusals.{at_place}
use Rattle.gaps.specs.declared.state.Open.{Open}
use Rattle.gaps.specs.declared.state.Open.TheVariants.{Clear, Slash, Line, Block}

-- ---- the shortest text that leaves it open

-- So many marks `/*`, one after the other.
unfoldable pub marks : ℕ → List ℕ
marks zero = []
marks (suc n) = 0x2f ∷ 0x2a ∷ marks n

-- The last byte of a block comment, if there is an unpaired one.
unfoldable pub last_byte : ℕ → List ℕ
last_byte last = cond (eqb last 0) [] (last ∷ [])

-- The shortest text that leaves it open: `/`; `//`; `/*` once for the comment and once for each other around it, and the last byte.
unfoldable pub front : Open → List ℕ
front Clear = []
front Slash = 0x2f ∷ []
front Line = 0x2f ∷ 0x2f ∷ []
front (Block level last) = marks (suc level) ++ last_byte last

-- ---- what is open behind a text

-- A byte that may be the first of a mark, `*` or `/`, and 0 for every other.
unfoldable pub unpaired : ℕ → ℕ
unpaired a = cond (eqb a 0x2a) a (cond (eqb a 0x2f) a 0)

-- What a text can leave open: a block comment's last byte is 0, `*` or `/`.
abbrev pub Fits : Open → Type 0
Fits Clear = Unit {0}
Fits Slash = Unit {0}
Fits Line = Unit {0}
Fits (Block level last) = unpaired last ≡ last

-- What is open behind the bytes s of a block comment that has `level` others around it: it follows the rule of nesting, as `block_from` does.
unfoldable pub block_open : List ℕ → ℕ → Open
block_open [] level = Block level 0
block_open (a ∷ []) level = Block level (unpaired a)
block_open (a ∷ b ∷ s) level =
    elim (decision_of a b (suc level)) [
      | decision.Open ↦ block_open s (suc level)
      | decision.CloseLast ↦ Clear
      | decision.CloseInner ↦ block_open s (pred level)
      | decision.PassOn ↦ block_open (b ∷ s) level
    ]

-- What an item leaves open that begins with a byte and then s: behind n bytes of whitespace or a closed comment it goes on.
abbrev pub by_open : Item → (ℕ → Open) → List ℕ → Open
by_open (Blank n) on s = on n
by_open LineOpen on s = Line
by_open BlockOpen on s = block_open (drop 1 s) 0
by_open (Unexpected n) on s = Clear
by_open Ended on s = Slash
by_open Other on s = Clear

-- What is open behind s, of which the first `left` bytes belong to an item already judged.
unfoldable pub open_from : List ℕ → ℕ → Open
open_from [] left = Clear
open_from (a ∷ s) (suc left) = open_from s left
open_from (a ∷ s) zero = by_open (item_of (a ∷ s)) (λ n. open_from s (pred n)) s

-- What is open behind s, which is read as whitespace and comments.
unfoldable pub open_of : List ℕ → Open
open_of s = open_from s 0

-- How many comments stand around the one that is open.
abbrev pub level_of : Open → ℕ
level_of Clear = 0
level_of Slash = 0
level_of Line = 0
level_of (Block level last) = level

-- ---- what is kept of a text

-- What is kept of s, by the gap that it begins with: what stands behind the gap; all where 5 is refused; of an open comment, nothing.
abbrev pub kept_by : Gap → List ℕ → List ℕ
kept_by (gap.Clear g) s = drop g s
kept_by (gap.InLine n) s = []
kept_by (gap.Refused r) s = cond (eqb r.number 5) s []

-- What is kept of s.
unfoldable pub kept_of : List ℕ → List ℕ
kept_of s = kept_by (gap_of s) s

-- A text for s that leaves the same open, with what is kept behind it.
unfoldable pub canon : List ℕ → List ℕ
canon s = front (open_of s) ++ kept_of s

-- ---- the same answer at another place

-- The same gap told d bytes further on.
abbrev pub later_by : ℕ → Gap → Gap
later_by d (gap.Clear n) = gap.Clear (d + n)
later_by d (gap.InLine n) = gap.InLine (d + n)
later_by d (gap.Refused r) = gap.Refused (at_place r (d + r.place))

-- The same gap told d bytes before.
abbrev pub earlier_by : ℕ → Gap → Gap
earlier_by d (gap.Clear n) = gap.Clear (n - d)
earlier_by d (gap.InLine n) = gap.InLine (n - d)
earlier_by d (gap.Refused r) = gap.Refused (at_place r (r.place - d))
