-- A state in order (document 02, change request 3): "23, a state out of order, first and never for one that these calls made". Numbers only: no byte is looked at.
use Rattle.std.specs.Prelude.{ℕ, ◌+◌, Bool, true, false, not, ◌&&◌, ◌||◌, [], ◌∷◌, eqb, leb}
use Rattle.text.specs.Classes.{one_of, within}
use Rattle.text.specs.declared.refusal.Refusal.{Refusal}
use Rattle.gaps.specs.declared.state.Open.{Open}
use Rattle.gaps.specs.declared.state.Open.TheVariants.{Clear, Slash, Line, Block}
use Rattle.pieces.specs.Bars.{most_held}
use Rattle.pieces.specs.declared.state.Arrival.{Arrival}

-- How long a text may be (document 01).
abbrev pub most_taken : ℕ
most_taken = 65536

-- Nothing is open.
abbrev pub is_clear : Open → Bool
is_clear Clear = true
is_clear Slash = false
is_clear Line = false
is_clear (Block level last) = false

-- What is open may be so behind so many bytes: no more comments than bytes, and the last byte 0, `*` or `/`.
abbrev pub open_fits : Open → ℕ → Bool
open_fits Clear taken = true
open_fits Slash taken = true
open_fits Line taken = true
open_fits (Block level last) taken = leb level taken && one_of (0 ∷ 0x2a ∷ 0x2f ∷ []) last

-- No refusal was given.
unfoldable pub is_none : Refusal → Bool
is_none r = eqb r.number 0 && (eqb r.reason 0 && eqb r.place 0)

-- The reason of an escape, 1 to 8, with 13, and 0 with every other number.
unfoldable pub reason_fits : Refusal → Bool
reason_fits r = (eqb r.number 13 && within 1 8 r.reason) || (not (eqb r.number 13) && eqb r.reason 0)

-- A refusal that may have been given behind so many bytes: 1 to 21 or 30, within them, with its reason.
unfoldable pub is_given : Refusal → ℕ → Bool
is_given r taken = (within 1 21 r.number || eqb r.number 30) && (leb r.place taken && reason_fits r)

-- No refusal was given, or one was, and behind it nothing is kept or open.
unfoldable pub refusal_fits : Arrival → Bool
refusal_fits a = is_none a.refusal || (is_given a.refusal a.taken && (eqb a.kept 0 && is_clear a.gap))

-- The bytes of a part are kept, no more than may be held, behind the end of the last entry; within a gap those of a part alone.
unfoldable pub kept_fits : Arrival → Bool
kept_fits a =
    leb a.part 3 && (leb a.part a.kept && (leb a.kept most_held
    && (leb (a.former + a.kept) a.taken && (is_clear a.gap || eqb a.kept a.part))))

-- A state in order.
unfoldable pub in_order : Arrival → Bool
in_order a = leb a.taken most_taken && (kept_fits a && (open_fits a.gap a.taken && refusal_fits a))
