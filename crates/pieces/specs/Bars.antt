-- An entry that is undecided for too long (document 02, change request 3): "At most 4,096 bytes from an undecided entry's start are held. .. 30, an entry undecided
-- when 4,096 bytes from its start have come and another follows, at its start, given before any refusal that needs a later byte".
use Rattle.std.specs.Prelude.{ℕ, ◌+◌, cond, List, leb, length}
use Rattle.text.specs.Refusals.{entry_too_long}
use Rattle.comments.specs.Gaps.{gap_of}
use Rattle.comments.specs.declared.gap.Gap.{Gap}
use Rattle.comments.specs.declared.gap.Gap.TheVariants as gap
use Rattle.arriving.specs.Arrivals.{Coming, Given, Passing, halt, pass, piece}
use Rattle.settled.specs.Settled.{ron_reader}

-- How many bytes from an undecided entry's start are held at most.
abbrev pub most_held : ℕ
most_held = 4096

-- Whether a byte is taken where `rest` has come behind an entry that ended at `at`: something has begun behind the gap, and it is as long as may be held.
abbrev pub bar_by : ℕ → List ℕ → Gap → Passing
bar_by at rest (gap.Clear g) = cond (leb (g + most_held) (length rest)) (halt (entry_too_long (at + g))) pass
bar_by at rest (gap.InLine n) = pass
bar_by at rest (gap.Refused r) = pass

unfoldable pub bar_of : ℕ → List ℕ → ℕ → Passing
bar_of at rest b = bar_by at rest (gap_of rest)

-- What bytes give, one after the other, from an arrival on.
abbrev pub bytes_give : Coming → List ℕ → Given
bytes_give c s = piece ron_reader bar_of c s
