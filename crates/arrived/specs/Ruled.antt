-- The rule of change request 3 (document 02) over a text alone, byte by byte: "At most 4,096 bytes from an undecided entry's start are held. However the text is
-- cut, the entries .. and the last answer are those of one reading with room enough, with three exceptions: bad UTF-8 and the byte after the 65,536th are told
-- when met, after the entries decided before, and a long entry has its own refusal."
use Rattle.std.specs.Prelude.{ℕ, zero, suc, ◌+◌, ◌-◌, Bool, cond, true, ◌&&◌, ◌||◌, List, [], ◌∷◌, ◌++◌, ◌≡◌, leb, length, take}
use Rattle.text.specs.Classes.{one_of, within}
use Rattle.text.specs.Refusals.{entry_too_long, not_utf8, too_long}
use Rattle.text.specs.declared.refusal.Refusal.{Refusal}
use Rattle.comments.specs.Gaps.{gap_of}
use Rattle.comments.specs.declared.gap.Gap.TheVariants as gap
use Rattle.octets.specs.Octets.{allowed_of}
use Rattle.octets.specs.declared.answer.Allowed.{Allowed}
use Rattle.octets.specs.declared.answer.Allowed.TheVariants.{All, Bad}
use Rattle.reading.specs.Readings.{Reading, broken}
use Rattle.arriving.specs.Arrivals.{Coming, Given, Passing, ended, going, halt, halted, pass, piece, shut}
use Rattle.inner.specs.Inner.{reasoned}
use Rattle.settled.specs.Settled.{ron_reader}
use Rattle.pieces.specs.Bars.{bar_of, most_held}
use Rattle.pieces.specs.Orders.{most_taken}

-- ---- before a byte is taken

-- 2, where with this byte no UTF-8 goes on: the first byte of its sequence.
abbrev pub utf8_bar : ℕ → Allowed → Passing
utf8_bar at (All m) = pass
utf8_bar at (Bad n k) = halt (not_utf8 (at + k))

-- 1, where 65,536 bytes have come; else 2.
unfoldable pub size_bar : ℕ → List ℕ → ℕ → Passing
size_bar at rest b = cond (leb most_taken (at + length rest)) (halt too_long) (utf8_bar at (allowed_of (rest ++ b ∷ [])))

-- The first of two that halts.
abbrev pub first_bar : Passing → Passing → Passing
first_bar (halt d) next = halt d
first_bar pass next = next

-- The whole rule: 30, else 1, else 2. `rest` has come behind an entry that ended at `at`, and b is the byte that follows.
unfoldable pub rule_bar : ℕ → List ℕ → ℕ → Passing
rule_bar at rest b = first_bar (bar_of at rest b) (size_bar at rest b)

-- ---- what a text gives

-- What the bytes of a text give, one after the other.
abbrev pub text_gives : List ℕ → Given
text_gives text = piece ron_reader rule_bar (going 0 []) text

-- What the end gives behind an entry that ended at `at`: 2 where a character is cut off, else the reading of the rest.
abbrev pub end_by : Allowed → ℕ → List ℕ → Reading
end_by (All zero) at rest = ended ron_reader (going at rest)
end_by (All (suc m)) at rest = broken (not_utf8 (at + (length rest - suc m)))
end_by (Bad n k) at rest = ended ron_reader (going at rest)

-- What the end of the text gives.
abbrev pub end_gives : Coming → Reading
end_gives (going at rest) = end_by (allowed_of rest) at rest
end_gives (shut d) = broken d
end_gives (halted d) = broken d

-- What the end of this text gives.
abbrev pub text_ends : List ℕ → Reading
text_ends text = end_gives (text_gives text).next

-- ---- the three exceptions

-- Why the byte behind the first n bytes of a text is not taken, and the refusal: 4,096 bytes have come from where something began that is undecided; or 65,536 bytes of
-- the text; or with this byte no UTF-8 goes on.
pub data Barred (text : List ℕ) (n : ℕ) : Refusal → Type 0 where
  long_entry : (at g : ℕ) (rest : List ℕ) → (text_gives (take n text)).next ≡ going at rest → gap_of rest ≡ gap.Clear g → length rest ≡ g + most_held → Barred text n (entry_too_long (at + g))
  long_text : n ≡ most_taken → Barred text n too_long
  bad_utf8 : (p : ℕ) → allowed_of text ≡ Bad n p → Barred text n (not_utf8 p)

-- ---- the refusals

-- A number that a text which arrives is refused with: 4 to 21 of reading, and the three exceptions.
unfoldable pub arrives : ℕ → Bool
arrives n = within 4 21 n || one_of (1 ∷ 2 ∷ 30 ∷ []) n

-- A refusal with such a number, and the reason that belongs to it.
abbrev pub Arrives : Refusal → Type 0
Arrives r = (arrives r.number && reasoned r) ≡ true
