-- What the scan passes over (document 01, module 8), as the crate's lines do one after the other: whitespace and comments; a char, where any failure means
-- that none stands there; a string, where only 16 means that, and a byte string, where only 18 does. Any other refusal ends the scan.
use Rattle.std.specs.Prelude.{Ok, Err}
use Rattle.text.specs.Refusals.{Told}
use Rattle.strings.specs.declared.literal.Literal.{Literal}
use Rattle.std.specs.Prelude.{ℕ, ◌+◌, ◌^◌, ◌<◌, ◌≤◌, cond, List, eqb, drop}
use Rattle.text.specs.Refusals.{placed_behind}
use Rattle.comments.specs.Gaps.{gap_of}
use Rattle.comments.specs.declared.gap.Gap.{Gap}
use Rattle.comments.specs.declared.gap.Gap.TheVariants as gap
use Rattle.strings.specs.Chars.{char_of}
use Rattle.strings.specs.Strings.{string_of, byte_string_of}

-- From a place that was reached; a refusal stays.
abbrev pub onward : Told ℕ → (ℕ → Told ℕ) → Told ℕ
onward (Ok at) on = on at
onward (Err r) on = Err r

-- What was passed lies within a part of so many bytes.
abbrev pub Fits : ℕ → Told ℕ → Type 0
Fits size (Ok at) = at ≤ size
Fits size (Err r) = r.place ≤ size

-- Behind a gap found at a place.
abbrev pub behind_gap : ℕ → Gap → Told ℕ
behind_gap at (gap.Clear n) = Ok (at + n)
behind_gap at (gap.InLine n) = Ok (at + n)
behind_gap at (gap.Refused r) = Err (placed_behind at r)

-- Behind a char; one that fails is none.
abbrev pub behind_char : ℕ → Told (ℕ × ℕ) → Told ℕ
behind_char at (Ok (len, code)) = Ok (at + len)
behind_char at (Err r) = Ok at

-- Behind a string; only the refusal with the number `none` says that none begins here.
abbrev pub behind_literal : ℕ → ℕ → Told Literal → Told ℕ
behind_literal none at (Ok l) = Ok (at + l.len)
behind_literal none at (Err r) = cond (eqb r.number none) (Ok at) (Err (placed_behind at r))

-- Its places are numbers of 64 bits.
abbrev pub FitsLiteral : ℕ → Told Literal → Type 0
FitsLiteral at (Ok l) = at + l.len < 2 ^ 64
FitsLiteral at (Err r) = at + r.place < 2 ^ 64

-- Over whitespace and comments.
unfoldable pub past_gap : List ℕ → Told ℕ → Told ℕ
past_gap s from = onward from (λ at. behind_gap at (gap_of (drop at s)))

-- Over a char.
unfoldable pub past_char : List ℕ → Told ℕ → Told ℕ
past_char s from = onward from (λ at. behind_char at (char_of (drop at s)))

-- Over a string.
unfoldable pub past_string : List ℕ → Told ℕ → Told ℕ
past_string s from = onward from (λ at. behind_literal 16 at (string_of (drop at s)))

-- Over a byte string.
unfoldable pub past_byte_string : List ℕ → Told ℕ → Told ℕ
past_byte_string s from = onward from (λ at. behind_literal 18 at (byte_string_of (drop at s)))
