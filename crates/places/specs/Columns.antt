-- Columns, as people count them: a place's column is one more than the characters between its line's start and itself. A character is counted by its first
-- byte, the one that is no UTF8-tail (RFC 3629).
use Rattle.std.specs.Prelude.{ℕ, zero, suc, ◌+◌, Bool, not, cond, List, get_or}
use Rattle.text.specs.Utf8.{tail_byte}
use Rattle.places.specs.Lines.{count, between, line_feed, line_start}

-- The first byte of a character.
abbrev pub starts_char : ℕ → Bool
starts_char b = not (tail_byte b)

-- The column of a place.
unfoldable pub column_of : List ℕ → ℕ → ℕ
column_of s p = 1 + count starts_char (between s (line_start s p) p)

-- So many characters before a place, or the start of its line where there are fewer.
unfoldable pub chars_back : List ℕ → ℕ → ℕ → ℕ
chars_back s zero n = 0
chars_back s (suc p) zero = suc p
chars_back s (suc p) (suc n) = cond (line_feed (get_or s p 0)) (suc p) (chars_back s p (cond (starts_char (get_or s p 0)) n (suc n)))
