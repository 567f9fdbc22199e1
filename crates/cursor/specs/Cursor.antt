-- The cursor (document 01, "Code places and their forms"): "The three-number ParserCursor takes self and returns the moved cursor.
-- The mark for an unclosed line, the largest number of its width: an associated constant of the cursor type, beside its constructor at a place."
use Rattle.std.specs.Prelude.{ℕ, ◌+◌, ◌-◌, ◌^◌}
use Rattle.cursor.specs.declared.ParserCursor.{ParserCursor}

-- The three numbers: the place, the pre-whitespace place and the whitespace length.
abbrev pub cursor : ℕ → ℕ → ℕ → ParserCursor
cursor at pre len = record { cursor = at; pre_ws_cursor = pre; last_ws_len = len }

-- The mark for an unclosed line: the largest number of its width.
abbrev pub unclosed_line : ℕ
unclosed_line = 2 ^ 64 - 1

-- At a place, with no whitespace before it.
abbrev pub cursor_at : ℕ → ParserCursor
cursor_at at = cursor at at 0

-- So many bytes on.
abbrev pub moved_by : ℕ → ParserCursor → ParserCursor
moved_by bytes c = cursor (c.cursor + bytes) c.pre_ws_cursor c.last_ws_len
