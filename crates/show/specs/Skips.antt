-- The answer of a skip.
use Rattle.std.specs.Prelude.{ℕ, cond, List, ◌++◌, eqb}
use Rattle.cursor.specs.Cursor.{unclosed_line}
use Rattle.cursor.specs.declared.ParserCursor.{ParserCursor}
use Rattle.lines.specs.Ascii.{ascii}
use Rattle.lines.specs.Decimal.{word_of}

-- The whitespace's length, or `mark` for a line that is not closed.
unfoldable pub length_text : ℕ → List ℕ
length_text n = cond (eqb n unclosed_line) (ascii " mark") (word_of n)

-- The cursor's three numbers.
unfoldable pub cursor_text : ParserCursor → List ℕ
cursor_text c = word_of c.cursor ++ word_of c.pre_ws_cursor ++ length_text c.last_ws_len

-- The moved cursor.
unfoldable pub moved_text : ParserCursor → List ℕ
moved_text c = ascii "ok" ++ cursor_text c
