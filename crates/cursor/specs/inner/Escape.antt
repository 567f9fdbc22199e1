-- Escapes at the cursor (document 01, "Code places and their forms"): "The three-number ParserCursor takes self and returns the moved cursor after
-- whitespace, characters and escapes."
use Rattle.std.specs.Prelude.{ℕ, List, drop}
use Rattle.text.specs.Refusals.{placed_behind}
use Rattle.escapes.specs.declared.answers.Mode.{Mode}
use Rattle.escapes.specs.declared.answers.EscapeAnswer.{EscapeAnswer}
use Rattle.escapes.specs.declared.answers.EscapeAnswer.TheVariants as escape
use Rattle.escapes.specs.Escapes.{escape_of}
use Rattle.cursor.specs.declared.ParserCursor.{ParserCursor}
use Rattle.cursor.specs.declared.escape.Escaped.{Escaped}
use Rattle.cursor.specs.declared.escape.Escaped.TheVariants.{Ascii, Utf8, Refused}
use Rattle.cursor.specs.Cursor.{moved_by}

-- The cursor behind an escape that was read over the part in front of it.
abbrev pub behind_escape : ParserCursor → EscapeAnswer → Escaped
behind_escape c (escape.Ascii b n) = Ascii b (moved_by n c)
behind_escape c (escape.Utf8 p n) = Utf8 p (moved_by n c)
behind_escape c (escape.Refused r) = Refused (placed_behind c.cursor r)

-- The escape at the cursor, which stands behind the `\`.
unfoldable pub escaped_of : List ℕ → ParserCursor → Mode → Escaped
escaped_of text c mode = behind_escape c (escape_of mode (drop c.cursor text))
