-- The call `skip` (document 01): "Skip from a `ParserCursor` of three numbers (`skip_ws`)." Order of refusals: 1, 2, 28, then those of reading, 4 to 6.
use Rattle.std.specs.Prelude.{List, ℕ}
use Rattle.text.specs.Refusals.{Told}
use Rattle.text.specs.Judged.{behind_front}
use Rattle.cursor.specs.declared.ParserCursor.{ParserCursor}
use Rattle.cursor.specs.Skip.{cursor_fits, skip_ws_of}

-- The whole answer.
unfoldable pub skip_of : List ℕ → ParserCursor → Told ParserCursor
skip_of text c = behind_front text (cursor_fits text c) (skip_ws_of text c)
