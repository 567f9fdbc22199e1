-- Whitespace at the cursor (document 01): "Skip from a `ParserCursor` of three numbers (`skip_ws`)."
-- 28: "a place past the end or inside a character; for skip, also a pre-whitespace place above the place, or the whitespace length above the place unless
-- it is the mark for an unclosed line."
use Rattle.std.specs.Prelude.{Ok, Err, ℕ, ◌+◌, ◌-◌, List, [], ◌∷◌, Bool, cond, not, ◌&&◌, ◌||◌, drop, ltb, leb, eqb}
use Rattle.text.specs.Refusals.{Told, placed_behind}
use Rattle.text.specs.Judged.{place_fits}
use Rattle.comments.specs.declared.gap.Gap.{Gap}
use Rattle.comments.specs.declared.gap.Gap.TheVariants.{Clear, InLine, Refused as GapRefused}
use Rattle.comments.specs.Gaps.{gap_of}
use Rattle.cursor.specs.declared.ParserCursor.{ParserCursor}
use Rattle.cursor.specs.Cursor.{cursor, unclosed_line}

-- The whitespace length is not above the place, or is the mark.
abbrev pub length_fits : ParserCursor → Bool
length_fits c = eqb c.last_ws_len unclosed_line || leb c.last_ws_len c.cursor

-- The cursor's places are fit for the text, the pre-whitespace place is not above the place, nor is the whitespace length.
unfoldable pub cursor_fits : List ℕ → ParserCursor → Bool
cursor_fits text c =
    place_fits text c.cursor && (place_fits text c.pre_ws_cursor && (leb c.pre_ws_cursor c.cursor && length_fits c))

-- Where whitespace that is apart from the last begins, and else where the last began.
unfoldable pub pre_of : ParserCursor → ℕ
pre_of c =
    cond (not (eqb c.last_ws_len unclosed_line) && ltb (c.pre_ws_cursor + c.last_ws_len) c.cursor) c.cursor c.pre_ws_cursor

-- The cursor behind a gap from the place `at`; an unclosed line sets the mark.
abbrev pub cursor_behind : ℕ → ℕ → Gap → Told ParserCursor
cursor_behind at pre (Clear n) = Ok (cursor (at + n) pre (at + n - pre))
cursor_behind at pre (InLine n) = Ok (cursor (at + n) pre unclosed_line)
cursor_behind at pre (GapRefused r) = Err (placed_behind at r)

-- The cursor behind the part in front of it: at the end of the text the whitespace length stays.
unfoldable pub behind_part : ParserCursor → List ℕ → Told ParserCursor
behind_part c [] = Ok (cursor c.cursor (pre_of c) c.last_ws_len)
behind_part c (a ∷ s) = cursor_behind c.cursor (pre_of c) (gap_of (a ∷ s))

-- What `skip_ws` does over any text and cursor; past the end is as at it.
unfoldable pub skip_ws_of : List ℕ → ParserCursor → Told ParserCursor
skip_ws_of text c = behind_part c (drop c.cursor text)
