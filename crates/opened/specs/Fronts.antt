-- What a part begins with, told as the search for what is not closed goes on: a whole comment or string is passed, so that no mark inside one is taken for
-- an open comment, and no quote inside one for an open string.
use Rattle.std.specs.Prelude.{Ok, Err, ℕ, cond, List, eqb, length, get_or}
use Rattle.text.specs.Refusals.{Told}
use Rattle.strings.specs.declared.literal.Literal.{Literal}
use Rattle.text.specs.Runs.{run}
use Rattle.comments.specs.declared.gap.Item.{Item}
use Rattle.comments.specs.declared.gap.Item.TheVariants.{Blank, LineOpen, BlockOpen, Unexpected, Ended, Other}
use Rattle.comments.specs.Gaps.{item_of}
use Rattle.strings.specs.Pieces.{unquoted}
use Rattle.strings.specs.Strings.{string_of, byte_string_of}
use Rattle.opened.specs.declared.front.Front.{Front}
use Rattle.opened.specs.declared.front.Front.TheVariants.{Passes, OpenComment, OpenString}

-- A string at the front of s, or none. Before the quote of one that is not closed only `b`, `r` and hashes stand: it is the first quote.
abbrev pub by_literal : Told Literal → List ℕ → Front
by_literal (Ok l) s = Passes l.len
by_literal (Err r) s = cond (eqb r.number 17) (OpenString (run unquoted s)) (Passes 1)

-- The string or byte string (a first `b`) at the front of s, or none.
unfoldable pub literal_front : List ℕ → Front
literal_front s = by_literal (cond (eqb (get_or s 0 0) 0x62) (byte_string_of s) (string_of s)) s

-- Whitespace or a comment at the front of s, or neither; a line comment that no LF ends runs to the end.
abbrev pub by_item : Item → List ℕ → Front
by_item (Blank n) s = Passes n
by_item LineOpen s = Passes (length s)
by_item BlockOpen s = OpenComment
by_item (Unexpected n) s = Passes 1
by_item Ended s = Passes 1
by_item Other s = literal_front s

-- What s begins with.
unfoldable pub front_of : List ℕ → Front
front_of s = by_item (item_of s) s
