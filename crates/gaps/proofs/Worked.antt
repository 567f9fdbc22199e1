-- Worked texts. Assumes nothing.
use mathlib.Core.List.{[], ◌∷◌}
use mathlib.Core.Path.{◌≡◌, refl}
use Rattle.comments.specs.Blocks.{block_end, block_from}
use Rattle.comments.specs.Gaps.{behind_slash, comment_of, gap_from, gap_of, item_of}
use Rattle.comments.specs.Lines.{line_end, line_from}
use Rattle.text.specs.Classes.{blank1, blank2, blank3, blank_width, within}
use Rattle.text.specs.Utf8.{char_len, width_of}
use Rattle.gaps.specs.Opens.{block_open, canon, front, kept_of, last_byte, marks, open_from, open_of, unpaired}
use Rattle.gaps.specs.Passes.{passed_of}
use Rattle.gaps.specs.declared.pass.Passed.TheVariants.{Begins, Within, Unexpected}
use Rattle.gaps.specs.declared.state.Open.TheVariants.{Clear, Slash, Line, Block}

-- ` /*/*a*/ /` leaves one comment open, with an unpaired `/`: `/*/` stands for it
one_left : canon (0x20 ∷ 0x2f ∷ 0x2a ∷ 0x2f ∷ 0x2a ∷ 0x61 ∷ 0x2a ∷ 0x2f ∷ 0x20 ∷ 0x2f ∷ []) ≡ 0x2f ∷ 0x2a ∷ 0x2f ∷ []
unfolding canon front kept_of marks last_byte open_of open_from gap_of gap_from item_of comment_of behind_slash block_end block_from block_open unpaired blank_width blank1 blank2 blank3 within
one_left = refl

-- ` // b` leaves a line comment open
line_left : canon (0x20 ∷ 0x2f ∷ 0x2f ∷ 0x20 ∷ 0x62 ∷ []) ≡ 0x2f ∷ 0x2f ∷ []
unfolding canon front kept_of open_of open_from gap_of gap_from item_of comment_of behind_slash line_end line_from blank_width blank1 blank2 blank3 within
line_left = refl

-- of ` ab` `ab` is left, and of ` /x` all
token_left : canon (0x20 ∷ 0x61 ∷ 0x62 ∷ []) ≡ 0x61 ∷ 0x62 ∷ []
unfolding canon front kept_of open_of open_from gap_of gap_from item_of comment_of blank_width blank1 blank2 blank3 within
token_left = refl

odd_left : canon (0x20 ∷ 0x2f ∷ 0x78 ∷ []) ≡ 0x20 ∷ 0x2f ∷ 0x78 ∷ []
unfolding canon front kept_of open_of open_from gap_of gap_from item_of comment_of behind_slash char_len width_of blank_width blank1 blank2 blank3 within
odd_left = refl

-- where a `*` is the last byte of a comment in another, `/ */ a` closes both, and `a` begins behind five bytes
both_closed : passed_of (Block 1 0x2a) (0x2f ∷ 0x20 ∷ 0x2a ∷ 0x2f ∷ 0x20 ∷ 0x61 ∷ []) ≡ Begins 5
unfolding passed_of front marks last_byte open_of open_from gap_of gap_from item_of comment_of behind_slash block_end block_from block_open unpaired blank_width blank1 blank2 blank3 within
both_closed = refl

-- behind a `/`, `*` opens a comment, and `x` is refused behind it
slash_opens : passed_of Slash (0x2a ∷ []) ≡ Within (Block 0 0)
unfolding passed_of front open_of open_from gap_of gap_from item_of comment_of behind_slash block_end block_from block_open blank_width blank1 blank2 blank3 within
slash_opens = refl

slash_odd : passed_of Slash (0x78 ∷ []) ≡ Unexpected 1
unfolding passed_of front open_of open_from gap_of gap_from item_of comment_of behind_slash char_len width_of blank_width blank1 blank2 blank3 within
slash_odd = refl

-- an LF closes a line comment, and is whitespace
line_closed : passed_of Line (0x61 ∷ 0x0a ∷ []) ≡ Within Clear
unfolding passed_of front open_of open_from gap_of gap_from item_of comment_of behind_slash line_end line_from blank_width blank1 blank2 blank3 within
line_closed = refl
