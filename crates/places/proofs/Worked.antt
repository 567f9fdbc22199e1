-- Lines and columns of a text, computed: `é` LF, tab `b` CR LF, `c`. Assumes nothing.
use Prim.Native.Nat.{ℕ}
use mathlib.Core.Path.{◌≡◌, refl}
use mathlib.Core.List.{List, [], ◌∷◌}
use Rattle.text.specs.Classes.{within}
use Rattle.lines.specs.Find.{find_of}
use Rattle.places.specs.Lines.{count, line_of, line_start, feed_from, line_end}
use Rattle.places.specs.Columns.{column_of, chars_back}

abbrev text : List ℕ
text = 0xC3 ∷ 0xA9 ∷ 10 ∷ 9 ∷ 98 ∷ 13 ∷ 10 ∷ 99 ∷ []

-- the first LF is the second character of the first line
first : (line_of text 2 ≡ 1) × (column_of text 2 ≡ 2) × (line_start text 2 ≡ 0) × (line_end text 2 ≡ 2)
unfolding count line_of column_of line_start feed_from line_end within find_of
first = (refl, refl, refl, refl)

-- the `b` stands in the second line, which ends before its CR
second : (line_of text 4 ≡ 2) × (column_of text 4 ≡ 2) × (line_start text 4 ≡ 3) × (line_end text 4 ≡ 5)
unfolding count line_of column_of line_start feed_from line_end within find_of
second = (refl, refl, refl, refl)

-- the text's end is a place
last : (line_of text 8 ≡ 3) × (column_of text 8 ≡ 2) × (line_start text 8 ≡ 7) × (line_end text 8 ≡ 8)
unfolding count line_of column_of line_start feed_from line_end within find_of
last = (refl, refl, refl, refl)

-- going back stops at a line's start, and `é` is one character
back : (chars_back text 8 5 ≡ 7) × (chars_back text 6 2 ≡ 4) × (chars_back text 2 1 ≡ 0)
unfolding chars_back within
back = (refl, refl, refl)
