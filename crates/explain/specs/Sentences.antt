-- Each refusal number of the paper as a sentence, and each reason of an invalid escape in words.
use Rattle.std.specs.Prelude.{ℕ, zero, suc, ◌+◌, min, cond, List, [], ◌++◌, eqb, take, drop}
use Rattle.lines.specs.Ascii.{ascii}
use Rattle.lines.specs.Find.{find_of}

-- The line behind n others.
unfoldable pub line_at : ℕ → List ℕ → List ℕ
line_at zero s = take (find_of 10 s) s
line_at (suc n) s = line_at n (drop (find_of 10 s + 1) s)

-- A line for each number from 0 to 31, empty for 0 and 3, which no refusal has; those that no text can bring about have theirs too.
unfoldable pub sentences : List ℕ
sentences =
    ascii "\n" ++
    ascii "the text is longer than 65,536 bytes\n" ++
    ascii "the text is not UTF-8 here\n" ++
    ascii "\n" ++
    ascii "a block comment is not closed\n" ++
    ascii "an unexpected character stands here or just before\n" ++
    ascii "the text ends where a character is needed\n" ++
    ascii "an integer is expected\n" ++
    ascii "an integer cannot begin with an underscore\n" ++
    ascii "this digit is not below the integer's base\n" ++
    ascii "the integer is out of bounds\n" ++
    ascii "a float is expected\n" ++
    ascii "an underscore is misplaced in the float\n" ++
    ascii "the escape is not valid\n" ++
    ascii "a char is expected\n" ++
    ascii "a byte literal is expected\n" ++
    ascii "a string is expected\n" ++
    ascii "the string is not closed\n" ++
    ascii "a byte string is expected\n" ++
    ascii "an attribute is expected\n" ++
    ascii "the end of the attribute is expected\n" ++
    ascii "the extension is not known\n" ++
    ascii "there is no room: the tape, the links or the buffer is too short\n" ++
    ascii "the cut, the lengths, the tape or the state are not in order\n" ++
    ascii "more brackets are open than the limit allows\n" ++
    ascii "this cannot stand here\n" ++
    ascii "the text ends before its value does\n" ++
    ascii "the entry or the suffix is of another kind\n" ++
    ascii "a place, entry number, cursor, limit, width or mode is unfit\n" ++
    ascii "the contents hold an escape or a line continuation\n" ++
    ascii "an entry is undecided after 4,096 bytes\n" ++
    ascii "a field of this name stands in the same brackets already\n"

-- The sentence of a number: its line, and the last one for a number above 30.
unfoldable pub sentence_of : ℕ → List ℕ
sentence_of n = line_at (min n 31) sentences

-- A line for each reason of 13 in the words of CR 1, empty for 0.
unfoldable pub reasons : List ℕ
reasons =
    ascii "\n" ++
    ascii "digit not hex\n" ++
    ascii "unknown letter\n" ++
    ascii "not a byte-escaped character\n" ++
    ascii "missing open brace\n" ++
    ascii "no digits\n" ++
    ascii "no closing brace\n" ++
    ascii "not a character\n" ++
    ascii "Unicode in a byte literal\n"

-- The words of a reason behind a colon, and the last ones for a number above 7; nothing for 0.
unfoldable pub why_of : ℕ → List ℕ
why_of n = cond (eqb n 0) [] (ascii ": " ++ line_at (min n 8) reasons)
