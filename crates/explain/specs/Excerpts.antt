-- The line of a place, as much of it as is shown, and a caret under the place.
use Rattle.std.specs.Prelude.{ℕ, zero, suc, max, Bool, cond, ◌&&◌, List, [], ◌∷◌, ◌++◌, eqb, ltb, take, drop}
use Rattle.lines.specs.Ascii.{ascii}
use Rattle.places.specs.Columns.{starts_char, chars_back}
use Rattle.places.specs.Lines.{between, line_start, line_end}
use Rattle.places.specs.Shown.{shown}
use Rattle.text.specs.Utf8.{char_len, code_of, encode}

-- The character of n bytes at the front of s: as it is, or U+FFFD where a terminal would not show it in one cell, or where it is none.
unfoldable pub character_text : ℕ → List ℕ → List ℕ
character_text n s = cond (ltb 0 n && shown (code_of s)) (take n s) (encode 0xFFFD)

-- The characters of s, at most so many and then `...`; a byte that begins no character counts as one.
unfoldable pub characters_text : ℕ → List ℕ → List ℕ
characters_text zero [] = []
characters_text zero (b ∷ s) = ascii "..."
characters_text (suc left) [] = []
characters_text (suc left) (b ∷ s) =
    character_text (char_len (b ∷ s)) (b ∷ s) ++ characters_text left (drop (max 1 (char_len (b ∷ s))) (b ∷ s))

-- What stands under a byte: nothing where it begins no character, a tab under a tab, else a space.
unfoldable pub under_text : ℕ → List ℕ
under_text b = cond (eqb b 9) (ascii "\t") (cond (starts_char b) (ascii " ") [])

-- The caret behind what stands under the bytes before it.
unfoldable pub caret_text : List ℕ → List ℕ
caret_text [] = ascii "^"
caret_text (b ∷ s) = under_text b ++ caret_text s

-- Both lines are set in; what is left out in front is three cells in both.
unfoldable pub margin_text : Bool → ℕ → List ℕ
margin_text cut b = ascii "    " ++ cond cut (b ∷ b ∷ b ∷ []) []

-- Where the shown part of the line begins: at most 80 characters before the place.
abbrev pub shown_from : List ℕ → ℕ → ℕ
shown_from s p = chars_back s p 80

-- Whether something of the line is left out in front.
abbrev pub cut_before : List ℕ → ℕ → Bool
cut_before s p = ltb (line_start s p) (shown_from s p)

-- Both lines.
unfoldable pub excerpt_text : List ℕ → ℕ → List ℕ
excerpt_text s p =
    margin_text (cut_before s p) 46 ++ characters_text 120 (between s (shown_from s p) (line_end s p)) ++ ascii "\n" ++
    margin_text (cut_before s p) 32 ++ caret_text (between s (shown_from s p) p) ++ ascii "\n"
