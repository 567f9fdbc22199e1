-- The call `skip` (document 01), said plainly: "Skip from a `ParserCursor` of three numbers (`skip_ws`)." "The mark for an unclosed line, the largest
-- number of its width." Order of refusals: 1, 2, 28, then those of reading, 4 to 6.
use Rattle.std.specs.Prelude.{Ok, ℕ, ◌+◌, ◌-◌, ◌<◌, ◌≤◌, true, List, ◌∷◌, ◌++◌, ◌≡◌, drop, length}
use Rattle.cursor.specs.Cursor.{cursor, unclosed_line}
use Rattle.cursor.specs.Skip.{cursor_fits, pre_of}
use Rattle.cursor.specs.declared.ParserCursor.{ParserCursor}
use Rattle.gapped.specs.Gap.{Gap, OpenLine, Whole}
use Rattle.text.specs.Judged.{judged_of}
use Rattle.text.specs.Utf8.{Scalar, encode}

-- Text and cursor pass the front of the call: neither 1, 2 nor 28 is given.
pub record Fits (text : List ℕ) (c : ParserCursor) : Type 0 where
  pub text_fit : judged_of text ≡ Ok tt
  pub cursor_fit : cursor_fits text c ≡ true

-- The part of the text from the cursor on.
abbrev pub ahead : List ℕ → ParserCursor → List ℕ
ahead text c = drop c.cursor text

-- The cursor behind the gap. Its pre-whitespace place is `pre_of c`: where whitespace that is apart from the last begins, and else where the last began.
pub data Skips (text : List ℕ) (c : ParserCursor) : ParserCursor → Type 0 where
  -- At the end of the text the whitespace length stays.
  at_end : c.cursor ≡ length text → Skips text c (cursor c.cursor (pre_of c) c.last_ws_len)
  -- Before it, the cursor stands at p, where the whole gap is passed.
  behind-gap : (p : ℕ) → c.cursor < length text → p ≤ length text → Whole (ahead text c) (drop p text) → Skips text c (cursor p (pre_of c) (p - pre_of c))
  -- Or the text ends inside a line comment, and the length is the mark.
  in_line : OpenLine (ahead text c) → Skips text c (cursor (length text) (pre_of c) unclosed_line)

-- 5: the gap runs into a `/` with another character than `/` and `*` behind it, and p is behind that character.
pub record StrayChar (text : List ℕ) (c : ParserCursor) (p : ℕ) : Type 0 where
  pub char : ℕ
  pub rest : List ℕ
  pub scalar : Scalar char
  pub no_slash : char ≡ 0x2F → ⊥
  pub no_star : char ≡ 0x2A → ⊥
  pub gap : Gap (ahead text c) (0x2F ∷ (encode char ++ rest))
  pub behind : p + length rest ≡ length text
