-- Which refusals stay, however the text goes on (document 02, change request 3: "The byte at which a refusal is given never depends on the cuts; the rule stands in
-- docs/"). One of a name or number, with a stop byte behind its start; one of a string, char or byte literal, with a stop byte at its place or behind; one of an
-- attribute, with a stop byte where its reading stood or behind; none that is 4, 6 or 17, which say that the text has ended. At once, with its character: 5 behind a
-- `/`, and 5 where no token starts.
use Rattle.text.specs.Refusals.{Told}
use Rattle.tokens.specs.declared.lexeme.Lexeme.{Lexeme}
use Rattle.std.specs.Prelude.{ℕ, ◌-◌, Bool, true, false, not, ◌&&◌, ◌||◌, List, eqb, leb, ltb, drop, get_or, Ok, Err}
use Rattle.text.specs.Ahead.{char_if}
use Rattle.text.specs.Classes.{ident_first}
use Rattle.text.specs.Utf8.{char_len}
use Rattle.text.specs.declared.refusal.Refusal.{Refusal}
use Rattle.comments.specs.Gaps.{gap_of}
use Rattle.comments.specs.declared.gap.Gap.{Gap}
use Rattle.comments.specs.declared.gap.Gap.TheVariants as gap
use Rattle.reading.specs.Kept.{any_quiet}
use Rattle.tokens.specs.Lexemes.{lexeme_of}
use Rattle.tokens.specs.Ron.{ron_token}
use Rattle.tokens.specs.Shapes.{shape_of}
use Rattle.tokens.specs.Token.{token_of}
use Rattle.tokens.specs.declared.shape.Shape.{Shape}
use Rattle.tokens.specs.declared.shape.Shape.TheVariants as shape
use Rattle.arriving.specs.Owing.{Reader, tells_end}
use Rattle.settled.specs.Bytes.{stops_byte, decides_byte, closes_byte}
use Rattle.settled.specs.Stood.{attribute_stood}

-- ---- the token at the front of p

-- Its shape.
abbrev pub shape_in : List ℕ → Shape
shape_in p = shape_of (get_or p 0 0) (get_or p 1 0) (get_or p 2 0)

-- A stop byte has come at n or behind.
unfoldable pub stop_from : ℕ → List ℕ → Bool
stop_from n p = any_quiet stops_byte (drop n p)

-- A refusal of what stands in quotes, behind `from` bytes.
unfoldable pub quoted_stays : ℕ → List ℕ → Refusal → Bool
quoted_stays from p r = leb from r.place && stop_from r.place p

-- The refusal of a token of this shape stays, unless it tells the text's end.
abbrev pub stays_by : Shape → List ℕ → Refusal → Bool
stays_by (shape.Mark kind) p r = false
stays_by shape.Attribute p r = stop_from (attribute_stood p) p
stays_by shape.Str p r = quoted_stays 1 p r
stays_by shape.Char p r = quoted_stays 1 p r
stays_by shape.Byte p r = quoted_stays 2 p r
stays_by shape.ByteStr p r = quoted_stays 2 p r
stays_by shape.Number p r = stop_from 0 p
stays_by shape.Word p r = stop_from 0 p

-- 4, 6 and 17 say that the text has ended, and only the end gives them.
abbrev pub by_lexeme : Told Lexeme → (Refusal → Bool) → Bool
by_lexeme (Ok l) stays = false
by_lexeme (Err r) stays = not (tells_end r) && stays r

-- A shape by which a name is read.
abbrev pub is_word : Shape → Bool
is_word (shape.Mark kind) = false
is_word shape.Attribute = false
is_word shape.Str = false
is_word shape.Char = false
is_word shape.Byte = false
is_word shape.ByteStr = false
is_word shape.Number = false
is_word shape.Word = true

-- The character at the front has come whole, and no token starts with it, not even a name.
unfoldable pub starts_nothing : List ℕ → Bool
starts_nothing p = ltb 0 (char_len p) && (is_word (shape_in p) && eqb (char_if ident_first p) 0)

-- The token at the front is refused, and its refusal stays.
unfoldable pub spoilt_for : List ℕ → Bool
spoilt_for p = starts_nothing p || by_lexeme (lexeme_of (token_of p)) (stays_by (shape_in p) p)

-- ---- the first token of s

-- 5 behind a `/`, whose character has come whole: else its place would be behind the `/` itself.
unfoldable pub behind_slash : List ℕ → Refusal → Bool
behind_slash s r = eqb r.number 5 && not (eqb (get_or s (r.place - 1) 0) 0x2f)

-- By the gap before it.
abbrev pub settled_behind : List ℕ → Gap → Bool
settled_behind s (gap.Clear g) = spoilt_for (drop g s)
settled_behind s (gap.InLine n) = false
settled_behind s (gap.Refused r) = behind_slash s r

-- s is refused, and will be so however it goes on.
unfoldable pub ron_settles : List ℕ → Bool
ron_settles s = settled_behind s (gap_of s)

-- The two that are given at once, with their character, by the gap.
abbrev pub once_behind : List ℕ → Gap → Bool
once_behind s (gap.Clear g) = starts_nothing (drop g s)
once_behind s (gap.InLine n) = false
once_behind s (gap.Refused r) = behind_slash s r

-- s is refused for a character that has come whole, at once.
unfoldable pub ron_once : List ℕ → Bool
ron_once s = once_behind s (gap_of s)

-- RON's token reader with these bytes and tests.
abbrev pub ron_reader : Reader
ron_reader = record { tok = ron_token; stops = stops_byte; decides = decides_byte; closes = closes_byte; once = ron_once; settles = ron_settles }
