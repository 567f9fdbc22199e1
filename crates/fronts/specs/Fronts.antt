-- What every call with a text asks first (document 01), said plainly: "1: text over 65,536 bytes. 2: not UTF-8, first byte of the first bad sequence. 28:
-- a place past the end or inside a character."
use Rattle.std.specs.Prelude.{Ok, Err, ℕ, ◌<◌, ◌≤◌, List, ◌++◌, ◌↔◌, ◌⊎◌, ◌≡◌, drop, length, take}
use Rattle.text.specs.Refusals.{Told, not_utf8, too_long, unfit}
use Rattle.text.specs.Utf8.{Encoded, Scalar, encode}
use Rattle.text.specs.declared.refusal.Refusal.{Refusal}
use Rattle.cursor.specs.Cursor.{unclosed_line}
use Rattle.cursor.specs.declared.ParserCursor.{ParserCursor}

-- A text that calls take: of at most 65,536 bytes, and UTF-8.
pub record Sound (text : List ℕ) : Type 0 where
  pub short : length text ≤ 65536
  pub encoded : Encoded text

-- The first bad sequence of a text begins at p: what stands before is UTF-8, and no character stands there.
pub record FirstBad (text : List ℕ) (p : ℕ) : Type 0 where
  pub inside : p < length text
  pub before : Encoded (take p text)
  pub bad : (c : ℕ) (t : List ℕ) → Scalar c → drop p text ≡ encode c ++ t → ⊥

-- A place of a text between two characters, or at one of its ends.
pub record Boundary (text : List ℕ) (p : ℕ) : Type 0 where
  pub inside : p ≤ length text
  pub before : Encoded (take p text)
  pub behind : Encoded (drop p text)

-- The front of a call over a text, behind which it answers `own`: 1 exactly where the text is too long, 2 exactly at the first bad sequence of one that is
-- not, and past both exactly where the text is sound, that is where the call accepts, or refuses with a higher number.
pub record FrontOf {A : Type 0} (text : List ℕ) (call own : Told A) : Type 0 where
  pub long : (call ≡ Err too_long) ↔ (65536 < length text)
  pub bad : (p : ℕ) → (call ≡ Err (not_utf8 p)) ↔ ((length text ≤ 65536) × FirstBad text p)
  pub past : Sound text → call ≡ own
  pub accepts : (a : A) → call ≡ Ok a → Sound text
  pub refuses : (r : Refusal) → call ≡ Err r → (2 < r.number) ↔ Sound text

-- A cursor that skip takes: its two places are boundaries, the pre-whitespace place is not above the place, nor is the whitespace length, unless it is the
-- mark.
pub record CursorFits (text : List ℕ) (c : ParserCursor) : Type 0 where
  pub place : Boundary text c.cursor
  pub pre : Boundary text c.pre_ws_cursor
  pub order : c.pre_ws_cursor ≤ c.cursor
  pub len : (c.last_ws_len ≡ unclosed_line) ⊎ (c.last_ws_len ≤ c.cursor)

-- A call at a place or cursor, which answers `own` where that fits, and 28 exactly where it does not.
pub record PlacedOf {A : Type 0} (fits : Type 0) (call own : Told A) : Type 0 where
  pub past : fits → call ≡ own
  pub off : (call ≡ Err unfit) ↔ (fits → ⊥)
  pub on : (call ≡ Err unfit → ⊥) → fits
