-- The character at the front of a part, by code point and width: whether it is of a class, and whether a name goes on with it.
use Rattle.std.specs.Prelude.{ℕ, Bool, cond, List, ltb}
use Rattle.text.specs.Classes.{ident_next}
use Rattle.text.specs.Utf8.{char_len, code_of}

-- The width of the character at the front where it is of the class, else 0; 0 too where no character stands.
unfoldable pub char_if : (ℕ → Bool) → List ℕ → ℕ
char_if p s = cond (p (code_of s)) (char_len s) 0

-- A name goes on with the character at the front (the crate's `check_ident_other_char`).
unfoldable pub next_ahead : List ℕ → Bool
next_ahead s = ltb 0 (char_if ident_next s)
