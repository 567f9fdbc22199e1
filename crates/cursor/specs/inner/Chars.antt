-- Characters at the cursor (document 01, module 1): "`expect_char` and `consume_char` don't move on a mismatch."
use Rattle.std.specs.Prelude.{Ok, Err, ℕ, List, [], ◌∷◌, Bool, true, false, cond, drop, eqb}
use Rattle.text.specs.Refusals.{Told, eof}
use Rattle.text.specs.declared.refusal.Refusal.{Refusal}
use Rattle.text.specs.Utf8.{char_len, code_of}
use Rattle.cursor.specs.declared.ParserCursor.{ParserCursor}
use Rattle.cursor.specs.declared.chars.Consumed.{Consumed}
use Rattle.cursor.specs.Cursor.{moved_by}

-- The character that the part in front of the cursor begins with; 6 at the end of the text.
unfoldable pub next_in : ParserCursor → List ℕ → Told (ℕ × ParserCursor)
next_in c [] = Err (eof c.cursor)
next_in c (a ∷ s) = Ok (code_of (a ∷ s), moved_by (char_len (a ∷ s)) c)

-- The next character.
unfoldable pub next_of : List ℕ → ParserCursor → Told (ℕ × ParserCursor)
next_of text c = next_in c (drop c.cursor text)

-- The part begins with the byte b.
unfoldable pub begins_with : ℕ → List ℕ → Bool
begins_with b [] = false
begins_with b (a ∷ s) = eqb a b

-- Whether the ASCII character b stands at the cursor, and the cursor, which moves only then.
unfoldable pub consumed_of : List ℕ → ParserCursor → ℕ → Consumed
consumed_of text c b =
    cond (begins_with b (drop c.cursor text)) (record { found = true; cursor = moved_by 1 c }) (record { found = false; cursor = c })

-- The cursor behind an ASCII character that has to stand there, or the refusal.
unfoldable pub expected_of : List ℕ → ParserCursor → ℕ → Refusal → Told ParserCursor
expected_of text c b r = cond (begins_with b (drop c.cursor text)) (Ok (moved_by 1 c)) (Err r)
