-- Chars, byte literals, strings and byte strings that are refused with 13, and for which reason (CR 1). Document 01: "`\u` in a byte literal is 13, behind
-- its `}`." "The closing quote is searched for before any escape is judged." A raw string is never refused with 13. Places are counted from the front of s.
use Rattle.std.specs.Prelude.{ℕ, ◌+◌, ◌-◌, List, ◌∷◌, ◌≡◌, get_or, length}
use Rattle.text.specs.declared.reason.EscapeReason.{EscapeReason}
use Rattle.text.specs.declared.reason.EscapeReason.TheVariants.{UnicodeInByteLiteral}
use Rattle.escapes.specs.declared.answers.Mode.{Mode}
use Rattle.escapes.specs.declared.answers.Mode.TheVariants.{Str, Char, Bytes}
use Rattle.escaped.specs.Escape.{Escape, Meant}
use Rattle.escaped.specs.Escape.Meant.{point}
use Rattle.escaped.specs.Wrong.{Wrong}
use Rattle.quoted.specs.Bodies.{Continued}

-- A char whose escape is wrong.
pub data WrongChar : List ℕ → EscapeReason → ℕ → Type 0 where
  escape : {why : EscapeReason} {p : ℕ} {s : List ℕ} → Wrong Char s why p → WrongChar (0x27 ∷ 0x5C ∷ s) why (2 + p)

-- A byte literal whose escape is wrong, or means a character by its code point.
pub data WrongByte : List ℕ → EscapeReason → ℕ → Type 0 where
  escape : {why : EscapeReason} {p : ℕ} {s : List ℕ} → Wrong Bytes s why p → WrongByte (0x62 ∷ 0x27 ∷ 0x5C ∷ s) why (3 + p)
  unicode : {c : ℕ} {s t : List ℕ} → Escape Bytes s (point c) t → WrongByte (0x62 ∷ 0x27 ∷ 0x5C ∷ s) UnicodeInByteLiteral (3 + (length s - length t))

-- `WrongInside m s why p`: s, from behind the opening quote, goes on as a body does up to a backslash that begins no line continuation, and whose escape is
-- wrong.
pub data WrongInside (m : Mode) : List ℕ → EscapeReason → ℕ → Type 0 where
  escape : {why : EscapeReason} {p : ℕ} {s : List ℕ} → ((t : List ℕ) → Continued s t → ⊥) → Wrong m s why p → WrongInside m (0x5C ∷ s) why (1 + p)
  itself : {why : EscapeReason} {p b : ℕ} {s : List ℕ} → (b ≡ 0x22 → ⊥) → (b ≡ 0x5C → ⊥) → WrongInside m s why p → WrongInside m (b ∷ s) why (1 + p)
  escaped : {why : EscapeReason} {p : ℕ} {v : Meant} {s u : List ℕ} → Escape m s v u → WrongInside m u why p
      → WrongInside m (0x5C ∷ s) why (1 + (length s - length u) + p)
  continued : {why : EscapeReason} {p : ℕ} {s u : List ℕ} → Continued s u → WrongInside m u why p
      → WrongInside m (0x5C ∷ s) why (1 + (length s - length u) + p)

-- A quote stands somewhere in s, be it one that is escaped. Past the end stands 0, which is none.
abbrev pub HoldsQuote : List ℕ → Type 0
HoldsQuote s = (k : ℕ) × (get_or s k 0 ≡ 0x22)

-- A string with a wrong escape, and with any quote behind the opening one: where there is none, nothing is judged, which is 17.
pub data WrongString : List ℕ → EscapeReason → ℕ → Type 0 where
  quoted : {why : EscapeReason} {p : ℕ} {s : List ℕ} → HoldsQuote s → WrongInside Str s why p → WrongString (0x22 ∷ s) why (1 + p)

-- The same of a byte string.
pub data WrongByteString : List ℕ → EscapeReason → ℕ → Type 0 where
  quoted : {why : EscapeReason} {p : ℕ} {s : List ℕ} → HoldsQuote s → WrongInside Bytes s why p → WrongByteString (0x62 ∷ 0x22 ∷ s) why (2 + p)
