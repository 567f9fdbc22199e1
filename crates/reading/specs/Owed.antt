-- What a token reader owes to the theory of readings, so that what was read can be kept (document 01, "Repair"). Document 01: "A quiet byte is space, tab, LF,
-- CR, comma, colon or any of the six brackets."
use Rattle.std.specs.Prelude.{ℕ, ◌≤◌, ◌<◌, ◌≡◌, Bool, true, List, [], ◌∷◌, ◌++◌, length, drop}
use Rattle.text.specs.Classes.{one_of}
use Rattle.reading.specs.Tokens.{Answer, token, stop, Token, reach, ungapped}

-- The quiet bytes.
abbrev pub quiet_bytes : List ℕ
quiet_bytes = 0x20 ∷ 0x09 ∷ 0x0a ∷ 0x0d ∷ 0x2c ∷ 0x3a ∷ 0x28 ∷ 0x29 ∷ 0x5b ∷ 0x5d ∷ 0x7b ∷ 0x7d ∷ []

-- A quiet byte.
unfoldable pub quiet_byte : ℕ → Bool
quiet_byte c = one_of quiet_bytes c

-- An empty part has no token; a token has a byte and lies within its part; read from its own start it is the same without its gap; and a token that
-- a quiet byte follows, there or further on, does not depend on what stands behind that byte.
pub record Laws (tok : List ℕ → Answer) (quiet : ℕ → Bool) : Type 0 where
  pub nil : tok [] ≡ stop
  pub grows : (s : List ℕ) (t : Token) → tok s ≡ token t → 0 < t.len
  pub inside : (s : List ℕ) (t : Token) → tok s ≡ token t → reach t ≤ length s
  pub restart : (s : List ℕ) (t : Token) → tok s ≡ token t → tok (drop t.gap s) ≡ token (ungapped t)
  pub window : (u v v' : List ℕ) (c : ℕ) (t : Token) → quiet c ≡ true → tok (u ++ c ∷ v) ≡ token t → reach t ≤ length u → tok (u ++ c ∷ v') ≡ token t
