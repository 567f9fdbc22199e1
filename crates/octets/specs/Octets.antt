-- UTF-8 of a text that arrives in pieces (document 02, CR 3): "However the text is cut, the entries .. and the last answer are those of one reading with room
-- enough, with three exceptions: bad UTF-8 and the byte after the 65,536th are told when met ..". A byte may be taken unless with it no UTF-8 goes on; the place
-- is then the first byte of its sequence, as document 01 has it for refusal 2. A character may be cut off at the end of a piece, and go on in the next.
-- A reader has to believe only `Begins`, `Whole` and `Broken`: that the answers agree with them is proved in proofs/Exactly.antt.
use Rattle.std.specs.Prelude.{Some, None, Option, ℕ, ◌+◌, cond, List, [], ◌∷◌, ◌++◌, ◌⊎◌, ◌≡◌, eqb, drop, get_or, length}
use Rattle.text.specs.Classes.{within}
use Rattle.text.specs.Utf8.{Char, Text, second_byte, tail_byte, utf8_of}
use Rattle.octets.specs.declared.answer.Allowed.{Allowed}
use Rattle.octets.specs.declared.answer.Allowed.TheVariants.{All, Bad}

-- ---- in plain words

-- The bytes are the front of a character: they are not empty, and neither is what it goes on with.
pub data Begins : List ℕ → Type 0 where
  begins : {a : ℕ} {p : List ℕ} (b : ℕ) (q : List ℕ) → Char ((a ∷ p) ++ b ∷ q) → Begins (a ∷ p)

-- What is left of a piece behind its last whole character: nothing, or the front of one.
abbrev pub Cut : List ℕ → Type 0
Cut p = (p ≡ []) ⊎ Begins p

-- No character begins with p and then b.
abbrev pub Ends : List ℕ → ℕ → Type 0
Ends p b = (q : List ℕ) → Char ((p ++ b ∷ []) ++ q) → ⊥

-- All of s may be taken: it is whole characters, then m bytes of one that has not come whole.
pub record Whole (s : List ℕ) (m : ℕ) : Type 0 where
  pub good : List ℕ
  pub part : List ℕ
  pub is : s ≡ good ++ part
  pub text : Text good
  pub cut : Cut part
  pub many : length part ≡ m

-- n bytes of s may be taken: whole characters up to k, then such a front; and the byte behind is one with which no character goes on.
pub record Broken (s : List ℕ) (n k : ℕ) : Type 0 where
  pub good : List ℕ
  pub part : List ℕ
  pub byte : ℕ
  pub rest : List ℕ
  pub is : s ≡ good ++ part ++ byte ∷ rest
  pub text : Text good
  pub cut : Cut part
  pub ends : Ends part byte
  pub starts : length good ≡ k
  pub stands : k + length part ≡ n

-- ---- as a decision over the bytes

-- How many of three bytes a character begins with and goes on behind.
unfoldable pub begun3 : ℕ → ℕ → ℕ → ℕ
begun3 a b c =
    cond (within 0xC2 0xDF a) 1
    (cond (within 0xE0 0xEF a) (cond (second_byte a b) 2 1)
    (cond (within 0xF0 0xF4 a) (cond (second_byte a b) (cond (tail_byte c) 3 2) 1) 0))

-- The same at the front of s. A byte past the end counts as 0, which no character begins or goes on with.
unfoldable pub begun_of : List ℕ → ℕ
begun_of s = begun3 (get_or s 0 0) (get_or s 1 0) (get_or s 2 0)

-- What may be taken where no whole character stands at k: all, if the text ends inside one, and else up to the byte that breaks it.
unfoldable pub bad_of : List ℕ → ℕ → Allowed
bad_of s k = let m = begun_of (drop k s) in cond (eqb (k + m) (length s)) (All m) (Bad (k + m) k)

-- The answer by what the text is.
abbrev pub by_place : List ℕ → Option ℕ → Allowed
by_place s None = All 0
by_place s (Some k) = bad_of s k

-- What may be taken of s.
unfoldable pub allowed_of : List ℕ → Allowed
allowed_of s = by_place s (utf8_of s)

-- The answer over a part, told from d bytes further in front.
abbrev pub further : ℕ → Allowed → Allowed
further d (All m) = All m
further d (Bad n k) = Bad (n + d) (k + d)
