-- The pieces of a quoted string (document 01, modules 1, 3 and 4): plain runs, escapes, line continuations. "Continuation whitespace: space, tab, LF, CR."
-- Nothing here knows a place: a body depends on the bytes behind the opening quote alone.
use Rattle.std.specs.Prelude.{ℕ, zero, suc, ◌+◌, ◌-◌, List, [], ◌∷◌, ◌++◌, Bool, true, false, cond, not, ◌&&◌, ◌||◌, length, get_or, take, drop, eqb, ltb}
use Rattle.text.specs.declared.refusal.Refusal.{Refusal}
use Rattle.text.specs.Refusals.{placed_behind}
use Rattle.text.specs.Classes.{continuation_blank}
use Rattle.text.specs.Runs.{run}
use Rattle.text.specs.Utf8.{encode, scalar}
use Rattle.escapes.specs.declared.answers.Mode.{Mode}
use Rattle.escapes.specs.declared.answers.EscapeAnswer.{EscapeAnswer}
use Rattle.escapes.specs.declared.answers.EscapeAnswer.TheVariants.{Ascii, Utf8, Refused}
use Rattle.escapes.specs.Escapes.{escape_of, simple_of}
use Rattle.strings.specs.declared.pieces.Decoded.{Decoded}
use Rattle.strings.specs.declared.pieces.Decoded.TheVariants.{Nothing}
use Rattle.strings.specs.declared.pieces.Decoded.TheVariants as decoded
use Rattle.strings.specs.declared.pieces.Piece.{Piece}
use Rattle.strings.specs.declared.pieces.Piece.TheVariants.{Quote, Plain, Backslash}
use Rattle.strings.specs.declared.pieces.Piece.TheVariants as pieces

-- ---- one piece

-- No quote.
unfoldable pub unquoted : ℕ → Bool
unquoted b = not (eqb b 0x22)

-- A byte that stands for itself: no quote and no backslash.
unfoldable pub plain : ℕ → Bool
plain b = not (eqb b 0x22 || eqb b 0x5C)

-- LF or CRLF stands at the front.
unfoldable pub line_end : List ℕ → Bool
line_end s = eqb (get_or s 0 0) 0x0A || (eqb (get_or s 0 0) 0x0D && eqb (get_or s 1 0) 0x0A)

-- An escape with its backslash.
abbrev pub by_escape : EscapeAnswer → Piece
by_escape (Ascii b n) = Backslash (n + 1) (decoded.Ascii b)
by_escape (Utf8 c n) = Backslash (n + 1) (decoded.Utf8 c)
by_escape (Refused r) = pieces.Refused (placed_behind 1 r)

-- From behind a backslash: a line continuation is LF or CRLF, then continuation whitespace, which LF and CR are themselves; else an escape stands there.
unfoldable pub behind_backslash : Mode → List ℕ → Piece
behind_backslash m s = cond (line_end s) (Backslash (run continuation_blank s + 1) Nothing) (by_escape (escape_of m s))

-- The piece at the front of s.
unfoldable pub piece_of : Mode → List ℕ → Piece
piece_of m s =
    cond (eqb (get_or s 0 0) 0x22) Quote
    (cond (eqb (get_or s 0 0) 0x5C) (behind_backslash m (drop 1 s)) (Plain (run plain s)))

-- A backslash and a letter that stands for one byte are at the front of s.
unfoldable pub simple_front : List ℕ → Bool
simple_front s = eqb (get_or s 0 0) 0x5C && ltb (simple_of (get_or s 1 0)) 256

-- The bytes that a piece with a backslash decodes to.
abbrev pub bytes_of : Decoded → List ℕ
bytes_of Nothing = []
bytes_of (decoded.Ascii b) = b ∷ []
bytes_of (decoded.Utf8 c) = encode c

-- How many they are.
unfoldable pub decoded_len : Decoded → ℕ
decoded_len d = length (bytes_of d)

-- A code point can be encoded.
abbrev pub writable : Decoded → Bool
writable Nothing = true
writable (decoded.Ascii b) = true
writable (decoded.Utf8 c) = scalar c

-- ---- piece by piece

-- A body: pieces with their number of bytes, what they decode to, and whether that is something else than what stands there; at its end the closing quote,
-- the end of the text, or a refusal with its place in its piece.
pub data Body : Type 0 where
  closes : Body
  unclosed : Body
  spoilt : Refusal → Body
  next : ℕ → List ℕ → Bool → Body → Body

-- A piece of s, and the rest behind so many bytes.
abbrev pub by_piece : Piece → List ℕ → (ℕ → Body) → Body
by_piece Quote s rest = closes
by_piece (Plain n) s rest = next n (take n s) false (rest n)
by_piece (Backslash n d) s rest = next n (bytes_of d) true (rest n)
by_piece (pieces.Refused r) s rest = spoilt r

-- The body of s, where its first `left` bytes belong to a piece already.
unfoldable pub body_from : Mode → List ℕ → ℕ → Body
body_from m [] left = unclosed
body_from m (b ∷ s) (suc left) = body_from m s left
body_from m (b ∷ s) zero = by_piece (piece_of m (b ∷ s)) (b ∷ s) (λ n. body_from m s (n - 1))

-- The body of s.
unfoldable pub body_of : Mode → List ℕ → Body
body_of m s = body_from m s 0

-- What a body decodes to.
unfoldable pub decoded_of : Body → List ℕ
decoded_of closes = []
decoded_of unclosed = []
decoded_of (spoilt r) = []
decoded_of (next n bytes changed rest) = bytes ++ decoded_of rest
