-- The refusals of strings and byte strings are inner. Assumes nothing.
use Rattle.std.proofs.Common.{Ok, Err}
use Rattle.text.specs.Refusals.{Told}
use Rattle.strings.specs.declared.literal.Literal.{Literal}
use Prim.Native.Nat.{ℕ, ◌+◌, ◌-◌, zero, suc}
use mathlib.Core.Bool.{Bool, false, cond, ◌||◌}
use mathlib.Core.List.{List, [], ◌∷◌}
use mathlib.Core.Path.{refl}
use lib.Dec.{eqb, ltb}
use lib.ListN.{drop, get_or, length}
use Rattle.text.specs.Runs.{run}
use Rattle.escapes.specs.Escapes.{escape_of}
use Rattle.escapes.specs.declared.answers.Mode.{Mode}
use Rattle.escapes.specs.declared.answers.Mode.TheVariants.{Str, Char, Bytes}
use Rattle.escapes.specs.declared.answers.EscapeAnswer.{EscapeAnswer}
use Rattle.escapes.specs.declared.answers.EscapeAnswer.TheVariants.{Ascii, Utf8, Refused as NoEscape}
use Rattle.strings.specs.Pieces.{Body, unquoted, line_end, by_escape, behind_backslash, piece_of, by_piece, body_from, body_of}
use Rattle.strings.specs.Pieces.Body.{closes, unclosed, spoilt, next}
use Rattle.strings.specs.Quoted.{measured, quoted_of}
use Rattle.strings.specs.Raw.{hash, raw_end, missing, raw_of}
use Rattle.strings.specs.Strings.{string_of, byte_string_of}
use Rattle.strings.specs.declared.pieces.Piece.{Piece}
use Rattle.strings.specs.declared.pieces.Piece.TheVariants.{Quote, Plain, Backslash}
use Rattle.strings.specs.declared.pieces.Piece.TheVariants as pieces
use Rattle.inner.specs.Inner.{Inner, within}
use Rattle.inner.proofs.Both.{both}
use Rattle.inner.proofs.Escapes.{Inner-escape, escape_inner}

abbrev pub Inner-literal : Told Literal → Type 0
Inner-literal (Ok l) = Unit
Inner-literal (Err r) = Inner r

-- ---- the pieces of a quoted one

abbrev Inner-piece : Piece → Type 0
Inner-piece Quote = Unit
Inner-piece (Plain n) = Unit
Inner-piece (Backslash n d) = Unit
Inner-piece (pieces.Refused r) = Inner r

abbrev Inner-body : Body → Type 0
Inner-body closes = Unit
Inner-body unclosed = Unit
Inner-body (spoilt r) = Inner r
Inner-body (next n bytes changed rest) = Inner-body rest

by-escape : (a : EscapeAnswer) → Inner-escape a → Inner-piece (by_escape a)
by-escape (Ascii b n) h = tt
by-escape (Utf8 c n) h = tt
by-escape (NoEscape r) h = h

piece : (m : Mode) (s : List ℕ) → Inner-piece (piece_of m s)
unfolding piece_of behind_backslash
piece m s =
    both Inner-piece (eqb (get_or s 0 0) 0x22) tt
    (both Inner-piece (eqb (get_or s 0 0) 0x5C) (both Inner-piece (line_end (drop 1 s)) tt (by-escape (escape_of m (drop 1 s)) (escape_inner m (drop 1 s)))) tt)

by-piece : (p : Piece) (s : List ℕ) (rest : ℕ → Body) → Inner-piece p → ((n : ℕ) → Inner-body (rest n)) → Inner-body (by_piece p s rest)
by-piece Quote s rest h k = tt
by-piece (Plain n) s rest h k = k n
by-piece (Backslash n d) s rest h k = k n
by-piece (pieces.Refused r) s rest h k = h

body : (m : Mode) (s : List ℕ) (left : ℕ) → Inner-body (body_from m s left)
unfolding body_from
body m [] left = tt
body m (b ∷ s) (suc left) = body m s left
body m (b ∷ s) zero = by-piece (piece_of m (b ∷ s)) (b ∷ s) (λ n. body_from m s (n - 1)) (piece m (b ∷ s)) (λ n. body m s (n - 1))

-- ---- quoted and raw

measure : (b : Body) (start from at decoded : ℕ) (escaped : Bool) → Inner-body b → Inner-literal (measured b start from at decoded escaped)
unfolding measured within
measure closes start from at decoded escaped h = tt
measure unclosed start from at decoded escaped h = refl
measure (spoilt r) start from at decoded escaped h = h
measure (next n bytes changed rest) start from at decoded escaped h =
    measure rest start (cond changed (at + n) from) (at + n) (decoded + length bytes) (escaped || changed) h

quoted : (m : Mode) (start : ℕ) (s : List ℕ) → Inner-literal (quoted_of m start s)
unfolding quoted_of body_of within
quoted m start s =
    both Inner-literal (ltb (run unquoted (drop start s)) (length (drop start s)))
    (measure (body_from m (drop start s) 0) start start start 0 false (body m (drop start s) 0)) refl

none_there : (m : Mode) (place : ℕ) → Inner (missing m place)
unfolding within
none_there Str place = refl
none_there Char place = refl
none_there Bytes place = refl

raw : (m : Mode) (start : ℕ) (s : List ℕ) → Inner-literal (raw_of m start s)
unfolding raw_of within
raw m start s =
    let hashes = run hash (drop start s) in
    let body = start + hashes + 1 in
    both Inner-literal (eqb (get_or s (start + hashes) 0) 0x22)
    (both Inner-literal (ltb (body + raw_end hashes (drop body s)) (length s)) tt refl)
    (none_there m (start + hashes))

-- ---- strings and byte strings

pub string_inner : (s : List ℕ) → Inner-literal (string_of s)
unfolding string_of within
string_inner s =
    both Inner-literal (eqb (get_or s 0 0) 0x22) (quoted Str 1 s) (both Inner-literal (eqb (get_or s 0 0) 0x72) (raw Str 1 s) refl)

pub byte_string_inner : (s : List ℕ) → Inner-literal (byte_string_of s)
unfolding byte_string_of within
byte_string_inner s =
    both Inner-literal (eqb (get_or s 0 0) 0x62)
    (both Inner-literal (eqb (get_or s 1 0) 0x22) (quoted Bytes 2 s) (both Inner-literal (eqb (get_or s 1 0) 0x72) (raw Bytes 2 s) refl)) refl
