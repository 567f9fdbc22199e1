-- The answers of contents and decoded.
use Rattle.std.specs.Prelude.{ℕ, cond, List, [], ◌∷◌, ◌++◌, eqb, length, take}
use Rattle.entries.specs.declared.view.Span.{Span}
use Rattle.lines.specs.Ascii.{ascii}
use Rattle.lines.specs.Decimal.{word_of}
use Rattle.show.specs.Hexes.{hex_text}

-- A part: its start and its end.
unfoldable pub span_text : Span → List ℕ
span_text p = ascii "ok part" ++ word_of p.start ++ word_of p.end

-- How many bytes, and these; nothing stands behind a length of 0.
unfoldable pub bytes_text : List ℕ → List ℕ
bytes_text s = ascii "ok" ++ word_of (length s) ++ cond (eqb (length s) 0) [] (32 ∷ hex_text s)

-- What a decoding wrote at the front of a buffer.
unfoldable pub wrote_text : List ℕ → ℕ → List ℕ
wrote_text buffer n = bytes_text (take n buffer)
