-- The strings of a tape (document 01): kinds "14 string, 15 byte string", detail "decoded length". "Contents of a string or byte string entry: the bytes
-- inside as a part of the caller's text where nothing was escaped".
use Rattle.std.specs.Prelude.{Ok, Err, ℕ, List, ◌⊎◌, ◌≡◌, length}
use Rattle.text.specs.Refusals.{holds_escape}
use Rattle.rows.specs.Rows.{entry_at}
use Rattle.rows.specs.declared.Entry.{Entry}
use Rattle.entries.specs.declared.view.Span.{Span}
use Rattle.sarridok.specs.Contents.{contents_of, part_of}

-- The entry is a string or a byte string.
abbrev pub IsString : Entry → Type 0
IsString e = (e.kind ≡ 14) ⊎ (e.kind ≡ 15)

-- `contents` answers 29, or a part of the text that has as many bytes as the entry's detail says.
abbrev pub Handed : (text tape : List ℕ) (count entry : ℕ) → Type 0
Handed text tape count entry =
    (contents_of text tape count entry ≡ Err holds_escape)
    ⊎ ((s : Span) × (contents_of text tape count entry ≡ Ok s) × (length (part_of text (Ok s)) ≡ (entry_at tape entry).detail))
