-- The answer of a read, and the entries of its tape.
use Rattle.std.specs.Prelude.{ℕ, min, List, [], ◌∷◌, ◌++◌, length}
use Rattle.lines.specs.Ascii.{ascii}
use Rattle.lines.specs.Decimal.{decimal, word_of}
use Rattle.rows.specs.declared.Entry.{Entry}
use Rattle.rows.specs.Rows.{room_of, entries_of}

-- An entry's numbers behind a separator (document 02, CR 6: the gap last).
unfoldable pub entry_text : ℕ → Entry → List ℕ
entry_text between e = between ∷ decimal e.kind ++ word_of e.start ++ word_of e.end ++ word_of e.detail ++ word_of e.gap

-- Entries one after another.
unfoldable pub entries_text : ℕ → List Entry → List ℕ
entries_text between [] = []
entries_text between (e ∷ es) = entry_text between e ++ entries_text between es

-- The first n entries of a tape, as far as it has room for them.
unfoldable pub tape_text : ℕ → List ℕ → ℕ → List ℕ
tape_text between tape n = entries_text between (entries_of (min n (room_of (length tape))) tape)

-- How many entries, and these.
unfoldable pub read_text : ℕ → List ℕ → ℕ → List ℕ
read_text between tape n = ascii "ok" ++ word_of n ++ tape_text between tape n
