-- Entries on a tape (document 01): "a tape, a lent slice of 32-bit numbers, four to an entry: kind, start, end, detail." Document 02, CR 6: "Each entry gets a
-- fifth number, the bytes between the former entry's end, or the text's start, and its own start. Room is then the length divided by 5."
use Rattle.std.specs.Prelude.{ℕ, zero, suc, ◌+◌, ◌*◌, ◌/◌, List, [], ◌∷◌, ◌++◌, length, get_or, take, drop}
use Rattle.rows.specs.declared.Entry.{Entry}

-- How many numbers an entry has.
abbrev pub width : ℕ
width = 5

-- How many entries a slice of so many numbers has room for.
abbrev pub room_of : ℕ → ℕ
room_of numbers = numbers / width

-- The numbers of an entry.
abbrev pub cells : Entry → List ℕ
cells e = e.kind ∷ e.start ∷ e.end ∷ e.detail ∷ e.gap ∷ []

-- The entry that the numbers at the front are; past the end stands 0.
abbrev pub entry_of : List ℕ → Entry
entry_of s = record { kind = get_or s 0 0; start = get_or s 1 0; end = get_or s 2 0; detail = get_or s 3 0; gap = get_or s 4 0 }

-- The entry in row i.
unfoldable pub entry_at : List ℕ → ℕ → Entry
entry_at tape i = entry_of (drop (width * i) tape)

-- The entries of the first n rows.
unfoldable pub entries_of : ℕ → List ℕ → List Entry
entries_of zero tape = []
entries_of (suc n) tape = entry_of tape ∷ entries_of n (drop width tape)

-- The tape with row i replaced and all else as it was.
unfoldable pub written : List ℕ → ℕ → Entry → List ℕ
written tape i e = take (width * i) tape ++ cells e ++ drop (width * (i + 1)) tape

-- The numbers of entries one after the other.
unfoldable pub flat : List Entry → List ℕ
flat [] = []
flat (e ∷ es) = cells e ++ flat es

-- The tape with entries at its front, and behind them what stood there.
unfoldable pub laid : List Entry → List ℕ → List ℕ
laid es tape = flat es ++ drop (width * length es) tape
