-- What the inner steps of a repair come to: the search over the old entries, which only goes forward, and the rows that are moved and cleared.
use Rattle.std.specs.Prelude.{Ok, Err, ℕ, ◌+◌, ◌-◌, ◌*◌, ◌<◌, ◌≤◌, min, Bool, true, cond, ◌≡◌, List, ◌++◌, map, ltb, leb, length, take, drop, get_or, replicate}
use Rattle.rows.specs.Rows.{width, room_of, entries_of, flat, laid}
use Rattle.rows.specs.Order.{in_order}
use Rattle.text.specs.Refusals.{Told, no_room}
use Rattle.reading.specs.Readings.{read_from, entries}
use Rattle.tokens.specs.Ron.{ron_token}
use Rattle.repair.specs.declared.rewrite.Rest.{Rest}
use Rattle.rows.specs.declared.Entry.{Entry}
use Rattle.repair.specs.Repair.{leading, seek_of, joins, no_entry, cleared}
use Rattle.repair.specs.declared.repairer.Repaired.{Repaired}
use Rattle.repair.specs.declared.seeking.Met.{Met}
use Rattle.repair.specs.declared.seeking.Met.TheVariants.{At, Next}

-- The entries are in order, within some limit.
abbrev pub InOrder : List Entry → Type 0
InOrder es = (limit : ℕ) × (in_order es limit ≡ true)

-- The entry starts before the place q.
abbrev pub starts_before : ℕ → Entry → Bool
starts_before q y = ltb y.start q

-- The first entry from row i on that does not start before q.
abbrev pub seek_from : List Entry → ℕ → ℕ → ℕ
seek_from old i q = i + leading (starts_before q) (drop i old)

-- Whether a new entry that starts at x, behind a gap of g bytes, joins, and the row where the search stands then, i before.
abbrev pub met_of : List Entry → ℕ → ℕ → ℕ → ℕ → ℕ → Met
met_of old b e i g x = let k = seek_of old b e x in let met = cond (joins old b e g x k) (At k) (Next k) in cond (leb e x) met (Next i)

-- A place moved from b to e, as far as it fits a number of the tape.
abbrev pub clipped : ℕ → ℕ → ℕ → ℕ
clipped b e p = min (p + e - b) 4294967295

-- An entry moved so.
abbrev pub clipped_from : ℕ → ℕ → Entry → Entry
clipped_from b e y = record { kind = y.kind; start = clipped b e y.start; end = clipped b e y.end; detail = y.detail; gap = y.gap }

-- The entry stands at b or behind it, and moved from b to e ends within 65,536.
pub record MovableRow (b e : ℕ) (y : Entry) : Type 0 where
  pub behind : b ≤ y.start
  pub some : y.start ≤ y.end
  pub inside : y.end + e ≤ b + 65536

-- Each of the entries does: none of their places is clipped.
abbrev pub Movable : ℕ → ℕ → List Entry → Type 0
Movable b e es = (k : ℕ) → k < length es → MovableRow b e (get_or es k no_entry)

-- The tape with entries from row g on.
unfoldable pub laid_at : ℕ → List Entry → List ℕ → List ℕ
laid_at g es tape = take (width * g) tape ++ flat es ++ drop (width * (g + length es)) tape

-- m rows from f on moved to the rows from g on.
abbrev pub shifted : ℕ → ℕ → ℕ → ℕ → ℕ → List ℕ → List ℕ
shifted b e m f g tape = laid_at g (map (clipped_from b e) (entries_of m (drop (width * f) tape))) tape

-- Rows x to y without an entry.
abbrev pub emptied : ℕ → ℕ → List ℕ → List ℕ
emptied x y tape = laid_at x (replicate (y - x) no_entry) tape

-- The answer once the rest of the tape is known: j entries kept, 22 where there is no room.
abbrev pub finish_answer : ℕ → ℕ → Rest → Told Repaired
finish_answer room j rest = let total = j + rest.n + rest.m in cond (ltb room total) (Err no_room) (Ok (record { count = total; before = j; behind = rest.m }))

-- The tape then: it stays as it was where there is no room.
abbrev pub finish_tape : List ℕ → ℕ → List ℕ → Rest → List ℕ
finish_tape tape j text rest =
    let new = take rest.n (entries (read_from ron_token text rest.from)) ++ map (clipped_from rest.b rest.e) (entries_of rest.m (drop (width * (j + rest.f)) tape)) in
    let written = laid (entries_of j tape ++ new) (cleared (j + (rest.f + rest.m)) tape) in
    cond (ltb (room_of (length tape)) (j + rest.n + rest.m)) tape written
