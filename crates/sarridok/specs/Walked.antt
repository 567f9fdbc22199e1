-- The call `walk` (document 01): "Walk: a tape, its count and a depth limit of 0 to 128, into one link per entry." Document 02, CR 2: "The walk therefore takes
-- the text as well. Refusals: 1, 2 join the walk's front; an entry that ends past the text, or a raw name entry that isn't `r#` with more behind it, is 23".
-- Order of refusals: 1 and 2; 28 for a limit above 128; 23 "unless .. the count fits the slice, kinds are 1 to 16, each start is below its end, no entry starts
-- before the former's end, and the last ends within" the text, and its raw names are; 22 where the links are fewer than the entries; then 24, 25, 26 and 31.
-- "A refused call writes nothing .. An accepted .. walk .. leaves the slice behind what it writes as it found it."
use Rattle.std.specs.Prelude.{Ok, Err, ℕ, cond, ◌&&◌, List, ltb, length}
use Rattle.text.specs.Judged.{judged_of, behind_judged}
use Rattle.text.specs.Refusals.{Told, unfit, not_in_order, no_room}
use Rattle.rows.specs.Rows.{room_of, entries_of}
use Rattle.rows.specs.Order.{in_order}
use Rattle.rows.specs.declared.Entry.{Entry}
use Rattle.grammar.specs.Kinds.{kinds_of}
use Rattle.grammar.specs.Walk.{linked_of}
use Rattle.fields.specs.Names.{name_at, raws_fit}
use Rattle.fields.specs.Fields.{named_walk}

-- What is asked before any entry is judged, in its order; behind it stands the walk's own answer.
unfoldable pub behind_walk_front : List ℕ → List ℕ → ℕ → ℕ → ℕ → Told Unit → Told Unit
behind_walk_front text tape count limit links on =
    behind_judged (judged_of text)
    (cond (ltb 128 limit) (Err unfit)
    (cond (ltb (room_of (length tape)) count) (Err not_in_order)
    (cond (in_order (entries_of count tape) (length text) && raws_fit text (entries_of count tape))
    (cond (ltb links count) (Err no_room) on)
    (Err not_in_order))))

-- The whole answer, for so many links.
unfoldable pub walk_of : List ℕ → List ℕ → ℕ → ℕ → ℕ → Told Unit
walk_of text tape count limit links =
    behind_walk_front text tape count limit links (named_walk (name_at text tape) (kinds_of (entries_of count tape)) limit)

-- The links behind such an answer: those of the entries, or what stood there.
abbrev pub left_by : Told Unit → List Entry → List ℕ → List ℕ
left_by (Ok t) es out = linked_of (kinds_of es) out
left_by (Err r) es out = out

-- The links afterwards.
unfoldable pub links_after : List ℕ → List ℕ → ℕ → ℕ → List ℕ → List ℕ
links_after text tape count limit out = left_by (walk_of text tape count limit (length out)) (entries_of count tape) out
