-- The call `integers` (document 02, CR 7): "One call takes a list of entry numbers and writes for each the magnitude and a code, the width with 16 added if the
-- value is below zero. Each is read in its entry's width; a width outside 1 to 8 is 27. The answers are those of single calls in list order. The first item refused
-- refuses the whole call, with the item's number as the place. Refusals: 1, 2; 23 where the count doesn't fit the tape; 28, 27 and those of reading by item; then
-- 22 if either buffer is shorter than the list." Document 01: "27: entry or suffix of another kind."
use Rattle.std.specs.Prelude.{Ok, Err, ℕ, ◌+◌, Bool, cond, ◌&&◌, ◌||◌, List, [], ◌∷◌, ◌++◌, map, ltb, eqb, length, drop}
use Rattle.text.specs.Classes.{within}
use Rattle.text.specs.Judged.{judged_of, behind_judged, place_fits}
use Rattle.text.specs.Refusals.{Told, at_place, unfit, other_kind, not_in_order, no_room}
use Rattle.integers.specs.Width.{width_at}
use Rattle.integers.specs.declared.integer.Value.{Value}
use Rattle.rows.specs.Rows.{room_of, entry_at}
use Rattle.rows.specs.declared.Entry.{Entry}
use Rattle.sarridok.specs.declared.integer_call.Typed.{Typed}
use Rattle.sarridok.specs.declared.items.Coded.{Coded}
use Rattle.sarridok.specs.Typed.{integer_of}

-- "The width with 16 added if the value is below zero"; 0 has no minus.
abbrev pub code_for : ℕ → Value → ℕ
code_for width v = width + cond v.minus 16 0

-- The answer of a single call in a width, as it is written.
abbrev pub coded_as : ℕ → Told Typed → Told Coded
coded_as width (Ok t) = Ok (record { magnitude = t.number.magnitude; code = code_for width t.number })
coded_as width (Err r) = Err r

-- The entry is an integer's: of kind 11, with a width of 1 to 8.
abbrev pub names_integer : Entry → Bool
names_integer e = eqb e.kind 11 && within 1 8 e.detail

-- The integer that an entry names: 28 where its start does not fit, 27 where it is no integer's, and else the answer of the call `integer` there, "in its entry's width".
unfoldable pub entry_integer : List ℕ → Entry → Told Coded
entry_integer text e =
    cond (place_fits text e.start)
    (cond (names_integer e) (coded_as e.detail (integer_of text e.start (width_at e.detail))) (Err other_kind))
    (Err unfit)

-- An item of the list: 28 where its entry number is not below the count.
unfoldable pub item_of : (text tape : List ℕ) (count item : ℕ) → Told Coded
item_of text tape count item = cond (ltb item count) (entry_integer text (entry_at tape item)) (Err unfit)

-- An item's answer before those of the items behind it: refused, it "refuses the whole call, with the item's number as the place".
abbrev pub before : ℕ → Told Coded → Told (List Coded) → Told (List Coded)
before k (Ok c) (Ok cs) = Ok (c ∷ cs)
before k (Ok c) (Err r) = Err r
before k (Err r) rest = Err (at_place r k)

-- The items of a list, the first of which has the number k: "The answers are those of single calls in list order."
unfoldable pub items_from : (text tape : List ℕ) (count : ℕ) → List ℕ → ℕ → Told (List Coded)
items_from text tape count [] k = Ok []
items_from text tape count (i ∷ is) k = let rest = items_from text tape count is (k + 1) in before k (item_of text tape count i) rest

-- "Then 22 if either buffer is shorter than the list."
abbrev pub in_room : (items magnitudes codes : ℕ) → Told (List Coded) → Told (List Coded)
in_room items magnitudes codes (Ok cs) = cond (ltb magnitudes items || ltb codes items) (Err no_room) (Ok cs)
in_room items magnitudes codes (Err r) = Err r

-- The whole answer, for buffers of so many numbers and bytes: what is written for each item, or a refusal.
unfoldable pub integers_of : (text tape : List ℕ) (count : ℕ) (items : List ℕ) (magnitudes codes : ℕ) → Told (List Coded)
integers_of text tape count items magnitudes codes =
    behind_judged (judged_of text)
    (cond (ltb (room_of (length tape)) count) (Err not_in_order)
    (in_room (length items) magnitudes codes (items_from text tape count items 0)))

-- That all is written, or the refusal.
abbrev pub done : Told (List Coded) → Told Unit
done (Ok cs) = Ok tt
done (Err r) = Err r

-- A buffer behind such an answer: one number of each item at its front, and behind them what stood there; as it was on a refusal.
abbrev pub filled : (Coded → ℕ) → Told (List Coded) → List ℕ → List ℕ
filled part (Ok cs) out = map part cs ++ drop (length cs) out
filled part (Err r) out = out

-- The magnitudes afterwards,
unfoldable pub magnitudes_after : (text tape : List ℕ) (count : ℕ) (items magnitudes codes : List ℕ) → List ℕ
magnitudes_after text tape count items magnitudes codes =
    filled (λ c. c.magnitude) (integers_of text tape count items (length magnitudes) (length codes)) magnitudes

-- and the codes.
unfoldable pub codes_after : (text tape : List ℕ) (count : ℕ) (items magnitudes codes : List ℕ) → List ℕ
codes_after text tape count items magnitudes codes =
    filled (λ c. c.code) (integers_of text tape count items (length magnitudes) (length codes)) codes
