-- What an answer of `integers` means (document 02, CR 7), item by item: "Each is read in its entry's width .. The answers are those of single calls in list order.
-- The first item refused refuses the whole call, with the item's number as the place."
use Rattle.std.specs.Prelude.{Ok, Err, ℕ, ◌+◌, ◌≤◌, ◌<◌, true, false, List, ◌⊎◌, ◌≡◌, ℤ, pos, length, get_or, ◌≤ℤ◌, ◌<ℤ◌}
use Rattle.text.specs.Judged.{judged_of, place_fits}
use Rattle.text.specs.Refusals.{Told, at_place, unfit, other_kind, not_in_order, no_room}
use Rattle.text.specs.declared.refusal.Refusal.{Refusal}
use Rattle.integers.specs.Width.{width_at}
use Rattle.rows.specs.Rows.{room_of, entry_at}
use Rattle.rows.specs.declared.Entry.{Entry}
use Rattle.sarridok.specs.declared.integer_call.Typed.{Typed}
use Rattle.sarridok.specs.Typed.{integer_of, signed_number}
use Rattle.sarridok.specs.declared.items.Coded.{Coded}
use Rattle.sarridok.specs.Integers.{names_integer}

-- The single call for an entry: at its start, in its width.
abbrev pub single : List ℕ → Entry → Told Typed
single text e = integer_of text e.start (width_at e.detail)

-- A code tells a width, "with 16 added if the value is below zero".
abbrev pub Tells : (width : ℕ) → ℤ → (code : ℕ) → Type 0
Tells width z code = ((pos 0 ≤ℤ z) × (code ≡ width)) ⊎ ((z <ℤ pos 0) × (code ≡ width + 16))

-- An entry's integer is written so: the entry is an integer's, its single call accepts a number, and these are its magnitude and its code.
pub record Written (text : List ℕ) (e : Entry) (c : Coded) : Type 0 where
  pub names : names_integer e ≡ true
  pub typed : Typed
  pub reads : single text e ≡ Ok typed
  pub magnitude : c.magnitude ≡ typed.number.magnitude
  pub code : Tells e.detail (signed_number typed.number) c.code

-- And item i of a list of entry numbers, below the count.
pub record ItemReads (text tape : List ℕ) (count i : ℕ) (c : Coded) : Type 0 where
  pub below : i < count
  pub written : Written text (entry_at tape i) c

-- An item is refused: there is no such entry, its start is no place, it is no integer's, or its single call refuses.
pub data ItemRefused (text tape : List ℕ) (count i : ℕ) : Refusal → Type 0 where
  no_entry : count ≤ i → ItemRefused text tape count i unfit
  no_place : i < count → place_fits text (entry_at tape i).start ≡ false → ItemRefused text tape count i unfit
  no_integer : i < count → place_fits text (entry_at tape i).start ≡ true → names_integer (entry_at tape i) ≡ false → ItemRefused text tape count i other_kind
  unread : {r : Refusal} → i < count → place_fits text (entry_at tape i).start ≡ true → names_integer (entry_at tape i) ≡ true
      → single text (entry_at tape i) ≡ Err r → ItemRefused text tape count i r

-- A list reads as these values: as many as it has items, each its own.
pub record ListReads (text tape : List ℕ) (count : ℕ) (items : List ℕ) (cs : List Coded) : Type 0 where
  pub as_many : length cs ≡ length items
  pub each : (k : ℕ) → k < length items → ItemReads text tape count (get_or items k 0) (get_or cs k (record { magnitude = 0; code = 0 }))

-- Item k is the first that is refused.
pub record FirstRefused (text tape : List ℕ) (count : ℕ) (items : List ℕ) (k : ℕ) (r : Refusal) : Type 0 where
  pub inside : k < length items
  pub before : (j : ℕ) → j < k → (c : Coded) × ItemReads text tape count (get_or items j 0) c
  pub item : ItemRefused text tape count (get_or items k 0) r

-- What the call asks before any item: a text that may be read, and a count that fits the tape.
abbrev pub Entered : (text tape : List ℕ) (count : ℕ) → Type 0
Entered text tape count = (judged_of text ≡ Ok tt) × (count ≤ room_of (length tape))

-- The call refuses: by its text, by its count, by its first item that is refused, or where all read and a buffer is shorter than the list.
pub data ListRefused (text tape : List ℕ) (count : ℕ) (items : List ℕ) (m c : ℕ) : Refusal → Type 0 where
  by_text : {r : Refusal} → judged_of text ≡ Err r → ListRefused text tape count items m c r
  by_count : judged_of text ≡ Ok tt → room_of (length tape) < count → ListRefused text tape count items m c not_in_order
  by_item : (k : ℕ) (r : Refusal) → Entered text tape count → FirstRefused text tape count items k r → ListRefused text tape count items m c (at_place r k)
  by_room : (cs : List Coded) → Entered text tape count → ListReads text tape count items cs → (m < length items) ⊎ (c < length items)
      → ListRefused text tape count items m c no_room
