-- The refusals of `integers` are those of its items, 4 to 29, each with its reason, wherever the text may be read. Assumes nothing.
use Rattle.std.proofs.Common.{Ok, Err}
use Prim.Native.Nat.{ℕ, ◌+◌}
use mathlib.Core.Bool.{cond, ◌||◌}
use mathlib.Core.List.{List, [], ◌∷◌}
use mathlib.Core.Path.{◌≡◌, refl}
use lib.Dec.{ltb}
use lib.ListN.{drop, length}
use Rattle.text.specs.Judged.{behind_front, judged_of, place_fits}
use Rattle.text.specs.Refusals.{Told, not_in_order}
use Rattle.text.specs.declared.refusal.Refusal.{Refusal}
use Rattle.integers.specs.Width.{width_at}
use Rattle.integers.specs.declared.width.Width.{Width}
use Rattle.rows.specs.Rows.{entry_at, room_of}
use Rattle.rows.specs.declared.Entry.{Entry}
use Rattle.sarridok.specs.declared.items.Coded.{Coded}
use Rattle.sarridok.specs.Integers.{before, coded_as, entry_integer, in_room, integers_of, item_of, items_from, names_integer}
use Rattle.sarridok.specs.declared.integer_call.Typed.{Typed}
use Rattle.sarridok.specs.Typed.{integer_of}
use Rattle.given.specs.Given.{Given, within}
use Rattle.given.proofs.Both.{both}
use Rattle.given.proofs.Front.{Given-told, Own-told, answered, behind_given, own_given}
use Rattle.given.proofs.Owns.{or_unfit}
use Rattle.given.proofs.Typed.{integer_own}

-- ---- one item

module _ (text : List ℕ) (fit : judged_of text ≡ Ok tt) where
  -- a single call over a text that may be read
  single_own : (place : ℕ) (width : Width) → Own-told (integer_of text place width)
  unfolding integer_of behind_front
  single_own place width = rw fit (or_unfit (place_fits text place) _ (integer_own place width (drop place text)))

  coded_own : (width : ℕ) (t : Told Typed) → Own-told t → Own-told (coded_as width t)
  coded_own width (Ok t) h = tt
  coded_own width (Err r) h = h

  entry_own : (e : Entry) → Own-told (entry_integer text e)
  unfolding entry_integer within
  entry_own e =
      both Own-told (place_fits text e.start)
      (both Own-told (names_integer e) (coded_own e.detail (integer_of text e.start (width_at e.detail)) (single_own e.start (width_at e.detail))) refl)
      refl

  item_own : (tape : List ℕ) (count i : ℕ) → Own-told (item_of text tape count i)
  unfolding item_of within
  item_own tape count i = both Own-told (ltb i count) (entry_own (entry_at tape i)) refl

  -- ---- all of them; the place of a refusal is no part of its number

  before_own : (k : ℕ) (t : Told Coded) (rest : Told (List Coded)) → Own-told t → Own-told rest → Own-told (before k t rest)
  before_own k (Ok c) (Ok cs) h g = tt
  before_own k (Ok c) (Err r) h g = g
  before_own k (Err r) rest h g = h

  items_own : (tape : List ℕ) (count : ℕ) (items : List ℕ) (k : ℕ) → Own-told (items_from text tape count items k)
  unfolding items_from
  items_own tape count [] k = tt
  items_own tape count (i ∷ is) k = before_own k (item_of text tape count i) (items_from text tape count is (k + 1)) (item_own tape count i) (items_own tape count is (k + 1))

  room_own : (n m c : ℕ) (t : Told (List Coded)) → Own-told t → Own-told (in_room n m c t)
  unfolding within
  room_own n m c (Ok cs) h = both Own-told (ltb m n || ltb c n) refl tt
  room_own n m c (Err r) h = h

  -- behind the judgement of the text
  pub integers_own : (tape : List ℕ) (count : ℕ) (items : List ℕ) (m c : ℕ)
      → Own-told (cond (ltb (room_of (length tape)) count) (Err not_in_order) (in_room (length items) m c (items_from text tape count items 0)))
  unfolding within
  integers_own tape count items m c =
      both Own-told (ltb (room_of (length tape)) count) refl (room_own (length items) m c (items_from text tape count items 0) (items_own tape count items 0))

-- ---- the call

told_given : (text tape : List ℕ) (count : ℕ) (items : List ℕ) (m c : ℕ) (j : Told Unit) → judged_of text ≡ j → Given-told (integers_of text tape count items m c)
unfolding integers_of
told_given text tape count items m c (Ok tt) e =
    let own : Told (List Coded) = cond (ltb (room_of (length tape)) count) (Err not_in_order) (in_room (length items) m c (items_from text tape count items 0)) in
    rw e (own_given own (integers_own text e tape count items m c))
told_given text tape count items m c (Err q) e = rw e (rw e at (behind_given {A = Unit {0}} text (Ok tt) tt))

pub integers_given : (text tape : List ℕ) (count : ℕ) (items : List ℕ) (m c : ℕ) (r : Refusal) → integers_of text tape count items m c ≡ Err r → Given r
integers_given text tape count items m c r = answered (integers_of text tape count items m c) r (told_given text tape count items m c (judged_of text) refl)
