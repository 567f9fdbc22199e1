-- What is promised of `integers`. Each line is a theorem's statement; its proof only says where it is proved. Assumes nothing.
use Rattle.std.proofs.Common.{Ok, Err}
use Prim.Native.Nat.{ℕ, ◌<◌, ◌≤◌}
use mathlib.Core.Bool.{cond}
use mathlib.Core.List.{List, ◌++◌, map}
use mathlib.Core.Logic.{◌↔◌}
use mathlib.Core.Path.{◌≡◌}
use lib.Dec.{ltb}
use lib.ListN.{drop, get_or, length}
use Rattle.text.specs.Judged.{judged_of}
use Rattle.text.specs.Refusals.{Told, not_in_order}
use Rattle.text.specs.declared.refusal.Refusal.{Refusal}
use Rattle.rows.specs.Rows.{entry_at, room_of}
use Rattle.read.specs.Read.{read_answer, read_tape}
use Rattle.sarridok.specs.declared.items.Coded.{Coded}
use Rattle.sarridok.specs.Integers.{codes_after, done, in_room, integers_of, item_of, items_from, magnitudes_after}
use Rattle.sarridok.specs.Listed.{Entered, ItemReads, ItemRefused, ListReads, ListRefused}
use Rattle.sarridok.proofs.IntegersDetermined.{codes_determined, integers_determined, magnitudes_determined}
use Rattle.sarridok.proofs.IntegersMeans as means
use Rattle.reread.proofs.Relisted.{read_integers}
use Rattle.fronts.specs.Fronts.{FrontOf}
use Rattle.fronts.proofs.Calls as fronts
use Rattle.given.specs.Given.{Given}
use Rattle.given.proofs.Listed as goal

-- ---- one item

module _ (text tape : List ℕ) (count i : ℕ) (fit : judged_of text ≡ Ok tt) where
  -- An item reads exactly where its entry number is below the count, its entry is an integer's, and the single call `integer` at the entry's start, in the entry's
  -- width, accepts a number: with that magnitude, and the width for its code, 16 added exactly where the number is below zero.
  pub item_single : (c : Coded) → (item_of text tape count i ≡ Ok c) ↔ ItemReads text tape count i c
  item_single = means.item_reads text fit tape count i

  -- It is refused exactly where there is no such entry or its start is no place (28), where the entry is no integer's (27), and as the single call refuses.
  pub item_refuses : (r : Refusal) → (item_of text tape count i ≡ Err r) ↔ ItemRefused text tape count i r
  item_refuses = means.item_refused text fit tape count i

-- ---- the call

module _ (text tape : List ℕ) (count : ℕ) (items : List ℕ) (m c : ℕ) where
  -- 1 and 2 exactly in their cases, and past both exactly where the text is sound.
  pub integers_front : FrontOf text (integers_of text tape count items m c)
      (cond (ltb (room_of (length tape)) count) (Err not_in_order) (in_room (length items) m c (items_from text tape count items 0)))
  integers_front = fronts.integers_front text tape count items m c

  -- Accepted exactly where the text may be read, the count fits the tape, both buffers are as long as the list, and item by item the single call accepts: the
  -- answers are those of single calls in list order.
  pub integers_single : (cs : List Coded) → (integers_of text tape count items m c ≡ Ok cs)
      ↔ (Entered text tape count × (length items ≤ m) × (length items ≤ c) × ListReads text tape count items cs)
  integers_single = means.integers_accepted text tape count items m c

  -- Refused exactly in four ways, each before the next: by the text (1, 2), by the count (23), by the first item that is refused, with that item's refusal and reason
  -- and its number in the list as the place, and where all items read and a buffer is shorter than the list (22).
  pub integers_refuses : (r : Refusal) → (integers_of text tape count items m c ≡ Err r) ↔ ListRefused text tape count items m c r
  integers_refuses = means.integers_refused text tape count items m c

  -- A refusal's number is 1, 2 or one of 4 to 29, and its reason 1 to 8 where that is 13, else 0.
  pub integers_numbers : (r : Refusal) → integers_of text tape count items m c ≡ Err r → Given r
  integers_numbers = goal.integers_given text tape count items m c

-- ---- the buffers

module _ (text tape : List ℕ) (count : ℕ) (items ms cs : List ℕ) where
  -- An accepted call leaves one magnitude and one code of each item, and behind them what stood there.
  pub integers_written : (vs : List Coded) → integers_of text tape count items (length ms) (length cs) ≡ Ok vs
      → (magnitudes_after text tape count items ms cs ≡ map (λ (v : Coded). v.magnitude) vs ++ drop (length items) ms)
      × (codes_after text tape count items ms cs ≡ map (λ (v : Coded). v.code) vs ++ drop (length items) cs)
  integers_written = means.accepted_fills text tape count items ms cs

  -- A refused one leaves both as they were.
  pub refused_integers : (r : Refusal) → integers_of text tape count items (length ms) (length cs) ≡ Err r
      → (magnitudes_after text tape count items ms cs ≡ ms) × (codes_after text tape count items ms cs ≡ cs)
  refused_integers = means.refused_leaves text tape count items ms cs

  -- Two answers that meet the promise are equal, and so are both buffers.
  pub one_integers : (x y : Told Unit) (u v s t : List ℕ)
      → (x ≡ done (integers_of text tape count items (length ms) (length cs))) × (u ≡ magnitudes_after text tape count items ms cs) × (s ≡ codes_after text tape count items ms cs)
      → (y ≡ done (integers_of text tape count items (length ms) (length cs))) × (v ≡ magnitudes_after text tape count items ms cs) × (t ≡ codes_after text tape count items ms cs)
      → (x ≡ y) × (u ≡ v) × (s ≡ t)
  one_integers x y u v s t p q = (
    integers_determined text tape count items (length ms) (length cs) x y p.0 q.0,
    magnitudes_determined text tape count items ms cs u v p.1 q.1,
    codes_determined text tape count items ms cs s t p.2 q.2,
  )

-- ---- the integers of an accepted read

-- No list of integers of an accepted read is refused where both buffers have room.
pub integers_again : (text tape : List ℕ) (count : ℕ) (items : List ℕ) (m c : ℕ) → read_answer text (length tape) ≡ Ok count
    → ((k : ℕ) → k < length items → (get_or items k 0 < count) × ((entry_at (read_tape text tape) (get_or items k 0)).kind ≡ 11))
    → length items ≤ m → length items ≤ c → (cs : List Coded) × (integers_of text (read_tape text tape) count items m c ≡ Ok cs)
integers_again = read_integers
