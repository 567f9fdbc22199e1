-- The call `integers`, way by way: what its front and its items make of the whole answer and of the buffers. Assumes nothing.
use Rattle.std.proofs.Common.{Ok, Err}
use Prim.Native.Nat.{ℕ, ◌≤◌, ◌<◌}
use mathlib.Core.List.{List}
use mathlib.Core.Path.{◌≡◌, ap, refl, sym, ◌∙◌}
use lib.Dec.{ltb}
use lib.ListN.{length}
use borrow.Author.Tests.{le-ltb, lt-ltb}
use native.Mathlib.Omega.{arith}
use Rattle.text.proofs.Choices.{or_true}
use Rattle.text.specs.Judged.{judged_of}
use Rattle.text.specs.Refusals.{Told, no_room, not_in_order}
use Rattle.text.specs.declared.refusal.Refusal.{Refusal}
use Rattle.rows.specs.Rows.{room_of}
use Rattle.sarridok.specs.declared.items.Coded.{Coded}
use Rattle.sarridok.specs.Integers.{codes_after, done, filled, in_room, integers_of, items_from, magnitudes_after}
use Rattle.sarridok.specs.inner.Items.{verdict_of}
use Rattle.sarridok.proofs.ItemLaws.{all_read, values_of}

-- ---- the answer

module _ (text tape : List ℕ) (count : ℕ) (items : List ℕ) (m c : ℕ) where
  -- 1 and 2
  pub by_judged : (r : Refusal) → judged_of text ≡ Err r → integers_of text tape count items m c ≡ Err r
  unfolding integers_of
  by_judged r e = rw e

  module _ (fit : judged_of text ≡ Ok tt) where
    -- 23
    pub by-count : room_of (length tape) < count → integers_of text tape count items m c ≡ Err not_in_order
    unfolding integers_of
    by-count h = rw (fit, lt-ltb (room_of (length tape)) count h)

    module _ (fits : count ≤ room_of (length tape)) where
      -- what the items come to, and the room for them
      pub by_items : integers_of text tape count items m c ≡ in_room (length items) m c (items_from text tape count items 0)
      unfolding integers_of
      by_items = rw (fit, le-ltb (room_of (length tape)) count fits)

      pub by-item : (r : Refusal) → verdict_of (items_from text tape count items 0) ≡ Err r → integers_of text tape count items m c ≡ Err r
      by-item r e = by_items ∙ refusing (items_from text tape count items 0) e
        where
          refusing : (t : Told (List Coded)) → verdict_of t ≡ Err r → in_room (length items) m c t ≡ Err r
          refusing (Ok cs) h = let z : ◌≡◌ {A = ℕ} 0 1 = cc in absurd (omega arith)
          refusing (Err q) h = let same : q ≡ r = cc in ap Err same

      module _ (read : verdict_of (items_from text tape count items 0) ≡ Ok tt) where
        -- all items read: as they are, or 22
        asked : integers_of text tape count items m c ≡ in_room (length items) m c (Ok (values_of (items_from text tape count items 0)))
        asked = by_items ∙ ap (in_room (length items) m c) (all_read (items_from text tape count items 0) read)

        pub by_magnitudes : m < length items → integers_of text tape count items m c ≡ Err no_room
        by_magnitudes h = asked ∙ rw (lt-ltb m (length items) h)

        pub by_codes : c < length items → integers_of text tape count items m c ≡ Err no_room
        by_codes h = asked ∙ rw (lt-ltb c (length items) h, or_true (ltb m (length items)))

        pub by-room : length items ≤ m → length items ≤ c → integers_of text tape count items m c ≡ items_from text tape count items 0
        by-room h k = asked ∙ rw (le-ltb m (length items) h, le-ltb c (length items) k) (sym (all_read (items_from text tape count items 0) read))

-- ---- the answer and the buffers

module _ (text tape : List ℕ) (count : ℕ) (items ms cs : List ℕ) where
  -- a refused call leaves both as they were
  pub all_refused : (r : Refusal) → integers_of text tape count items (length ms) (length cs) ≡ Err r
      → (Err r ≡ done (integers_of text tape count items (length ms) (length cs)))
      × ((ms ≡ magnitudes_after text tape count items ms cs) × (cs ≡ codes_after text tape count items ms cs))
  unfolding magnitudes_after codes_after
  all_refused r e = rw e (refl, (refl, refl))

  -- and one whose items are written has written them
  pub all_written : (t : Told (List Coded)) (ms' cs' : List ℕ) → verdict_of t ≡ Ok tt → integers_of text tape count items (length ms) (length cs) ≡ t
      → ms' ≡ filled (λ (v : Coded). v.magnitude) t ms → cs' ≡ filled (λ (v : Coded). v.code) t cs
      → (Ok tt ≡ done (integers_of text tape count items (length ms) (length cs)))
      × ((ms' ≡ magnitudes_after text tape count items ms cs) × (cs' ≡ codes_after text tape count items ms cs))
  unfolding magnitudes_after codes_after
  all_written t ms' cs' read e f g = rw e (sym (ap done (all_read t read)), (f, g))
