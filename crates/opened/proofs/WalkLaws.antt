-- What is shown, by the walk's refusal. Assumes nothing.
use Prim.Native.Nat.{ℕ, ◌<◌, ◌≤◌}
use mathlib.Core.List.{List}
use mathlib.Core.Path.{◌≡◌}
use borrow.Author.Tests.{eq-eqb, ne_eqb, lt-ltb, le-ltb}
use Rattle.text.specs.declared.refusal.Refusal.{Refusal}
use Rattle.opened.specs.declared.begun.Begun.TheVariants.{Nothing}
use Rattle.opened.specs.Brackets.{open_behind, other_before}
use Rattle.opened.specs.Former.{field_before}
use Rattle.opened.specs.Walks.{walk_begun}

module _ (text tape : List ℕ) (count : ℕ) (r : Refusal) where
  pub walk_26 : r.number ≡ 26 → open_behind tape count ≡ walk_begun text tape count r
  unfolding walk_begun
  walk_26 h = rw (eq-eqb r.number 26 h)

  module _ (f : r.number ≡ 26 → ⊥) where
    pub walk_behind : count ≤ r.place → Nothing ≡ walk_begun text tape count r
    unfolding walk_begun
    walk_behind l = rw (ne_eqb r.number 26 f, le-ltb r.place count l)

    pub walk_25 : r.place < count → r.number ≡ 25 → other_before tape r.place ≡ walk_begun text tape count r
    unfolding walk_begun
    walk_25 l h = rw (ne_eqb r.number 26 f, lt-ltb r.place count l, eq-eqb r.number 25 h)

    pub walk_31 : r.place < count → (r.number ≡ 25 → ⊥) → r.number ≡ 31 → field_before text tape r.place ≡ walk_begun text tape count r
    unfolding walk_begun
    walk_31 l g h = rw (ne_eqb r.number 26 f, lt-ltb r.place count l, ne_eqb r.number 25 g, eq-eqb r.number 31 h)

    pub walk_other : r.place < count → (r.number ≡ 25 → ⊥) → (r.number ≡ 31 → ⊥) → Nothing ≡ walk_begun text tape count r
    unfolding walk_begun
    walk_other l g h = rw (ne_eqb r.number 26 f, lt-ltb r.place count l, ne_eqb r.number 25 g, ne_eqb r.number 31 h)
