-- One reading of the input: where it has not ended, bytes have come behind what is kept. Assumes nothing.
use Prim.Native.Nat.{ℕ, ◌-◌, ◌<◌, ◌≤◌}
use native.Mathlib.Omega.{arith}
use mathlib.Core.Bool.{Bool, true, false}
use mathlib.Core.List.{List}
use mathlib.Core.Path.{◌≡◌, sym, ap, subst, ◌∙◌}
use lib.Dec.{T}
use lib.ListN.{length, take, drop}
use borrow.Author.Tests.{eqb-false}
use Rattle.lines.specs.Input.{ended_input, leaves_room, ReadBehind}
use Rattle.lines.specs.declared.input.Input.{Input}
use Rattle.pieces.specs.Pieces.{Outcome, kept_in, piece_of}
use Rattle.pieces.specs.declared.state.Arrival.{Arrival}
use Rattle.text.proofs.Choices.{bool_cases, either}
use Rattle.text.specs.Refusals.{Told}
use Rattle.arrive.specs.Printed.{goes_on, next_of}
use Rattle.arrive.specs.declared.Standing.{Standing}
use Rattle.arrive.specs.inner.Turns.{Turned, behind_piece}

-- where the program stands, by its two parts
abbrev parts : Arrival → Bool → Standing
parts a b = record { state = a; on = b }

pub stands : (s : Arrival) (told : Told Outcome) (a : Arrival) (b : Bool) → a ≡ next_of s told → b ≡ goes_on told → parts a b ≡ behind_piece s told
stands s told a b e f = ap (λ (x : Arrival). parts x b) e ∙ ap (parts (next_of s told)) f

-- there is nothing more to do
pub turned_last : (s : Arrival) (were are : List ℕ) (room : ℕ) (r : Standing) → r.on ≡ false → Turned s were are room r
turned_last s were are room r f = λ t. absurd (subst T (sym t ∙ f) tt)

module _ (s : Arrival) (were held : List ℕ) (i : Input) (a : leaves_room 0 s.kept (length were) ≡ true → ReadBehind (s.kept - 0) (drop 0 were) held i)
    (b : leaves_room 0 s.kept (length were) ≡ false → (i ≡ ended_input) × (held ≡ were)) (f : i.ended ≡ false) where
  there : leaves_room 0 s.kept (length were) ≡ true
  there =
      either (bool_cases (leaves_room 0 s.kept (length were))) (λ t. t)
      (λ e. absurd (subst T (sym (ap (λ (x : Input). x.ended) (b e).0) ∙ f) tt))

  came : ReadBehind (s.kept - 0) (drop 0 were) held i
  came = a there

  pub came_behind : s.kept ≤ i.to
  came_behind = omega (arith, came.1)

  some : 0 < i.to - s.kept
  some = let differs : i.to ≡ s.kept - 0 → ⊥ = eqb-false i.to (s.kept - 0) (sym came.3 ∙ f) in omega (arith, came_behind, differs)

  front : take s.kept held ≡ take s.kept were
  front =
      let all : s.kept - 0 ≡ s.kept = omega arith in
      sym (ap (λ (n : ℕ). take n held) all) ∙ came.4 ∙ ap (λ (n : ℕ). take n were) all

  pub turned : (are : List ℕ) (room : ℕ) (r : Standing) → r ≡ behind_piece s (piece_of s held (i.to - s.kept) room)
      → are ≡ kept_in (piece_of s held (i.to - s.kept) room) held → Turned s were are room r
  turned are room r e k = λ t. (held, i.to - s.kept, some, omega (arith, came_behind, came.2), front, e, k)
