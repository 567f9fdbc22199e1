-- Laws of digit runs at a place, as loops ask for them. Assumes nothing.
use Prim.Native.Nat.{ℕ, ◌+◌, ◌≤◌, ◌<◌}
use native.Mathlib.Omega.{arith}
use mathlib.Core.List.{List, [], ◌∷◌}
use mathlib.Core.Bool.{Bool}
use mathlib.Core.Path.{◌≡◌, refl}
use lib.ListN.{length, get_or, drop, drop_of_length-le}
use Rattle.digits.specs.Digits.{turn_of, on_turn, digits_from}
use Rattle.digits.specs.declared.Run.{Run}
use Rattle.digits.specs.declared.Run.TheVariants.{Value, Empty, Underscore, NotDigit, Over}
use Rattle.digits.specs.declared.up.Turned.{Turned}
use Rattle.text.proofs.Choices.{bool_cases, either}
use Rattle.text.proofs.Lists.{front}
use Rattle.text.specs.Runs.{run}
use Rattle.std.specs.List.{prefix_len}
use Rattle.digits.specs.declared.up.Turned.TheVariants as turned

module _ (limit base acc : ℕ) (run : List ℕ) (i : ℕ) where
  from_step : i < length run → digits_from limit base acc i (drop i run) ≡ on_turn i (turn_of limit base acc (get_or run i 0)) (λ (next : ℕ). digits_from limit base next (i + 1) (drop (i + 1) run))
  unfolding digits_from
  from_step h = rw (front run i h)

  pub from_end : length run ≤ i → digits_from limit base acc i (drop i run) ≡ Value acc
  unfolding digits_from
  from_end h = rw (drop_of_length-le run h)

  pub from_next : (n : ℕ) → i < length run → turn_of limit base acc (get_or run i 0) ≡ turned.Next n → digits_from limit base acc i (drop i run) ≡ digits_from limit base n (i + 1) (drop (i + 1) run)
  from_next n h e = rw (from_step h, e)

  pub from_over : i < length run → turn_of limit base acc (get_or run i 0) ≡ turned.Over → digits_from limit base acc i (drop i run) ≡ Over
  from_over h e = rw (from_step h, e)

  pub from_not : i < length run → turn_of limit base acc (get_or run i 0) ≡ turned.NotDigit → digits_from limit base acc i (drop i run) ≡ NotDigit i
  from_not h e = rw (from_step h, e)

-- the place of 9, and 0 for every other answer
abbrev pub place_of : Run → ℕ
place_of (Value v) = 0
place_of Empty = 0
place_of Underscore = 0
place_of (NotDigit at) = at
place_of Over = 0

-- it lies within the run
pub place_le : (limit base acc at : ℕ) (run : List ℕ) → place_of (digits_from limit base acc at run) ≤ at + length run
unfolding digits_from
place_le limit base acc at [] = omega arith
place_le limit base acc at (c ∷ cs) = go (λ n. place_le limit base n (at + 1) cs) (turn_of limit base acc c)
  where
    go : ((n : ℕ) → place_of (digits_from limit base n (at + 1) cs) ≤ at + 1 + length cs) → (t : Turned ℕ) → place_of (on_turn at t (λ (next : ℕ). digits_from limit base next (at + 1) cs)) ≤ at + length (c ∷ cs)
    go rest (turned.Next n) = omega (arith, rest n)
    go rest turned.Over = omega arith
    go rest turned.NotDigit = omega arith

-- a run is the longest prefix of its class, as an iterator counts it
pub run_prefix : (p : ℕ → Bool) (s : List ℕ) → prefix_len p s ≡ run p s
unfolding run
run_prefix p [] = refl
run_prefix p (a ∷ s) = either (bool_cases (p a)) (λ e. rw e (omega (arith, run_prefix p s))) (λ e. rw e)
