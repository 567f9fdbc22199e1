-- The refusals of a reading are inner where those of its token reader are. Assumes nothing.
use Prim.Native.Nat.{ℕ, ◌+◌, ◌-◌, zero, suc}
use mathlib.Core.List.{List, [], ◌∷◌}
use Rattle.reading.specs.Readings.{Reading, complete, broken, entry, place, read_part, counted}
use Rattle.reading.specs.Tokens.{Answer, token, stop, refuse, reach, Tokens, done, fault, next, by_answer, tokens_from, tokens}
pub use Rattle.inner.proofs.Tokens.{Inner-answer}
use Rattle.given.specs.Given.{Inner}
use Rattle.given.proofs.Front.{FourTo-told}

abbrev pub Inner-tokens : Tokens → Type 0
Inner-tokens done = Unit
Inner-tokens (fault r) = Inner r
Inner-tokens (next t ts) = Inner-tokens ts

abbrev pub Inner-reading : Reading → Type 0
Inner-reading complete = Unit
Inner-reading (broken r) = Inner r
Inner-reading (entry e r) = Inner-reading r

by-answer : (a : Answer) (behind : ℕ → Tokens) → Inner-answer a → ((n : ℕ) → Inner-tokens (behind n)) → Inner-tokens (by_answer a behind)
by-answer stop behind h k = tt
by-answer (refuse r) behind h k = h
by-answer (token t) behind h k = k (reach t)

module _ (tok : List ℕ → Answer) (h : (s : List ℕ) → Inner-answer (tok s)) where
  tokens-from : (s : List ℕ) (n : ℕ) → Inner-tokens (tokens_from tok s n)
  unfolding tokens_from
  tokens-from [] n = tt
  tokens-from (a ∷ s) (suc n) = tokens-from s n
  tokens-from (a ∷ s) zero = by-answer (tok (a ∷ s)) (λ n. tokens_from tok s (n - 1)) (h (a ∷ s)) (λ n. tokens-from s (n - 1))

  pub tokens_inner : (s : List ℕ) → Inner-tokens (tokens tok s)
  tokens_inner s = tokens-from s 0

pub place_inner : (at : ℕ) (ts : Tokens) → Inner-tokens ts → Inner-reading (place at ts)
unfolding place
place_inner at done h = tt
place_inner at (fault r) h = h
place_inner at (next t ts) h = place_inner (at + reach t) ts h

pub reading_inner : (tok : List ℕ → Answer) → ((s : List ℕ) → Inner-answer (tok s)) → (at : ℕ) (s : List ℕ) → Inner-reading (read_part tok at s)
reading_inner tok h at s = place_inner at (tokens tok s) (tokens_inner tok h s)

pub counted_inner : (n : ℕ) (r : Reading) → Inner-reading r → FourTo-told 21 (counted n r)
unfolding counted
counted_inner n complete h = tt
counted_inner n (broken r) h = h
counted_inner n (entry e r) h = counted_inner (n + 1) r h
