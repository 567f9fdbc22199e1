-- What a run answers, as the tests of the code ask for it. Assumes nothing.
use Prim.Native.Nat.{ℕ}
use native.Mathlib.Omega.{arith}
use mathlib.Core.List.{List, [], ◌∷◌}
use mathlib.Core.Path.{◌≡◌, refl}
use lib.ListN.{get_or, length}
use borrow.Author.Tests.{eq-eqb, ne_eqb}
use Rattle.digits.specs.Digits.{digits_of, run_of}
use Rattle.digits.specs.declared.Run.TheVariants.{Empty, Underscore}

module _ (limit base : ℕ) where
  pub empty_run : (s : List ℕ) → length s ≡ 0 → Empty ≡ run_of limit base s
  unfolding run_of
  empty_run [] h = refl
  empty_run (c ∷ cs) h = absurd (omega arith)

  pub underscore_run : (s : List ℕ) → (length s ≡ 0 → ⊥) → get_or s 0 0 ≡ 0x5f → Underscore ≡ run_of limit base s
  unfolding run_of
  underscore_run [] h e = absurd (h refl)
  underscore_run (c ∷ cs) h e = rw (eq-eqb c 0x5f e)

  pub digits_run : (s : List ℕ) → (length s ≡ 0 → ⊥) → (get_or s 0 0 ≡ 0x5f → ⊥) → digits_of limit base s ≡ run_of limit base s
  unfolding run_of
  digits_run [] h e = absurd (h refl)
  digits_run (c ∷ cs) h e = rw (ne_eqb c 0x5f e)
