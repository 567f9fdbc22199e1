-- What the parts of a number that the code has in hand make up. Assumes nothing.
use Rattle.text.specs.Refusals.{Told}
use Rattle.integers.specs.declared.width.Width.{Width}
use Prim.Native.Nat.{ℕ, zero, suc, ◌+◌, ◌≤◌}
use native.Mathlib.Omega.{arith}
use mathlib.Core.Bool.{Bool, false, true}
use mathlib.Core.List.{List, [], ◌∷◌}
use mathlib.Core.Path.{◌≡◌, ◌∙◌, refl, sym}
use lib.Dec.{ltb}
use lib.ListN.{drop, get_or}
use lib.Seq.{drop-drop}
use borrow.Author.Tests.{le-ltb}
use Rattle.floats.specs.Classes.{float_goes, float_run}
use Rattle.floats.specs.Float.{float_of}
use Rattle.integers.specs.Front.{sign_of}
use Rattle.integers.specs.Integer.{any_of}
use Rattle.integers.specs.declared.front.Sign.{Sign}
use Rattle.numbers.specs.Numbers.{float_ahead, number_of, of_float, or_else}
use Rattle.text.proofs.Choices.{bool_cases, either}
use Rattle.text.specs.Classes.{int_char}
use Rattle.text.specs.Runs.{run, run2}

pub ahead_said : (s : List ℕ) (g : Sign) (n m : ℕ) → g ≡ sign_of s → n ≡ run int_char (drop g.end s) → m ≡ float_run (drop g.end s) → ltb n m ≡ float_ahead s
unfolding float_ahead
ahead_said s g n m eg en em = rw (en, em, eg)

-- a run ends at the latest where its class does not go on
stops : (p : ℕ → ℕ → Bool) (n : ℕ) (t : List ℕ) → p (get_or (drop n t) 0 0) (get_or (drop n t) 1 0) ≡ false → run2 p t ≤ n
unfolding run2
stops p n [] e = omega arith
stops p zero (a ∷ s) e = rw e (omega arith)
stops p (suc k) (a ∷ s) e = let h = stops p k s e in either (bool_cases (p a (get_or s 0 0))) (λ q. rw q (omega arith)) (λ q. rw q (omega arith))

pub ahead_not : (s : List ℕ) (g : Sign) (n : ℕ) → g ≡ sign_of s → n ≡ run int_char (drop g.end s)
    → float_goes (get_or (drop (g.end + n) s) 0 0) (get_or (drop (g.end + n) s) 1 0) ≡ false → false ≡ float_ahead s
ahead_not s g n eg en e =
    sym (le-ltb n (float_run (drop g.end s)) (stops float_goes n (drop g.end s) (rw (drop-drop n g.end s) e))) ∙ ahead_said s g n _ eg en refl

pub number_float : (s : List ℕ) → float_ahead s ≡ true → of_float (float_of s) ≡ number_of s
unfolding number_of
number_float s e = rw e

pub number_else : (s : List ℕ) → float_ahead s ≡ false → (i : Told (Width × ℕ)) → i ≡ any_of s → or_else i (float_of s) ≡ number_of s
unfolding number_of
number_else s e i ei = rw (e, ei)
