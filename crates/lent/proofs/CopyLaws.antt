-- What is set aside, and compared. Assumes nothing.
use Prim.Native.Nat.{ℕ, ◌≤◌, min}
use native.Mathlib.Omega.{arith, min_cases}
use mathlib.Core.Bool.{Bool, ◌&&◌}
use mathlib.Core.List.{List, [], ◌∷◌, ◌++◌, append-nil}
use mathlib.Core.Path.{◌≡◌, ap, refl, sym, ◌∙◌}
use lib.Dec.{eqb}
use lib.ListN.{length, drop, take, drop_of_length-le}
use lib.Pointwise.{pointwise}
use lib.Seq.{take_all}
use borrow.Author.Tests.{eq-eqb, ne_eqb, eqb-true, eqb-false}
use Rattle.lines.specs.Over.{over}
use Rattle.text.proofs.Choices.{bool_cases, either}
use Rattle.text.specs.Words.{starts_with}

over_short : (from to : List ℕ) → length from ≤ length to → from ++ drop (length from) to ≡ over from to
unfolding over
over_short [] to h = refl
over_short (a ∷ from) [] h = absurd (omega arith)
over_short (a ∷ from) (b ∷ to) h = ap (λ (l : List ℕ). a ∷ l) (over_short from to (omega arith))

over_long : (from to : List ℕ) → length to ≤ length from → take (length to) from ≡ over from to
unfolding over
over_long [] [] h = refl
over_long [] (b ∷ to) h = absurd (omega arith)
over_long (a ∷ from) [] h = refl
over_long (a ∷ from) (b ∷ to) h = ap (λ (l : List ℕ). a ∷ l) (over_long from to (omega arith))

-- as many as there is room for, and behind them what was there
pub over_front : (from to front : List ℕ) (n : ℕ) → n ≡ min (length from) (length to) → front ≡ take n from → front ++ drop n to ≡ over from to
over_front from to front n e f =
    ap (λ (l : List ℕ). l ++ drop n to) f
    ∙ min_cases (length from) (length to) _
    (λ p q. ap (λ (k : ℕ). take k from ++ drop k to) (e ∙ q) ∙ ap (λ (l : List ℕ). l ++ drop (length from) to) (take_all (length from) from (omega arith)) ∙ over_short from to (omega arith))
    λ p q. ap (λ (k : ℕ). take k from ++ drop k to) (e ∙ q) ∙ ap (λ (l : List ℕ). take (length to) from ++ l) (drop_of_length-le to (omega arith)) ∙ append-nil (take (length to) from) ∙ over_long from to (omega arith)

either_way : (a b : ℕ) → eqb a b ≡ eqb b a
either_way a b =
    either (bool_cases (eqb a b)) (λ t. t ∙ sym (eq-eqb b a (sym (eqb-true a b t)))) (λ f. f ∙ sym (ne_eqb b a (λ e. eqb-false a b f (sym e))))

-- what the slice's own test answers
pub same_front : (s others : List ℕ) → pointwise eqb s (take (length s) others) ≡ starts_with s others
unfolding starts_with
same_front [] others = refl
same_front (a ∷ s) [] = refl
same_front (a ∷ s) (b ∷ others) = ap (λ (t : Bool). t && pointwise eqb s (take (length s) others)) (either_way a b) ∙ ap (λ (t : Bool). eqb b a && t) (same_front s others)
