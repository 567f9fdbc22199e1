use Prim.Native.Nat.{ℕ}
use mathlib.Core.List.{List, [], ◌∷◌}
use mathlib.Core.Bool.{Bool, ◌&&◌}
use mathlib.Core.Path.{◌≡◌, ◌∙◌, ap₂, refl, sym}
use lib.Dec.{eqb}
use lib.ListN.{length, take}
use lib.Pointwise.{pointwise}
use borrow.Author.Tests.{eq-eqb, eqb-false, eqb-true, ne_eqb}
use Rattle.text.proofs.Choices.{bool_cases, either}
use Rattle.text.specs.Words.{starts_with}
use Rattle.integers.proofs.ident.check_str.Goals as goal

turned_round : (a b : ℕ) → eqb a b ≡ eqb b a
turned_round a b =
    either (bool_cases (eqb a b)) (λ e. e ∙ sym (eq-eqb b a (sym (eqb-true a b e))))
    (λ e. e ∙ sym (ne_eqb b a (λ q. eqb-false a b e (sym q))))

-- the library's test of a front is the definition's
fronts : (word t : List ℕ) → pointwise eqb word (take (length word) t) ≡ starts_with word t
unfolding starts_with
fronts [] t = refl
fronts (w ∷ ws) [] = refl
fronts (w ∷ ws) (c ∷ cs) = ap₂ (λ (a b : Bool). a && b) (turned_round w c) (fronts ws cs)

pub returns : goal.returns
returns c = c.starts_with.ensures.value ∙ fronts c.args.word.now c.args.t.now
