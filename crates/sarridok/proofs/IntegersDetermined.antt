-- Two answers that meet the promise of `integers` are equal, and so are both buffers. Assumes nothing.
use Prim.Native.Nat.{ℕ}
use mathlib.Core.List.{List}
use mathlib.Core.Path.{◌∙◌, ◌≡◌, sym}
use Rattle.text.specs.Refusals.{Told}
use Rattle.sarridok.specs.Integers.{codes_after, done, integers_of, magnitudes_after}

pub integers_determined : (text tape : List ℕ) (count : ℕ) (items : List ℕ) (m c : ℕ) (a b : Told Unit)
    → a ≡ done (integers_of text tape count items m c) → b ≡ done (integers_of text tape count items m c) → a ≡ b
integers_determined text tape count items m c a b p q = p ∙ sym q

-- each buffer is told by the arguments
pub magnitudes_determined : (text tape : List ℕ) (count : ℕ) (items ms cs x y : List ℕ)
    → x ≡ magnitudes_after text tape count items ms cs → y ≡ magnitudes_after text tape count items ms cs → x ≡ y
magnitudes_determined text tape count items ms cs x y p q = p ∙ sym q

pub codes_determined : (text tape : List ℕ) (count : ℕ) (items ms cs x y : List ℕ)
    → x ≡ codes_after text tape count items ms cs → y ≡ codes_after text tape count items ms cs → x ≡ y
codes_determined text tape count items ms cs x y p q = p ∙ sym q
