-- Two answers that meet the promise of `walk` are equal, and so are the links they leave. Assumes nothing.
use Prim.Native.Nat.{ℕ}
use mathlib.Core.List.{List}
use mathlib.Core.Path.{◌∙◌, ◌≡◌, sym}
use Rattle.text.specs.Refusals.{Told}
use Rattle.sarridok.specs.Walked.{walk_of, links_after}

pub walk_determined : (text tape : List ℕ) (count limit links : ℕ) (a b : Told Unit) → a ≡ walk_of text tape count limit links → b ≡ walk_of text tape count limit links → a ≡ b
walk_determined text tape count limit links a b p q = p ∙ sym q

pub links_determined : (text tape : List ℕ) (count limit : ℕ) (out a b : List ℕ) → a ≡ links_after text tape count limit out → b ≡ links_after text tape count limit out → a ≡ b
links_determined text tape count limit out a b p q = p ∙ sym q
