-- Two answers that meet the promise of `integer` are equal. Assumes nothing.
use Prim.Native.Nat.{ℕ}
use mathlib.Core.List.{List}
use mathlib.Core.Path.{◌∙◌, ◌≡◌, sym}
use Rattle.text.specs.Refusals.{Told}
use Rattle.integers.specs.declared.width.Width.{Width}
use Rattle.sarridok.specs.declared.integer_call.Typed.{Typed}
use Rattle.sarridok.specs.Typed.{integer_of}

pub integer_determined : (text : List ℕ) (place : ℕ) (width : Width) (a b : Told Typed) → a ≡ integer_of text place width → b ≡ integer_of text place width → a ≡ b
integer_determined text place width a b p q = p ∙ sym q
