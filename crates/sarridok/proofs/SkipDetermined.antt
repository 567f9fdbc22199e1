-- Two answers that meet a call's promise are equal. Assumes nothing.
use Prim.Native.Nat.{ℕ}
use mathlib.Core.List.{List}
use mathlib.Core.Path.{◌∙◌, ◌≡◌, sym}
use Rattle.cursor.specs.declared.ParserCursor.{ParserCursor}
use Rattle.sarridok.specs.Skip.{skip_of}
use Rattle.text.specs.Refusals.{Told}

pub skip_determined : (text : List ℕ) (c : ParserCursor) (a b : Told ParserCursor) → a ≡ skip_of text c → b ≡ skip_of text c → a ≡ b
skip_determined text c a b p q = p ∙ sym q
