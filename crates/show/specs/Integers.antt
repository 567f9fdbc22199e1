-- The answer of a typed integer.
use Rattle.std.specs.Prelude.{ℕ, suc, List, ◌∷◌, ◌++◌, ℤ, pos, negsuc}
use Rattle.lines.specs.Ascii.{ascii}
use Rattle.lines.specs.Decimal.{decimal, word_of}
use Rattle.sarridok.specs.declared.integer_call.Typed.{Typed}
use Rattle.sarridok.specs.Typed.{signed_number}

-- A whole number, with `-` below zero.
abbrev pub signed_text : ℤ → List ℕ
signed_text (pos n) = decimal n
signed_text (negsuc n) = 45 ∷ decimal (suc n)

-- The number, and the place behind it.
unfoldable pub typed_text : Typed → List ℕ
typed_text t = ascii "ok " ++ signed_text (signed_number t.number) ++ word_of t.end
