-- Names as tokens (document 01, module 9): "`r#` raw name, or 16 two bytes on; .. else name. The names `inf`, `NaN`, alone or with `f32` or `f64`, are floats."
-- Refusal 5, "at it where no token starts".
use Rattle.std.specs.Prelude.{ℕ, Bool, cond, List, [], ◌∷◌, drop, eqb}
use Rattle.text.specs.declared.refusal.Refusal.{Refusal}
use Rattle.text.specs.Refusals.{unexpected_char, expected_string}
use Rattle.text.specs.Words.{starts_with}
use Rattle.names.specs.Starts.{starts_with_one, begins_raw}
use Rattle.names.specs.Identifiers.{skip_identifier_of}
use Rattle.names.specs.declared.Identifier.{Identifier}
use Rattle.names.specs.declared.Identifier.TheVariants.{Missing, Name, RawName}
use Rattle.names.specs.declared.Word.{Word}
use Rattle.names.specs.declared.Word.TheVariants.{Plain, Raw, Float, Refused}

-- `inf` and `NaN`.
abbrev pub float_words : List (List ℕ)
float_words = (0x69 ∷ 0x6e ∷ 0x66 ∷ []) ∷ (0x4e ∷ 0x61 ∷ 0x4e ∷ []) ∷ []

-- One of them stands at the front.
unfoldable pub begins_float : List ℕ → Bool
begins_float s = starts_with_one float_words s

-- A name of n bytes whose last three are t: a float where they are `f32` or `f64`.
unfoldable pub suffixed : List ℕ → ℕ → Word
suffixed t n = cond (starts_with (0x66 ∷ 0x33 ∷ 0x32 ∷ []) t) (Float n 32) (cond (starts_with (0x66 ∷ 0x36 ∷ 0x34 ∷ []) t) (Float n 64) (Plain n))

-- A name of n bytes at the front: a float, or a name.
unfoldable pub named : List ℕ → ℕ → Word
named s n = cond (begins_float s) (cond (eqb n 3) (Float n 0) (cond (eqb n 6) (suffixed (drop 3 s) n) (Plain n))) (Plain n)

-- What stands where a name should: 16 behind `r#`, else 5.
unfoldable pub missing : List ℕ → Refusal
missing s = cond (begins_raw s) (expected_string 2) (unexpected_char 0)

-- What an identifier is as a token.
abbrev pub by_identifier : List ℕ → Identifier → Word
by_identifier s Missing = Refused (missing s)
by_identifier s (Name n) = named s n
by_identifier s (RawName n) = Raw n

-- The token that begins as a name does.
unfoldable pub word_of : List ℕ → Word
word_of s = by_identifier s (skip_identifier_of s)
