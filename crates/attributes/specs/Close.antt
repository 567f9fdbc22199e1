-- How an attribute ends (document 01, module 7): "`type` and `schema` take a string. .. the entry ends behind its `]`." 20: "its end; the `#`".
use Rattle.std.specs.Prelude.{Ok, Err, ℕ, ◌+◌, Bool, true, cond, List, get_or, drop, eqb}
use Rattle.text.specs.Refusals.{Told, placed_behind, expected_attribute_end}
use Rattle.strings.specs.declared.literal.Literal.{Literal}
use Rattle.strings.specs.Strings.{string_of}
use Rattle.attributes.specs.Steps.{skip_from, consume_from}

-- What follows a step that went on.
abbrev pub answer_at : Told ℕ → (ℕ → Told (ℕ × ℕ)) → Told (ℕ × ℕ)
answer_at (Ok p) go = go p
answer_at (Err r) go = Err r

-- Behind a `]` that no `)` stands before: 20, but what the whitespace there is refused for comes first.
unfoldable pub no_end : List ℕ → ℕ → Told (ℕ × ℕ)
no_end s at = answer_at (skip_from s at) (λ p. Err (expected_attribute_end 0))

-- The `]` of an attribute of which all else was found, or not.
unfoldable pub list_end : List ℕ → Bool → ℕ → ℕ → Told (ℕ × ℕ)
list_end s all at sum = cond (eqb (get_or s at 0) 0x5d) (cond all (Ok (at + 1, sum)) (no_end s (at + 1))) (Err (expected_attribute_end 0))

-- The answer by the `)`.
abbrev pub by_bracket : List ℕ → ℕ → Told (Bool × ℕ) → Told (ℕ × ℕ)
by_bracket s sum (Ok (all, at)) = list_end s all at sum
by_bracket s sum (Err r) = Err r

-- Behind the list of extensions: `)` and `]`.
unfoldable pub close_list : List ℕ → ℕ → ℕ → Told (ℕ × ℕ)
close_list s at sum = by_bracket s sum (consume_from 0x29 s true at)

-- Behind a string: whitespace and `]`.
unfoldable pub string_end : List ℕ → ℕ → Told (ℕ × ℕ)
string_end s at = answer_at (skip_from s at) (λ p. list_end s true p 0)

-- The answer by the string at a place.
abbrev pub by_string : List ℕ → ℕ → Told Literal → Told (ℕ × ℕ)
by_string s at (Ok l) = string_end s (at + l.len)
by_string s at (Err r) = Err (placed_behind at r)

-- A string at a place, and `]`.
unfoldable pub string_from : List ℕ → ℕ → Told (ℕ × ℕ)
string_from s at = by_string s at (string_of (drop at s))
