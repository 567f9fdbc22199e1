-- The words of an attribute (document 01, module 7): "`enable` takes one or more .. `type` and `schema` take a string."
use Rattle.std.specs.Prelude.{ℕ, ◌+◌, cond, List, [], ◌∷◌, drop, eqb}
use Rattle.integers.specs.Words.{Word, first_of}
use Rattle.integers.specs.declared.ident.Found.{Found}
use Rattle.attributes.specs.declared.words.Keyword.{Keyword}
use Rattle.attributes.specs.declared.words.Keyword.TheVariants.{Enable, Text, NoKeyword}

-- `enable` is 1, `type` and `schema` are 2.
abbrev pub keywords : List Word
keywords =
    record { letters = 0x65 ∷ 0x6e ∷ 0x61 ∷ 0x62 ∷ 0x6c ∷ 0x65 ∷ []; says = 1 }
    ∷ record { letters = 0x74 ∷ 0x79 ∷ 0x70 ∷ 0x65 ∷ []; says = 2 }
    ∷ record { letters = 0x73 ∷ 0x63 ∷ 0x68 ∷ 0x65 ∷ 0x6d ∷ 0x61 ∷ []; says = 2 }
    ∷ []

-- The one of them that the part begins with.
unfoldable pub keyword_of : List ℕ → Found
keyword_of t = first_of keywords t

-- A word found at the place `at`.
unfoldable pub by_word : ℕ → Found → Keyword
by_word at f =
    let behind = at + f.end in
    cond (eqb f.end 0) NoKeyword (cond (eqb f.code 1) (Enable behind) (Text behind))

-- The word at a place, and the place behind it.
unfoldable pub keyword_at : List ℕ → ℕ → Keyword
keyword_at s at = by_word at (keyword_of (drop at s))
