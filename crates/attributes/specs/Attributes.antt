-- Attributes (document 01, module 7): "`enable` takes one or more of .. `type` and `schema` take a string. .. Exceptions to equality: place of 19 to 21,
-- and the entry ends behind its `]`."
-- 19, 20, 21: "attribute; its end; unknown extension; the `#`", which is place 0 of the part. The others stand where the crate's cursor stands.
use Rattle.std.specs.Prelude.{Ok, Err, Bool, ℕ, true, cond, List}
use Rattle.text.specs.Refusals.{Told, expected_attribute}
use Rattle.attributes.specs.Steps.{consume_of, sign_from}
use Rattle.attributes.specs.Words.{keyword_at}
use Rattle.attributes.specs.List.{list_of}
use Rattle.attributes.specs.Close.{answer_at, close_list, string_from}
use Rattle.attributes.specs.declared.words.Keyword.{Keyword}
use Rattle.attributes.specs.declared.words.Keyword.TheVariants.{Enable, Text, NoKeyword}

-- The answer by the list of extensions.
abbrev pub by_listed : List ℕ → Told (ℕ × ℕ) → Told (ℕ × ℕ)
by_listed s (Ok (at, sum)) = close_list s at sum
by_listed s (Err r) = Err r

-- Behind `enable`: the list in its brackets.
unfoldable pub enable_from : List ℕ → ℕ → Told (ℕ × ℕ)
enable_from s at = answer_at (sign_from 0x28 s at) (λ p. by_listed s (list_of s p))

-- Behind `type` or `schema`: `=` and a string.
unfoldable pub string_value_from : List ℕ → ℕ → Told (ℕ × ℕ)
string_value_from s at = answer_at (sign_from 0x3d s at) (string_from s)

-- The answer by the word.
abbrev pub by_keyword : List ℕ → Keyword → Told (ℕ × ℕ)
by_keyword s (Enable at) = enable_from s at
by_keyword s (Text at) = string_value_from s at
by_keyword s NoKeyword = Err (expected_attribute 0)

-- Behind `#`, `!` and `[`.
unfoldable pub keyword_from : List ℕ → ℕ → Told (ℕ × ℕ)
keyword_from s at = by_keyword s (keyword_at s at)

-- The answer by the three signs in front.
abbrev pub by_opened : List ℕ → Told (Bool × ℕ) → Told (ℕ × ℕ)
by_opened s (Ok (all, at)) = cond all (keyword_from s at) (Err (expected_attribute 0))
by_opened s (Err r) = Err r

-- `#`, `!` and `[`, whitespace behind each.
unfoldable pub opened_of : List ℕ → Told (Bool × ℕ)
opened_of s = consume_of 0x5b s (consume_of 0x21 s (consume_of 0x23 s (Ok (true, 0))))

-- The attribute that a part begins with.
unfoldable pub attribute_of : List ℕ → Told (ℕ × ℕ)
attribute_of s = by_opened s (opened_of s)
