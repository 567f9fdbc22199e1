-- The token at the front of a part (document 01, module 9): "A number's answer sits in the token's case." A byte literal is an integer of 8 bits.
use Rattle.std.specs.Prelude.{Ok, Err, ℕ, List, get_or}
use Rattle.text.specs.Refusals.{Told}
use Rattle.strings.specs.declared.literal.Literal.{Literal}
use Rattle.attributes.specs.Attributes.{attribute_of}
use Rattle.integers.specs.declared.width.Width.TheVariants.{U8}
use Rattle.names.specs.Classify.{word_of}
use Rattle.names.specs.declared.Word.{Word}
use Rattle.names.specs.declared.Word.TheVariants as word
use Rattle.numbers.specs.Numbers.{number_of}
use Rattle.numbers.specs.declared.Number.TheVariants.{Int, Float}
use Rattle.strings.specs.Chars.{char_of, byte_of}
use Rattle.strings.specs.Strings.{string_of, byte_string_of}
use Rattle.tokens.specs.declared.shape.Shape.{Shape}
use Rattle.tokens.specs.declared.shape.Shape.TheVariants as shape
use Rattle.tokens.specs.declared.token.Token.{Token}
use Rattle.tokens.specs.declared.token.Token.TheVariants.{Mark, Name, RawName, Number, Char, Str, ByteStr, Attribute, Refused}
use Rattle.tokens.specs.Shapes.{shape_of}

-- A word as a token.
abbrev pub of_word : Word → Token
of_word (word.Plain n) = Name n
of_word (word.Raw n) = RawName n
of_word (word.Float n suffix) = Number (Float (record { len = n; suffix = suffix }))
of_word (word.Refused r) = Refused r

-- A char as a token.
abbrev pub of_char : Told (ℕ × ℕ) → Token
of_char (Ok (n, code)) = Char n code
of_char (Err r) = Refused r

-- A byte literal as a token.
abbrev pub of_byte : Told (ℕ × ℕ) → Token
of_byte (Ok (n, value)) = Number (Int U8 n)
of_byte (Err r) = Refused r

-- A string as a token.
abbrev pub of_string : Told Literal → Token
of_string (Ok l) = Str l.len l.decoded
of_string (Err r) = Refused r

-- A byte string as a token.
abbrev pub of_byte_string : Told Literal → Token
of_byte_string (Ok l) = ByteStr l.len l.decoded
of_byte_string (Err r) = Refused r

-- An attribute as a token.
abbrev pub of_attribute : Told (ℕ × ℕ) → Token
of_attribute (Ok (n, extensions)) = Attribute n extensions
of_attribute (Err r) = Refused r

-- The token of that shape at the front of s.
abbrev pub by_shape : Shape → List ℕ → Token
by_shape (shape.Mark kind) s = Mark kind
by_shape shape.Attribute s = of_attribute (attribute_of s)
by_shape shape.Str s = of_string (string_of s)
by_shape shape.Char s = of_char (char_of s)
by_shape shape.Byte s = of_byte (byte_of s)
by_shape shape.ByteStr s = of_byte_string (byte_string_of s)
by_shape shape.Number s = Number (number_of s)
by_shape shape.Word s = of_word (word_of s)

-- The token at the front of s.
unfoldable pub token_of : List ℕ → Token
token_of s = by_shape (shape_of (get_or s 0 0) (get_or s 1 0) (get_or s 2 0)) s
