-- Kinds and details (document 01, module 9): "9 name, 10 raw name, 11 integer, 12 float, 13 char, 14 string, 15 byte string, 16 attribute. Detail: width 1 to 8
-- for i8, i16, i32, i64, u8, u16, u32, u64; 0, 32 or 64 for a float's suffix; code point; decoded length; extensions; else 0."
use Rattle.std.specs.Prelude.{Ok, Err, ℕ}
use Rattle.text.specs.Refusals.{Told}
use Rattle.tokens.specs.declared.lexeme.Lexeme.{Lexeme}
use Rattle.integers.specs.Width.{code_of}
use Rattle.numbers.specs.declared.Number.{Number}
use Rattle.numbers.specs.declared.Number.TheVariants as number
use Rattle.tokens.specs.declared.token.Token.{Token}
use Rattle.tokens.specs.declared.token.Token.TheVariants as token

-- A lexeme of so many bytes with its kind and detail.
abbrev pub lexeme : ℕ → ℕ → ℕ → Told Lexeme
lexeme len kind detail = Ok (record { len = len; kind = kind; detail = detail })

-- A number's length, kind and detail.
abbrev pub number_lexeme : Number → Told Lexeme
number_lexeme (number.Int width len) = lexeme len 11 (code_of width)
number_lexeme (number.Float span) = lexeme span.len 12 span.suffix
number_lexeme (number.Refused r) = Err r

-- A token's length, kind and detail.
abbrev pub lexeme_of : Token → Told Lexeme
lexeme_of (token.Mark kind) = lexeme 1 kind 0
lexeme_of (token.Name n) = lexeme n 9 0
lexeme_of (token.RawName n) = lexeme n 10 0
lexeme_of (token.Number n) = number_lexeme n
lexeme_of (token.Char n code) = lexeme n 13 code
lexeme_of (token.Str n decoded) = lexeme n 14 decoded
lexeme_of (token.ByteStr n decoded) = lexeme n 15 decoded
lexeme_of (token.Attribute n extensions) = lexeme n 16 extensions
lexeme_of (token.Refused r) = Err r
