-- Strings and byte strings, by their first bytes (document 01, module 9): "`b\"` `br\"` `br#` byte string; `r\"` `r#\"` `r##` string". 16: string
-- expected. 18: byte string expected.
use Rattle.std.specs.Prelude.{Err, ℕ, List, ◌++◌, Bool, cond, length, get_or, take, drop, eqb}
use Rattle.text.specs.Refusals.{Told, expected_string, expected_byte_string}
use Rattle.strings.specs.declared.literal.Literal.{Literal}
use Rattle.escapes.specs.declared.answers.Mode.{Mode}
use Rattle.escapes.specs.declared.answers.Mode.TheVariants.{Str, Bytes}
use Rattle.strings.specs.Pieces.{body_of, decoded_of}
use Rattle.strings.specs.Quoted.{quoted_of}
use Rattle.strings.specs.Raw.{raw_of, raw_contents}

-- The string at the front of s.
unfoldable pub string_of : List ℕ → Told Literal
string_of s =
    cond (eqb (get_or s 0 0) 0x22) (quoted_of Str 1 s)
    (cond (eqb (get_or s 0 0) 0x72) (raw_of Str 1 s) (Err (expected_string 0)))

-- The byte string at the front of s.
unfoldable pub byte_string_of : List ℕ → Told Literal
byte_string_of s =
    cond (eqb (get_or s 0 0) 0x62)
    (cond (eqb (get_or s 1 0) 0x22) (quoted_of Bytes 2 s)
    (cond (eqb (get_or s 1 0) 0x72) (raw_of Bytes 2 s) (Err (expected_byte_string 0))))
    (Err (expected_byte_string 0))

-- What the string at the front of s decodes to.
unfoldable pub string_decoded : List ℕ → List ℕ
string_decoded s = cond (eqb (get_or s 0 0) 0x22) (decoded_of (body_of Str (drop 1 s))) (raw_contents 1 s)

-- What the byte string at the front of s decodes to.
unfoldable pub byte_string_decoded : List ℕ → List ℕ
byte_string_decoded s = cond (eqb (get_or s 1 0) 0x22) (decoded_of (body_of Bytes (drop 2 s))) (raw_contents 2 s)

-- What the contents at the front of t decode to: n bytes as they stand, where nothing is escaped.
abbrev pub part_decoded : Mode → List ℕ → ℕ → Bool → List ℕ
part_decoded m t n escaped = cond escaped (decoded_of (body_of m t)) (take n t)

-- A buffer with so many bytes written at its front.
abbrev pub into_out : List ℕ → List ℕ → List ℕ
into_out bytes out = bytes ++ drop (length bytes) out
