-- Names and raw names at the front of a part, as the crate reads them.
use Rattle.std.specs.Prelude.{ℕ, ◌+◌, cond, List, drop, eqb, ltb}
use Rattle.text.specs.Classes.{ident_first, ident_next, ident_raw}
use Rattle.names.specs.Characters.{char_if, chars}
use Rattle.names.specs.Starts.{begins_string, begins_raw}
use Rattle.names.specs.declared.Identifier.{Identifier}
use Rattle.names.specs.declared.Identifier.TheVariants.{Missing, Name, RawName}

-- The length of the name at the front: a first character, then next characters; 0 where none begins.
unfoldable pub name_len : List ℕ → ℕ
name_len s = let first = char_if ident_first s in cond (eqb first 0) 0 (first + chars ident_next (drop first s))

-- A name.
unfoldable pub plain_of : List ℕ → Identifier
plain_of s = let n = name_len s in cond (eqb n 0) Missing (Name n)

-- A raw name behind `r#`, of at least one character.
unfoldable pub raw_of : List ℕ → Identifier
raw_of s = let n = chars ident_raw (drop 2 s) in cond (eqb n 0) Missing (RawName (2 + n))

-- `skip_identifier`: a raw name, or a name, where no string begins.
unfoldable pub skip_identifier_of : List ℕ → Identifier
skip_identifier_of s = let raw = raw_of s in let plain = plain_of s in cond (begins_string s) Missing (cond (begins_raw s) raw plain)

-- A name that does not go on as a raw name.
unfoldable pub strict_of : List ℕ → Identifier
strict_of s =
    let n = name_len s in
    let raw = chars ident_raw s in
    cond (eqb n 0) Missing (cond (ltb n raw) Missing (Name n))

-- `identifier`: the same with such a name. At the end of the text the crate refuses with 6; the one list that asks for it tests for the end before.
unfoldable pub identifier_of : List ℕ → Identifier
identifier_of s = let raw = raw_of s in let strict = strict_of s in cond (begins_string s) Missing (cond (begins_raw s) raw strict)
