-- The string that an entry names (document 01): "28: a place (the start of a contents entry inside the slice is one) past the end or inside a character;
-- an entry number not below the count." "Contents asks of the tape only that the count fits, else 23; the string is read anew, by the entry's kind, at its
-- start." 27: entry of another kind.
use Rattle.std.specs.Prelude.{Ok, Err}
use Rattle.text.specs.Refusals.{Told}
use Rattle.strings.specs.declared.literal.Literal.{Literal}
use Rattle.std.specs.Prelude.{ℕ, List, Bool, true, false, cond, length, eqb, ltb, leb}
use Rattle.text.specs.Refusals.{not_in_order, other_kind, unfit}
use Rattle.text.specs.Judged.{place_fits}
use Rattle.rows.specs.declared.Entry.{Entry}
use Rattle.rows.specs.Rows.{room_of, entry_at}
use Rattle.strings.specs.Strings.{string_of, byte_string_of, string_decoded, byte_string_decoded}

-- Kind 14 is a string, 15 a byte string, any other is 27.
unfoldable pub by_kind : ℕ → ℕ → Told (Bool × ℕ)
by_kind kind place = cond (eqb kind 14) (Ok (false, place)) (cond (eqb kind 15) (Ok (true, place)) (Err other_kind))

-- An entry inside the slice, where so many have room: 28 for its start, then 23 for a count that does not fit, then 27.
unfoldable pub inside_of : List ℕ → ℕ → ℕ → Entry → Told (Bool × ℕ)
inside_of text room count e =
    cond (place_fits text e.start) (cond (ltb room count) (Err not_in_order) (by_kind e.kind e.start)) (Err unfit)

-- The entry of a number: 28 where it is not below the count; one outside the slice has no start to judge, and its count does not fit.
unfoldable pub named_of : List ℕ → List ℕ → ℕ → ℕ → Told (Bool × ℕ)
named_of text tape count entry =
    cond (leb count entry) (Err unfit)
    (cond (ltb entry (room_of (length tape))) (inside_of text (room_of (length tape)) count (entry_at tape entry)) (Err not_in_order))

-- The string or, with true, the byte string at the front of a part.
abbrev pub literal_of : Bool → List ℕ → Told Literal
literal_of false s = string_of s
literal_of true s = byte_string_of s

-- What it decodes to.
abbrev pub literal_decoded : Bool → List ℕ → List ℕ
literal_decoded false s = string_decoded s
literal_decoded true s = byte_string_decoded s
