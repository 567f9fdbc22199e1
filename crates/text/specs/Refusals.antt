-- The refusals of document 01, "Refusal numbers": "What is unfit gets a numbered refusal with a place." A place inside a part is counted from its front.
-- CR 1: "The escape reader answers a reason, 1 to 8 in that order .. a refusal now includes its reason, 0 for every other number."
use Rattle.std.specs.Prelude.{ℕ, ◌+◌, Result}
use Rattle.text.specs.declared.reason.EscapeReason.{EscapeReason}
use Rattle.text.specs.declared.reason.EscapeReason.TheVariants.{DigitNotHex, UnknownLetter, NotByteEscaped, MissingOpenBrace}
use Rattle.text.specs.declared.reason.EscapeReason.TheVariants.{NoDigits, NoClosingBrace, NotACharacter, UnicodeInByteLiteral}
use Rattle.text.specs.declared.refusal.Refusal.{Refusal}

-- What a call answers, as the paper has it: a value, or a refusal.
abbrev pub Told : Type 0 → Type 0
Told A = Result A Refusal

-- The number of a reason, in the order of CR 1.
abbrev pub reason_of : EscapeReason → ℕ
reason_of DigitNotHex = 1
reason_of UnknownLetter = 2
reason_of NotByteEscaped = 3
reason_of MissingOpenBrace = 4
reason_of NoDigits = 5
reason_of NoClosingBrace = 6
reason_of NotACharacter = 7
reason_of UnicodeInByteLiteral = 8

-- A number of the table, and a place; the reason is 0.
abbrev pub refusal : ℕ → ℕ → Refusal
refusal n p = record { number = n; reason = 0; place = p }

-- The same refusal at another place.
abbrev pub at_place : Refusal → ℕ → Refusal
at_place r p = record { number = r.number; reason = r.reason; place = p }

-- The same refusal seen from `by` bytes further in front.
abbrev pub placed_behind : ℕ → Refusal → Refusal
placed_behind by r = at_place r (by + r.place)

-- 1: text over 65,536 bytes.
abbrev pub too_long : Refusal
too_long = refusal 1 0

-- 2: not UTF-8; the first byte of the first bad sequence.
abbrev pub not_utf8 : ℕ → Refusal
not_utf8 p = refusal 2 p

-- 3 was a character above U+007F where a name's is asked for. Since CR 5 it is no longer given, and the number stays reserved.

-- 4: block comment not closed; end of text.
abbrev pub unclosed_block_comment : ℕ → Refusal
unclosed_block_comment p = refusal 4 p

-- 5: unexpected character; behind it after `/`, at it where no token starts.
abbrev pub unexpected_char : ℕ → Refusal
unexpected_char p = refusal 5 p

-- 6: text ends where a character is needed; end.
abbrev pub eof : ℕ → Refusal
eof p = refusal 6 p

-- 7: integer expected.
abbrev pub expected_integer : ℕ → Refusal
expected_integer p = refusal 7 p

-- 8: underscore in front.
abbrev pub underscore_at_beginning : ℕ → Refusal
underscore_at_beginning p = refusal 8 p

-- 9: digit not below the base.
abbrev pub invalid_integer_digit : ℕ → Refusal
invalid_integer_digit p = refusal 9 p

-- 10: out of bounds.
abbrev pub integer_out_of_bounds : ℕ → Refusal
integer_out_of_bounds p = refusal 10 p

-- 11: float expected.
abbrev pub expected_float : ℕ → Refusal
expected_float p = refusal 11 p

-- 12: misplaced underscore in a float.
abbrev pub float_underscore : ℕ → Refusal
float_underscore p = refusal 12 p

-- 13: invalid escape, with its reason.
abbrev pub invalid_escape : EscapeReason → ℕ → Refusal
invalid_escape why p = record { number = 13; reason = reason_of why; place = p }

-- 14: char expected.
abbrev pub expected_char : ℕ → Refusal
expected_char p = refusal 14 p

-- 15: byte literal expected.
abbrev pub expected_byte_literal : ℕ → Refusal
expected_byte_literal p = refusal 15 p

-- 16: string expected.
abbrev pub expected_string : ℕ → Refusal
expected_string p = refusal 16 p

-- 17: string end expected.
abbrev pub expected_string_end : ℕ → Refusal
expected_string_end p = refusal 17 p

-- 18: byte string expected.
abbrev pub expected_byte_string : ℕ → Refusal
expected_byte_string p = refusal 18 p

-- 19: attribute; the `#`.
abbrev pub expected_attribute : ℕ → Refusal
expected_attribute p = refusal 19 p

-- 20: its end; the `#`.
abbrev pub expected_attribute_end : ℕ → Refusal
expected_attribute_end p = refusal 20 p

-- 21: unknown extension; the `#`.
abbrev pub no_such_extension : ℕ → Refusal
no_such_extension p = refusal 21 p

-- 22: no room.
abbrev pub no_room : Refusal
no_room = refusal 22 0

-- 23: repair: cut or lengths don't agree; repair or walk: tape not in order.
abbrev pub not_in_order : Refusal
not_in_order = refusal 23 0

-- 24: depth limit passed; entry number.
abbrev pub depth_limit_passed : ℕ → Refusal
depth_limit_passed e = refusal 24 e

-- 25: entry not allowed here; entry number.
abbrev pub not_allowed_here : ℕ → Refusal
not_allowed_here e = refusal 25 e

-- 26: tape ends early; entry count.
abbrev pub tape_ends_early : ℕ → Refusal
tape_ends_early n = refusal 26 n

-- 27: entry or suffix of another kind.
abbrev pub other_kind : Refusal
other_kind = refusal 27 0

-- 28: place, entry number, cursor or depth limit unfit.
abbrev pub unfit : Refusal
unfit = refusal 28 0

-- 29: contents hold an escape or a line continuation.
abbrev pub holds_escape : Refusal
holds_escape = refusal 29 0

-- 30: an entry undecided for too long, in a text that arrives (document 02, CR 3); its start.
abbrev pub entry_too_long : ℕ → Refusal
entry_too_long p = refusal 30 p

-- 31: repeated field; entry number.
abbrev pub repeated_field : ℕ → Refusal
repeated_field j = refusal 31 j

-- 34: decimal not of this form (document 02, CR 14).
abbrev pub other_form : Refusal
other_form = refusal 34 0
