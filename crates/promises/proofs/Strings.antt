-- What is promised of `contents`, `contents_part` and `decoded`. Each line is a theorem's statement; its proof only says where it is proved. Assumes nothing.
use Rattle.std.proofs.Common.{Ok, Err}
use Prim.Native.Nat.{ℕ, ◌<◌, ◌≤◌}
use mathlib.Core.Bool.{Bool, true, false}
use mathlib.Core.List.{List, ◌++◌}
use mathlib.Core.Logic.{◌↔◌}
use mathlib.Core.Path.{◌≡◌, ◌∙◌, ap}
use lib.ListN.{drop, length}
use Rattle.text.specs.Refusals.{Told, eof, invalid_escape, no_room}
use Rattle.text.specs.Utf8.{Encoded}
use Rattle.text.specs.declared.reason.EscapeReason.{EscapeReason}
use Rattle.text.specs.declared.refusal.Refusal.{Refusal}
use Rattle.escapes.specs.Escapes.{escape_of}
use Rattle.escapes.specs.declared.answers.EscapeAnswer.TheVariants.{Refused as NoEscape}
use Rattle.escapes.specs.declared.answers.Mode.{Mode}
use Rattle.escaped.specs.Escape.{Escape, Meant, Says}
use Rattle.escaped.specs.Wrong.{Ends, Wrong}
use Rattle.escaped.proofs.Exactly as escapes
use Rattle.escaped.proofs.Reasons as reasons
use Rattle.strings.specs.Chars.{byte_of, char_of}
use Rattle.strings.specs.Strings.{byte_string_decoded, byte_string_of, string_decoded, string_of}
use Rattle.strings.specs.declared.literal.Literal.{Literal}
use Rattle.quoted.specs.Decoding.{Decodes}
use Rattle.quoted.specs.Literals.{ByteAt, ByteStringAt, CharAt, LiteralAt, StringAt}
use Rattle.quoted.specs.Wrong.{WrongByte, WrongByteString, WrongChar, WrongString}
use Rattle.quoted.proofs.Decoded as decodings
use Rattle.quoted.proofs.Exactly as quotes
use Rattle.quoted.proofs.WrongChars as wrong-chars
use Rattle.quoted.proofs.WrongStrings as wrong-strings
use Rattle.rows.specs.Rows.{entry_at}
use Rattle.entries.specs.declared.view.Span.{Span}
use Rattle.entries.specs.Contents.{by_named, contents_in, decoded_in, written_by}
use Rattle.entries.specs.Named.{literal_decoded, literal_of, named_of}
use Rattle.read.specs.Read.{read_answer, read_tape}
use Rattle.sarridok.specs.Contents.{contents_of, decoded_answer, decoded_out, named_bytes, part_of}
use Rattle.sarridok.proofs.ContentsAgree as agree
use Rattle.sarridok.proofs.ContentsDetermined.{contents_determined, decoded_determined, part_determined}
use Rattle.sarridok.proofs.ContentsLaws.{out_refused}
use Rattle.reread.specs.Strings.{Handed, IsString}
use Rattle.reread.proofs.Decodable.{read_contents, read_decoded, read_too_long}
use Rattle.fronts.specs.Fronts.{FrontOf}
use Rattle.fronts.proofs.Calls as fronts
use Rattle.fronts.proofs.NoRoom as lacking
use Rattle.given.specs.Given.{Given}
use Rattle.given.proofs.Calls.{contents_given, decoded_given}

-- ---- escapes

-- What is accepted behind a backslash is exactly an escape, with what it means and its length.
pub escape_exactly : (m : Mode) (s : List ℕ) (v : Meant) (n : ℕ) → Says (escape_of m s) v n ↔ ((n ≤ length s) × Escape m s v (drop n s))
escape_exactly = escapes.escape_exactly

-- 13 is given exactly where it is wrong for that reason, at that place (CR 1); the eighth reason is that of a byte literal (`byte_13`).
pub escape_13 : (m : Mode) (s : List ℕ) (why : EscapeReason) (p : ℕ) → (escape_of m s ≡ NoEscape (invalid_escape why p)) ↔ Wrong m s why p
escape_13 = reasons.escape_13

-- 6 exactly where the text ends before the escape does, at its end; there is no other refusal.
pub escape_6 : (m : Mode) (s : List ℕ) (p : ℕ) → (escape_of m s ≡ NoEscape (eof p)) ↔ (Ends m s × (p ≡ length s))
escape_6 = reasons.escape_6

-- Where it is refused, no escape stands.
pub escape_refused : (m : Mode) (s : List ℕ) (r : Refusal) → escape_of m s ≡ NoEscape r → (v : Meant) (t : List ℕ) → Escape m s v t → ⊥
escape_refused = escapes.escape_refused

-- ---- strings, chars and byte literals

-- What is read and decoded is exactly a string: with its decoded bytes, and what stands behind it.
pub string_exactly : (s d t : List ℕ) → StringAt s d t ↔ ((l : Literal) × (string_of s ≡ Ok l) × (string_decoded s ≡ d) × (drop l.len s ≡ t) × (l.len ≤ length s))
string_exactly = quotes.string_exactly

pub byte_string_exactly : (s d t : List ℕ) → ByteStringAt s d t ↔ ((l : Literal) × (byte_string_of s ≡ Ok l) × (byte_string_decoded s ≡ d) × (drop l.len s ≡ t) × (l.len ≤ length s))
byte_string_exactly = quotes.byte_string_exactly

pub char_exactly : (s : List ℕ) (n c : ℕ) → (char_of s ≡ Ok (n, c)) ↔ ((n ≤ length s) × CharAt s c (drop n s))
char_exactly = quotes.char_exactly

pub byte_exactly : (s : List ℕ) (n b : ℕ) → (byte_of s ≡ Ok (n, b)) ↔ ((n ≤ length s) × ByteAt s b (drop n s))
byte_exactly = quotes.byte_exactly

-- 13 is given exactly where an escape in it is wrong, with that reason, at that place: behind pieces that are well, where a quote stands behind the opening one.
pub string_13 : (s : List ℕ) (why : EscapeReason) (p : ℕ) → (string_of s ≡ Err (invalid_escape why p)) ↔ WrongString s why p
string_13 = wrong-strings.string_13

pub byte_string_13 : (s : List ℕ) (why : EscapeReason) (p : ℕ) → (byte_string_of s ≡ Err (invalid_escape why p)) ↔ WrongByteString s why p
byte_string_13 = wrong-strings.byte_string_13

pub char_13 : (s : List ℕ) (why : EscapeReason) (p : ℕ) → (char_of s ≡ Err (invalid_escape why p)) ↔ WrongChar s why p
char_13 = wrong-chars.char_13

pub byte_13 : (s : List ℕ) (why : EscapeReason) (p : ℕ) → (byte_of s ≡ Err (invalid_escape why p)) ↔ WrongByte s why p
byte_13 = wrong-chars.byte_13

-- The decoded length is that of the decoded bytes.
pub string_length : (s : List ℕ) (l : Literal) → string_of s ≡ Ok l → length (string_decoded s) ≡ l.decoded
string_length = quotes.string_length

pub byte_string_length : (s : List ℕ) (l : Literal) → byte_string_of s ≡ Ok l → length (byte_string_decoded s) ≡ l.decoded
byte_string_length = quotes.byte_string_length

-- ---- decoded

module _ (text tape : List ℕ) (count entry : ℕ) where
  -- 1 and 2 exactly in their cases, and past both exactly where the text is sound.
  pub decoded_front : (room : ℕ) → FrontOf text (decoded_answer text tape count entry room) (by_named (named_of text tape count entry) (λ bytes place. decoded_in place room (literal_of bytes (drop place text))))
  decoded_front = fronts.decoded_front text tape count entry

  -- Accepted exactly where a string stands at the entry's start and there is room for the bytes that it decodes to.
  pub decoded_exactly : (out : List ℕ) (n : ℕ) → (decoded_answer text tape count entry (length out) ≡ Ok n) ↔ Decodes text tape count entry (length out) n
  decoded_exactly = decodings.decoded_exactly text tape count entry

  -- 22 exactly where one stands that decodes to more.
  pub decoded_22 : (room : ℕ) → (decoded_answer text tape count entry room ≡ Err no_room) ↔ ((n : ℕ) × (room < n) × Decodes text tape count entry n n)
  decoded_22 = lacking.decoded_22 text tape count entry

  -- What is written is exactly those bytes; behind them the buffer is as it was.
  pub decoded_writes : (out : List ℕ) (n : ℕ) (bytes : Bool) (place : ℕ) (d t : List ℕ) → decoded_answer text tape count entry (length out) ≡ Ok n
      → named_of text tape count entry ≡ Ok (bytes, place) → LiteralAt bytes (drop place text) d t → decoded_out text tape count entry out ≡ d ++ drop n out
  decoded_writes = decodings.decoded_writes text tape count entry

  -- A decoded string, the n bytes in front of the buffer, is UTF-8.
  pub decoded_utf8 : (out : List ℕ) (n place : ℕ) → named_of text tape count entry ≡ Ok (false, place) → decoded_answer text tape count entry (length out) ≡ Ok n
      → (d : List ℕ) × Encoded d × (length d ≡ n) × (decoded_out text tape count entry out ≡ d ++ drop n out)
  unfolding decoded_out
  decoded_utf8 out n place m e = (
    named_bytes text (named_of text tape count entry),
    agree.decoded_encoded text tape count entry place (length out) n m e,
    agree.decoded_length text tape count entry (length out) n e,
    ap (λ (t : Told ℕ). written_by t (named_bytes text (named_of text tape count entry)) out) e,
  )

  -- Demand 1: a refused decoding leaves the buffer.
  pub refused_decoded : (out : List ℕ) (r : Refusal) → decoded_answer text tape count entry (length out) ≡ Err r → decoded_out text tape count entry out ≡ out
  refused_decoded = out_refused text tape count entry

  -- A refusal's number is 1, 2 or one of 4 to 29, and its reason 1 to 8 where that is 13, else 0.
  pub decoded_numbers : (room : ℕ) (r : Refusal) → decoded_answer text tape count entry room ≡ Err r → Given r
  decoded_numbers = decoded_given text tape count entry

  -- Two answers that meet the promise are equal, and so are the buffers.
  pub one_decoded : (out : List ℕ) (x y : Told ℕ) (u v : List ℕ)
      → (x ≡ decoded_answer text tape count entry (length out)) × (u ≡ decoded_out text tape count entry out)
      → (y ≡ decoded_answer text tape count entry (length out)) × (v ≡ decoded_out text tape count entry out) → (x ≡ y) × (u ≡ v)
  one_decoded = decoded_determined text tape count entry

-- ---- contents and contents_part

literal_is : (bytes : Bool) (s d t : List ℕ) → LiteralAt bytes s d t → literal_decoded bytes s ≡ d
literal_is false s d t l = ((quotes.string_exactly s d t).0 l).2
literal_is true s d t l = ((quotes.byte_string_exactly s d t).0 l).2

module _ (text tape : List ℕ) (count entry : ℕ) where
  -- 1 and 2 exactly in their cases, and past both exactly where the text is sound.
  pub contents_front : FrontOf text (contents_of text tape count entry) (by_named (named_of text tape count entry) (λ bytes place. contents_in place (literal_of bytes (drop place text))))
  contents_front = fronts.contents_front text tape count entry

  -- Contents that are handed out are the decoded bytes.
  pub contents_decoded : (s : Span) (bytes : Bool) (place : ℕ) (d t : List ℕ) → contents_of text tape count entry ≡ Ok s → named_of text tape count entry ≡ Ok (bytes, place)
      → LiteralAt bytes (drop place text) d t → part_of text (contents_of text tape count entry) ≡ d
  contents_decoded s bytes place d t e m l = agree.part_decoded text tape count entry s e ∙ ap (named_bytes text) m ∙ literal_is bytes (drop place text) d t l

  -- A refusal's number is 1, 2 or one of 4 to 29, and its reason 1 to 8 where that is 13, else 0.
  pub contents_numbers : (r : Refusal) → contents_of text tape count entry ≡ Err r → Given r
  contents_numbers = contents_given text tape count entry

  -- Two answers that meet the promise are equal, and so are two parts.
  pub one_contents : (x y : Told Span) → x ≡ contents_of text tape count entry → y ≡ contents_of text tape count entry → x ≡ y
  one_contents = contents_determined text tape count entry

  pub one_part : (x y : List ℕ) → x ≡ part_of text (contents_of text tape count entry) → y ≡ part_of text (contents_of text tape count entry) → x ≡ y
  one_part = part_determined text tape count entry

-- ---- the strings of an accepted read

-- Every string of an accepted read can be decoded: with room for as many bytes as its detail says that many are written, with less it is 22; its contents are
-- a part of the text with so many bytes, or 29.
module _ (text tape : List ℕ) (count k : ℕ) (e : read_answer text (length tape) ≡ Ok count) (i : k < count) (is : IsString (entry_at (read_tape text tape) k)) where
  pub decoded_accepts : (room : ℕ) → (entry_at (read_tape text tape) k).detail ≤ room
      → decoded_answer text (read_tape text tape) count k room ≡ Ok (entry_at (read_tape text tape) k).detail
  decoded_accepts = read_decoded text tape count k e i is

  pub decoded_lacks_room : (room : ℕ) → room < (entry_at (read_tape text tape) k).detail → decoded_answer text (read_tape text tape) count k room ≡ Err no_room
  decoded_lacks_room = read_too_long text tape count k e i is

  pub contents_handed : Handed text (read_tape text tape) count k
  contents_handed = read_contents text tape count k e i is
