-- The numbers of skip, integer, struct kind, contents and decoded are low: all their places lie within the text. Assumes nothing.
use Rattle.std.proofs.Common.{Ok, Err}
use Rattle.strings.specs.declared.literal.Literal.{Literal}
use Prim.Native.Nat.{ℕ, ◌+◌, ◌≤◌}
use native.Mathlib.Omega.{arith}
use mathlib.Core.Bool.{Bool, true, false}
use mathlib.Core.List.{List, [], ◌∷◌}
use mathlib.Core.Path.{◌≡◌, refl}
use lib.Dec.{eqb, leb, ltb}
use lib.ListN.{drop, length, length-drop}
use Rattle.text.proofs.Choices.{cond_cases}
use Rattle.text.proofs.JudgeLaws.{place_within}
use Rattle.text.specs.Judged.{place_fits}
use Rattle.text.specs.Refusals.{Told}
use Rattle.rows.specs.Rows.{entry_at, room_of}
use Rattle.comments.proofs.GapLaws.{EndsBy, gap_bounded}
use Rattle.comments.specs.Gaps.{gap_of}
use Rattle.comments.specs.declared.gap.Gap.{Gap}
use Rattle.comments.specs.declared.gap.Gap.TheVariants.{Clear, InLine, Refused as NoGap}
use Rattle.cursor.proofs.SkipLaws.{fits_places}
use Rattle.cursor.specs.Skip.{cursor_behind, behind_part, cursor_fits, pre_of, skip_ws_of}
use Rattle.cursor.specs.declared.ParserCursor.{ParserCursor}
use Rattle.entries.proofs.NamedLaws.{Within as NamedWithin, named_within}
use Rattle.entries.specs.Contents.{by_named, contents_in, decoded_in}
use Rattle.entries.specs.Named.{by_kind, inside_of, literal_of, named_of}
use Rattle.integers.proofs.Bounded.{TypedBounded}
use Rattle.integers.specs.declared.integer.Integer.{Integer}
use Rattle.integers.specs.declared.integer.Integer.TheVariants as integer
use Rattle.integers.specs.declared.width.Width.{Width}
use Rattle.strings.proofs.Bounds.{Bounded-string, byte_string_bounded, string_bounded}
use Rattle.structs.proofs.ScanLaws.{Within as StructWithin}
use Rattle.structs.proofs.TypeLaws.{struct_bounded}
use Rattle.structs.specs.Kinds.{placed_kind}
use Rattle.structs.specs.Structs.{struct_type_of}
use Rattle.structs.specs.declared.kinds.NewtypeMode.{NewtypeMode}
use Rattle.structs.specs.declared.kinds.StructType.{StructType}
use Rattle.structs.specs.declared.kinds.StructType.TheVariants.{AnyTuple, EmptyTuple, NewtypeTuple, NonNewtypeTuple, Named as NamedStruct, Unit as UnitStruct}
use Rattle.structs.specs.declared.kinds.TupleMode.{TupleMode}
use Rattle.given.proofs.Both.{both}
use Rattle.sarridok.proofs.Places.{at_bounded}
use Rattle.sarridok.specs.Contents.{contents_of, decoded_answer}
use Rattle.sarridok.specs.Skip.{skip_of}
use Rattle.sarridok.specs.StructKind.{struct_kind_of}
use Rattle.sarridok.specs.Typed.{integer_at, integer_of, placed_at}
use Rattle.sarridok_c.specs.Packed.{bit_of}
use Rattle.sarridok_c.specs.Words.{kind_word}
use Rattle.sarridok_c.specs.Whole.{Halves, count_parts, cursor_parts, kind_parts, span_parts, typed_parts}
use Rattle.sarridok_c.proofs.Unpacking.{Low, behind-front, behind-judged}

-- a part of a fit text begins and ends within it
part_short : (text : List ℕ) (p : ℕ) → p ≤ length text → length text ≤ 65536 → p + length (drop p text) ≤ 65536
part_short text p h l = omega (arith, length-drop p text)

-- ---- skip

gap_low : (at pre : ℕ) (s : List ℕ) (g : Gap) → at + length s ≤ 65536 → EndsBy (length s) g → Low cursor_parts (cursor_behind at pre g)
gap_low at pre s (Clear n) h b = (omega arith, omega arith)
gap_low at pre s (InLine n) h b = (omega arith, omega arith)
gap_low at pre s (NoGap r) h b = omega arith

part_low : (c : ParserCursor) (s : List ℕ) → c.cursor + length s ≤ 65536 → Low cursor_parts (behind_part c s)
unfolding behind_part
part_low c [] h = (omega arith, omega arith)
part_low c (a ∷ s) h = gap_low c.cursor (pre_of c) (a ∷ s) (gap_of (a ∷ s)) h (gap_bounded (a ∷ s))

pub skip_low : (text : List ℕ) (c : ParserCursor) → Low cursor_parts (skip_of text c)
unfolding skip_of skip_ws_of
skip_low text c =
    behind-front cursor_parts text (cursor_fits text c) _ (λ l e. part_low c (drop c.cursor text) (part_short text c.cursor (fits_places text c e).0 l))

-- ---- integer

bit_low : (minus : Bool) → bit_of minus ≤ 1
bit_low true = omega arith
bit_low false = omega arith

integer_placed : (place n : ℕ) (a : Integer) → place + n ≤ 65536 → TypedBounded n a → Low typed_parts (placed_at place a)
integer_placed place n (integer.Read v end) h b = (omega (arith, bit_low v.minus), omega (arith, b.1))
integer_placed place n integer.OtherSuffix h b = omega arith
integer_placed place n (integer.Refused r) h b = omega arith

pub integer_low : (text : List ℕ) (place : ℕ) (width : Width) → Low typed_parts (integer_of text place width)
unfolding integer_of
integer_low text place width =
    behind-front typed_parts text (place_fits text place) _
    (λ l e. integer_placed place (length (drop place text)) (integer_at width (drop place text)) (part_short text place (place_within text place e) l) (at_bounded width (drop place text)))

-- ---- struct kind

kind_low : (k : StructType) → kind_word k ≤ 5
kind_low AnyTuple = omega arith
kind_low EmptyTuple = omega arith
kind_low NewtypeTuple = omega arith
kind_low NonNewtypeTuple = omega arith
kind_low NamedStruct = omega arith
kind_low UnitStruct = omega arith

kind_placed : (place n : ℕ) (a : Told StructType) → place + n ≤ 65536 → StructWithin n a → Low kind_parts (placed_kind place a)
kind_placed place n (Ok k) h b = (omega arith, omega (arith, kind_low k))
kind_placed place n (Err r) h b = omega arith

pub struct_low : (text : List ℕ) (place : ℕ) (newtype : NewtypeMode) (tuple : TupleMode) → Low kind_parts (struct_kind_of text place newtype tuple)
unfolding struct_kind_of
struct_low text place newtype tuple =
    behind-front kind_parts text (place_fits text place) _
    (λ l e. kind_placed place (length (drop place text)) (struct_type_of (drop place text) newtype tuple) (part_short text place (place_within text place e) l)
    (struct_bounded (drop place text) newtype tuple))

-- ---- contents and decoded

literal_bounded : (bytes : Bool) (s : List ℕ) → Bounded-string s (literal_of bytes s)
literal_bounded false s = string_bounded s
literal_bounded true s = byte_string_bounded s

contents-in : (place : ℕ) (s : List ℕ) (a : Told Literal) → place + length s ≤ 65536 → Bounded-string s a → Low span_parts (contents_in place a)
contents-in place s (Ok l) h b =
    cond_cases (Low span_parts) l.escaped _ _ (λ e. omega arith) (λ e. (omega (arith, b.1, b.2, b.3), omega (arith, b.1, b.3)))
contents-in place s (Err r) h b = omega arith

decoded-in : (place room : ℕ) (s : List ℕ) (a : Told Literal) → place + length s ≤ 65536 → Bounded-string s a → Low count_parts (decoded_in place room a)
decoded-in place room s (Ok l) h b =
    cond_cases (Low count_parts) (ltb room l.decoded) _ _ (λ e. omega arith) (λ e. (omega arith, omega (arith, b.1, b.4)))
decoded-in place room s (Err r) h b = omega arith

-- what names no string is refused at 0
abbrev Nowhere : Told (Bool × ℕ) → Type 0
Nowhere (Ok (bytes, place)) = Unit {0}
Nowhere (Err r) = r.place ≡ 0

named_nowhere : (text tape : List ℕ) (count entry : ℕ) → Nowhere (named_of text tape count entry)
unfolding named_of inside_of by_kind
named_nowhere text tape count entry =
    let room = room_of (length tape) in
    let e = entry_at tape entry in
    both Nowhere (leb count entry) refl
    (both Nowhere (ltb entry room)
    (both Nowhere (place_fits text e.start) (both Nowhere (ltb room count) refl (both Nowhere (eqb e.kind 14) tt (both Nowhere (eqb e.kind 15) tt refl))) refl) refl)

named_low : {A : Type 0} (parts : A → Halves) (text : List ℕ) (own : Bool → ℕ → Told A) (n : Told (Bool × ℕ)) → NamedWithin text n → Nowhere n
    → ((bytes : Bool) (place : ℕ) → place ≤ length text → Low parts (own bytes place)) → Low parts (by_named n own)
named_low parts text own (Ok (bytes, place)) w z f = f bytes place w
named_low parts text own (Err r) w z f = omega (arith, z)

pub contents_low : (text tape : List ℕ) (count entry : ℕ) → Low span_parts (contents_of text tape count entry)
unfolding contents_of
contents_low text tape count entry =
    behind-judged span_parts text _
    (λ l. named_low span_parts text _ (named_of text tape count entry) (named_within text tape count entry (named_of text tape count entry) refl) (named_nowhere text tape count entry)
    (λ bytes place h. contents-in place (drop place text) (literal_of bytes (drop place text)) (part_short text place h l) (literal_bounded bytes (drop place text))))

pub decoded_low : (text tape : List ℕ) (count entry room : ℕ) → Low count_parts (decoded_answer text tape count entry room)
unfolding decoded_answer
decoded_low text tape count entry room =
    behind-judged count_parts text _
    (λ l. named_low count_parts text _ (named_of text tape count entry) (named_within text tape count entry (named_of text tape count entry) refl) (named_nowhere text tape count entry)
    (λ bytes place h. decoded-in place room (drop place text) (literal_of bytes (drop place text)) (part_short text place h l) (literal_bounded bytes (drop place text))))
