-- The front of each call with a text: 1 and 2 exactly where they are told, and past both exactly where the text is sound. Assumes nothing.
use Rattle.std.proofs.Common.{Err}
use Prim.Native.Nat.{ℕ}
use mathlib.Core.Bool.{cond}
use mathlib.Core.List.{List}
use native.Mathlib.Omega.{arith}
use lib.Dec.{ltb}
use lib.ListN.{drop, length}
use Rattle.text.specs.Judged.{behind_front, place_fits}
use Rattle.text.specs.Refusals.{not_in_order, unfit}
use Rattle.cursor.specs.Skip.{cursor_fits, skip_ws_of}
use Rattle.cursor.specs.declared.ParserCursor.{ParserCursor}
use Rattle.entries.specs.Contents.{by_named, contents_in, decoded_in}
use Rattle.entries.specs.Named.{literal_of, named_of}
use Rattle.integers.specs.declared.width.Width.{Width}
use Rattle.read.specs.Read.{fitted, read_answer, reading_of}
use Rattle.repair.specs.Repair.{repair_answer_of, repair_of}
use Rattle.rows.specs.Rows.{room_of}
use Rattle.structs.specs.Kinds.{placed_kind}
use Rattle.structs.specs.Structs.{struct_type_of}
use Rattle.structs.specs.declared.kinds.NewtypeMode.{NewtypeMode}
use Rattle.structs.specs.declared.kinds.TupleMode.{TupleMode}
use Rattle.sarridok.specs.Contents.{contents_of, decoded_answer}
use Rattle.sarridok.specs.Integers.{in_room, integers_of, items_from}
use Rattle.sarridok.specs.Skip.{skip_of}
use Rattle.sarridok.specs.StructKind.{struct_kind_of}
use Rattle.sarridok.specs.Typed.{integer_at, integer_of, placed_at}
use Rattle.given.proofs.Front.{number-in, told_number}
use Rattle.given.proofs.Listed.{integers_own}
use Rattle.given.proofs.Owns.{contents_own, decoded_own, or_unfit, skip_own, struct_own}
use Rattle.given.proofs.Repairs.{fitted_own, repaired_own}
use Rattle.given.proofs.Typed.{integer_own}
use Rattle.fronts.specs.Fronts.{FrontOf}
use Rattle.fronts.proofs.Judgement.{front, front_judged}

-- ---- calls at a place

-- behind its front, skip asks of its cursor
pub skip_front : (text : List ℕ) (c : ParserCursor) → FrontOf text (skip_of text c) (cond (cursor_fits text c) (skip_ws_of text c) (Err unfit))
unfolding skip_of behind_front
skip_front text c = front text _ (or_unfit (cursor_fits text c) _ (skip_own text c))

-- integer and struct kind ask of their place
pub integer_front : (text : List ℕ) (place : ℕ) (width : Width)
    → FrontOf text (integer_of text place width) (cond (place_fits text place) (placed_at place (integer_at width (drop place text))) (Err unfit))
unfolding integer_of behind_front
integer_front text place width = front text _ (or_unfit (place_fits text place) _ (integer_own place width (drop place text)))

pub struct_kind_front : (text : List ℕ) (place : ℕ) (newtype : NewtypeMode) (tuple : TupleMode)
    → FrontOf text (struct_kind_of text place newtype tuple) (cond (place_fits text place) (placed_kind place (struct_type_of (drop place text) newtype tuple)) (Err unfit))
unfolding struct_kind_of behind_front
struct_kind_front text place newtype tuple = front text _ (or_unfit (place_fits text place) _ (struct_own place (drop place text) newtype tuple))

-- ---- calls for an entry

-- contents and decoded ask of their entry
pub contents_front : (text tape : List ℕ) (count entry : ℕ)
    → FrontOf text (contents_of text tape count entry) (by_named (named_of text tape count entry) (λ bytes place. contents_in place (literal_of bytes (drop place text))))
unfolding contents_of
contents_front text tape count entry = front text _ (contents_own text tape count entry)

pub decoded_front : (text tape : List ℕ) (count entry room : ℕ)
    → FrontOf text (decoded_answer text tape count entry room) (by_named (named_of text tape count entry) (λ bytes place. decoded_in place room (literal_of bytes (drop place text))))
unfolding decoded_answer
decoded_front text tape count entry room = front text _ (decoded_own text tape count entry room)

-- integers asks of its count, then of its items
pub integers_front : (text tape : List ℕ) (count : ℕ) (items : List ℕ) (m c : ℕ)
    → FrontOf text (integers_of text tape count items m c) (cond (ltb (room_of (length tape)) count) (Err not_in_order) (in_room (length items) m c (items_from text tape count items 0)))
unfolding integers_of
integers_front text tape count items m c =
    front_judged text _ (λ fit r e. omega (arith, number-in 4 29 r (told_number 29 _ r (integers_own text fit tape count items m c) e)))

-- ---- whole texts

-- read reads
pub read_front : (text : List ℕ) (numbers : ℕ) → FrontOf text (read_answer text numbers) (fitted (room_of numbers) (reading_of text))
unfolding read_answer
read_front text numbers = front text _ (fitted_own (room_of numbers) text)

-- and repair asks of the cut and the tape
pub repair_front : (tape : List ℕ) (count o a b : ℕ) (text : List ℕ) → FrontOf text (repair_of tape count o a b text) (repair_answer_of tape count o a b text)
unfolding repair_of
repair_front tape count o a b text = front text _ (repaired_own tape count o a b text)
