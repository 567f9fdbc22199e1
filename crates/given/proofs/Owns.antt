-- What each call answers of its own: behind its judgement of the text it refuses with 4 to 29, the walk also with 31, and where the place fits with 4 to 27.
-- Assumes nothing.
use Rattle.std.proofs.Common.{Ok, Err}
use Rattle.structs.specs.declared.kinds.StructType.{StructType}
use Prim.Native.Nat.{ℕ}
use mathlib.Core.Bool.{Bool, ◌&&◌, cond}
use mathlib.Core.List.{List}
use mathlib.Core.Path.{refl}
use lib.Dec.{lit≤, ltb}
use lib.ListN.{drop, length}
use Rattle.text.specs.Refusals.{Told, no_room, not_in_order, unfit}
use Rattle.cursor.specs.Skip.{skip_ws_of}
use Rattle.cursor.specs.declared.ParserCursor.{ParserCursor}
use Rattle.entries.specs.Contents.{by_named, contents_in, decoded_in}
use Rattle.entries.specs.Named.{literal_of, named_of}
use Rattle.grammar.specs.Kinds.{kinds_of}
use Rattle.rows.specs.Order.{in_order}
use Rattle.rows.specs.Rows.{room_of, entries_of}
use Rattle.structs.specs.Kinds.{placed_kind}
use Rattle.structs.specs.Structs.{struct_type_of}
use Rattle.structs.specs.declared.kinds.NewtypeMode.{NewtypeMode}
use Rattle.structs.specs.declared.kinds.TupleMode.{TupleMode}
use Rattle.fields.specs.Fields.{named_walk}
use Rattle.fields.specs.Names.{name_at, raws_fit}
use Rattle.given.specs.Given.{given, within}
use Rattle.given.proofs.Both.{both}
use Rattle.given.proofs.Cursors.{Inner-step, skip_ws_inner}
use Rattle.given.proofs.Entries.{named_own, by-named, literal_inner, contents-in, decoded-in}
use Rattle.given.proofs.Front.{FourTo-told, Given-told, Own-told, higher, higher_told}
use Rattle.given.proofs.Scans.{Inner-struct}
use Rattle.given.proofs.Structs.{struct_type_inner}
use Rattle.given.proofs.Walks.{Of-named, named_given, verdict_of_named}

-- ---- calls at a place

-- 28 stands in front of the call's own answer
pub or_unfit : {A : Type 0} (fits : Bool) (own : Told A) → FourTo-told 27 own → Own-told (cond fits own (Err unfit))
unfolding within
or_unfit fits own h = both Own-told fits (higher_told 27 29 own (lit≤ tt) h) refl

told_step : (a : Told ParserCursor) → Inner-step a → FourTo-told 27 a
told_step (Ok c) h = tt
told_step (Err r) h = higher 21 27 r (lit≤ tt) h

pub skip_own : (text : List ℕ) (c : ParserCursor) → FourTo-told 27 (skip_ws_of text c)
skip_own text c = told_step (skip_ws_of text c) (skip_ws_inner text c)

told-struct : (place : ℕ) (a : Told StructType) → Inner-struct a → FourTo-told 27 (placed_kind place a)
told-struct place (Ok k) h = tt
told-struct place (Err r) h = higher 21 27 r (lit≤ tt) h

pub struct_own : (place : ℕ) (s : List ℕ) (newtype : NewtypeMode) (tuple : TupleMode) → FourTo-told 27 (placed_kind place (struct_type_of s newtype tuple))
struct_own place s newtype tuple = told-struct place (struct_type_of s newtype tuple) (struct_type_inner s newtype tuple)

-- ---- calls for an entry

pub contents_own : (text tape : List ℕ) (count entry : ℕ) → Own-told (by_named (named_of text tape count entry) (λ bytes place. contents_in place (literal_of bytes (drop place text))))
contents_own text tape count entry =
    by-named (named_of text tape count entry) _ (named_own text tape count entry)
    (λ bytes place. contents-in place (literal_of bytes (drop place text)) (literal_inner bytes (drop place text)))

pub decoded_own : (text tape : List ℕ) (count entry room : ℕ) → Own-told (by_named (named_of text tape count entry) (λ bytes place. decoded_in place room (literal_of bytes (drop place text))))
decoded_own text tape count entry room =
    by-named (named_of text tape count entry) _ (named_own text tape count entry)
    (λ bytes place. decoded-in place room (literal_of bytes (drop place text)) (literal_inner bytes (drop place text)))

-- ---- the walk

told_verdict : (v : Told Unit) → Of-named v → Given-told v
told_verdict (Ok tt) h = tt
told_verdict (Err r) h = named_given r h

pub walk_own : (text tape : List ℕ) (count limit links : ℕ)
    → Given-told (cond (ltb 128 limit) (Err unfit) (cond (ltb (room_of (length tape)) count) (Err not_in_order)
    (cond (in_order (entries_of count tape) (length text) && raws_fit text (entries_of count tape))
    (cond (ltb links count) (Err no_room) (named_walk (name_at text tape) (kinds_of (entries_of count tape)) limit)) (Err not_in_order))))
unfolding given within
walk_own text tape count limit links =
    let v = named_walk (name_at text tape) (kinds_of (entries_of count tape)) limit in
    both Given-told (ltb 128 limit) refl
    (both Given-told (ltb (room_of (length tape)) count) refl
    (both Given-told (in_order (entries_of count tape) (length text) && raws_fit text (entries_of count tape))
    (both Given-told (ltb links count) refl (told_verdict v (verdict_of_named (name_at text tape) (kinds_of (entries_of count tape)) limit))) refl))
