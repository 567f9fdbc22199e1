-- Nothing is ever cut off: from the number that each call answers a host gets back whether it was refused, and every number of the answer.
--     read_whole, walk-whole, repair-whole, integer-whole, contents-whole, decoded-whole, struct-whole, skip-whole, integers-whole
-- They hold of any text, tape and numbers; the last of lists of at most 2^32 items. Assumes nothing.
use Rattle.std.proofs.Common.{Ok, Err}
use Prim.Native.Nat.{ℕ, ◌^◌, ◌≤◌, ◌<◌}
use native.Mathlib.Omega.{arith}
use mathlib.Core.Bool.{◌&&◌}
use mathlib.Core.List.{List}
use mathlib.Core.Path.{◌≡◌, refl}
use lib.Dec.{leb}
use lib.ListN.{length}
use Rattle.text.specs.Refusals.{Told}
use Rattle.text.specs.declared.refusal.Refusal.{Refusal}
use Rattle.cursor.specs.declared.ParserCursor.{ParserCursor}
use Rattle.integers.specs.Width.{width_at}
use Rattle.structs.specs.declared.kinds.StructType.{StructType}
use Rattle.structs.specs.declared.kinds.StructType.TheVariants.{AnyTuple, EmptyTuple, NewtypeTuple, NonNewtypeTuple, Named, Unit as UnitStruct}
use Rattle.read.specs.Read.{read_answer}
use Rattle.repair.specs.Repair.{repair_of}
use Rattle.sarridok.specs.Contents.{contents_of, decoded_answer}
use Rattle.sarridok.specs.Integers.{done, integers_of}
use Rattle.sarridok.specs.Skip.{skip_of}
use Rattle.sarridok.specs.StructKind.{struct_kind_of}
use Rattle.sarridok.specs.Typed.{integer_of}
use Rattle.sarridok.specs.Walked.{walk_of}
use Rattle.given.proofs.Both.{both}
use Rattle.given.proofs.Calls.{contents_given, decoded_given, integer_given, read_given, repair_given, skip_given, struct_given, walk_given}
use Rattle.given.proofs.Listed.{integers_given}
use Rattle.given.specs.Given.{Given}
use Rattle.sarridok_c.specs.Numbered.{integer_numbered, kind_numbered, newtype_at, tuple_at}
use Rattle.sarridok_c.specs.Packed.{at_most, pair_of}
use Rattle.sarridok_c.specs.Whole.{Whole, count_parts, cursor_parts, done_parts, kind_parts, repaired_parts, span_parts, typed_parts}
use Rattle.sarridok_c.specs.Words.{count_word, cursor_word, done_word, kind_word, repaired_word, span_word, typed_word}
use Rattle.sarridok_c.proofs.CallPlaces.{contents_low, decoded_low, integer_low, skip_low, struct_low}
use Rattle.sarridok_c.proofs.ListPlaces.{done_refused, list_place}
use Rattle.sarridok_c.proofs.ReadPlaces.{read_low, repair_low}
use Rattle.sarridok_c.proofs.Unpacking.{Low, Short, given_low, got_back, unfit_low, unpack_pair, unpack_refusal}
use Rattle.sarridok_c.proofs.WalkPlaces.{walk_low}

-- ---- widths and modes by their numbers

-- the number of a refusal is one of the table's, which ends at 31, and its reason at most 8
abbrev Listed : {A : Type 0} → Told A → Type 0
Listed (Ok a) = Unit {0}
Listed (Err r) = Short r

listed : {A : Type 0} (t : Told A) → ((r : Refusal) → t ≡ Err r → Given r) → Listed t
listed (Ok a) h = tt
listed (Err r) h = given_low r (h r refl)

numbers : {A : Type 0} (t : Told A) → Listed t → (r : Refusal) → t ≡ Err r → Short r
numbers t h r e = rw e at h

module _ (text : List ℕ) (place : ℕ) where
  numbered_listed : (width : ℕ) → Listed (integer_numbered text place width)
  unfolding integer_numbered
  numbered_listed width = both Listed (leb 1 width && leb width 8) (listed (integer_of text place (width_at width)) (integer_given text place (width_at width))) (unfit_low text).0

  numbered_low : (width : ℕ) → Low typed_parts (integer_numbered text place width)
  unfolding integer_numbered
  numbered_low width = both (Low typed_parts) (leb 1 width && leb width 8) (integer_low text place (width_at width)) (unfit_low text).1

  kind_listed : (newtype tuple : ℕ) → Listed (kind_numbered text place newtype tuple)
  unfolding kind_numbered
  kind_listed newtype tuple =
      let own = struct_kind_of text place (newtype_at newtype) (tuple_at tuple) in
      both Listed (leb newtype 1 && leb tuple 1) (listed own (struct_given text place (newtype_at newtype) (tuple_at tuple))) (unfit_low text).0

  kind_low : (newtype tuple : ℕ) → Low kind_parts (kind_numbered text place newtype tuple)
  unfolding kind_numbered
  kind_low newtype tuple = both (Low kind_parts) (leb newtype 1 && leb tuple 1) (struct_low text place (newtype_at newtype) (tuple_at tuple)) (unfit_low text).1

-- ---- what stands in no pair

done_pair : (t : Unit {0}) → done_word t ≡ pair_of 0 0
unfolding pair_of at_most
done_pair t = refl

kind_pair : (k : StructType) → kind_word k ≡ pair_of 0 (kind_word k)
unfolding pair_of at_most
kind_pair AnyTuple = refl
kind_pair EmptyTuple = refl
kind_pair NewtypeTuple = refl
kind_pair NonNewtypeTuple = refl
kind_pair Named = refl
kind_pair UnitStruct = refl

-- ---- the calls

-- read: how many entries
pub read_whole : (text : List ℕ) (numbers : ℕ) → Whole count_word count_parts (read_answer text numbers)
read_whole text numbers = got_back count_word count_parts (λ a. refl) (read_answer text numbers) (λ r e. given_low r (read_given text numbers r e)) (read_low text numbers)

-- walk: nothing but a refusal
pub walk_whole : (text tape : List ℕ) (count limit links : ℕ) → Whole done_word done_parts (walk_of text tape count limit links)
walk_whole text tape count limit links =
    got_back done_word done_parts done_pair (walk_of text tape count limit links) (λ r e. given_low r (walk_given text tape count limit links r e)) (walk_low text tape count limit links)

-- repair: how many entries, over any tape
pub repair_whole : (tape : List ℕ) (count o a b : ℕ) (text : List ℕ) → Whole repaired_word repaired_parts (repair_of tape count o a b text)
repair_whole tape count o a b text =
    got_back repaired_word repaired_parts (λ r. refl) (repair_of tape count o a b text) (λ r e. given_low r (repair_given tape count o a b text r e)) (repair_low tape count o a b text)

-- integer: a minus, and the place behind the number
pub integer_whole : (text : List ℕ) (place width : ℕ) → Whole typed_word typed_parts (integer_numbered text place width)
integer_whole text place width =
    got_back typed_word typed_parts (λ t. refl) (integer_numbered text place width) (numbers _ (numbered_listed text place width)) (numbered_low text place width)

-- contents: where they begin and end
pub contents_whole : (text tape : List ℕ) (count entry : ℕ) → Whole span_word span_parts (contents_of text tape count entry)
contents_whole text tape count entry =
    got_back span_word span_parts (λ s. refl) (contents_of text tape count entry) (λ r e. given_low r (contents_given text tape count entry r e)) (contents_low text tape count entry)

-- decoded: how many bytes
pub decoded_whole : (text tape : List ℕ) (count entry room : ℕ) → Whole count_word count_parts (decoded_answer text tape count entry room)
decoded_whole text tape count entry room =
    got_back count_word count_parts (λ n. refl) (decoded_answer text tape count entry room) (λ r e. given_low r (decoded_given text tape count entry room r e)) (decoded_low text tape count entry room)

-- struct kind: its number
pub struct_whole : (text : List ℕ) (place newtype tuple : ℕ) → Whole kind_word kind_parts (kind_numbered text place newtype tuple)
struct_whole text place newtype tuple =
    got_back kind_word kind_parts kind_pair (kind_numbered text place newtype tuple) (numbers _ (kind_listed text place newtype tuple)) (kind_low text place newtype tuple)

-- skip: the cursor's place
pub skip_whole : (text : List ℕ) (c : ParserCursor) → Whole cursor_word cursor_parts (skip_of text c)
skip_whole text c = got_back cursor_word cursor_parts (λ c. refl) (skip_of text c) (λ r e. given_low r (skip_given text c r e)) (skip_low text c)

-- integers: nothing but a refusal, and its place whole for a list of at most 2^32 items
done_whole : (t : Told Unit) → ((r : Refusal) → t ≡ Err r → Short r × (r.place < 2 ^ 32)) → Whole done_word done_parts t
unfolding pair_of at_most
done_whole (Ok u) h = unpack_pair 0 0 (omega arith) (omega arith)
done_whole (Err r) h = let n = h r refl in unpack_refusal r n.0 n.1

pub integers_whole : (text tape : List ℕ) (count : ℕ) (items : List ℕ) (m c : ℕ) → length items ≤ 2 ^ 32 → Whole done_word done_parts (done (integers_of text tape count items m c))
integers_whole text tape count items m c h =
    done_whole (done (integers_of text tape count items m c))
    (λ r e. (given_low r (integers_given text tape count items m c r (done_refused (integers_of text tape count items m c) r e)), list_place text tape count items m c h r e))
