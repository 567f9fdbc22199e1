-- What the number of each accepted call holds, and what goes into its lent numbers.
use Rattle.std.specs.Prelude.{ℕ}
use Rattle.cursor.specs.declared.ParserCursor.{ParserCursor}
use Rattle.entries.specs.declared.view.Span.{Span}
use Rattle.repair.specs.declared.repairer.Repaired.{Repaired}
use Rattle.structs.specs.declared.kinds.StructType.{StructType}
use Rattle.structs.specs.declared.kinds.StructType.TheVariants.{AnyTuple, EmptyTuple, NewtypeTuple, NonNewtypeTuple, Named, Unit as UnitStruct}
use Rattle.sarridok.specs.declared.integer_call.Typed.{Typed}
use Rattle.sarridok_c.specs.Packed.{pair_of, bit_of}

-- Read and decoded: how many entries or bytes.
abbrev pub count_word : ℕ → ℕ
count_word n = pair_of 0 n

-- Walk and integers: nothing.
abbrev pub done_word : Unit {0} → ℕ
done_word t = 0

-- Repair: how many entries.
abbrev pub repaired_word : Repaired → ℕ
repaired_word r = pair_of 0 r.count

-- Those of them that were kept before,
abbrev pub before_of : Repaired → ℕ
before_of r = r.before

-- and those kept behind.
abbrev pub behind_of : Repaired → ℕ
behind_of r = r.behind

-- Integer: 1 for a minus, and the place behind the number,
abbrev pub typed_word : Typed → ℕ
typed_word t = pair_of (bit_of t.number.minus) t.end

-- which has this magnitude.
abbrev pub magnitude_of : Typed → ℕ
magnitude_of t = t.number.magnitude

-- Contents: the start and the end of the part.
abbrev pub span_word : Span → ℕ
span_word s = pair_of s.start s.end

-- Struct kind: its number in the crate's order.
abbrev pub kind_word : StructType → ℕ
kind_word AnyTuple = 0
kind_word EmptyTuple = 1
kind_word NewtypeTuple = 2
kind_word NonNewtypeTuple = 3
kind_word Named = 4
kind_word UnitStruct = 5

-- Skip: the cursor's place,
abbrev pub cursor_word : ParserCursor → ℕ
cursor_word c = pair_of 0 c.cursor

-- where the last whitespace began,
abbrev pub pre_of : ParserCursor → ℕ
pre_of c = c.pre_ws_cursor

-- and its length.
abbrev pub length_of : ParserCursor → ℕ
length_of c = c.last_ws_len
