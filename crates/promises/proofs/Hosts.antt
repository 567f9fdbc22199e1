-- What is promised of the interface for C: nothing of an answer is cut off where it is packed into one number, so that a host which takes the number
-- apart, as bindings/c/sarridok.h says, gets every number of the answer back. Each line is a theorem's statement; its proof only says where it is proved.
-- Assumes nothing.
use Prim.Native.Nat.{ℕ, ◌^◌, ◌≤◌}
use mathlib.Core.Bool.{true}
use mathlib.Core.List.{List}
use mathlib.Core.Path.{◌≡◌}
use lib.ListN.{length}
use Rattle.cursor.specs.declared.ParserCursor.{ParserCursor}
use Rattle.pieces.specs.Ends.{finish_of}
use Rattle.pieces.specs.Orders.{in_order}
use Rattle.pieces.specs.Pieces.{piece_of}
use Rattle.pieces.specs.declared.state.Arrival.{Arrival}
use Rattle.stored.specs.Numbers.{stored_in}
use Rattle.read.specs.Read.{read_answer}
use Rattle.repair.specs.Repair.{repair_of}
use Rattle.sarridok.specs.Contents.{contents_of, decoded_answer}
use Rattle.sarridok.specs.Integers.{done, integers_of}
use Rattle.sarridok.specs.Skip.{skip_of}
use Rattle.sarridok.specs.Walked.{walk_of}
use Rattle.sarridok_c.specs.Numbered.{integer_numbered, kind_numbered}
use Rattle.sarridok_c.specs.Whole.{Whole, WholeBehind, count_parts, cursor_parts, done_parts, kind_parts, repaired_parts, span_parts, typed_parts}
use Rattle.sarridok_c.specs.Words.{count_word, cursor_word, done_word, kind_word, repaired_word, span_word, typed_word}
use Rattle.sarridok_c.specs.Arrivals.{begin_numbered, finish_numbered, outcome_refusal, outcome_word, piece_numbered, rest_word}
use Rattle.sarridok_c.proofs.NothingCut as cut
use Rattle.sarridok_c.proofs.ArrivedWhole as arrived

pub skip_whole : (text : List ℕ) (c : ParserCursor) → Whole cursor_word cursor_parts (skip_of text c)
skip_whole = cut.skip_whole

pub integer_whole : (text : List ℕ) (place width : ℕ) → Whole typed_word typed_parts (integer_numbered text place width)
integer_whole = cut.integer_whole

pub contents_whole : (text tape : List ℕ) (count entry : ℕ) → Whole span_word span_parts (contents_of text tape count entry)
contents_whole = cut.contents_whole

pub decoded_whole : (text tape : List ℕ) (count entry room : ℕ) → Whole count_word count_parts (decoded_answer text tape count entry room)
decoded_whole = cut.decoded_whole

pub struct_kind_whole : (text : List ℕ) (place newtype tuple : ℕ) → Whole kind_word kind_parts (kind_numbered text place newtype tuple)
struct_kind_whole = cut.struct_whole

pub read_whole : (text : List ℕ) (numbers : ℕ) → Whole count_word count_parts (read_answer text numbers)
read_whole = cut.read_whole

pub walk_whole : (text tape : List ℕ) (count limit links : ℕ) → Whole done_word done_parts (walk_of text tape count limit links)
walk_whole = cut.walk_whole

pub repair_whole : (tape : List ℕ) (count o a b : ℕ) (text : List ℕ) → Whole repaired_word repaired_parts (repair_of tape count o a b text)
repair_whole = cut.repair_whole

-- The place of a refused item is whole in a list of at most 2^32 items; of a longer one an item behind is told as the last of 32 bits.
pub integers_whole : (text tape : List ℕ) (count : ℕ) (items : List ℕ) (m c : ℕ) → length items ≤ 2 ^ 32 → Whole done_word done_parts (done (integers_of text tape count items m c))
integers_whole = cut.integers_whole

-- begin, piece and finish, over any lent numbers: the answer is 0, or a refusal that is got back whole, be it the call's own or that of the text behind the entries.
pub begin_whole : (n : ℕ) → Whole done_word done_parts (begin_numbered n)
begin_whole = arrived.begin_whole

pub piece_whole : (state buffer : List ℕ) (n room : ℕ) → WholeBehind outcome_word outcome_refusal (piece_numbered state buffer n room)
piece_whole = arrived.piece_whole

pub finish_whole : (state buffer : List ℕ) (room : ℕ) → WholeBehind rest_word (λ e. e.refusal) (finish_numbered state buffer room)
finish_whole = arrived.finish_whole

-- A state in order that was stored in lent numbers is got back whole: over them the calls are those over the state (`Arrivals.antt`).
pub piece_stored : (a : Arrival) → in_order a ≡ true → (s : List ℕ) → 10 ≤ length s → (buffer : List ℕ) (n room : ℕ) → piece_numbered (stored_in a s) buffer n room ≡ piece_of a buffer n room
piece_stored = arrived.piece_again

pub finish_stored : (a : Arrival) → in_order a ≡ true → (s : List ℕ) → 10 ≤ length s → (buffer : List ℕ) (room : ℕ) → finish_numbered (stored_in a s) buffer room ≡ finish_of a buffer room
finish_stored = arrived.finish_again
