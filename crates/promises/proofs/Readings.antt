-- What is promised of `read`. Each line is a theorem's statement; its proof only says where it is proved. Assumes nothing.
use Rattle.std.proofs.Common.{Ok, Err}
use Prim.Native.Nat.{ℕ, suc, ◌+◌, ◌<◌, ◌≤◌}
use mathlib.Core.Bool.{true, false}
use mathlib.Core.List.{List, ◌++◌}
use mathlib.Core.Logic.{◌↔◌}
use mathlib.Core.Path.{◌≡◌, ap}
use lib.ListN.{drop, length}
use Rattle.text.specs.Judged.{judged_of}
use Rattle.text.specs.Refusals.{Told, unexpected_char}
use Rattle.text.specs.Utf8.{Scalar, encode}
use Rattle.text.specs.declared.refusal.Refusal.{Refusal}
use Rattle.xid.specs.Rows.{Lies, Row, class_at, first_at, last_at}
use Rattle.xid.specs.Table.{table}
use Rattle.xid.specs.Xid.{continues, starts, xid_continue, xid_start}
use Rattle.xid.proofs.TableLaws.{continue_lies, lies_continue, lies_start, start_continues, start_lies, table_apart, table_ranges, table_widest}
use Rattle.comments.specs.Gaps.{gap_of}
use Rattle.comments.specs.declared.gap.Gap.TheVariants.{Clear}
use Rattle.names.specs.Identifiers.{name_len, raw_of}
use Rattle.names.specs.Names.{IsName, IsRawName}
use Rattle.names.specs.Starts.{begins_raw}
use Rattle.names.specs.declared.Identifier.TheVariants.{RawName}
use Rattle.names.proofs.Agree.{name_agrees, raw_agrees}
use Rattle.floats.specs.Grammar.{Float, accepts}
use Rattle.floats.specs.declared.state.State.TheVariants.{Start}
use Rattle.floats.proofs.Decides.{decides}
use Rattle.rows.specs.Order.{former_end, in_order}
use Rattle.rows.specs.Rows.{entries_of, entry_at, room_of}
use Rattle.rows.specs.declared.Entry.{Entry}
use Rattle.reading.specs.Readings.{◌▸◌, entry as then, read_from}
use Rattle.tokens.specs.Ron.{ron_token}
use Rattle.read.specs.Read.{fitted, laid_by, read_answer, read_tape, reading_of}
use Rattle.sarridok.proofs.ReadDetermined.{read_determined}
use Rattle.fields.specs.Names.{raws_fit}
use Rattle.tiled.proofs.RawTiles as raws
use Rattle.reread.proofs.Walkable.{read_walkable}
use Rattle.reread.proofs.WideNames.{read_nothing, starts_name}
use Rattle.tiled.specs.Tiles.{Tiles}
use Rattle.tiled.proofs.ReadTiles as tiles
use Rattle.spelt.specs.Spelt.{Spelt}
use Rattle.spelt.proofs.SpeltRead as spelt
use Rattle.fronts.specs.Fronts.{FrontOf}
use Rattle.fronts.proofs.Calls as fronts
use Rattle.fronts.proofs.Gaps as gaps
use Rattle.given.specs.Given.{Given}
use Rattle.given.proofs.Calls.{read_given}
use Rattle.shutout.specs.ShutOut.{Meets-read, Reader}
use Rattle.shutout.proofs.ShutReaders as readers

-- ---- what it reads

-- The entries of an accepted read and the gaps between them tile the text: gap, entry, gap, .. to the end, each gap as long as its entry says, and each entry's
-- bytes have the form of its kind and detail.
pub read_tiles : (text tape : List ℕ) (n : ℕ) → read_answer text (length tape) ≡ Ok n → Tiles text 0 (entries_of n (read_tape text tape))
read_tiles = tiles.read_tiles

-- The gap of each entry is the distance from the former's end, or from the text's start.
pub read_gaps : (text tape : List ℕ) (n : ℕ) → read_answer text (length tape) ≡ Ok n → (k : ℕ) → k < n
    → former_end 0 (entries_of n (read_tape text tape)) k + (entry_at (read_tape text tape) k).gap ≡ (entry_at (read_tape text tape) k).start
read_gaps text tape n h k below = gaps.ordered_gap (read_tape text tape) n k below (length text) (read_walkable text tape n h)

-- Plain tokens with a blank behind each, marks, names, decimal integers that fit and strings without quote or backslash, are read, and the tape holds
-- exactly them.
pub read_plain : (text tape : List ℕ) (es : List Entry) → Spelt 0 text es → length text ≤ 65536 → length es ≤ room_of (length tape)
    → (read_answer text (length tape) ≡ Ok (length es)) × (entries_of (length es) (read_tape text tape) ≡ es)
read_plain = spelt.spelt_read

-- The tape that an accepted read leaves is in order within the text, and its raw names are raw, so that `walk` over that text never answers 23 of it.
pub read_ordered : (text tape : List ℕ) (n : ℕ) → read_answer text (length tape) ≡ Ok n → in_order (entries_of n (read_tape text tape)) (length text) ≡ true
read_ordered = read_walkable

pub read_raws : (text tape : List ℕ) (n : ℕ) → read_answer text (length tape) ≡ Ok n → raws_fit text (entries_of n (read_tape text tape)) ≡ true
read_raws = raws.read_raws

-- ---- the call

-- 1 and 2 exactly in their cases, and past both exactly where the text is sound.
pub read_front : (text : List ℕ) (numbers : ℕ) → FrontOf text (read_answer text numbers) (fitted (room_of numbers) (reading_of text))
read_front = fronts.read_front

-- Demand 1: a refused read leaves every number of the tape.
pub refused_read : (text tape : List ℕ) (r : Refusal) → read_answer text (length tape) ≡ Err r → read_tape text tape ≡ tape
unfolding read_tape
refused_read text tape r e = ap (λ (t : Told ℕ). laid_by t (reading_of text) tape) e

-- A refusal's number is 1, 2 or one of 4 to 29, and its reason 1 to 8 where that is 13, else 0.
pub read_numbers : (text : List ℕ) (numbers : ℕ) (r : Refusal) → read_answer text numbers ≡ Err r → Given r
read_numbers = read_given

-- Two answers that meet the promise are equal, and so are the tapes.
pub one_read : (text tape : List ℕ) (x y : Told ℕ) (u v : List ℕ) → (x ≡ read_answer text (length tape)) × (u ≡ read_tape text tape)
    → (y ≡ read_answer text (length tape)) × (v ≡ read_tape text tape) → (x ≡ y) × (u ≡ v)
one_read text tape x y u v p q = read_determined text tape x y u v (record { answer = p.0; tape_after = p.1 }) (record { answer = q.0; tape_after = q.1 })

-- ---- what is shut out: no reader that meets the promise is such

module _ (f : Reader) (meets : Meets-read f) where
  -- One that refuses everything; and so none of the plain texts, if there is room.
  pub not_all_refused : ((text tape : List ℕ) → (r : Refusal) × ((f text tape).0 ≡ Err r)) → ⊥
  not_all_refused = readers.not_all_refused f meets

  pub refuses_no_plain_text : (text tape : List ℕ) (es : List Entry) → Spelt 0 text es → length text ≤ 65536 → length es ≤ room_of (length tape) → (r : Refusal) → (f text tape).0 ≡ Err r → ⊥
  refuses_no_plain_text = readers.refuses_none f meets

  -- One that gives one tape to all texts; plain texts are told apart by answer and tape.
  pub not_one_tape : ((text text' tape : List ℕ) → (f text tape).1 ≡ (f text' tape).1) → ⊥
  not_one_tape = readers.not_one_tape f meets

  -- One that accepts and writes nothing, or counts none.
  pub not_nothing_written : ((text tape : List ℕ) (n : ℕ) → (f text tape).0 ≡ Ok n → (f text tape).1 ≡ tape) → ⊥
  not_nothing_written = readers.not_nothing_written f meets

  pub not_none_counted : ((text tape : List ℕ) (n : ℕ) → (f text tape).0 ≡ Ok n → n ≡ 0) → ⊥
  not_none_counted = readers.not_none_counted f meets

-- There is one that does.
pub some_reader : (f : Reader) × Meets-read f
some_reader = readers.some_reader

-- ---- floats

-- A float is exactly a text of the grammar of `f64::from_str`.
pub floats_read : (s : List ℕ) → (accepts s Start ≡ true) ↔ Float s
floats_read = decides

-- ---- names (change request 5)

-- A name is `_` or a character of XID_Start, and as many of XID_Continue as stand behind it; a raw name likewise behind `r#`.
pub name_written : (s : List ℕ) (n : ℕ) → 0 < n → (name_len s ≡ n) ↔ IsName s n
name_written = name_agrees

pub raw_name_written : (s : List ℕ) (n : ℕ) → ((begins_raw s ≡ true) × (raw_of s ≡ RawName n)) ↔ IsRawName s n
raw_name_written = raw_agrees

-- A character above U+007F, behind a gap, that starts a name is read as one; one that starts nothing is 5 at its place.
pub name_read : (c : ℕ) (t : List ℕ) → Scalar c → 0x80 ≤ c → (text : List ℕ) (at g : ℕ) → gap_of (drop at text) ≡ Clear g → drop g (drop at text) ≡ encode c ++ t → xid_start c ≡ true
    → (n : ℕ) × IsName (encode c ++ t) n × (read_from ron_token text at ≡ then (record { kind = 9; start = at + g; end = at + (g + n); detail = 0; gap = g }) (read_from ron_token text (at + (g + n))))
name_read = starts_name

pub nothing_read : (c : ℕ) (t : List ℕ) → Scalar c → 0x80 ≤ c → (text : List ℕ) (at g : ℕ) → gap_of (drop at text) ≡ Clear g → drop g (drop at text) ≡ encode c ++ t → (es : List Entry) (numbers : ℕ)
    → judged_of text ≡ Ok tt → reading_of text ≡ es ▸ read_from ron_token text at → xid_start c ≡ false → read_answer text numbers ≡ Err (unexpected_char (at + g))
nothing_read = read_nothing

-- The table's rows are ranges, sorted and apart: none shares a character with another, and none that touch are of one class.
pub rows_range : (j : ℕ) → Row table j → first_at table j ≤ last_at table j
rows_range = table_ranges

pub rows_apart : (i j : ℕ) → i < j → Row table j → last_at table i < first_at table j
rows_apart = table_apart

pub rows_widest : (j : ℕ) → Row table (suc j) → first_at table (suc j) ≡ suc (last_at table j) → class_at table (suc j) ≡ class_at table j → ⊥
rows_widest = table_widest

-- Every start character is also a continue character.
pub start_goes_on : (c : ℕ) → xid_start c ≡ true → xid_continue c ≡ true
start_goes_on = start_continues

-- The lookup equals membership: the code's tests answer `xid_start` and `xid_continue` (crates/xid/src/search.rt), and these hold exactly of what lies in a
-- row of the class.
pub start_member : (c : ℕ) → (xid_start c ≡ true) ↔ ((j : ℕ) × Lies starts table c j)
start_member c = (start_lies c, λ w. lies_start c w.0 w.1)

pub continue_member : (c : ℕ) → (xid_continue c ≡ true) ↔ ((j : ℕ) × Lies continues table c j)
continue_member c = (continue_lies c, λ w. lies_continue c w.0 w.1)
