-- What a reading answers, by its count and the room. Assumes nothing.
use Rattle.std.proofs.Common.{Ok, Err}
use Prim.Native.Nat.{ℕ, ◌<◌, ◌≤◌}
use native.Mathlib.Omega.{arith}
use mathlib.Core.List.{List}
use mathlib.Core.Path.{◌≡◌, ap}
use lib.ListN.{length, take}
use lib.Seq.{take_all}
use borrow.Author.Tests.{le-ltb, lt-ltb}
use Rattle.reading.proofs.Entries.{counted_accepted}
use Rattle.reading.specs.Readings.{Reading, counted, entries}
use Rattle.rows.specs.Rows.{laid, room_of}
use Rattle.text.specs.Judged.{judged_of}
use Rattle.rows.specs.declared.Entry.{Entry}
use Rattle.text.specs.Refusals.{Told, no_room}
use Rattle.text.specs.declared.refusal.Refusal.{Refusal}
use Rattle.read.specs.Read.{fitted, laid_by, read_answer, read_tape, reading_of, room_for}

module _ (room : ℕ) (r : Reading) where
  pub fitted_refused : (d : Refusal) → counted 0 r ≡ Err d → fitted room r ≡ Err d
  fitted_refused d e = ap (room_for room) e

  pub fitted_full : (n : ℕ) → counted 0 r ≡ Ok n → room < n → fitted room r ≡ Err no_room
  fitted_full n e h = rw (e, lt-ltb room n h)

  pub fitted_fits : (n : ℕ) → counted 0 r ≡ Ok n → n ≤ room → fitted room r ≡ Ok n
  fitted_fits n e h = rw (e, le-ltb room n h)

-- all entries of a complete reading are as many as were counted
pub all_laid : (r : Reading) (n : ℕ) (tape : List ℕ) → counted 0 r ≡ Ok n → laid (take n (entries r)) tape ≡ laid (entries r) tape
all_laid r n tape e = ap (λ (es : List Entry). laid es tape) (take_all n (entries r) (omega (arith, (counted_accepted r 0 n e).count_is)))

-- ---- the call, by the judgement of its text

module _ (text : List ℕ) where
  pub read_refused : (numbers : ℕ) (r : Refusal) → judged_of text ≡ Err r → read_answer text numbers ≡ Err r
  unfolding read_answer
  read_refused numbers r e = rw e

  pub read_fit : (numbers : ℕ) → judged_of text ≡ Ok tt → read_answer text numbers ≡ fitted (room_of numbers) (reading_of text)
  unfolding read_answer
  read_fit numbers e = rw e

  pub tape-by : (tape : List ℕ) (a : Told ℕ) → a ≡ read_answer text (length tape) → read_tape text tape ≡ laid_by a (reading_of text) tape
  unfolding read_tape
  tape-by tape a e = rw e
