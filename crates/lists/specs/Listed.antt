-- The integers that a list of entries names, read by one call into two marked buffers.
use Rattle.std.specs.Prelude.{Ok, Err, ℕ, ◌+◌, min, Bool, ◌&&◌, List, ◌++◌, length, take, drop}
use Rattle.lent.specs.Marks.{mark_at, byte_mark_at, marked, kept_from}
use Rattle.sarridok.specs.Integers.{done, integers_of, magnitudes_after, codes_after}
use Rattle.show.specs.Answers.{clean_text, refused_text}
use Rattle.show.specs.Many.{many_text}
use Rattle.text.specs.Refusals.{Told}
use Rattle.lists.specs.declared.listed.Asked.{Asked}

-- How long the two buffers are, and how many entries the tape has.
abbrev pub asked : ℕ → ℕ → ℕ → Asked
asked magnitudes codes count = record { magnitudes = magnitudes; codes = codes; count = count }

-- The magnitudes and the codes behind the call: both are marked before it.
unfoldable pub buffers_left : (text tape : List ℕ) (count : ℕ) (items magnitudes codes : List ℕ) → List ℕ × List ℕ
buffers_left text tape count items magnitudes codes =
    let ms = marked mark_at (length magnitudes) 0 magnitudes in
    let cs = marked byte_mark_at (length codes) 0 codes in
    (magnitudes_after text tape count items ms cs, codes_after text tape count items ms cs)

-- Both buffers have their marks from a place on.
unfoldable pub both_kept : ℕ → List ℕ × List ℕ → Bool
both_kept from left = kept_from mark_at (drop from left.0) from && kept_from byte_mark_at (drop from left.1) from

-- What is said of a list of n: a refused call may change neither buffer, an accepted one nothing behind the list's length.
abbrev pub called_text : Told Unit → ℕ → List ℕ × List ℕ → List ℕ
called_text (Ok u) n left = many_text (take n left.0) (take n left.1) ++ clean_text (both_kept n left)
called_text (Err r) n left = refused_text r ++ clean_text (both_kept 0 left)

-- The answer, and whether the call left all marks that it may not change.
unfoldable pub list_text : (text tape : List ℕ) (count : ℕ) (items magnitudes codes : List ℕ) → List ℕ
list_text text tape count items magnitudes codes =
    called_text (done (integers_of text tape count items (length magnitudes) (length codes))) (length items)
    (buffers_left text tape count items magnitudes codes)

-- As many as a list has, and a few behind them.
unfoldable pub most_for : ℕ → ℕ
most_for items = min items 65536 + 16

-- A buffer of so many, but no more than that, nor than there are.
unfoldable pub room_for : ℕ → ℕ → ℕ → ℕ
room_for room items there = min (min room (most_for items)) there

-- What is said with buffers lent from the numbers and the spare bytes, and these afterwards.
unfoldable pub list_in : (text tape : List ℕ) → Asked → (items numbers spare : List ℕ) → List ℕ × (List ℕ × List ℕ)
list_in text tape q items numbers spare =
    let m = room_for q.magnitudes (length items) (length numbers) in
    let k = room_for q.codes (length items) (length spare) in
    let left = buffers_left text tape q.count items (take m numbers) (take k spare) in
    (list_text text tape q.count items (take m numbers) (take k spare), (left.0 ++ drop m numbers, left.1 ++ drop k spare))
