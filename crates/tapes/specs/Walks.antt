-- `w LIMIT HEX` and `W LIMIT LINKS COUNT HEX N,N,..`: a tape walked into marked links, over a text.
use Rattle.std.specs.Prelude.{Ok, Err, ℕ, ◌+◌, min, List, ◌++◌, length, take, drop, Option, Some, None}
use Rattle.lent.specs.Marks.{mark_at, marked, kept_from}
use Rattle.lines.specs.Over.{over}
use Rattle.read.specs.Read.{read_answer, read_tape}
use Rattle.sarridok.specs.Walked.{walk_of, links_after}
use Rattle.show.specs.Answers.{bad_text, clean_text, refused_text}
use Rattle.show.specs.Walks.{links_text}
use Rattle.text.specs.Refusals.{Told}
use Rattle.words.specs.Hex.{pairs}
use Rattle.words.specs.Number.{decimal_of}
use Rattle.words.specs.Numbers.{numbers_of}
use Rattle.words.specs.Said.{by_number, by_bytes, by_numbers}
use Rattle.words.specs.Split.{first_word, behind_word}
use Rattle.tapes.specs.declared.walks.Asked.{Asked}

-- How many entries, how deep, into how many links.
abbrev pub asked : ℕ → ℕ → ℕ → Asked
asked count limit room = record { count = count; limit = limit; room = room }

-- The links behind a walk: marked before it.
unfoldable pub links_left : List ℕ → List ℕ → Asked → List ℕ → List ℕ
links_left text tape q links = links_after text tape q.count q.limit (marked mark_at (length links) 0 links)

-- A refused walk may change no link, an accepted one none behind the count.
abbrev pub walked_text : Told Unit → ℕ → List ℕ → List ℕ
walked_text (Ok u) count left = links_text (take count left) ++ clean_text (kept_from mark_at (drop count left) count)
walked_text (Err r) count left = refused_text r ++ clean_text (kept_from mark_at left 0)

-- The answer, and whether the walk left all marks that it may not change.
unfoldable pub walks_text : List ℕ → List ℕ → Asked → List ℕ → List ℕ
walks_text text tape q links = walked_text (walk_of text tape q.count q.limit (length links)) q.count (links_left text tape q links)

-- What is said with so many links, or all that there are, and all afterwards.
unfoldable pub walk_in : List ℕ → List ℕ → Asked → List ℕ → List ℕ × List ℕ
walk_in text tape q links =
    let lent = take q.room links in
    (walks_text text tape q lent, links_left text tape q lent ++ drop q.room links)

-- The walk of a text that was read, into as many links as there are entries and a few behind them; the links afterwards.
abbrev pub read_walk : Told ℕ → List ℕ → ℕ → List ℕ → List ℕ → List ℕ × List ℕ
read_walk (Ok n) text limit tape links = walk_in text tape (asked n limit (min n 65536 + 16)) links
read_walk (Err r) text limit tape links = (refused_text r, links)

-- A text read into a tape, which is then walked: what is said, and the links afterwards.
unfoldable pub walk_of_text : List ℕ → ℕ → List ℕ → List ℕ → List ℕ × List ℕ
walk_of_text text limit tape links = read_walk (read_answer text (length tape)) text limit (read_tape text tape) links

-- `w LIMIT HEX`: a text read, then walked. What is said, and the rooms for the text, the tape and the links afterwards.
unfoldable pub walk_line : List ℕ → List ℕ → List ℕ → List ℕ → List ℕ × List ℕ × List ℕ × List ℕ
walk_line words text tape links =
    let two = behind_word words in
    by_number (decimal_of (first_word words)) (bad_text, text, tape, links) (λ limit.
    let left = over (pairs two) text in
    by_bytes two (length text) (bad_text, left, tape, links) (λ s.
    let walk = walk_of_text s limit tape links in
    (walk.0, left, read_tape s tape, walk.1)))

-- What the first three words of `W` say.
unfoldable pub front_of : List ℕ → Option Asked
front_of words =
    let two = behind_word words in
    by_number (decimal_of (first_word words)) None (λ limit.
    by_number (decimal_of (first_word two)) None (λ room.
    by_number (decimal_of (first_word (behind_word two))) None (λ count. Some (asked count limit room))))

-- What goes on with them, or what is said of a line that is no case.
abbrev pub by_said : {A : Type 0} → Option Asked → A → (Asked → A) → A
by_said (Some q) bad own = own q
by_said None bad own = bad

-- `W LIMIT LINKS COUNT HEX N,N,..`: any tape and any text. What is said, and the rooms for the text, the tape and the links afterwards.
unfoldable pub any_line : List ℕ → List ℕ → List ℕ → List ℕ → List ℕ × List ℕ × List ℕ × List ℕ
any_line words text tape links =
    let four = behind_word (behind_word (behind_word words)) in
    let five = behind_word four in
    by_said (front_of words) (bad_text, text, tape, links) (λ q.
    let left = over (pairs (first_word four)) text in
    by_bytes (first_word four) (length text) (bad_text, left, tape, links) (λ s.
    let stored = over (numbers_of five) tape in
    by_numbers five (length tape) (bad_text, left, stored, links) (λ t.
    let walk = walk_in s t q links in
    (walk.0, left, stored, walk.1))))
