-- `I LISTROOM CODEROOM COUNT E,E,.. HEX N,N,..` and `n HEX`: a list of integers over a text and its tape.
use Rattle.std.specs.Prelude.{Ok, Err, ℕ, cond, List, ltb, length, Option, Some, None}
use Rattle.lines.specs.Over.{over}
use Rattle.read.specs.Read.{read_answer, read_tape}
use Rattle.show.specs.Answers.{bad_text, refused_text}
use Rattle.text.specs.Refusals.{Told}
use Rattle.words.specs.Hex.{pairs}
use Rattle.words.specs.Number.{decimal_of}
use Rattle.words.specs.Numbers.{numbers_of}
use Rattle.words.specs.Said.{by_number, by_bytes, by_numbers}
use Rattle.words.specs.Split.{first_word, behind_word}
use Rattle.lists.specs.Gathers.{gathered}
use Rattle.lists.specs.Listed.{asked, most_for, list_in}
use Rattle.lists.specs.declared.listed.Asked.{Asked}

-- What is said, and the rooms for the text, the tape, the list, the magnitudes and the codes afterwards.
abbrev pub Line : Type 0
Line = List ℕ × (List ℕ × List ℕ × List ℕ × List ℕ × List ℕ)

-- What the first three words of `I` say.
unfoldable pub front_of : List ℕ → Option Asked
front_of words =
    let two = behind_word words in
    by_number (decimal_of (first_word words)) None (λ magnitudes.
    by_number (decimal_of (first_word two)) None (λ codes.
    by_number (decimal_of (first_word (behind_word two))) None (λ count. Some (asked magnitudes codes count))))

-- What goes on with them, or what is said of a line that is no case.
abbrev pub by_said : {A : Type 0} → Option Asked → A → (Asked → A) → A
by_said (Some q) bad own = own q
by_said None bad own = bad

-- By a list of entries: what goes on with it, where it has at most 65,536.
abbrev pub by_items : {A : Type 0} → List ℕ → ℕ → A → (List ℕ → A) → A
by_items word room bad own = by_numbers word room bad (λ items. cond (ltb 65536 (length items)) bad (own items))

-- `HEX N,N,..` behind the list: what is said, and the rooms but the list's afterwards.
unfoldable pub over_tape : Asked → (items words text tape numbers spare : List ℕ) → List ℕ × (List ℕ × List ℕ × List ℕ × List ℕ)
over_tape q items words text tape numbers spare =
    let two = behind_word words in
    let left = over (pairs (first_word words)) text in
    by_bytes (first_word words) (length text) (bad_text, (left, tape, numbers, spare)) (λ s.
    let stored = over (numbers_of two) tape in
    by_numbers two (length tape) (bad_text, (left, stored, numbers, spare)) (λ t.
    let list = list_in s t q items numbers spare in
    (list.0, (left, stored, list.1.0, list.1.1))))

-- `I LISTROOM CODEROOM COUNT E,E,.. HEX N,N,..`: any list over any tape and any text.
unfoldable pub any_line : (words text tape links numbers spare : List ℕ) → Line
any_line words text tape links numbers spare =
    let four = behind_word (behind_word (behind_word words)) in
    by_said (front_of words) (bad_text, (text, tape, links, numbers, spare)) (λ q.
    let stored = over (numbers_of (first_word four)) links in
    by_items (first_word four) (length links) (bad_text, (text, tape, stored, numbers, spare)) (λ items.
    let rest = over_tape q items (behind_word four) text tape numbers spare in
    (rest.0, (rest.1.0, rest.1.1, stored, rest.1.2, rest.1.3))))

-- All integers of a text that was read, with room enough: what is said, and the list, the magnitudes and the codes afterwards.
abbrev pub read_list : Told ℕ → (text tape links numbers spare : List ℕ) → List ℕ × (List ℕ × List ℕ × List ℕ)
read_list (Ok n) text tape links numbers spare =
    let items = gathered tape n (length links) in
    let room = most_for (length items) in
    let list = list_in text tape (asked room room n) items numbers spare in
    (list.0, (over items links, list.1.0, list.1.1))
read_list (Err r) text tape links numbers spare = (refused_text r, (links, numbers, spare))

-- A text read into a tape, and then all its integers.
unfoldable pub list_of_text : (text tape links numbers spare : List ℕ) → List ℕ × (List ℕ × List ℕ × List ℕ)
list_of_text text tape links numbers spare = read_list (read_answer text (length tape)) text (read_tape text tape) links numbers spare

-- `n HEX`: all integers of a text.
unfoldable pub list_line : (words text tape links numbers spare : List ℕ) → Line
list_line words text tape links numbers spare =
    let left = over (pairs words) text in
    by_bytes words (length text) (bad_text, (left, tape, links, numbers, spare)) (λ s.
    let list = list_of_text s tape links numbers spare in
    (list.0, (left, read_tape s tape, list.1.0, list.1.1, list.1.2)))
