-- The lines of contents: one entry with room enough, and any tape. Assumes nothing.
use Rattle.std.specs.Prelude.{Option, Some, None}
use Prim.Native.Nat.{ℕ, ◌-◌, ◌^◌}
use mathlib.Core.List.{List, [], ◌∷◌}
use mathlib.Core.Path.{◌≡◌, sym, ap, ◌∙◌}
use lib.ListN.{length}
use Rattle.lines.specs.Out.{put}
use Rattle.lines.specs.Over.{over}
use Rattle.show.specs.Answers.{bad_text}
use Rattle.words.specs.Hex.{hex_in, pairs}
use Rattle.words.specs.Number.{decimal_of}
use Rattle.words.specs.Numbers.{numbers_in, numbers_of}
use Rattle.words.specs.Said.{by_small, by_list, by_bytes, by_numbers}
use Rattle.words.specs.Small.{small_of}
use Rattle.words.specs.Split.{first_word, behind_word}
use Rattle.cases.specs.Contents.{asked, contents_in, contents_line, front_of, by_said, any_line}
use Rattle.cases.specs.declared.contents.Asked.{Asked}
use Rattle.words.proofs.DecidedLaws.{three_first, three_second, three_third, three_all, bytes_bad, bytes_good}

-- ---- one entry

module _ (words text spare : List ℕ) where
  abbrev Three : Type 0
  Three = List ℕ × List ℕ × List ℕ

  abbrev word : List ℕ
  word = behind_word (behind_word words)

  abbrev left : List ℕ
  left = over (pairs word) text

  abbrev bad : Three
  bad = (bad_text, text, spare)

  -- what a decoding into the spare bytes says of one entry
  abbrev pub entry_in : ℕ → ℕ → List ℕ → List ℕ × List ℕ
  entry_in kind start s = contents_in s (kind ∷ start ∷ 0 ∷ 0 ∷ 0 ∷ []) (asked 0 1 (2 ^ 64 - 1)) spare

  abbrev own_of : ℕ → ℕ → List ℕ → Three
  own_of kind start s = ((entry_in kind start s).0, left, (entry_in kind start s).1)

  abbrev on_bytes : ℕ → ℕ → Three
  on_bytes kind start = by_bytes word (length text) (bad_text, left, spare) (λ s. own_of kind start s)

  abbrev on_start : ℕ → Three
  on_start kind = by_small (small_of (first_word (behind_word words))) bad (λ start. on_bytes kind start)

  pub no_kind : small_of (first_word words) ≡ None → contents_line words text spare ≡ bad
  unfolding contents_line
  no_kind e = ap (λ (d : Option ℕ). by_small d bad (λ kind. on_start kind)) e

  module _ (kind : ℕ) (e : small_of (first_word words) ≡ Some kind) where
    kind_on : contents_line words text spare ≡ on_start kind
    unfolding contents_line
    kind_on = ap (λ (d : Option ℕ). by_small d bad (λ kind. on_start kind)) e

    pub no_start : small_of (first_word (behind_word words)) ≡ None → contents_line words text spare ≡ bad
    no_start f = kind_on ∙ ap (λ (d : Option ℕ). by_small d bad (λ start. on_bytes kind start)) f

    module _ (start : ℕ) (f : small_of (first_word (behind_word words)) ≡ Some start) where
      start_on : contents_line words text spare ≡ on_bytes kind start
      start_on = kind_on ∙ ap (λ (d : Option ℕ). by_small d bad (λ start. on_bytes kind start)) f

      pub no_bytes : hex_in word (length text) ≡ None → contents_line words text spare ≡ (bad_text, left, spare)
      no_bytes h = start_on ∙ bytes_bad word (length text) (bad_text, left, spare) (λ s. own_of kind start s) h

      pub entry_line : (n : ℕ) → hex_in word (length text) ≡ Some n → contents_line words text spare ≡ own_of kind start (pairs word)
      entry_line n h = start_on ∙ bytes_good word (length text) (bad_text, left, spare) (λ s. own_of kind start s) n h

-- ---- any tape

module _ (words : List ℕ) where
  abbrev first : Option ℕ
  first = decimal_of (first_word words)

  abbrev second : Option ℕ
  second = decimal_of (first_word (behind_word words))

  abbrev third : Option ℕ
  third = decimal_of (first_word (behind_word (behind_word words)))

  abbrev asks : ℕ → ℕ → ℕ → Option Asked
  asks entry count buffer = Some (asked entry count buffer)

  pub no_entry : first ≡ None → None ≡ front_of words
  unfolding front_of
  no_entry e = sym (three_first first second third None asks e)

  pub no_count : (a : ℕ) → first ≡ Some a → second ≡ None → None ≡ front_of words
  unfolding front_of
  no_count a e f = sym (three_second first second third None asks a e f)

  pub no_buffer : (a b : ℕ) → first ≡ Some a → second ≡ Some b → third ≡ None → None ≡ front_of words
  unfolding front_of
  no_buffer a b e f g = sym (three_third first second third None asks a b e f g)

  pub asks_at : (a b n : ℕ) → first ≡ Some a → second ≡ Some b → third ≡ Some n → Some (asked a b n) ≡ front_of words
  unfolding front_of
  asks_at a b n e f g = sym (three_all first second third None asks a b n e f g)

module _ (words text tape spare : List ℕ) where
  abbrev Four : Type 0
  Four = List ℕ × List ℕ × List ℕ × List ℕ

  abbrev fourth : List ℕ
  fourth = behind_word (behind_word (behind_word words))

  abbrev left_of : List ℕ
  left_of = over (pairs (first_word fourth)) text

  abbrev stored_of : List ℕ
  stored_of = over (numbers_of (behind_word fourth)) tape

  abbrev bad_four : Four
  bad_four = (bad_text, text, tape, spare)

  abbrev tape_own : Asked → List ℕ → List ℕ → Four
  tape_own q s t = ((contents_in s t q spare).0, left_of, stored_of, (contents_in s t q spare).1)

  abbrev on_tape : Asked → List ℕ → Four
  on_tape q s = by_numbers (behind_word fourth) (length tape) (bad_text, left_of, stored_of, spare) (λ t. tape_own q s t)

  abbrev on_asked : Asked → Four
  on_asked q = by_bytes (first_word fourth) (length text) (bad_text, left_of, tape, spare) (λ s. on_tape q s)

  pub not_asked : front_of words ≡ None → any_line words text tape spare ≡ bad_four
  unfolding any_line
  not_asked e = ap (λ (a : Option Asked). by_said a bad_four (λ q. on_asked q)) e

  module _ (q : Asked) (e : front_of words ≡ Some q) where
    asked_on : any_line words text tape spare ≡ on_asked q
    unfolding any_line
    asked_on = ap (λ (a : Option Asked). by_said a bad_four (λ q. on_asked q)) e

    pub no_text : hex_in (first_word fourth) (length text) ≡ None → any_line words text tape spare ≡ (bad_text, left_of, tape, spare)
    no_text h = asked_on ∙ bytes_bad (first_word fourth) (length text) (bad_text, left_of, tape, spare) (λ s. on_tape q s) h

    module _ (n : ℕ) (h : hex_in (first_word fourth) (length text) ≡ Some n) where
      text_on : any_line words text tape spare ≡ on_tape q (pairs (first_word fourth))
      text_on = asked_on ∙ bytes_good (first_word fourth) (length text) (bad_text, left_of, tape, spare) (λ s. on_tape q s) n h

      pub no_tape : numbers_in (behind_word fourth) (length tape) ≡ None → any_line words text tape spare ≡ (bad_text, left_of, stored_of, spare)
      no_tape k =
          text_on
          ∙ ap (λ (c : Option ℕ). by_list c (bad_text, left_of, stored_of, spare) (tape_own q (pairs (first_word fourth)) (numbers_of (behind_word fourth)))) k

      pub tape_line : (m : ℕ) → numbers_in (behind_word fourth) (length tape) ≡ Some m
          → any_line words text tape spare ≡ tape_own q (pairs (first_word fourth)) (numbers_of (behind_word fourth))
      tape_line m k =
          text_on
          ∙ ap (λ (c : Option ℕ). by_list c (bad_text, left_of, stored_of, spare) (tape_own q (pairs (first_word fourth)) (numbers_of (behind_word fourth)))) k

-- what is said of a text and a tape that are equal to others
pub said_same : (q : Asked) (spare s s' t t' last : List ℕ) (out end : List ℕ × ℕ) → s ≡ s' → t ≡ t'
    → (end ≡ put out (contents_in s t q spare).0) × (last ≡ (contents_in s t q spare).1)
    → (end ≡ put out (contents_in s' t' q spare).0) × (last ≡ (contents_in s' t' q spare).1)
said_same q spare s s' t t' last out end e f both = (
  both.0 ∙ ap (λ (x : List ℕ). put out (contents_in x t q spare).0) e ∙ ap (λ (x : List ℕ). put out (contents_in s' x q spare).0) f,
  both.1 ∙ ap (λ (x : List ℕ). (contents_in x t q spare).1) e ∙ ap (λ (x : List ℕ). (contents_in s' x q spare).1) f,
)
