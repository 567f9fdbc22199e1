-- What the lines say, word by word. Assumes nothing.
use Rattle.std.proofs.Common.{Ok}
use Rattle.std.specs.Prelude.{Option, Some, None}
use Prim.Native.Nat.{ℕ, ◌-◌, ◌<◌, ◌≤◌}
use mathlib.Core.Bool.{Bool, true, false, cond}
use mathlib.Core.List.{List}
use mathlib.Core.Path.{◌≡◌, refl, sym, ap, ◌∙◌}
use lib.Dec.{ltb}
use lib.ListN.{length, take}
use borrow.Author.Tests.{lt-ltb, le-ltb}
use Rattle.lines.specs.Out.{put}
use Rattle.lines.specs.Over.{over}
use Rattle.read.specs.Read.{read_answer, read_tape}
use Rattle.show.specs.Answers.{bad_text}
use Rattle.text.specs.Refusals.{Told}
use Rattle.words.specs.Hex.{hex_in, pairs}
use Rattle.words.specs.Number.{decimal_of}
use Rattle.words.specs.Numbers.{numbers_in, numbers_of}
use Rattle.words.specs.Said.{by_hex, by_list}
use Rattle.words.specs.Split.{first_word, behind_word}
use Rattle.words.proofs.DecidedLaws.{three_first, three_second, three_third, three_all}
use Rattle.words.proofs.SaidLaws.{part_said, tape_said}
use Rattle.lists.specs.Gathers.{gathered}
use Rattle.lists.specs.Listed.{asked, most_for, list_in}
use Rattle.lists.specs.Lists.{Line, front_of, by_said, over_tape, any_line, read_list, list_of_text, list_line}
use Rattle.lists.specs.declared.listed.Asked.{Asked}
use Rattle.lists.proofs.GatherLaws.{gathered_said}

abbrev pub Two : Type 0
Two = List ℕ × List ℕ

abbrev pub Three : Type 0
Three = List ℕ × List ℕ × List ℕ

abbrev pub Four : Type 0
Four = List ℕ × List ℕ × List ℕ × List ℕ

abbrev pub Five : Type 0
Five = List ℕ × List ℕ × List ℕ × List ℕ × List ℕ

-- a line whose answer and rooms are known
says_line : {A : Type 0} (out end : List ℕ × ℕ) (said : List ℕ) (s a : A) (line : List ℕ × A) → line ≡ (said, a) → end ≡ put out said → s ≡ a
    → (end ≡ put out line.0) × (s ≡ line.1)
says_line {A} out end said s a line e p q = (p ∙ sym (ap (λ (x : List ℕ × A). put out x.0) e), q ∙ sym (ap (λ (x : List ℕ × A). x.1) e))

-- ---- the first three words of `I`

module _ (words : List ℕ) where
  abbrev first : Option ℕ
  first = decimal_of (first_word words)

  abbrev second : Option ℕ
  second = decimal_of (first_word (behind_word words))

  abbrev third : Option ℕ
  third = decimal_of (first_word (behind_word (behind_word words)))

  abbrev asks : ℕ → ℕ → ℕ → Option Asked
  asks magnitudes codes count = Some (asked magnitudes codes count)

  pub no_magnitudes : first ≡ None → None ≡ front_of words
  unfolding front_of
  no_magnitudes e = sym (three_first first second third None asks e)

  pub no_codes : (a : ℕ) → first ≡ Some a → second ≡ None → None ≡ front_of words
  unfolding front_of
  no_codes a e f = sym (three_second first second third None asks a e f)

  pub no_count : (a b : ℕ) → first ≡ Some a → second ≡ Some b → third ≡ None → None ≡ front_of words
  unfolding front_of
  no_count a b e f g = sym (three_third first second third None asks a b e f g)

  pub asks_at : (a b n : ℕ) → first ≡ Some a → second ≡ Some b → third ≡ Some n → Some (asked a b n) ≡ front_of words
  unfolding front_of
  asks_at a b n e f g = sym (three_all first second third None asks a b n e f g)

-- ---- `HEX N,N,..` behind the list

module _ (q : Asked) (items words text tape numbers spare : List ℕ) where
  abbrev word : List ℕ
  word = first_word words

  abbrev behind : List ℕ
  behind = behind_word words

  -- what the rooms for text and tape hold afterwards
  abbrev held_text : List ℕ
  held_text = over (pairs word) text

  abbrev held_tape : List ℕ
  held_tape = over (numbers_of behind) tape

  abbrev over_own : List ℕ → List ℕ → List ℕ × Four
  over_own s t = let list = list_in s t q items numbers spare in (list.0, (held_text, held_tape, list.1.0, list.1.1))

  -- by what the words say
  abbrev over_by : Option ℕ → Option ℕ → List ℕ × Four
  over_by h k =
      by_hex h (bad_text, (held_text, tape, numbers, spare)) (by_list k (bad_text, (held_text, held_tape, numbers, spare)) (over_own (pairs word) (numbers_of behind)))

  over_is : (h : Option ℕ) (k : Option ℕ) → hex_in word (length text) ≡ h → numbers_in behind (length tape) ≡ k
      → over_tape q items words text tape numbers spare ≡ over_by h k
  unfolding over_tape
  over_is h k e f = ap (λ (x : Option ℕ). over_by x (numbers_in behind (length tape))) e ∙ ap (λ (x : Option ℕ). over_by h x) f

  abbrev Says : List ℕ × ℕ → List ℕ × ℕ → Four → Type 0
  Says out end rooms =
      (end ≡ put out (over_tape q items words text tape numbers spare).0) × (rooms ≡ (over_tape q items words text tape numbers spare).1)

  module _ (out end : List ℕ × ℕ) (left : List ℕ) (l : left ≡ held_text) where
    pub over_no_text : hex_in word (length text) ≡ None → end ≡ put out bad_text → Says out end (left, tape, numbers, spare)
    over_no_text e p =
        says_line out end bad_text (left, tape, numbers, spare) (held_text, tape, numbers, spare) (over_tape q items words text tape numbers spare)
        (over_is None _ e refl) p (ap (λ (x : List ℕ). (x, tape, numbers, spare)) l)

    module _ (n : ℕ) (e : hex_in word (length text) ≡ Some n) (stored : List ℕ) (r : stored ≡ held_tape) where
      holds : (a b : List ℕ) → ◌≡◌ {A = Four} (left, stored, a, b) (held_text, held_tape, a, b)
      holds a b = ap (λ (x : List ℕ). (x, stored, a, b)) l ∙ ap (λ (x : List ℕ). (held_text, x, a, b)) r

      pub over_no_tape : numbers_in behind (length tape) ≡ None → end ≡ put out bad_text → Says out end (left, stored, numbers, spare)
      over_no_tape f p =
          says_line out end bad_text (left, stored, numbers, spare) (held_text, held_tape, numbers, spare) (over_tape q items words text tape numbers spare)
          (over_is (Some n) None e f) p (holds numbers spare)

      pub over_goes : (m : ℕ) → numbers_in behind (length tape) ≡ Some m → (s t : List ℕ) → s ≡ take (n - 0) left → t ≡ take m stored
          → (ms cs : List ℕ) → end ≡ put out (list_in s t q items numbers spare).0 → (ms, cs) ≡ (list_in s t q items numbers spare).1
          → Says out end (left, stored, ms, cs)
      over_goes m f s t ls rt ms cs p b =
          let same_text : s ≡ pairs word = part_said word text left s n e l ls in
          let same-tape : t ≡ numbers_of behind = tape_said behind tape stored t m f r rt in
          says_line out end (list_in s t q items numbers spare).0 (left, stored, ms, cs)
          (held_text, held_tape, (list_in s t q items numbers spare).1.0, (list_in s t q items numbers spare).1.1) (over_tape q items words text tape numbers spare)
          (over_is (Some n) (Some m) e f ∙ ap (λ (u : List ℕ). over_own u (numbers_of behind)) (sym same_text) ∙ ap (λ (u : List ℕ). over_own s u) (sym same-tape))
          p (holds ms cs ∙ ap (λ (x : Two). (held_text, held_tape, x.0, x.1)) b)

-- ---- `I LISTROOM CODEROOM COUNT E,E,.. HEX N,N,..`

-- the fourth word and those behind it
abbrev pub behind3 : List ℕ → List ℕ
behind3 words = behind_word (behind_word (behind_word words))

pub behinds : (words a b d : List ℕ) → a ≡ behind_word words → b ≡ behind_word a → d ≡ behind_word b → d ≡ behind3 words
behinds words a b d e f g = g ∙ ap (λ (s : List ℕ). behind_word s) f ∙ ap (λ (s : List ℕ). behind_word (behind_word s)) e

-- the fourth word, and the words behind it
abbrev pub word4 : List ℕ → List ℕ
word4 words = first_word (behind3 words)

abbrev pub behind4 : List ℕ → List ℕ
behind4 words = behind_word (behind3 words)

module _ (words text tape links numbers spare : List ℕ) where
  -- what the room for the list holds afterwards
  abbrev held_list : List ℕ
  held_list = over (numbers_of (word4 words)) links

  abbrev any_own : Asked → List ℕ → List ℕ → Line
  any_own q items w =
      let rest = over_tape q items w text tape numbers spare in (rest.0, (rest.1.0, rest.1.1, held_list, rest.1.2, rest.1.3))

  abbrev any_bad : Line
  any_bad = (bad_text, (text, tape, held_list, numbers, spare))

  -- by what the words say
  abbrev any_by : Option Asked → Option ℕ → Bool → Line
  any_by d k b =
      by_said d (bad_text, (text, tape, links, numbers, spare)) (λ q.
      by_list k any_bad (cond b any_bad (any_own q (numbers_of (word4 words)) (behind4 words))))

  any_is : (d : Option Asked) (k : Option ℕ) (b : Bool) → front_of words ≡ d → numbers_in (word4 words) (length links) ≡ k
      → ltb 65536 (length (numbers_of (word4 words))) ≡ b → any_line words text tape links numbers spare ≡ any_by d k b
  unfolding any_line
  any_is d k b e f g =
      ap (λ (x : Option Asked). any_by x (numbers_in (word4 words) (length links)) (ltb 65536 (length (numbers_of (word4 words))))) e
      ∙ ap (λ (x : Option ℕ). any_by d x (ltb 65536 (length (numbers_of (word4 words))))) f ∙ ap (λ (x : Bool). any_by d k x) g

  module _ (out end : List ℕ × ℕ) where
    abbrev AnySays : Five → Type 0
    AnySays rooms =
        (end ≡ put out (any_line words text tape links numbers spare).0) × (rooms ≡ (any_line words text tape links numbers spare).1)

    pub any_no_front : front_of words ≡ None → end ≡ put out bad_text → AnySays (text, tape, links, numbers, spare)
    any_no_front e p =
        says_line out end bad_text (text, tape, links, numbers, spare) (text, tape, links, numbers, spare) (any_line words text tape links numbers spare)
        (any_is None _ _ e refl refl) p refl

    module _ (q : Asked) (e : front_of words ≡ Some q) (stored : List ℕ) (l : stored ≡ held_list) where
      says_bad : any_line words text tape links numbers spare ≡ any_bad → end ≡ put out bad_text → AnySays (text, tape, stored, numbers, spare)
      says_bad a p =
          says_line out end bad_text (text, tape, stored, numbers, spare) (text, tape, held_list, numbers, spare) (any_line words text tape links numbers spare)
          a p (ap (λ (x : List ℕ). (text, tape, x, numbers, spare)) l)

      pub any_no_list : numbers_in (word4 words) (length links) ≡ None → end ≡ put out bad_text → AnySays (text, tape, stored, numbers, spare)
      any_no_list f p = says_bad (any_is (Some q) None _ e f refl) p

      module _ (k : ℕ) (f : numbers_in (word4 words) (length links) ≡ Some k) (items : List ℕ) (i : items ≡ take k stored) where
        same_items : items ≡ numbers_of (word4 words)
        same_items = tape_said (word4 words) links stored items k f l i

        pub any_long : 65536 < length items → end ≡ put out bad_text → AnySays (text, tape, stored, numbers, spare)
        any_long h p =
            says_bad (any_is (Some q) (Some k) true e f (ap (λ (s : List ℕ). ltb 65536 (length s)) (sym same_items) ∙ lt-ltb 65536 (length items) h)) p

        pub any_goes : length items ≤ 65536 → (w : List ℕ) → w ≡ behind4 words → (left read ms cs : List ℕ)
            → (end ≡ put out (over_tape q items w text tape numbers spare).0) × ((left, read, ms, cs) ≡ (over_tape q items w text tape numbers spare).1)
            → AnySays (left, read, stored, ms, cs)
        any_goes h w v left read ms cs a =
            let rest : List ℕ × Four = over_tape q items w text tape numbers spare in
            says_line out end rest.0 (left, read, stored, ms, cs) (rest.1.0, rest.1.1, held_list, rest.1.2, rest.1.3)
            (any_line words text tape links numbers spare)
            (any_is (Some q) (Some k) false e f (ap (λ (s : List ℕ). ltb 65536 (length s)) (sym same_items) ∙ le-ltb 65536 (length items) h)
            ∙ ap (λ (s : List ℕ). any_own q s (behind4 words)) (sym same_items) ∙ ap (λ (s : List ℕ). any_own q items s) (sym v))
            a.0 (ap (λ (x : Four). (x.0, x.1, stored, x.2, x.3)) a.1 ∙ ap (λ (x : List ℕ). (rest.1.0, rest.1.1, x, rest.1.2, rest.1.3)) l)

-- ---- a text that is read, and then all its integers

module _ (text tape links numbers spare left : List ℕ) (e : left ≡ read_tape text tape) (out end : List ℕ × ℕ) (after : Three) where
  abbrev Lists : Type 0
  Lists =
      (end ≡ put out (list_of_text text tape links numbers spare).0)
      × ((left ≡ read_tape text tape) × (after ≡ (list_of_text text tape links numbers spare).1))

  pub read_listed : (a : Told ℕ) → a ≡ read_answer text (length tape) → end ≡ put out (read_list a text left links numbers spare).0
      → after ≡ (read_list a text left links numbers spare).1 → Lists
  unfolding list_of_text
  read_listed a t p b =
      let same : read_list a text left links numbers spare ≡ list_of_text text tape links numbers spare =
      ap (λ (x : Told ℕ). read_list x text left links numbers spare) t
      ∙ ap (λ (x : List ℕ). read_list (read_answer text (length tape)) text x links numbers spare) e in
      (p ∙ ap (λ (x : List ℕ × Three). put out x.0) same, (e, b ∙ ap (λ (x : List ℕ × Three). x.1) same))

module _ (text tape links numbers spare left : List ℕ) (e : left ≡ read_tape text tape) (out end : List ℕ × ℕ) (n : ℕ)
    (t : Ok n ≡ read_answer text (length tape)) where
  pub accepted_listed : (k : ℕ) (stored items : List ℕ) → k ≡ length (gathered left n (length links))
      → stored ≡ over (gathered left n (length links)) links → items ≡ take k stored
      → (q : Asked) → q ≡ asked (most_for (length items)) (most_for (length items)) n → (ms cs : List ℕ)
      → (end ≡ put out (list_in text left q items numbers spare).0) × ((ms, cs) ≡ (list_in text left q items numbers spare).1)
      → Lists text tape links numbers spare left e out end (stored, ms, cs)
  accepted_listed k stored items c s i q f ms cs a =
      let all : List ℕ = gathered left n (length links) in
      let same : items ≡ all = gathered_said left n links stored items k c s i in
      let list : List ℕ → List ℕ × Two = λ l. list_in text left (asked (most_for (length l)) (most_for (length l)) n) l numbers spare in
      let is : list_in text left q items numbers spare ≡ list all = ap (λ (x : Asked). list_in text left x items numbers spare) f ∙ ap list same in
      read_listed text tape links numbers spare left e out end (stored, ms, cs) (Ok n) t
      (a.0 ∙ ap (λ (x : List ℕ × Two). put out x.0) is)
      (ap (λ (x : Two). (stored, x.0, x.1)) a.1 ∙ ap (λ (x : List ℕ × Two). (stored, x.1.0, x.1.1)) is
      ∙ ap (λ (x : List ℕ). (x, (list all).1.0, (list all).1.1)) s)

-- ---- `n HEX`

module _ (words text tape links numbers spare left : List ℕ) (l : left ≡ over (pairs words) text) (out end : List ℕ × ℕ) where
  abbrev text_held : List ℕ
  text_held = over (pairs words) text

  abbrev list_own : List ℕ → Line
  list_own s = let list = list_of_text s tape links numbers spare in (list.0, (text_held, read_tape s tape, list.1.0, list.1.1, list.1.2))

  -- by what the word says
  abbrev list_by : Option ℕ → Line
  list_by h = by_hex h (bad_text, (text_held, tape, links, numbers, spare)) (list_own (pairs words))

  abbrev LineSays : Five → Type 0
  LineSays rooms =
      (end ≡ put out (list_line words text tape links numbers spare).0) × (rooms ≡ (list_line words text tape links numbers spare).1)

  list_is : (h : Option ℕ) → hex_in words (length text) ≡ h → list_line words text tape links numbers spare ≡ list_by h
  unfolding list_line
  list_is h e = ap list_by e

  pub list_bad : hex_in words (length text) ≡ None → end ≡ put out bad_text → LineSays (left, tape, links, numbers, spare)
  list_bad e p =
      says_line out end bad_text (left, tape, links, numbers, spare) (text_held, tape, links, numbers, spare) (list_line words text tape links numbers spare)
      (list_is None e) p (ap (λ (x : List ℕ). (x, tape, links, numbers, spare)) l)

  pub list_goes : (n : ℕ) → hex_in words (length text) ≡ Some n → (s : List ℕ) → s ≡ take (n - 0) left → (read stored ms cs : List ℕ)
      → (end ≡ put out (list_of_text s tape links numbers spare).0)
      × ((read ≡ read_tape s tape) × ((stored, ms, cs) ≡ (list_of_text s tape links numbers spare).1))
      → LineSays (left, read, stored, ms, cs)
  list_goes n e s f read stored ms cs a =
      let list : List ℕ × Three = list_of_text s tape links numbers spare in
      says_line out end list.0 (left, read, stored, ms, cs) (text_held, read_tape s tape, list.1.0, list.1.1, list.1.2)
      (list_line words text tape links numbers spare)
      (list_is (Some n) e ∙ ap list_own (sym (part_said words text left s n e l f)))
      a.0
      (ap (λ (x : List ℕ). (x, read, stored, ms, cs)) l ∙ ap (λ (x : List ℕ). (text_held, x, stored, ms, cs)) a.1.0
      ∙ ap (λ (x : Three). (text_held, read_tape s tape, x.0, x.1, x.2)) a.1.1)
