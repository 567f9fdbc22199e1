-- The turns of the loops that put out one text for each element: what is left to put gives the whole. Assumes nothing.
use Prim.Native.Nat.{ℕ, suc, min, ◌+◌, ◌-◌, ◌*◌, ◌<◌, ◌≤◌}
use native.Mathlib.Omega.{arith}
use mathlib.Core.Bool.{Bool, cond}
use mathlib.Core.List.{List, [], ◌∷◌, ◌++◌}
use mathlib.Core.Path.{◌≡◌, refl, sym, ap, ◌∙◌}
use lib.Dec.{ltb}
use lib.ListN.{length, get_or, drop, drop_of_length-le}
use borrow.Author.Tests.{lt-ltb, le-ltb}
use Rattle.lines.specs.Decimal.{decimal, word_of}
use Rattle.lines.specs.Out.{put}
use Rattle.lines.proofs.OutLaws.{put_join}
use Rattle.rows.specs.Rows.{width, room_of, entry_at, entries_of}
use Rattle.rows.proofs.RowLaws.{entries_next}
use Rattle.text.proofs.Choices.{either, lt_or_le}
use Rattle.text.proofs.Lists.{front}
use Rattle.show.specs.Readings.{entry_text, entries_text, tape_text}
use Rattle.show.specs.Repairs.{numbers_text}
use Rattle.show.specs.Walks.{words_text}

-- ---- any loop

module _ (out whole : List ℕ × ℕ) (left : List ℕ) where
  -- a turn puts the front of what is left
  pub put_turn : (next : List ℕ × ℕ) (t u : List ℕ) → left ≡ t ++ u → next ≡ put out t → put out left ≡ whole → put next u ≡ whole
  put_turn next t u l e inv = ap (λ (x : List ℕ × ℕ). put x u) e ∙ sym (put_join out t u) ∙ sym (ap (put out) l) ∙ inv

  -- nothing is left
  pub put_done : left ≡ [] → put out left ≡ whole → out ≡ whole
  unfolding put
  put_done l inv = sym (ap (put out) l) ∙ inv

-- ---- a word for each number

module _ (s : List ℕ) (i : ℕ) where
  pub words_front : i < length s → words_text (drop i s) ≡ word_of (get_or s i 0) ++ words_text (drop (i + 1) s)
  unfolding words_text
  words_front h = ap words_text (front s i h)

  pub words_end : length s ≤ i → words_text (drop i s) ≡ []
  unfolding words_text
  words_end h = ap words_text (drop_of_length-le s h)

-- ---- numbers with a space between

-- numbers, the first behind a given byte
unfoldable pub numbers_behind : ℕ → List ℕ → List ℕ
numbers_behind between [] = []
numbers_behind between (n ∷ s) = between ∷ decimal n ++ words_text s

pub numbers-behind : (s : List ℕ) → numbers_behind 59 s ≡ numbers_text s
unfolding numbers_behind numbers_text
numbers-behind [] = refl
numbers-behind (n ∷ s) = refl

words_behind : (s : List ℕ) → numbers_behind 32 s ≡ words_text s
unfolding numbers_behind words_text word_of
words_behind [] = refl
words_behind (n ∷ s) = refl

module _ (between : ℕ) (s : List ℕ) (i : ℕ) where
  pub numbers_front : i < length s → numbers_behind between (drop i s) ≡ (between ∷ decimal (get_or s i 0)) ++ numbers_behind 32 (drop (i + 1) s)
  unfolding numbers_behind
  numbers_front h =
      ap (numbers_behind between) (front s i h) ∙ ap (λ (l : List ℕ). (between ∷ decimal (get_or s i 0)) ++ l) (sym (words_behind (drop (i + 1) s)))

  pub numbers_end : length s ≤ i → numbers_behind between (drop i s) ≡ []
  unfolding numbers_behind
  numbers_end h = ap (numbers_behind between) (drop_of_length-le s h)

-- ---- the entries of a tape

-- a text that is put only where a test holds
module _ (out : List ℕ × ℕ) (i n : ℕ) where
  pub put_skipped : (t : List ℕ) → n ≤ i → out ≡ put out (cond (ltb i n) t [])
  unfolding put
  put_skipped t h = sym (ap (λ (b : Bool). put out (cond b t [])) (le-ltb i n h))

  pub put_chosen : (end : List ℕ × ℕ) (t : List ℕ) → i < n → end ≡ put out t → end ≡ put out (cond (ltb i n) t [])
  put_chosen end t h e = e ∙ sym (ap (λ (b : Bool). put out (cond b t [])) (lt-ltb i n h))

-- what is left of a tape's text from row i on
unfoldable pub tape_left : ℕ → List ℕ → ℕ → ℕ → List ℕ
tape_left between tape n i = entries_text between (entries_of (min n (room_of (length tape)) - i) (drop (width * i) tape))

pub tape_start : (between : ℕ) (tape : List ℕ) (n : ℕ) → tape_left between tape n 0 ≡ tape_text between tape n
unfolding tape_left tape_text
tape_start between tape n =
    let e : min n (room_of (length tape)) - 0 ≡ min n (room_of (length tape)) = omega arith in
    ap (λ (k : ℕ). entries_text between (entries_of k tape)) e

module _ (between : ℕ) (tape : List ℕ) (n i : ℕ) where
  tape_nothing : min n (room_of (length tape)) ≤ i → tape_left between tape n i ≡ []
  unfolding tape_left entries_text entries_of
  tape_nothing h =
      let e : min n (room_of (length tape)) - i ≡ 0 = omega arith in
      ap (λ (k : ℕ). entries_text between (entries_of k (drop (width * i) tape))) e

  pub tape_end : n ≤ i → tape_left between tape n i ≡ []
  tape_end h = tape_nothing (omega arith)

  tape_row : i < n → i < room_of (length tape) → tape_left between tape n i ≡ entry_text between (entry_at tape i) ++ tape_left between tape n (i + 1)
  unfolding tape_left entries_text
  tape_row h l =
      let e : min n (room_of (length tape)) - i ≡ suc (min n (room_of (length tape)) - (i + 1)) = omega arith in
      ap (λ (k : ℕ). entries_text between (entries_of k (drop (width * i) tape))) e
      ∙ ap (entries_text between) (entries_next (min n (room_of (length tape)) - (i + 1)) i tape)

pub tape_front : (between : ℕ) (tape : List ℕ) (n i : ℕ) → i < n
    → tape_left between tape n i ≡ cond (ltb i (room_of (length tape))) (entry_text between (entry_at tape i)) [] ++ tape_left between tape n (i + 1)
tape_front between tape n i h =
    let way : Bool → List ℕ = λ b. cond b (entry_text between (entry_at tape i)) [] ++ tape_left between tape n (i + 1) in
    either (lt_or_le i (room_of (length tape)))
    (λ l. tape_row between tape n i h l ∙ sym (ap way (lt-ltb i (room_of (length tape)) l)))
    (λ l. tape_nothing between tape n i (omega arith) ∙ sym (tape_nothing between tape n (i + 1) (omega arith)) ∙ sym (ap way (le-ltb i (room_of (length tape)) l)))
