-- What is said of a text that is read into a marked tape. Assumes nothing.
use Rattle.std.specs.Prelude.{Option, Some, None}
use Prim.Native.Nat.{ℕ, ◌-◌}
use mathlib.Core.Bool.{Bool}
use mathlib.Core.List.{List, ◌++◌}
use mathlib.Core.Path.{◌≡◌, refl, sym, ap, ◌∙◌}
use lib.ListN.{length, take, drop}
use Rattle.lent.specs.Marks.{mark_at, marked, kept_from}
use Rattle.lines.specs.Out.{put}
use Rattle.lines.specs.Over.{over}
use Rattle.lines.proofs.OutLaws.{then}
use Rattle.read.specs.Read.{read_answer, read_tape}
use Rattle.show.specs.Answers.{answer_text, bad_text, clean_text}
use Rattle.show.specs.Readings.{read_text}
use Rattle.text.specs.Refusals.{Told}
use Rattle.words.specs.Hex.{hex_in, pairs}
use Rattle.words.specs.Number.{decimal_of}
use Rattle.words.specs.Said.{by_number, by_hex}
use Rattle.words.specs.Split.{first_word, behind_word}
use Rattle.lent.proofs.MarkLaws.{marked_length}
use Rattle.words.proofs.SaidLaws.{part_said}
use Rattle.lines.proofs.LineLaws.{line3}
use Rattle.tapes.specs.Reads.{written_of, tape_after, reads_text, read_in, room_for, read_line, any_line}

-- ---- a read of a marked tape

module _ (text tape before left : List ℕ) (m : before ≡ marked mark_at (length tape) 0 tape) (e : left ≡ read_tape text before) where
  pub tape_left : left ≡ tape_after text tape
  unfolding tape_after
  tape_left = e ∙ ap (read_tape text) m

  pub reads_said : (told : Told ℕ) → told ≡ read_answer text (length before)
      → (out mid end : List ℕ × ℕ) (w : ℕ) (clean : Bool) → mid ≡ put out (answer_text (read_text 59 left) told) → w ≡ written_of told
      → clean ≡ kept_from mark_at (drop w left) w → end ≡ put mid (clean_text clean) → end ≡ put out (reads_text text tape)
  unfolding reads_text
  reads_said told t out mid end w clean p q k z =
      let said : List ℕ → Told ℕ → List ℕ =
      λ s a. answer_text (read_text 59 s) a ++ clean_text (kept_from mark_at (drop (written_of a) s) (written_of a)) in
      then out mid end (answer_text (read_text 59 left) told) (clean_text clean) p z
      ∙ ap (λ (b : Bool). put out (answer_text (read_text 59 left) told ++ clean_text b)) (k ∙ ap (λ (n : ℕ). kept_from mark_at (drop n left) n) q)
      ∙ ap (λ (a : Told ℕ). put out (said left a)) (t ∙ ap (read_answer text) (ap length m ∙ marked_length mark_at (length tape) 0 tape))
      ∙ ap (λ (s : List ℕ). put out (said s (read_answer text (length tape)))) tape_left

-- ---- `r HEX`

module _ (words text tape : List ℕ) where
  -- by what the word says
  abbrev read_by : Option ℕ → List ℕ × List ℕ × List ℕ
  read_by h =
      let read = read_in (pairs words) (room_for (length (pairs words))) tape in
      by_hex h (bad_text, over (pairs words) text, tape) (read.0, over (pairs words) text, read.1)

  pub read_bad : hex_in words (length text) ≡ None → read_line words text tape ≡ (bad_text, over (pairs words) text, tape)
  unfolding read_line
  read_bad e = ap read_by e

  pub read_good : (n : ℕ) → hex_in words (length text) ≡ Some n → (s : List ℕ) → s ≡ pairs words
      → read_line words text tape ≡ ((read_in s (room_for (length s)) tape).0, over (pairs words) text, (read_in s (room_for (length s)) tape).1)
  unfolding read_line
  read_good n e s f =
      ap read_by e
      ∙ ap (λ (t : List ℕ). ((read_in t (room_for (length t)) tape).0, over (pairs words) text, (read_in t (room_for (length t)) tape).1)) (sym f)

  pub read_goes : (n : ℕ) → hex_in words (length text) ≡ Some n → (left s after : List ℕ) (room : ℕ) (out end : List ℕ × ℕ)
      → left ≡ over (pairs words) text → s ≡ take (n - 0) left → room ≡ room_for (length s)
      → (end ≡ put out (read_in s room tape).0) × (after ≡ (read_in s room tape).1)
      → (end ≡ put out (read_line words text tape).0) × (left ≡ (read_line words text tape).1) × (after ≡ (read_line words text tape).2)
  read_goes n h left s after room out end e f g a =
      let read : read_in s room tape ≡ read_in s (room_for (length s)) tape = ap (λ (k : ℕ). read_in s k tape) g in
      line3 out end (read_in s (room_for (length s)) tape).0 left after (over (pairs words) text) (read_in s (room_for (length s)) tape).1 (read_line words text tape)
      (read_good n h s (part_said words text left s n h e f)) (a.0 ∙ ap (λ (x : List ℕ × List ℕ). put out x.0) read) e
      (a.1 ∙ ap (λ (x : List ℕ × List ℕ). x.1) read)

-- ---- `R NUMBERS HEX`

module _ (words text tape : List ℕ) where
  -- by what the words say
  abbrev any_by : Option ℕ → Option ℕ → List ℕ × List ℕ × List ℕ
  any_by d h =
      let two = behind_word words in
      by_number d (bad_text, text, tape) (λ numbers.
      let read = read_in (pairs two) numbers tape in
      by_hex h (bad_text, over (pairs two) text, tape) (read.0, over (pairs two) text, read.1))

  any_is : any_line words text tape ≡ any_by (decimal_of (first_word words)) (hex_in (behind_word words) (length text))
  unfolding any_line
  any_is = refl

  pub any_no_number : decimal_of (first_word words) ≡ None → any_line words text tape ≡ (bad_text, text, tape)
  any_no_number e = any_is ∙ ap (λ (d : Option ℕ). any_by d (hex_in (behind_word words) (length text))) e

  module _ (numbers : ℕ) (e : decimal_of (first_word words) ≡ Some numbers) where
    pub any_bad : hex_in (behind_word words) (length text) ≡ None → any_line words text tape ≡ (bad_text, over (pairs (behind_word words)) text, tape)
    any_bad f =
        any_is ∙ ap (λ (d : Option ℕ). any_by d (hex_in (behind_word words) (length text))) e
        ∙ ap (λ (h : Option ℕ). any_by (Some numbers) h) f

    pub any_good : (n : ℕ) → hex_in (behind_word words) (length text) ≡ Some n → (s : List ℕ) → s ≡ pairs (behind_word words)
        → any_line words text tape ≡ ((read_in s numbers tape).0, over (pairs (behind_word words)) text, (read_in s numbers tape).1)
    any_good n f s g =
        any_is ∙ ap (λ (d : Option ℕ). any_by d (hex_in (behind_word words) (length text))) e
        ∙ ap (λ (h : Option ℕ). any_by (Some numbers) h) f
        ∙ ap (λ (t : List ℕ). ((read_in t numbers tape).0, over (pairs (behind_word words)) text, (read_in t numbers tape).1)) (sym g)

    pub any_goes : (n : ℕ) → hex_in (behind_word words) (length text) ≡ Some n → (left s after : List ℕ) (out end : List ℕ × ℕ)
        → left ≡ over (pairs (behind_word words)) text → s ≡ take (n - 0) left
        → (end ≡ put out (read_in s numbers tape).0) × (after ≡ (read_in s numbers tape).1)
        → (end ≡ put out (any_line words text tape).0) × (left ≡ (any_line words text tape).1) × (after ≡ (any_line words text tape).2)
    any_goes n h left s after out end f g a =
        line3 out end (read_in s numbers tape).0 left after (over (pairs (behind_word words)) text) (read_in s numbers tape).1 (any_line words text tape)
        (any_good n h s (part_said (behind_word words) text left s n h f g)) a.0 f a.1
