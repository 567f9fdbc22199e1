-- The lines of a tape's entries, one after another: what is left to put gives the whole. Assumes nothing.
use Prim.Native.Nat.{ℕ, suc, min, ◌+◌, ◌-◌, ◌*◌, ◌<◌, ◌≤◌}
use native.Mathlib.Omega.{arith}
use mathlib.Core.Bool.{Bool, cond}
use mathlib.Core.List.{List, [], ◌∷◌, ◌++◌, append_assoc}
use mathlib.Core.Path.{◌≡◌, refl, sym, ap, ◌∙◌}
use lib.Dec.{ltb}
use lib.ListN.{length, drop}
use borrow.Author.Tests.{lt-ltb, le-ltb}
use Rattle.lines.specs.Decimal.{decimal, word_of}
use Rattle.lines.specs.Out.{put, put_byte}
use Rattle.lines.proofs.OutLaws.{then, then_byte}
use Rattle.rows.specs.Rows.{width, room_of, entry_at, entries_of}
use Rattle.rows.specs.declared.Entry.{Entry}
use Rattle.rows.proofs.RowLaws.{entries_next}
use Rattle.show.specs.Readings.{entry_text, entries_text}
use Rattle.text.proofs.Choices.{either, lt_or_le}
use Rattle.arrive.specs.Printed.{line_text, lines_text}
use Rattle.arrive.specs.inner.Said.{tape_lines}

-- ---- one line

-- number by number
pub line_put : (e : Entry) (out a b d f g end : List ℕ × ℕ) → a ≡ put out (decimal e.kind) → b ≡ put a (word_of e.start) → d ≡ put b (word_of e.end)
    → f ≡ put d (word_of e.detail) → g ≡ put f (word_of e.gap) → end ≡ put_byte g 10 → end ≡ put out (line_text e)
unfolding line_text
line_put e out a b d f g end p q r s t u =
    let k : List ℕ = decimal e.kind in
    let two : List ℕ = k ++ word_of e.start in
    let three : List ℕ = two ++ word_of e.end in
    let four : List ℕ = three ++ word_of e.detail in
    then_byte out g end (four ++ word_of e.gap) 10
    (then out f g four (word_of e.gap) (then out d f three (word_of e.detail) (then out b d two (word_of e.end) (then out a b k (word_of e.start) p q) r) s) t) u

-- ---- from row i on

unfoldable pub lines_left : List ℕ → ℕ → ℕ → List ℕ
lines_left tape n i = lines_text (entries_of (min n (room_of (length tape)) - i) (drop (width * i) tape))

pub lines_start : (tape : List ℕ) (n : ℕ) → lines_left tape n 0 ≡ tape_lines tape n
unfolding lines_left tape_lines
lines_start tape n =
    let e : min n (room_of (length tape)) - 0 ≡ min n (room_of (length tape)) = omega arith in
    ap (λ (k : ℕ). lines_text (entries_of k tape)) e

module _ (tape : List ℕ) (n i : ℕ) where
  lines_nothing : min n (room_of (length tape)) ≤ i → lines_left tape n i ≡ []
  unfolding lines_left lines_text entries_of
  lines_nothing h =
      let e : min n (room_of (length tape)) - i ≡ 0 = omega arith in
      ap (λ (k : ℕ). lines_text (entries_of k (drop (width * i) tape))) e

  pub lines_end : n ≤ i → lines_left tape n i ≡ []
  lines_end h = lines_nothing (omega arith)

  lines_row : i < n → i < room_of (length tape) → lines_left tape n i ≡ line_text (entry_at tape i) ++ lines_left tape n (i + 1)
  unfolding lines_left lines_text
  lines_row h l =
      let e : min n (room_of (length tape)) - i ≡ suc (min n (room_of (length tape)) - (i + 1)) = omega arith in
      ap (λ (k : ℕ). lines_text (entries_of k (drop (width * i) tape))) e
      ∙ ap lines_text (entries_next (min n (room_of (length tape)) - (i + 1)) i tape)

pub lines_front : (tape : List ℕ) (n i : ℕ) → i < n
    → lines_left tape n i ≡ cond (ltb i (room_of (length tape))) (line_text (entry_at tape i)) [] ++ lines_left tape n (i + 1)
lines_front tape n i h =
    let way : Bool → List ℕ = λ b. cond b (line_text (entry_at tape i)) [] ++ lines_left tape n (i + 1) in
    either (lt_or_le i (room_of (length tape)))
    (λ l. lines_row tape n i h l ∙ sym (ap way (lt-ltb i (room_of (length tape)) l)))
    (λ l. lines_nothing tape n i (omega arith) ∙ sym (lines_nothing tape n (i + 1) (omega arith)) ∙ sym (ap way (le-ltb i (room_of (length tape)) l)))

-- ---- the program `tape` prints the same lines: an LF before each entry there, behind each entry here

line_as_tape : (e : Entry) → 10 ∷ line_text e ≡ entry_text 10 e ++ (10 ∷ [])
unfolding line_text entry_text
line_as_tape e = refl

pub lines_as_tape : (es : List Entry) → 10 ∷ lines_text es ≡ entries_text 10 es ++ (10 ∷ [])
unfolding lines_text entries_text
lines_as_tape [] = refl
lines_as_tape (e ∷ es) =
    ap (λ (s : List ℕ). s ++ lines_text es) (line_as_tape e) ∙ append_assoc (entry_text 10 e) (10 ∷ []) (lines_text es)
    ∙ ap (λ (s : List ℕ). entry_text 10 e ++ s) (lines_as_tape es) ∙ sym (append_assoc (entry_text 10 e) (entries_text 10 es) (10 ∷ []))
