-- The shown line and its caret, put out piece by piece. Assumes nothing.
use Prim.Native.Nat.{ℕ, zero, suc, ◌+◌, ◌-◌, ◌<◌, ◌≤◌, max}
use native.Mathlib.Nat.{max-le}
use native.Mathlib.Omega.{arith}
use mathlib.Core.Bool.{Bool, true, false}
use mathlib.Core.List.{List, [], ◌∷◌, ◌++◌}
use mathlib.Core.Path.{◌≡◌, refl, sym, ap, ◌∙◌}
use lib.Dec.{ltb}
use lib.ListN.{length, get_or, take, drop, drop_of_length-le, length-drop}
use lib.Seq.{drop-drop}
use borrow.Author.Tests.{eq-eqb, ne_eqb, lt-ltb, le-ltb}
use Rattle.lines.proofs.OutLaws.{put-byte, put_join, put_behind, then, then_as, then_byte}
use Rattle.lines.specs.Ascii.{ascii}
use Rattle.lines.specs.Out.{put, put_byte}
use Rattle.places.specs.Columns.{starts_char, chars_back}
use Rattle.places.specs.Lines.{between, line_start, line_end}
use Rattle.places.specs.Shown.{shown}
use Rattle.text.proofs.Lists.{front, tail_part}
use Rattle.text.proofs.Choices.{and_false}
use Rattle.text.proofs.Utf8Agree.{part_char}
use Rattle.text.specs.Utf8.{char_len, code_of, encode}
use Rattle.explain.specs.Excerpts.{character_text, characters_text, under_text, caret_text, margin_text, excerpt_text}

-- ---- one character

module _ (n : ℕ) (s : List ℕ) where
  pub character_shown : 0 < n → shown (code_of s) ≡ true → take n s ≡ character_text n s
  unfolding character_text
  character_shown h e = sym (rw (lt-ltb 0 n h, e) refl)

  pub character_none : n ≤ 0 → encode 0xFFFD ≡ character_text n s
  unfolding character_text
  character_none h = sym (rw (le-ltb 0 n h) refl)

  pub character_hidden : shown (code_of s) ≡ false → encode 0xFFFD ≡ character_text n s
  unfolding character_text
  character_hidden e = sym (rw (e, and_false (ltb 0 n)) refl)

-- U+FFFD
pub replacement : (0xEF ∷ 0xBF ∷ 0xBD ∷ []) ≡ encode 0xFFFD
unfolding encode
replacement = refl

-- ---- characters

characters_next : (left : ℕ) (t : List ℕ) → (left ≡ 0 → ⊥) → 0 < length t
    → character_text (char_len t) t ++ characters_text (left - 1) (drop (max 1 (char_len t)) t) ≡ characters_text left t
unfolding characters_text
characters_next zero t h l = absurd (h refl)
characters_next (suc left) [] h l = absurd (omega arith)
characters_next (suc left) (b ∷ s) h l =
    let less : suc left - 1 ≡ left = omega arith in
    ap (λ (k : ℕ). character_text (char_len (b ∷ s)) (b ∷ s) ++ characters_text k (drop (max 1 (char_len (b ∷ s))) (b ∷ s))) less

characters_over : (left : ℕ) (t : List ℕ) → left ≡ 0 → 0 < length t → characters_text left t ≡ ascii "..."
unfolding characters_text
characters_over zero [] h l = absurd (omega arith)
characters_over zero (b ∷ s) h l = refl
characters_over (suc left) t h l = absurd (omega arith)

characters_none : (left : ℕ) → characters_text left [] ≡ []
unfolding characters_text
characters_none zero = refl
characters_none (suc left) = refl

-- a character lies within what is left
pub step_within : (s : List ℕ) (i n k : ℕ) → i < length s → n ≡ char_len (take (length s - i) (drop i s)) → k ≡ max 1 n → i + k ≤ length s
step_within s i n k h e g =
    let fits : max 1 n ≤ length s - i = max-le (omega arith) (part_char s i n e).1 in
    omega arith

-- what is left gives the whole
module _ (s : List ℕ) (i left : ℕ) (whole out : List ℕ × ℕ) where
  pub characters_on : i < length s → (left ≡ 0 → ⊥) → (n k : ℕ) (next : List ℕ × ℕ) → n ≡ char_len (take (length s - i) (drop i s)) → k ≡ max 1 n
      → next ≡ put out (character_text n (take (length s - i) (drop i s))) → put out (characters_text left (drop i s)) ≡ whole
      → put next (characters_text (left - 1) (drop (i + k) s)) ≡ whole
  characters_on h l n k next e g f inv =
      let t : List ℕ = drop i s in
      let width : char_len t ≡ n = (part_char s i n e).0 in
      let one : List ℕ = character_text (char_len t) t in
      let rest : List ℕ = characters_text (left - 1) (drop (max 1 (char_len t)) t) in
      let first : next ≡ put out one =
      f ∙ ap (λ (x : List ℕ). put out (character_text n x)) (tail_part s i) ∙ ap (λ (m : ℕ). put out (character_text m t)) (sym width) in
      let step : k ≡ max 1 (char_len t) = g ∙ ap (max 1) (sym width) in
      let behind : drop (i + k) s ≡ drop (max 1 (char_len t)) t = ap (λ (m : ℕ). drop (i + m) s) step ∙ sym (drop-drop (max 1 (char_len t)) i s) in
      let some : 0 < length t = rw (length-drop i s) (omega arith) in
      ap (λ (r : List ℕ). put next (characters_text (left - 1) r)) behind ∙ ap (λ (x : List ℕ × ℕ). put x rest) first ∙ sym (put_join out one rest)
      ∙ ap (put out) (characters_next left t l some) ∙ inv

  pub characters_full : i < length s → left ≡ 0 → (end : List ℕ × ℕ) → end ≡ put out (ascii "...") → put out (characters_text left (drop i s)) ≡ whole → end ≡ whole
  characters_full h l end e inv =
      let some : 0 < length (drop i s) = rw (length-drop i s) (omega arith) in
      e ∙ sym (ap (put out) (characters_over left (drop i s) l some)) ∙ inv

  pub characters_end : length s ≤ i → put out (characters_text left (drop i s)) ≡ whole → out ≡ whole
  unfolding put
  characters_end h inv = sym (ap (λ (t : List ℕ). put out (characters_text left t)) (drop_of_length-le s h) ∙ ap (put out) (characters_none left)) ∙ inv

-- ---- the caret

module _ (b : ℕ) where
  pub under_tab : b ≡ 9 → ascii "\t" ≡ under_text b
  unfolding under_text
  under_tab e = sym (rw (eq-eqb b 9 e) refl)

  pub under_first : (b ≡ 9 → ⊥) → starts_char b ≡ true → ascii " " ≡ under_text b
  unfolding under_text
  under_first e f = sym (rw (ne_eqb b 9 e, f) refl)

  pub under_later : (b ≡ 9 → ⊥) → starts_char b ≡ false → [] ≡ under_text b
  unfolding under_text
  under_later e f = sym (rw (ne_eqb b 9 e, f) refl)

module _ (s : List ℕ) (i : ℕ) (whole out : List ℕ × ℕ) where
  pub caret_on : i < length s → (next : List ℕ × ℕ) → next ≡ put out (under_text (get_or s i 0)) → put out (caret_text (drop i s)) ≡ whole
      → put next (caret_text (drop (i + 1) s)) ≡ whole
  unfolding caret_text
  caret_on h next e inv =
      ap (λ (x : List ℕ × ℕ). put x (caret_text (drop (i + 1) s))) e ∙ sym (put_join out (under_text (get_or s i 0)) (caret_text (drop (i + 1) s)))
      ∙ sym (ap (λ (t : List ℕ). put out (caret_text t)) (front s i h)) ∙ inv

  pub caret_ends : length s ≤ i → (end : List ℕ × ℕ) → end ≡ put_byte out 94 → put out (caret_text (drop i s)) ≡ whole → end ≡ whole
  unfolding caret_text
  caret_ends h end e inv = e ∙ sym (put-byte out 94) ∙ sym (ap (λ (t : List ℕ). put out (caret_text t)) (drop_of_length-le s h)) ∙ inv

-- ---- the margin

module _ (b : ℕ) (out a : List ℕ × ℕ) where
  pub margin_cut : (cut : Bool) → cut ≡ true → (c d e : List ℕ × ℕ) → a ≡ put out (ascii "    ") → c ≡ put_byte a b → d ≡ put_byte c b → e ≡ put_byte d b
      → e ≡ put out (margin_text cut b)
  unfolding margin_text
  margin_cut cut t c d e x y z w =
      then out a e (ascii "    ") (b ∷ b ∷ b ∷ []) x (put_behind a c e b (b ∷ b ∷ []) y (put_behind c d e b (b ∷ []) z (w ∙ sym (put-byte d b))))
      ∙ sym (ap (λ (q : Bool). put out (margin_text q b)) t)

  pub margin_whole : (cut : Bool) → cut ≡ false → a ≡ put out (ascii "    ") → a ≡ put out (margin_text cut b)
  unfolding margin_text
  margin_whole cut t x = x ∙ sym (ap (λ (q : Bool). put out (margin_text q b)) t)

-- ---- both lines

abbrev both_lines : List ℕ → ℕ → ℕ → ℕ → ℕ → List ℕ
both_lines s p from start stop =
    margin_text (ltb start from) 46 ++ characters_text 120 (between s from stop) ++ ascii "\n" ++
    margin_text (ltb start from) 32 ++ caret_text (between s from p) ++ ascii "\n"

module _ (s : List ℕ) (p from start stop : ℕ) (out a b c d e end : List ℕ × ℕ) (u v : List ℕ) where
  pub excerpt_pieces : from ≡ chars_back s p 80 → start ≡ line_start s p → stop ≡ line_end s p → a ≡ put out (margin_text (ltb start from) 46)
      → b ≡ put a (characters_text 120 u) → u ≡ between s from stop → c ≡ put_byte b 10 → d ≡ put c (margin_text (ltb start from) 32)
      → e ≡ put d (caret_text v) → v ≡ between s from p → end ≡ put_byte e 10 → end ≡ put out (excerpt_text s p)
  unfolding excerpt_text
  excerpt_pieces f g h ea eb eu ec ed ee ev eend =
      let dots : List ℕ = margin_text (ltb start from) 46 in
      let shown : List ℕ = characters_text 120 (between s from stop) in
      let blank : List ℕ = margin_text (ltb start from) 32 in
      let under : List ℕ = caret_text (between s from p) in
      let one = then_as out a b dots (characters_text 120 u) shown ea eb (ap (characters_text 120) eu) in
      let two = then_byte out b c (dots ++ shown) 10 one ec in
      let three = then out c d (dots ++ shown ++ ascii "\n") blank two ed in
      let four = then_as out d e (dots ++ shown ++ ascii "\n" ++ blank) (caret_text v) under three ee (ap caret_text ev) in
      then_byte out e end (dots ++ shown ++ ascii "\n" ++ blank ++ under) 10 four eend
      ∙ ap (λ (k : ℕ). put out (both_lines s p k start stop)) f ∙ ap (λ (k : ℕ). put out (both_lines s p (chars_back s p 80) k stop)) g
      ∙ ap (λ (k : ℕ). put out (both_lines s p (chars_back s p 80) (line_start s p) k)) h
