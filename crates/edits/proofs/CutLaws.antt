-- `p`, word by word. Assumes nothing.
use Rattle.std.specs.Prelude.{Option, Some, None}
use Prim.Native.Nat.{ℕ, ◌+◌, ◌-◌, ◌*◌, ◌≤◌, ◌<◌}
use native.Mathlib.Omega.{arith}
use mathlib.Core.Bool.{Bool, true, false, cond, ◌&&◌}
use mathlib.Core.List.{List, [], ◌++◌, append_assoc, append-nil}
use mathlib.Core.Path.{◌≡◌, sym, ap, subst, ◌∙◌}
use lib.Dec.{eqb, leb}
use lib.ListN.{length, take, drop, drop_of_length-le, length-append, length-drop, take-append-drop}
use lib.Seq.{length-take-le, take-append_seam, drop-append_seam, take-append-le}
use borrow.Author.Tests.{leb-true, le-leb, lt-leb}
use borrow.Rule.Slice.PartMut.{put_mid}
use Rattle.lines.specs.Over.{over}
use Rattle.lines.proofs.Laws.{over_length}
use Rattle.show.specs.Answers.{bad_text}
use Rattle.text.proofs.Choices.{and_true, and_false, cond_cases}
use Rattle.words.specs.Dash.{is_dash}
use Rattle.words.specs.Hex.{hex_in, pairs, pairs_in}
use Rattle.words.specs.Number.{decimal_of}
use Rattle.words.specs.Said.{by_hex}
use Rattle.words.specs.Split.{first_word, behind_word}
use Rattle.words.proofs.Dashes.{dash_is}
use Rattle.words.proofs.SaidLaws.{hex_said}
use Rattle.edits.specs.Repairs.{edit_in, replaced, both_texts, cut_line, ends_of, text_line}
use Rattle.edits.proofs.LineLaws.{Line, Answered, answered, Edit, Done, done}
use Rattle.edits.proofs.MoveLaws.{over_whole}
use Rattle.edits.proofs.TextLaws.{edit_same}

-- ---- how many bytes a word says

abbrev bytes_of : Option ℕ → ℕ
bytes_of (Some n) = n
bytes_of None = 0

abbrev Says : Option ℕ → Type 0
Says (Some n) = Unit
Says None = ⊥

module _ (w : List ℕ) (room n : ℕ) where
  abbrev Fits : Option ℕ → Type 0
  Fits h = h ≡ Some n → (n ≡ length (pairs w)) × (n ≤ room)

  bad_fits : Fits None
  bad_fits e = absurd (subst Says (sym e) tt)

  dash_fits : is_dash w ≡ true → Fits (Some 0)
  unfolding pairs
  dash_fits d e = let z : n ≡ 0 = sym (ap bytes_of e) in (z ∙ sym (ap (λ (x : List ℕ). length (pairs x)) (dash_is w d)), omega (arith, z))

  pairs_fits : Fits (pairs_in w room)
  unfolding pairs_in
  pairs_fits =
      cond_cases Fits (eqb (2 * length (pairs w)) (length w) && leb (length (pairs w)) room) _ _
      (λ t e. let z : n ≡ length (pairs w) = sym (ap bytes_of e) in
      (z, omega (arith, z, leb-true (length (pairs w)) room (and_true (eqb (2 * length (pairs w)) (length w)) _ t).1)))
      (λ f. bad_fits)

  pub hex_fits : hex_in w room ≡ Some n → (n ≡ length (pairs w)) × (n ≤ room)
  unfolding hex_in
  hex_fits = cond_cases Fits (is_dash w) _ _ dash_fits (λ d. cond_cases Fits (eqb (length w) 0) _ _ (λ z. bad_fits) (λ z. pairs_fits))

-- ---- bytes behind others

module _ (word text : List ℕ) (k : ℕ) (part : List ℕ) (e : part ≡ drop k text) where
  pub behind_read : (r : Option ℕ) (last : List ℕ) → (r ≡ hex_in word (length part)) → (last ≡ over (pairs word) part)
      → (r ≡ hex_in word (length (drop k text))) × (put_mid k (length text - k) text last ≡ take k text ++ over (pairs word) (drop k text))
  behind_read r last f g =
      let most : length (drop k text) ≤ length text - k = omega (arith, length-drop k text) in
      let none : drop (length text - k) (drop k text) ≡ [] = drop_of_length-le (drop k text) most in (
        f ∙ ap (λ (x : List ℕ). hex_in word (length x)) e,
        ap (λ (x : List ℕ). take k text ++ (last ++ x)) none ∙ ap (λ (x : List ℕ). take k text ++ x) (append-nil last ∙ g ∙ ap (over (pairs word)) e),
      )

-- ---- the texts of a line

module _ (word text : List ℕ) (n a b : ℕ) (tape aside : List ℕ) (l : n ≤ length text) where
  abbrev old : List ℕ
  old = take n text

  abbrev bytes : List ℕ
  bytes = pairs word

  abbrev room : ℕ → List ℕ
  room m = take (m + a) text ++ over bytes (drop (m + a) text)

  abbrev bad : ℕ → Line
  bad m = (bad_text, room m, tape, aside)

  abbrev edit : Edit
  edit = edit_in old (replaced a b bytes old) a b tape aside

  abbrev good : ℕ → Line
  good m = (edit.0, over (both_texts a b bytes old) (room m), edit.1, edit.2)

  abbrev test : ℕ → Bool
  test m = leb a b && leb b m && leb (m + a) (length text)

  abbrev fits : Bool
  fits = leb (length (both_texts a b bytes old)) (length text)

  abbrev behind : ℕ → Line
  behind m = by_hex (hex_in word (length (drop (m + a) text))) (bad m) (cond fits (good m) (bad m))

  size : length old ≡ n
  size = length-take-le n text l

  by_test : (t : Bool) → test n ≡ t → cut_line word a b old text tape aside ≡ cond t (behind n) (bad_text, text, tape, aside)
  unfolding cut_line
  by_test t f = ap (λ (m : ℕ). cond (test m) (behind m) (bad_text, text, tape, aside)) size ∙ ap (λ (x : Bool). cond x (behind n) (bad_text, text, tape, aside)) f

  pub cut_1 : b < a → cut_line word a b old text tape aside ≡ (bad_text, text, tape, aside)
  cut_1 h = by_test false (rw (lt-leb a b h))

  pub cut_2 : n < b → cut_line word a b old text tape aside ≡ (bad_text, text, tape, aside)
  cut_2 h = by_test false (rw (lt-leb b n h, and_false (leb a b)))

  pub cut_3 : length text - n < a → cut_line word a b old text tape aside ≡ (bad_text, text, tape, aside)
  cut_3 h = by_test false (rw (lt-leb (n + a) (length text) (omega (arith, l)), and_false (leb a b && leb b n)))

  module _ (h : a ≤ b) (i : b ≤ n) (j : a ≤ length text - n) where
    passes : cut_line word a b old text tape aside ≡ behind n
    passes = by_test true (rw (le-leb a b h, le-leb b n i, le-leb (n + a) (length text) (omega (arith, l))))

    pub cut_4 : hex_in word (length (drop (n + a) text)) ≡ None → cut_line word a b old text tape aside ≡ bad n
    cut_4 e = passes ∙ ap (λ (x : Option ℕ). by_hex x (bad n) (cond fits (good n) (bad n))) e

    module _ (k : ℕ) (e : hex_in word (length (drop (n + a) text)) ≡ Some k) where
      many : k ≡ length bytes
      many = (hex_fits word (length (drop (n + a) text)) k e).0

      by-room : (t : Bool) → fits ≡ t → cut_line word a b old text tape aside ≡ cond t (good n) (bad n)
      by-room t f =
          passes ∙ ap (λ (x : Option ℕ). by_hex x (bad n) (cond fits (good n) (bad n))) e ∙ ap (λ (x : Bool). cond x (good n) (bad n)) f

      made_length : length (replaced a b bytes old) ≡ a + k + (n - b)
      made_length =
          omega (
            arith,
            length-append (take a old ++ bytes) (drop b old),
            length-append (take a old) bytes,
            length-take-le a old (omega (arith, size)),
            length-drop b old,
            size,
            many,
          )

      both_length : length (both_texts a b bytes old) ≡ n + (a + k + (n - b))
      both_length = omega (arith, length-append old (replaced a b bytes old), made_length, size)

      pub cut_5 : length text < n + a + k + (n - b) → cut_line word a b old text tape aside ≡ bad n
      cut_5 f = by-room false (lt-leb (length (both_texts a b bytes old)) (length text) (omega (arith, both_length)))

      module _ (f : n + a + k + (n - b) ≤ length text) where
        cut_6 : cut_line word a b old text tape aside ≡ good n
        cut_6 = by-room true (le-leb (length (both_texts a b bytes old)) (length text) (omega (arith, both_length)))

        front_size : length (take (n + a) text) ≡ n + a
        front_size = length-take-le (n + a) text (omega arith)

        room_size : length (room n) ≡ length text
        room_size = omega (arith, length-append (take (n + a) text) (over bytes (drop (n + a) text)), over_length bytes (drop (n + a) text), length-drop (n + a) text, front_size)

        old_front : take n (room n) ≡ old
        old_front =
            take-append-le n (take (n + a) text) (over bytes (drop (n + a) text)) (omega (arith, front_size))
            ∙ sym (take-append-le n (take (n + a) text) (drop (n + a) text) (omega (arith, front_size))) ∙ ap (take n) (take-append-drop (n + a) text)

        bytes_there : take k (drop (n + a) (room n)) ≡ bytes
        bytes_there =
            ap (λ (x : ℕ). take k (drop x (room n))) (sym front_size)
            ∙ ap (take k) (drop-append_seam (take (n + a) text) (over bytes (drop (n + a) text))) ∙ hex_said word (drop (n + a) text) k e

        -- what is made of a room whose parts are known by their places
        pub made_there : (t made : List ℕ) → t ≡ room n → made ≡ over (both_texts a b (take k (drop (n + a) t)) (take n t)) t
            → made ≡ over (both_texts a b bytes old) (room n)
        made_there t made et m =
            m ∙ ap (λ (x : List ℕ). over (both_texts a b (take k (drop (n + a) x)) (take n x)) x) et
            ∙ ap (λ (x : List ℕ). over (both_texts a b x (take n (room n))) (room n)) bytes_there ∙ ap (λ (x : List ℕ). over (both_texts a b bytes x) (room n)) old_front

        abbrev end : List ℕ
        end = drop (length (both_texts a b bytes old)) (room n)

        parts : over (both_texts a b bytes old) (room n) ≡ old ++ (replaced a b bytes old ++ end)
        parts = over_whole (both_texts a b bytes old) (room n) (omega (arith, both_length, room_size)) ∙ append_assoc old (replaced a b bytes old) end

        module _ (made : List ℕ) (m : made ≡ over (both_texts a b bytes old) (room n)) where
          old_there : take n made ≡ old
          old_there =
              ap (take n) (m ∙ parts) ∙ ap (λ (x : ℕ). take x (old ++ (replaced a b bytes old ++ end))) (sym size) ∙ take-append_seam old (replaced a b bytes old ++ end)

          new_there : (j : ℕ) → j ≡ a + k + (n - b) → take j (drop n made) ≡ replaced a b bytes old
          new_there j ej =
              ap (λ (t : List ℕ). take j (drop n t)) (m ∙ parts) ∙ ap (λ (x : ℕ). take j (drop x (old ++ (replaced a b bytes old ++ end)))) (sym size)
              ∙ ap (take j) (drop-append_seam old (replaced a b bytes old ++ end))
              ∙ ap (λ (x : ℕ). take x (replaced a b bytes old ++ end)) (ej ∙ sym made_length) ∙ take-append_seam (replaced a b bytes old) end

          pub cut_made : (out last : List ℕ × ℕ) (left copy : List ℕ)
              → Done (edit_in (take n made) (take (n + a + k + (n - b) - n) (drop n made)) a b tape aside) out last left copy
              → Answered (cut_line word a b old text tape aside) out last made left copy
          cut_made out last left copy d =
              let w = done edit _ out last (edit_same tape aside a b old_there (new_there (n + a + k + (n - b) - n) (omega arith))) d in
              answered (cut_line word a b old text tape aside) (good n) out last cut_6 (w.0, m, w.1, w.2)

-- the bytes that were read are there
pub cut_fits : (word text : List ℕ) (k n : ℕ) → k ≤ length text → hex_in word (length (drop k text)) ≡ Some n
    → (length (take k text) ≡ k) × (k + n ≤ length (take k text ++ over (pairs word) (drop k text))) × (length (take k text ++ over (pairs word) (drop k text)) ≡ length text)
cut_fits word text k n h e =
    let t : length (take k text) ≡ k = length-take-le k text h in
    let f : n ≤ length (drop k text) = (hex_fits word (length (drop k text)) n e).1 in
    let d : length (drop k text) ≡ length text - k = length-drop k text in
    let r : length (take k text ++ over (pairs word) (drop k text)) ≡ length (take k text) + length (drop k text) =
    length-append (take k text) (over (pairs word) (drop k text)) ∙ ap (λ (x : ℕ). length (take k text) + x) (over_length (pairs word) (drop k text)) in
    (t, omega (arith, t, f, d, r), omega (arith, t, d, r))

-- ---- the line

module _ (words : List ℕ) where
  pub ends_1 : decimal_of (first_word words) ≡ None → None ≡ ends_of words
  unfolding ends_of
  ends_1 e = rw e

  module _ (a : ℕ) (e : decimal_of (first_word words) ≡ Some a) where
    pub ends_2 : decimal_of (first_word (behind_word words)) ≡ None → None ≡ ends_of words
    unfolding ends_of
    ends_2 f = rw (e, f)

    pub ends_3 : (b : ℕ) → decimal_of (first_word (behind_word words)) ≡ Some b → Some (a, b) ≡ ends_of words
    unfolding ends_of
    ends_3 b f = rw (e, f)

abbrev three : List ℕ → List ℕ
three words = behind_word (behind_word words)

module _ (words text tape aside : List ℕ) where
  pub text_1 : ends_of words ≡ None → text_line words text tape aside ≡ (bad_text, text, tape, aside)
  unfolding text_line
  text_1 e = rw e

  module _ (a b : ℕ) (e : ends_of words ≡ Some (a, b)) where
    second : hex_in (behind_word (three words)) (length text) ≡ None
        → text_line words text tape aside ≡ (bad_text, over (pairs (behind_word (three words))) text, tape, aside)
    unfolding text_line
    second f = rw (e, f)

    abbrev rest : List ℕ → List ℕ → Line
    rest w v = cut_line v a b (pairs w) (over (pairs w) text) tape aside

    third : (n : ℕ) → hex_in (behind_word (three words)) (length text) ≡ Some n
        → text_line words text tape aside ≡ rest (behind_word (three words)) (first_word (three words))
    unfolding text_line
    third n f = rw (e, f)

    module _ (w : List ℕ) (ew : w ≡ behind_word (three words)) where
      pub text_2 : hex_in w (length text) ≡ None → text_line words text tape aside ≡ (bad_text, over (pairs w) text, tape, aside)
      text_2 = subst (λ (x : List ℕ). hex_in x (length text) ≡ None → text_line words text tape aside ≡ (bad_text, over (pairs x) text, tape, aside)) (sym ew) second

      pub text_3 : (v : List ℕ) → v ≡ first_word (three words) → (n : ℕ) → hex_in w (length text) ≡ Some n → (left : List ℕ) → left ≡ over (pairs w) text
          → text_line words text tape aside ≡ cut_line v a b (take n left) left tape aside
      text_3 v ev n f left el =
          third n (sym (ap (λ (x : List ℕ). hex_in x (length text)) ew) ∙ f)
          ∙ ap (λ (x : List ℕ). rest x (first_word (three words))) (sym ew) ∙ ap (rest w) (sym ev)
          ∙ ap (λ (x : List ℕ). cut_line v a b x (over (pairs w) text) tape aside) (sym (hex_said w text n f))
          ∙ ap (λ (x : List ℕ). cut_line v a b (take n x) x tape aside) (sym el)
