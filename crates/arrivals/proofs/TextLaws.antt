-- `q CUTS HEX`: the pieces of a text, one after another. Assumes nothing.
use Rattle.std.specs.Prelude.{Option, Some, None}
use Prim.Native.Nat.{ℕ, ◌+◌, ◌-◌, ◌<◌, ◌≤◌}
use native.Mathlib.Omega.{arith}
use mathlib.Core.Bool.{Bool, true, false, cond}
use mathlib.Core.List.{List, [], ◌∷◌, ◌++◌}
use mathlib.Core.Path.{◌≡◌, refl, sym, ap, subst, ◌∙◌}
use lib.Dec.{leb}
use lib.ListN.{length, get_or, take, drop, length-drop, drop_of_length-le}
use lib.Seq.{length-take-le, take-take, drop-drop, take-add, drop_at}
use borrow.Author.Tests.{leb-true, leb-false, le-leb, lt-leb}
use Rattle.lines.specs.Ascii.{ascii}
use Rattle.lines.specs.Out.{put}
use Rattle.lines.proofs.OutLaws.{put_join}
use Rattle.pieces.specs.Ends.{finish_of}
use Rattle.pieces.specs.Pieces.{Outcome, begun, piece_of}
use Rattle.pieces.specs.declared.state.Arrival.{Arrival}
use Rattle.rows.specs.Rows.{room_of}
use Rattle.show.specs.Answers.{bad_text}
use Rattle.text.specs.Refusals.{Told}
use Rattle.text.proofs.Choices.{bool_cases, either}
use Rattle.text.proofs.Lists.{front}
use Rattle.words.specs.Hex.{hex_in, pairs}
use Rattle.words.specs.Numbers.{numbers_in, numbers_of}
use Rattle.words.specs.Said.{by_hex, by_list}
use Rattle.words.specs.Split.{first_word, behind_word}
use Rattle.arrivals.specs.Arrives.{piece_text, end_text, next_of, kept_behind}
use Rattle.arrivals.specs.Texts.{sum_of, pieces_of, answers_from, text_line}
use Rattle.arrivals.specs.declared.arrive_text.Stand.{Stand}
use Rattle.arrivals.specs.inner.Stands.{held_in, told_in, said_text, Turned}
use Rattle.arrivals.proofs.WordLaws.{hex_fits}

-- ---- whether the lengths fit

-- a length taken from both sides
leb_less : (k r n : ℕ) → k ≤ n → leb (k + r) n ≡ leb r (n - k)
leb_less k r n h =
    either (bool_cases (leb r (n - k))) (λ t. le-leb (k + r) n (omega (arith, leb-true r (n - k) t)) ∙ sym t)
    (λ f. lt-leb (k + r) n (omega (arith, leb-false r (n - k) f)) ∙ sym f)

module _ (cuts : List ℕ) (i : ℕ) where
  pub sum_front : i < length cuts → sum_of (drop i cuts) ≡ get_or cuts i 0 + sum_of (drop (i + 1) cuts)
  unfolding sum_of
  sum_front h = ap sum_of (front cuts i h)

  pub sum_end : length cuts ≤ i → sum_of (drop i cuts) ≡ 0
  unfolding sum_of
  sum_end h = ap sum_of (drop_of_length-le cuts h)

  module _ (left : ℕ) (whole : Bool) (inv : leb (sum_of (drop i cuts)) left ≡ whole) where
    pub fit_off : i < length cuts → left < get_or cuts i 0 → false ≡ whole
    fit_off h k = sym (lt-leb (sum_of (drop i cuts)) left (omega (arith, sum_front h))) ∙ inv

    pub fit_on : i < length cuts → get_or cuts i 0 ≤ left → leb (sum_of (drop (i + 1) cuts)) (left - get_or cuts i 0) ≡ whole
    fit_on h k = sym (leb_less (get_or cuts i 0) (sum_of (drop (i + 1) cuts)) left k) ∙ sym (ap (λ (x : ℕ). leb x left) (sum_front h)) ∙ inv

    pub fit_ends : length cuts ≤ i → true ≡ whole
    fit_ends h = sym (le-leb (sum_of (drop i cuts)) left (omega (arith, sum_end h))) ∙ inv

-- ---- one piece

module _ (s r : Stand) (n : ℕ) (text after : List ℕ) (room : ℕ) (l : s.from + n ≤ length text) (t : Turned s n text room r after)
    (out next whole : List ℕ × ℕ) (p : next ≡ put out (said_text s n text room)) where
  abbrev piece : List ℕ
  piece = take n (drop s.from text)

  long : length piece ≡ n
  long = length-take-le n (drop s.from text) (omega (arith, length-drop s.from text))

  -- what is left behind it
  abbrev left_by : Told Outcome → List (List ℕ) → List ℕ
  left_by told ws = answers_from ws (next_of s.state told) (kept_behind s.state told (held_in s n text)) room

  said_front : (ws : List (List ℕ)) → answers_from (piece ∷ ws) s.state (take s.kept text) room ≡ said_text s n text room ++ left_by (told_in s n text room) ws
  unfolding answers_from held_in
  said_front ws =
      ap (λ (m : ℕ). piece_text (piece_of s.state (held_in s n text) m room) ++ ascii " | " ++ left_by (piece_of s.state (held_in s n text) m room) ws) long

  said_rest : (ws : List (List ℕ)) → left_by (told_in s n text room) ws ≡ answers_from ws r.state (take r.kept after) room
  said_rest ws =
      ap (λ (a : Arrival). answers_from ws a (kept_behind s.state (told_in s n text room) (held_in s n text)) room) (sym t.0)
      ∙ ap (λ (x : List ℕ). answers_from ws r.state x room) (sym t.1)

  -- what was left before it gives the whole, and so does what is left behind it
  pub turn_goes : (ws : List (List ℕ)) → put out (answers_from (piece ∷ ws) s.state (take s.kept text) room) ≡ whole
      → put next (answers_from ws r.state (take r.kept after) room) ≡ whole
  turn_goes ws inv =
      ap (λ (x : List ℕ × ℕ). put x (answers_from ws r.state (take r.kept after) room)) p
      ∙ sym (put_join out (said_text s n text room) (answers_from ws r.state (take r.kept after) room))
      ∙ ap (λ (x : List ℕ). put out (said_text s n text room ++ x)) (sym (said_rest ws))
      ∙ sym (ap (put out) (said_front ws)) ∙ inv

-- ---- the pieces

-- a front of a list behind its first k
drop_front : (k m : ℕ) (s : List ℕ) → k ≤ length s → drop k (take (k + m) s) ≡ take m (drop k s)
drop_front k m s h = ap (drop k) (take-add k m s) ∙ drop_at (take k s) (take m (drop k s)) k (length-take-le k s h)

-- what is left to say
unfoldable pub left_text : List ℕ → ℕ → Stand → List ℕ → ℕ → List ℕ
left_text cuts n s text room = answers_from (pieces_of cuts (take (n - s.from) (drop s.from text))) s.state (take s.kept text) room

pub left_starts : (cuts : List ℕ) (n : ℕ) (text : List ℕ) (room : ℕ) (a : Arrival) (at : ℕ) → a ≡ begun
    → left_text cuts n (record { state = a; kept = 0; from = 0; at = at }) text room ≡ answers_from (pieces_of cuts (take n text)) begun [] room
unfolding left_text
left_starts cuts n text room a at e =
    let all : n - 0 ≡ n = omega arith in
    ap (λ (m : ℕ). answers_from (pieces_of cuts (take m text)) a [] room) all ∙ ap (λ (x : Arrival). answers_from (pieces_of cuts (take n text)) x [] room) e

module _ (cuts : List ℕ) (i n : ℕ) (s r : Stand) (text after : List ℕ) (room : ℕ) (out next whole : List ℕ × ℕ) where
  abbrev cut_length : ℕ
  cut_length = get_or cuts i 0

  module _ (h : i < length cuts) (l : s.from + sum_of (drop i cuts) ≤ n) (m : n ≤ length text) where
    pub cut_fits : s.from + cut_length ≤ n
    cut_fits = omega (arith, l, sum_front cuts i h)

    pub cuts_fit : (other : ℕ) → Turned s cut_length text other r after → r.from + sum_of (drop (i + 1) cuts) ≤ n
    cuts_fit other t = omega (arith, l, sum_front cuts i h, t.2)

    -- the first of the pieces, and those behind it
    cut_front : Turned s cut_length text room r after → pieces_of (drop i cuts) (take (n - s.from) (drop s.from text))
        ≡ take cut_length (drop s.from text) ∷ pieces_of (drop (i + 1) cuts) (take (n - r.from) (drop r.from after))
    unfolding pieces_of
    cut_front t =
        let k : ℕ = cut_length in
        let rest : List ℕ = drop s.from text in
        let both : n - s.from ≡ k + (n - (s.from + k)) = omega (arith, cut_fits) in
        let fits : k ≤ length rest = omega (arith, cut_fits, m, length-drop s.from text) in
        ap (λ (x : List ℕ). pieces_of x (take (n - s.from) rest)) (front cuts i h)
        ∙ ap (λ (x : List ℕ). x ∷ pieces_of (drop (i + 1) cuts) (drop k (take (n - s.from) rest))) (take-take k (n - s.from) rest (omega (arith, cut_fits)))
        ∙ ap (λ (x : List ℕ). take k rest ∷ pieces_of (drop (i + 1) cuts) x)
        (ap (λ (x : ℕ). drop k (take x rest)) both ∙ drop_front k (n - (s.from + k)) rest fits ∙ ap (take (n - (s.from + k))) (drop-drop k s.from text)
        ∙ ap (take (n - (s.from + k))) (sym t.4) ∙ ap (λ (x : ℕ). take (n - x) (drop r.from after)) (sym t.2))

    pub left_goes : (other : ℕ) → other ≡ room → Turned s cut_length text other r after → next ≡ put out (said_text s cut_length text other)
        → put out (left_text (drop i cuts) n s text room) ≡ whole → put next (left_text (drop (i + 1) cuts) n r after room) ≡ whole
    unfolding left_text
    left_goes other z u q inv =
        let t : Turned s cut_length text room r after = subst (λ (x : ℕ). Turned s cut_length text x r after) z u in
        let p : next ≡ put out (said_text s cut_length text room) = q ∙ ap (λ (x : ℕ). put out (said_text s cut_length text x)) z in
        turn_goes s r cut_length text after room (omega (arith, cut_fits, m)) t out next whole p (pieces_of (drop (i + 1) cuts) (take (n - r.from) (drop r.from after)))
        (sym (ap (λ (x : List (List ℕ)). put out (answers_from x s.state (take s.kept text) room)) (cut_front t)) ∙ inv)

  -- the rest, and the end
  module _ (h : length cuts ≤ i) (l : s.from ≤ n) (m : n ≤ length text) (other : ℕ) (z : other ≡ room) (u : Turned s (n - s.from) text other r after)
      (q : next ≡ put out (said_text s (n - s.from) text other)) where
    pub left_ends : put out (left_text (drop i cuts) n s text room) ≡ whole → (end : List ℕ × ℕ)
        → (last : ℕ) → last ≡ room → end ≡ put next (end_text (finish_of r.state (take r.kept after) last)) → end ≡ whole
    unfolding left_text pieces_of answers_from
    left_ends inv end last again e =
        let t : Turned s (n - s.from) text room r after = subst (λ (x : ℕ). Turned s (n - s.from) text x r after) z u in
        let p : next ≡ put out (said_text s (n - s.from) text room) = q ∙ ap (λ (x : ℕ). put out (said_text s (n - s.from) text x)) z in
        e ∙ ap (λ (x : ℕ). put next (end_text (finish_of r.state (take r.kept after) x))) again ∙ turn_goes s r (n - s.from) text after room (omega (arith, l, m)) t out next whole p []
        (sym (ap (λ (x : List ℕ). put out (answers_from (pieces_of x (take (n - s.from) (drop s.from text))) s.state (take s.kept text) room)) (drop_of_length-le cuts h)) ∙ inv)

-- ---- the line

module _ (words : List ℕ) (space numbers lengths : ℕ) (out end : List ℕ × ℕ) where
  abbrev text_own : List ℕ → List ℕ → List ℕ
  text_own cuts s = answers_from (pieces_of cuts s) begun [] (room_of numbers)

  abbrev text_by : Option ℕ → Option ℕ → Bool → List ℕ
  text_by c h b =
      by_list c bad_text (by_hex h bad_text (cond b (text_own (numbers_of (first_word words)) (pairs (behind_word words))) bad_text))

  text_is : (c : Option ℕ) (h : Option ℕ) (b : Bool) → numbers_in (first_word words) lengths ≡ c → hex_in (behind_word words) space ≡ h
      → leb (sum_of (numbers_of (first_word words))) (length (pairs (behind_word words))) ≡ b → text_line words space numbers lengths ≡ text_by c h b
  unfolding text_line
  text_is c h b e f g =
      ap (λ (x : Option ℕ). text_by x (hex_in (behind_word words) space) (leb (sum_of (numbers_of (first_word words))) (length (pairs (behind_word words))))) e
      ∙ ap (λ (x : Option ℕ). text_by c x (leb (sum_of (numbers_of (first_word words))) (length (pairs (behind_word words))))) f ∙ ap (text_by c h) g

  abbrev Says : Type 0
  Says = end ≡ put out (text_line words space numbers lengths)

  pub no_cuts : numbers_in (first_word words) lengths ≡ None → end ≡ put out bad_text → Says
  no_cuts e p =
      p ∙ sym (ap (put out) (text_is None (hex_in (behind_word words) space) (leb (sum_of (numbers_of (first_word words))) (length (pairs (behind_word words)))) e refl refl))

  module _ (k : ℕ) (e : numbers_in (first_word words) lengths ≡ Some k) where
    pub no_text : hex_in (behind_word words) space ≡ None → end ≡ put out bad_text → Says
    no_text f p =
        p ∙ sym (ap (put out) (text_is (Some k) None (leb (sum_of (numbers_of (first_word words))) (length (pairs (behind_word words)))) e f refl))

    module _ (n : ℕ) (f : hex_in (behind_word words) space ≡ Some n) (cuts : List ℕ) (c : cuts ≡ numbers_of (first_word words)) (b : Bool) (g : b ≡ leb (sum_of cuts) n) where
      same_test : leb (sum_of (numbers_of (first_word words))) (length (pairs (behind_word words))) ≡ b
      same_test =
          ap (λ (x : List ℕ). leb (sum_of x) (length (pairs (behind_word words)))) (sym c)
          ∙ ap (leb (sum_of cuts)) (sym (hex_fits (behind_word words) space n f).0) ∙ sym g

      pub too_long : b ≡ false → end ≡ put out bad_text → Says
      too_long z p = p ∙ sym (ap (put out) (text_is (Some k) (Some n) false e f (same_test ∙ z)))

      pub line_goes : b ≡ true → (s : List ℕ) → s ≡ pairs (behind_word words) → end ≡ put out (text_own cuts s) → Says
      line_goes z s d p =
          p ∙ ap (λ (x : List ℕ). put out (text_own x s)) c ∙ ap (λ (x : List ℕ). put out (text_own (numbers_of (first_word words)) x)) d
          ∙ sym (ap (put out) (text_is (Some k) (Some n) true e f (same_test ∙ z)))
