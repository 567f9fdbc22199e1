-- A refused string whose place lies before a stop byte stays refused, unless it is refused for its missing end (17, 6). Assumes nothing.
use Rattle.std.proofs.Common.{Ok, Err}
use Rattle.strings.specs.declared.literal.Literal.{Literal}
use Prim.Native.Nat.{◌+◌, ◌<◌, ◌≤◌, suc, zero, ℕ}
use native.Mathlib.Omega.{arith}
use mathlib.Core.Bool.{Bool, ◌||◌, cond, false, true}
use mathlib.Core.List.{List, [], ◌++◌, ◌∷◌, append_assoc, append-nil}
use mathlib.Core.Path.{◌∙◌, ◌≡◌, ap, refl, subst, sym}
use lib.Dec.{eqb, ltb}
use lib.ListN.{drop, drop_of_length-le, length, length-append, length-drop, take}
use lib.Seq.{drop-append-le, take-append-le}
use borrow.Author.Tests.{lt-ltb, ltb-true, le-leb}
use Rattle.escapes.specs.Escapes.{escape_of, simple_of}
use Rattle.escapes.specs.declared.answers.EscapeAnswer.{EscapeAnswer}
use Rattle.escapes.specs.declared.answers.EscapeAnswer.TheVariants.{Ascii, Utf8, Refused as NoEscape}
use Rattle.escapes.specs.declared.answers.Mode.{Mode}
use Rattle.strings.proofs.Closes.{Less, piece_closed, run_same}
use Rattle.strings.proofs.PieceLaws.{Sized, body_step, sized}
use Rattle.strings.specs.Pieces.{Body, behind_backslash, body_from, body_of, by_escape, by_piece, bytes_of, line_end, piece_of, plain, unquoted}
use Rattle.strings.specs.Pieces.Body.{closes, next, spoilt, unclosed}
use Rattle.strings.specs.Quoted.{measured, quoted_of}
use Rattle.strings.specs.declared.pieces.Decoded.TheVariants.{Nothing}
use Rattle.strings.specs.declared.pieces.Piece.{Piece}
use Rattle.strings.specs.declared.pieces.Piece.TheVariants.{Backslash, Plain, Quote, Refused as Spoilt}
use Rattle.text.proofs.Choices.{cond_cases, either, lt_or_le}
use Rattle.text.specs.Refusals.{expected_string_end, invalid_escape, placed_behind, Told}
use Rattle.text.specs.declared.reason.EscapeReason.TheVariants.{UnknownLetter}
use Rattle.text.specs.Classes.{continuation_blank}
use Rattle.text.specs.Runs.{run}
use Rattle.text.specs.Utf8.{char_len, width_of}
use Rattle.text.specs.declared.refusal.Refusal.{Refusal}
use Rattle.settled.proofs.EscapeEnds.{Plain as PlainByte, escape_stays}

-- ---- where a refusal of a body stands

-- a refusal that is not for a missing end stands behind what was passed
abbrev Behind : ℕ → Told Literal → Type 0
Behind at (Ok l) = Unit {0}
Behind at (Err r) = (r.number ≡ 17 → ⊥) → at ≤ r.place

behind_less : (at k : ℕ) (a : Told Literal) → at ≤ k → Behind k a → Behind at a
behind_less at k (Ok l) h b = tt
behind_less at k (Err r) h b = λ n. omega (arith, b n)

measured_behind : (b : Body) (start from at dec : ℕ) (esc : Bool) → Behind at (measured b start from at dec esc)
unfolding measured
measured_behind closes start from at dec esc = tt
measured_behind unclosed start from at dec esc = λ n. absurd (n refl)
measured_behind (spoilt r) start from at dec esc = λ n. omega arith
measured_behind (next n bytes changed rest) start from at dec esc =
    behind_less at (at + n) (measured rest start (cond changed (at + n) from) (at + n) (dec + length bytes) (esc || changed)) (omega arith)
    (measured_behind rest start (cond changed (at + n) from) (at + n) (dec + length bytes) (esc || changed))

module _ (c : ℕ) (o : PlainByte c) where
  -- ---- a spoilt piece

  ascii_len : (w : List ℕ) → char_len (c ∷ w) ≡ 1
  unfolding char_len width_of
  ascii_len w = rw (le-leb c 0x7F (omega (arith, o.low)))

  -- an escape that c begins is not refused before c
  first_place : (m : Mode) (w : List ℕ) (r : Refusal) → escape_of m (c ∷ w) ≡ NoEscape r → 1 ≤ r.place
  unfolding escape_of
  first_place m w r h = go (ltb (simple_of c) 256) (rw (o.no_x, o.no_u) at h)
    where
      go : (t : Bool) → cond t (Ascii (simple_of c) 1) (NoEscape (invalid_escape UnknownLetter (char_len (c ∷ w)))) ≡ NoEscape r → 1 ≤ r.place
      go true h = let z : ◌≡◌ {A = ℕ} 0 1 = cc in absurd (omega arith)
      go false h = let e : invalid_escape UnknownLetter (char_len (c ∷ w)) ≡ r = cc in subst (λ (x : Refusal). 1 ≤ x.place) e (omega (arith, ascii_len w))

  spoilt_by : (a : EscapeAnswer) (q : Refusal) → by_escape a ≡ Spoilt q → (p : Refusal) × (a ≡ NoEscape p) × (q ≡ placed_behind 1 p)
  spoilt_by (Ascii b n) q h = let z : ◌≡◌ {A = ℕ} 0 1 = cc in absurd (omega arith)
  spoilt_by (Utf8 k n) q h = let z : ◌≡◌ {A = ℕ} 0 1 = cc in absurd (omega arith)
  spoilt_by (NoEscape p) q h = (p, refl, cc)

  -- behind a backslash: no line continuation, and a refused escape
  record Spoils (m : Mode) (t : List ℕ) (q : Refusal) : Type 0 where
    no_line : line_end t ≡ false
    why : Refusal
    escape : escape_of m t ≡ NoEscape why
    is : q ≡ placed_behind 1 why

  spoils : (m : Mode) (t : List ℕ) (q : Refusal) → behind_backslash m t ≡ Spoilt q → Spoils m t q
  unfolding behind_backslash
  spoils m t q =
      cond_cases (λ (x : Piece). x ≡ Spoilt q → Spoils m t q) (line_end t) (Backslash (run continuation_blank t + 1) Nothing) (by_escape (escape_of m t))
      (λ e h. let z : ◌≡◌ {A = ℕ} 0 1 = cc in absurd (omega arith))
      (λ e h. let x = spoilt_by (escape_of m t) q h in record { no_line = e; why = x.0; escape = x.1; is = x.2 })

  spoilt_is : (m : Mode) (t : List ℕ) (q : Refusal) → Spoils m t q → behind_backslash m t ≡ Spoilt q
  unfolding behind_backslash
  spoilt_is m t q k = rw k.no_line (ap by_escape k.escape ∙ ap Spoilt (sym k.is))

  line_same : (x : ℕ) (a w w' : List ℕ) → line_end (x ∷ a ++ c ∷ w') ≡ line_end (x ∷ a ++ c ∷ w)
  unfolding line_end
  line_same x [] w w' = refl
  line_same x (y ∷ a) w w' = refl

  behind_stays : (m : Mode) (a w w' : List ℕ) (q : Refusal) → behind_backslash m (a ++ c ∷ w) ≡ Spoilt q → q.place ≤ suc (length a) → behind_backslash m (a ++ c ∷ w') ≡ Spoilt q
  behind_stays m [] w w' q h le =
      let k = spoils m (c ∷ w) q h in
      absurd (omega (arith, le, ap (λ (r : Refusal). r.place) k.is, first_place m w k.why k.escape))
  behind_stays m (x ∷ a) w w' q h le =
      let k = spoils m (x ∷ a ++ c ∷ w) q h in
      let e = escape_stays c o m (x ∷ a) w w' k.why k.escape (omega (arith, le, ap (λ (r : Refusal). r.place) k.is)) in
      spoilt_is m (x ∷ a ++ c ∷ w') q (record { no_line = line_same x a w w' ∙ k.no_line; why = k.why; escape = e; is = k.is })

  -- a piece that is spoilt before c
  piece_stays : (m : Mode) (a w w' : List ℕ) (q : Refusal) → piece_of m (a ++ c ∷ w) ≡ Spoilt q → q.place ≤ length a → piece_of m (a ++ c ∷ w') ≡ Spoilt q
  unfolding piece_of
  piece_stays m [] w w' q h le = absurd (none h)
    where
      none : cond (eqb c 0x22) Quote (cond (eqb c 0x5C) (behind_backslash m w) (Plain (run plain (c ∷ w)))) ≡ Spoilt q → ⊥
      none = rw o.no_slash (cond_cases (λ (x : Piece). x ≡ Spoilt q → ⊥) (eqb c 0x22) Quote (Plain (run plain (c ∷ w)))
          (λ e h. let z : ◌≡◌ {A = ℕ} 0 1 = cc in omega arith) (λ e h. let z : ◌≡◌ {A = ℕ} 0 1 = cc in omega arith))
  piece_stays m (x ∷ a) w w' q h le = go (eqb x 0x22) (eqb x 0x5C) h
    where
      go : (s t : Bool) → cond s Quote (cond t (behind_backslash m (a ++ c ∷ w)) (Plain (run plain (x ∷ a ++ c ∷ w)))) ≡ Spoilt q
          → cond s Quote (cond t (behind_backslash m (a ++ c ∷ w')) (Plain (run plain (x ∷ a ++ c ∷ w')))) ≡ Spoilt q
      go true t h = let z : ◌≡◌ {A = ℕ} 0 1 = cc in absurd (omega arith)
      go false true h = behind_stays m a w w' q h le
      go false false h = let z : ◌≡◌ {A = ℕ} 0 1 = cc in absurd (omega arith)

  -- ---- bodies

  -- what a body of the rest t comes to, `at` bytes behind the front
  abbrev comes : Mode → List ℕ → ℕ → ℕ → ℕ → ℕ → Bool → Told Literal
  comes m t start from at dec esc = measured (body_of m t) start from at dec esc

  abbrev Stays : Mode → List ℕ → List ℕ → List ℕ → Refusal → Type 0
  Stays m a w v r = (start from at dec : ℕ) (esc : Bool) → comes m (a ++ c ∷ w) start from at dec esc ≡ Err r → r.place ≤ at + length a
      → comes m (a ++ c ∷ (w ++ v)) start from at dec esc ≡ Err r

  empty_17 : (m : Mode) (start from at dec : ℕ) (esc : Bool) (r : Refusal) → comes m [] start from at dec esc ≡ Err r → r.number ≡ 17
  unfolding body_of body_from measured
  empty_17 m start from at dec esc r h = let e : expected_string_end from ≡ r = cc in sym (ap (λ (x : Refusal). x.number) e)

  module _ (m : Mode) (w v : List ℕ) (r : Refusal) (n17 : r.number ≡ 17 → ⊥) where
    -- a piece of n bytes, and the rest
    pass : (fuel n : ℕ) (a : List ℕ) (bytes bytes' : List ℕ) (changed : Bool) → length bytes ≡ length bytes' → 1 ≤ n → length a ≤ fuel
        → ((a : List ℕ) → length a < fuel → Stays m a w v r)
        → (start from at dec : ℕ) (esc : Bool)
        → measured (next n bytes changed (body_of m (drop n (a ++ c ∷ w)))) start from at dec esc ≡ Err r → r.place ≤ at + length a
        → measured (next n bytes' changed (body_of m (drop n (a ++ c ∷ (w ++ v))))) start from at dec esc ≡ Err r
    unfolding measured
    pass fuel n a bytes bytes' changed lb pos la rest start from at dec esc h le =
        let f : ℕ = cond changed (at + n) from in
        let e : Bool = esc || changed in
        either (lt_or_le (length a) n)
        (λ far. absurd (omega (arith, le, subst (Behind (at + n)) h (measured_behind (body_of m (drop n (a ++ c ∷ w))) start f (at + n) (dec + length bytes) e) n17)))
        (λ near. let d = drop-append-le n a (c ∷ w) near in
        let d' = drop-append-le n a (c ∷ (w ++ v)) near in
        let g : comes m (drop n a ++ c ∷ w) start f (at + n) (dec + length bytes) e ≡ Err r = ap (λ (t : List ℕ). comes m t start f (at + n) (dec + length bytes) e) (sym d) ∙ h in
        let l = length-drop n a in
        ap (λ (t : List ℕ). comes m t start f (at + n) (dec + length bytes') e) d'
        ∙ ap (λ (k : ℕ). comes m (drop n a ++ c ∷ (w ++ v)) start f (at + n) (dec + k) e) (sym lb)
        ∙ rest (drop n a) (omega arith) start f (at + n) (dec + length bytes) e g (omega arith))

    -- the whole, and what comes behind it
    later : (a : List ℕ) → a ++ c ∷ (w ++ v) ≡ (a ++ c ∷ w) ++ v
    later a = sym (append_assoc a (c ∷ w) v)

    some : (a : List ℕ) (x : List ℕ) → 0 < length (a ++ c ∷ x)
    some a x = omega (arith, length-append a (c ∷ x))

    -- by the piece in front
    on_piece : (a : List ℕ) (p : Piece) (start from at dec : ℕ) (esc : Bool) → p ≡ piece_of m (a ++ c ∷ (w ++ v))
        → measured (by_piece p (a ++ c ∷ (w ++ v)) (λ n. body_of m (drop n (a ++ c ∷ (w ++ v))))) start from at dec esc ≡ Err r → comes m (a ++ c ∷ (w ++ v)) start from at dec esc ≡ Err r
    on_piece a p start from at dec esc q h = ap (λ (x : Body). measured x start from at dec esc) (body_step m (a ++ c ∷ (w ++ v)) p (some a (w ++ v)) q) ∙ h

    -- a piece that reaches the end of what has come leaves nothing but 17
    not_all : (t : List ℕ) (n : ℕ) (bytes : List ℕ) (changed : Bool) (start from at dec : ℕ) (esc : Bool)
        → measured (next n bytes changed (body_of m (drop n t))) start from at dec esc ≡ Err r → n ≤ length t → n < length t
    unfolding measured
    not_all t n bytes changed start from at dec esc h le =
        either (lt_or_le n (length t)) (λ l. l)
        (λ l. let nothing : drop n t ≡ [] = drop_of_length-le t l in
        absurd (n17 (empty_17 m start (cond changed (at + n) from) (at + n) (dec + length bytes) (esc || changed) r
        (ap (λ (x : List ℕ). comes m x start (cond changed (at + n) from) (at + n) (dec + length bytes) (esc || changed)) (sym nothing) ∙ h))))

    keeps : (t x : List ℕ) → 0 < length t → Less (length t) (piece_of m t) → piece_of m (t ++ x) ≡ piece_of m t
    keeps [] x h l = absurd (omega arith)
    keeps (b ∷ u) x h l =
        let e = append-nil u in
        piece_closed m b u [] x (subst (λ (y : List ℕ). Less (suc (length u)) (piece_of m (b ∷ y))) (sym e) l) ∙ ap (λ (y : List ℕ). piece_of m (b ∷ y)) e

    by-piece : (fuel : ℕ) (a : List ℕ) (p : Piece) → p ≡ piece_of m (a ++ c ∷ w) → Sized (a ++ c ∷ w) p → length a ≤ fuel → ((b : List ℕ) → length b < fuel → Stays m b w v r)
        → (start from at dec : ℕ) (esc : Bool) → measured (by_piece p (a ++ c ∷ w) (λ n. body_of m (drop n (a ++ c ∷ w)))) start from at dec esc ≡ Err r → r.place ≤ at + length a
        → comes m (a ++ c ∷ (w ++ v)) start from at dec esc ≡ Err r
    unfolding measured
    by-piece fuel a Quote q z l rest start from at dec esc e le = let y : ◌≡◌ {A = ℕ} 0 1 = cc in absurd (omega arith)
    by-piece fuel a (Plain n) q z l rest start from at dec esc e le =
        let t : List ℕ = a ++ c ∷ w in
        let small : n < length t = not_all t n (take n t) false start from at dec esc e z.1 in
        let same : Plain n ≡ piece_of m (a ++ c ∷ (w ++ v)) = sym (ap (piece_of m) (later a) ∙ keeps t v (some a w) (subst (Less (length t)) q small) ∙ sym q) in
        let bytes : length (take n t) ≡ length (take n (a ++ c ∷ (w ++ v))) = ap length (sym (ap (take n) (later a) ∙ take-append-le n t v z.1)) in
        on_piece a (Plain n) start from at dec esc same (pass fuel n a (take n t) (take n (a ++ c ∷ (w ++ v))) false bytes z.0 l rest start from at dec esc e le)
    by-piece fuel a (Backslash n d) q z l rest start from at dec esc e le =
        let t : List ℕ = a ++ c ∷ w in
        let small : n < length t = not_all t n (bytes_of d) true start from at dec esc e z.1 in
        let same : Backslash n d ≡ piece_of m (a ++ c ∷ (w ++ v)) = sym (ap (piece_of m) (later a) ∙ keeps t v (some a w) (subst (Less (length t)) q small) ∙ sym q) in
        on_piece a (Backslash n d) start from at dec esc same (pass fuel n a (bytes_of d) (bytes_of d) true refl z.0 l rest start from at dec esc e le)
    by-piece fuel a (Spoilt x) q z l rest start from at dec esc e le =
        let is : placed_behind at x ≡ r = cc in
        let place : at + x.place ≡ r.place = ap (λ (y : Refusal). y.place) is in
        on_piece a (Spoilt x) start from at dec esc (sym (piece_stays m a w (w ++ v) x (sym q) (omega arith))) e

    body_stays : (fuel : ℕ) (a : List ℕ) → length a < fuel → Stays m a w v r
    body_stays zero a h start from at dec esc e le = absurd (omega arith)
    body_stays (suc fuel) a h start from at dec esc e le =
        let t : List ℕ = a ++ c ∷ w in
        by-piece fuel a (piece_of m t) refl (sized m t (some a w)) (omega arith) (λ b l. body_stays fuel b l) start from at dec esc
        (ap (λ (x : Body). measured x start from at dec esc) (sym (body_step m t (piece_of m t) (some a w) refl)) ∙ e) le

  -- ---- quoted strings

  pub run_keeps : (p : ℕ → Bool) (t v : List ℕ) → run p t < length t → run p (t ++ v) ≡ run p t
  run_keeps p t v h = let e = append-nil t in run_same p t [] v (subst (λ (x : List ℕ). run p x < length t) (sym e) h) ∙ ap (run p) e

  -- a quoted string that is not refused for its end has a quote
  quoted_in : (m : Mode) (start : ℕ) (s : List ℕ) (r : Refusal) → quoted_of m start s ≡ Err r → (r.number ≡ 17 → ⊥)
      → (run unquoted (drop start s) < length (drop start s)) × (measured (body_of m (drop start s)) start start start 0 false ≡ Err r)
  unfolding quoted_of
  quoted_in m start s r h n17 =
      cond_cases (λ (x : Told Literal). x ≡ Err r → (run unquoted (drop start s) < length (drop start s)) × (measured (body_of m (drop start s)) start start start 0 false ≡ Err r))
      (ltb (run unquoted (drop start s)) (length (drop start s))) _ (Err (expected_string_end start))
      (λ e q. (ltb-true (run unquoted (drop start s)) (length (drop start s)) e, q))
      (λ e q. let is : expected_string_end start ≡ r = cc in absurd (n17 (sym (ap (λ (y : Refusal). y.number) is)))) h

  quoted_by : (m : Mode) (start : ℕ) (s t : List ℕ) → drop start s ≡ t → run unquoted t < length t → quoted_of m start s ≡ measured (body_of m t) start start start 0 false
  unfolding quoted_of
  quoted_by m start s t e h = rw (e, lt-ltb (run unquoted t) (length t) h)

  pub quoted_stays : (m : Mode) (start : ℕ) (a w v : List ℕ) (r : Refusal) → start ≤ length a → quoted_of m start (a ++ c ∷ w) ≡ Err r → (r.number ≡ 17 → ⊥) → r.place ≤ length a
      → quoted_of m start ((a ++ c ∷ w) ++ v) ≡ Err r
  quoted_stays m start a w v r ls h n17 le =
      let s : List ℕ = a ++ c ∷ w in
      let b : List ℕ = drop start a in
      let t : List ℕ = b ++ c ∷ w in
      let d : drop start s ≡ t = drop-append-le start a (c ∷ w) ls in
      let long : start ≤ length s = omega (arith, length-append a (c ∷ w)) in
      let d' : drop start (s ++ v) ≡ t ++ v = drop-append-le start s v long ∙ ap (λ (x : List ℕ). x ++ v) d in
      let k = quoted_in m start s r h n17 in
      let quote : run unquoted t < length t = subst (λ (x : List ℕ). run unquoted x < length x) d k.0 in
      let was : comes m t start start start 0 false ≡ Err r = ap (λ (x : List ℕ). comes m x start start start 0 false) (sym d) ∙ k.1 in
      let quote' : run unquoted (t ++ v) < length (t ++ v) = omega (arith, run_keeps unquoted t v quote, length-append t v) in
      quoted_by m start (s ++ v) (t ++ v) d' quote'
      ∙ ap (λ (x : List ℕ). comes m x start start start 0 false) (append_assoc b (c ∷ w) v)
      ∙ body_stays m w v r n17 (suc (length b)) b (omega arith) start start start 0 false was (omega (arith, length-drop start a))

  -- a quoted string that is not refused for its end is refused behind its quote
  pub quoted_place : (m : Mode) (start : ℕ) (s : List ℕ) (r : Refusal) → quoted_of m start s ≡ Err r → (r.number ≡ 17 → ⊥) → start ≤ r.place
  quoted_place m start s r h n17 = subst (Behind start) (quoted_in m start s r h n17).1 (measured_behind (body_of m (drop start s)) start start start 0 false) n17
