-- A body comes to 13, for a reason at a place, exactly where specs/Wrong.antt's `WrongInside` holds of it: `body-told`, `body-wrong`. Assumes nothing.
use Rattle.std.proofs.Common.{Err}
use Prim.Native.Nat.{ℕ, suc, zero, ◌+◌, ◌-◌, ◌≤◌}
use native.Mathlib.Numerals.{add-one}
use native.Mathlib.Omega.{arith}
use mathlib.Core.Bool.{Bool, ◌||◌, cond, false, true, true≢false}
use mathlib.Core.List.{List, [], ◌∷◌}
use mathlib.Core.Path.{◌≡◌, ◌∙◌, ap, refl, subst, sym}
use lib.Dec.{eqb}
use lib.ListN.{drop, length, length-drop}
use borrow.Author.Tests.{eqb-true}
use Rattle.escaped.proofs.Exactly.{escape_exactly, escape_reads}
use Rattle.escaped.proofs.Reasons.{escape_13}
use Rattle.escaped.specs.Escape.{Meant, Says}
use Rattle.escaped.specs.Escape.Meant.{byte, point}
use Rattle.escapes.specs.Escapes.{escape_of}
use Rattle.escapes.specs.declared.answers.EscapeAnswer.{EscapeAnswer}
use Rattle.escapes.specs.declared.answers.EscapeAnswer.TheVariants.{Ascii, Utf8, Refused}
use Rattle.escapes.specs.declared.answers.Mode.{Mode}
use Rattle.quoted.proofs.Blanked.{continued_ends, ends_continued, escape_no_end}
use Rattle.quoted.proofs.BodyReads.{backslash_body, continued_front, escape_front, meaning, on_measured}
use Rattle.quoted.proofs.Puts.{plain_neither}
use Rattle.quoted.proofs.Thirteen.{unplaced}
use Rattle.quoted.specs.Bodies.{Continued}
use Rattle.quoted.specs.Wrong.{WrongInside}
use Rattle.strings.proofs.PieceLaws.{Sized, body_end, body_step, sized}
use Rattle.strings.specs.Pieces.{Body, behind_backslash, body_of, by_escape, by_piece, bytes_of, line_end, piece_of, plain}
use Rattle.strings.specs.Pieces.Body.{closes, next, spoilt, unclosed}
use Rattle.strings.specs.Quoted.{measured}
use Rattle.strings.specs.declared.pieces.Decoded.{Decoded}
use Rattle.strings.specs.declared.pieces.Decoded.TheVariants.{Nothing}
use Rattle.strings.specs.declared.pieces.Piece.{Piece}
use Rattle.strings.specs.declared.pieces.Piece.TheVariants.{Backslash, Plain, Quote}
use Rattle.strings.specs.declared.pieces.Piece.TheVariants as pieces
use Rattle.text.proofs.Choices.{bool_cases, cond_cases, either}
use Rattle.text.proofs.RunLaws.{run_le}
use Rattle.text.specs.Classes.{continuation_blank}
use Rattle.text.specs.Refusals.{expected_string_end, invalid_escape, placed_behind}
use Rattle.text.specs.Runs.{run}
use Rattle.text.specs.declared.reason.EscapeReason.{EscapeReason}
use Rattle.text.specs.declared.refusal.Refusal.{Refusal}

-- where no line ends, no continuation stands
no_continued : (s : List ℕ) → line_end s ≡ false → (t : List ℕ) → Continued s t → ⊥
no_continued s e t x = true≢false (sym (continued_ends x).0 ∙ e)

-- and the other way round
no-end : (s : List ℕ) → ((t : List ℕ) → Continued s t → ⊥) → line_end s ≡ false
no-end s n = either (bool_cases (line_end s)) (λ e. absurd (n (drop (run continuation_blank s) s) (ends_continued s e))) (λ e. e)

module _ (m : Mode) where
  -- ---- what comes to 13 is wrong

  -- before what is wrong behind k bytes of t those k bytes may stand
  abbrev Before : List ℕ → ℕ → Type 0
  Before t k = (why : EscapeReason) (q : ℕ) → WrongInside m (drop k t) why q → WrongInside m t why (k + q)

  -- plain bytes may
  plain_before : (t : List ℕ) (k : ℕ) → k ≤ run plain t → Before t k
  unfolding run
  plain_before t zero h why q x = subst (WrongInside m t why) (omega arith) x
  plain_before [] (suc k) h why q x = absurd (omega arith)
  plain_before (b ∷ t) (suc k) h why q x =
      let far : 1 + (k + q) ≡ suc k + q = omega arith in
      either (bool_cases (plain b))
      (λ e. let i : suc k ≤ suc (run plain t) = rw e at h in
      let n = plain_neither b e in
      subst (WrongInside m (b ∷ t) why) far (WrongInside.itself n.0 n.1 (plain_before t k (omega arith) why q x)))
      (λ e. let i : suc k ≤ 0 = rw e at h in absurd (omega arith))

  -- a refusal over t is of what is wrong there, if it is 13
  abbrev Tells : List ℕ → Refusal → Type 0
  Tells t r = (why : EscapeReason) (p : ℕ) → r ≡ invalid_escape why p → WrongInside m t why p

  -- what a piece at the front of t is
  abbrev Puts : List ℕ → Piece → Type 0
  Puts t Quote = Unit
  Puts t (Plain k) = Before t k
  Puts t (Backslash k d) = Before t k
  Puts t (pieces.Refused r) = Tells t r

  -- a backslash and k bytes, by their length
  far_behind : (w : List ℕ) (k q : ℕ) → k ≤ length w → 1 + (length w - length (drop k w)) + q ≡ suc k + q
  far_behind w k q h = omega (arith, length-drop k w)

  -- an escape may stand there
  escape_before : (w : List ℕ) (v : Meant) (k : ℕ) → Says (escape_of m w) v k → Before (0x5C ∷ w) (suc k)
  escape_before w v k e why q y =
      let x = (escape_exactly m w v k).0 e in subst (WrongInside m (0x5C ∷ w) why) (far_behind w k q x.0) (WrongInside.escaped x.1 y)

  -- or is wrong
  escape_tells : (w : List ℕ) (r : Refusal) → line_end w ≡ false → escape_of m w ≡ Refused r → Tells (0x5C ∷ w) (placed_behind 1 r)
  escape_tells w r n e why p f =
      let u = unplaced 1 r why p f in
      subst (WrongInside m (0x5C ∷ w) why) u.1 (WrongInside.escape (no_continued w n) ((escape_13 m w why r.place).0 (e ∙ ap Refused u.0)))

  -- by what the reader of escapes says
  escape_puts : (w : List ℕ) (a : EscapeAnswer) → line_end w ≡ false → escape_of m w ≡ a → Puts (0x5C ∷ w) (by_escape a)
  escape_puts w (Ascii b k) n e = rw (add-one k) (escape_before w (byte b) k e)
  escape_puts w (Utf8 c k) n e = rw (add-one k) (escape_before w (point c) k e)
  escape_puts w (Refused r) n e = escape_tells w r n e

  -- behind a backslash stands a continuation or an escape
  backslash_puts : (w : List ℕ) → Puts (0x5C ∷ w) (behind_backslash m w)
  unfolding behind_backslash
  backslash_puts w =
      cond_cases (Puts (0x5C ∷ w)) (line_end w) _ _
      (λ e. rw (add-one (run continuation_blank w)) (λ why q y.
      subst (WrongInside m (0x5C ∷ w) why) (far_behind w (run continuation_blank w) q (run_le continuation_blank w)) (WrongInside.continued (ends_continued w e) y)))
      (λ e. escape_puts w (escape_of m w) e refl)

  -- the piece at the front
  puts : (b : ℕ) (t : List ℕ) → Puts (b ∷ t) (piece_of m (b ∷ t))
  unfolding piece_of
  puts b t =
      cond_cases (Puts (b ∷ t)) (eqb b 0x22) _ _ (λ e. tt)
      (λ p. cond_cases (Puts (b ∷ t)) (eqb b 0x5C) _ _ (λ e. rw (eqb-true b 0x5C e) (backslash_puts t))
      (λ q. plain_before (b ∷ t) (run plain (b ∷ t)) (omega arith)))

  -- every piece of a body over t is so
  abbrev Bad : List ℕ → Body → Type 0
  Bad t closes = Unit
  Bad t unclosed = Unit
  Bad t (spoilt r) = Tells t r
  Bad t (next k bytes changed rest) = Before t k × Bad (drop k t) rest

  -- the piece at the front, and the rest
  bad_by : (t : List ℕ) (p : Piece) → Sized t p → Puts t p → ((k : ℕ) → 1 ≤ k → k ≤ length t → Bad (drop k t) (body_of m (drop k t)))
      → Bad t (by_piece p t (λ n. body_of m (drop n t)))
  bad_by t Quote z x rest = tt
  bad_by t (Plain k) z x rest = (x, rest k z.0 z.1)
  bad_by t (Backslash k d) z x rest = (x, rest k z.0 z.1)
  bad_by t (pieces.Refused r) z x rest = x

  -- every body is such, by the length of its part
  bad_fuel : (fuel : ℕ) (t : List ℕ) → length t ≤ fuel → Bad t (body_of m t)
  bad_fuel zero [] h = subst (Bad []) (sym (body_end m [] refl)) tt
  bad_fuel (suc fuel) [] h = subst (Bad []) (sym (body_end m [] refl)) tt
  bad_fuel zero (b ∷ t) h = absurd (omega arith)
  bad_fuel (suc fuel) (b ∷ t) h =
      subst (Bad (b ∷ t)) (sym (body_step m (b ∷ t) (piece_of m (b ∷ t)) (omega arith) refl))
      (bad_by (b ∷ t) (piece_of m (b ∷ t)) (sized m (b ∷ t) (omega arith)) (puts b t)
      (λ k p q. bad_fuel fuel (drop k (b ∷ t)) (omega (arith, length-drop k (b ∷ t)))))

  -- what is shown of a body that comes to 13
  abbrev Found : List ℕ → ℕ → EscapeReason → ℕ → Type 0
  Found t at why p = (q : ℕ) × (at + q ≡ p) × WrongInside m t why q

  -- 17 is not 13
  not_17 : (why : EscapeReason) (p q : ℕ) → expected_string_end q ≡ invalid_escape why p → ⊥
  not_17 why p q e = omega (arith, ap (λ (i : Refusal). i.number) e)

  -- a body that comes to 13 holds what is wrong
  bad_told : (b : Body) (t : List ℕ) (start from at dec : ℕ) (esc : Bool) (why : EscapeReason) (p : ℕ) → Bad t b
      → measured b start from at dec esc ≡ Err (invalid_escape why p) → Found t at why p
  unfolding measured
  bad_told closes t start from at dec esc why p g e = let z : ◌≡◌ {A = ℕ} 0 1 = cc in absurd (omega arith)
  bad_told unclosed t start from at dec esc why p g e =
      let q : expected_string_end from ≡ invalid_escape why p = cc in absurd (not_17 why p from q)
  bad_told (spoilt r) t start from at dec esc why p g e =
      let q : placed_behind at r ≡ invalid_escape why p = cc in
      let u = unplaced at r why p q in
      (r.place, u.1, g why r.place u.0)
  bad_told (next k bytes changed rest) t start from at dec esc why p g e =
      let r = bad_told rest (drop k t) start (cond changed (at + k) from) (at + k) (dec + length bytes) (esc || changed) why p g.1 e in
      (k + r.0, omega (arith, r.1), g.0 why r.0 r.2)

  -- what comes to 13 is wrong
  pub body_told : (t : List ℕ) (start from at dec : ℕ) (esc : Bool) (why : EscapeReason) (p : ℕ)
      → measured (body_of m t) start from at dec esc ≡ Err (invalid_escape why p) → (q : ℕ) × (at + q ≡ p) × WrongInside m t why q
  body_told t start from at dec esc why p e = bad_told (body_of m t) t start from at dec esc why p (bad_fuel (length t) t (omega arith)) e

  -- ---- and the other way round

  -- the body of t comes to 13, p behind where it stands
  abbrev pub Comes : List ℕ → EscapeReason → ℕ → Type 0
  Comes t why p = (start from at dec : ℕ) (esc : Bool) → measured (body_of m t) start from at dec esc ≡ Err (invalid_escape why (at + p))

  -- a wrong escape is the piece at the front
  wrong_front : (s : List ℕ) (r : Refusal) → escape_of m s ≡ Refused r → line_end s ≡ false → pieces.Refused (placed_behind 1 r) ≡ piece_of m (0x5C ∷ s)
  unfolding piece_of behind_backslash
  wrong_front s r e f = rw (f, e)

  -- and spoils the body
  wrong_comes : (s : List ℕ) (why : EscapeReason) (p : ℕ) → escape_of m s ≡ Refused (invalid_escape why p) → line_end s ≡ false → Comes (0x5C ∷ s) why (1 + p)
  unfolding measured
  wrong_comes s why p e f start from at dec esc =
      ap (λ (x : Body). measured x start from at dec esc)
      (body_step m (0x5C ∷ s) (pieces.Refused (invalid_escape why (1 + p))) (omega arith) (wrong_front s (invalid_escape why p) e f))

  -- a piece with a backslash in front of what is wrong
  behind_comes : (s : List ℕ) (k : ℕ) (d : Decoded) (why : EscapeReason) (p q : ℕ) → Backslash (suc k) d ≡ piece_of m (0x5C ∷ s) → q ≡ suc k + p
      → Comes (drop k s) why p → Comes (0x5C ∷ s) why q
  unfolding measured
  behind_comes s k d why p q e f c start from at dec esc =
      let far : at + suc k + p ≡ at + q = omega arith in
      ap (λ (x : Body). measured x start from at dec esc) (backslash_body m s k d e)
      ∙ c start (at + suc k) (at + suc k) (dec + length (bytes_of d)) (esc || true) ∙ ap (λ (x : ℕ). Err (invalid_escape why x)) far

  -- what is wrong comes to 13
  pub body_wrong : {t : List ℕ} {why : EscapeReason} {p : ℕ} → WrongInside m t why p → Comes t why p
  body_wrong (WrongInside.escape {why} {p} {s} n x) = wrong_comes s why p ((escape_13 m s why p).1 x) (no-end s n)
  body_wrong (WrongInside.itself {why} {p} {b} {s} h i x) = λ start from at dec esc.
      (let far : at + 1 + p ≡ at + (1 + p) = omega arith in
      on_measured m b s h i (run plain s) refl start from at dec esc
      ∙ body_wrong x start from (at + 1) (dec + 1) esc ∙ ap (λ (j : ℕ). Err (invalid_escape why j)) far)
  body_wrong (WrongInside.escaped {why} {p} {v} {s} {u} y x) =
      let r = escape_reads y in
      let far : 1 + (length s - length u) + p ≡ suc r.0 + p = omega (arith, r.1, ap length r.2, length-drop r.0 s) in
      behind_comes s r.0 (meaning v) why p _ (escape_front m s v r.0 r.3 (escape_no_end m s v u y)) far
      (subst (λ (z : List ℕ). Comes z why p) r.2 (body_wrong x))
  body_wrong (WrongInside.continued {why} {p} {s} {u} y x) =
      let r = continued_ends y in
      let k = run continuation_blank s in
      let far : 1 + (length s - length u) + p ≡ suc k + p = omega (arith, ap length r.1, run_le continuation_blank s, length-drop k s) in
      behind_comes s k Nothing why p _ (continued_front m s r.0) far (subst (λ (z : List ℕ). Comes z why p) r.1 (body_wrong x))
