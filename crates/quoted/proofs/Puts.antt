-- Each piece of a body, put before a body, makes one: what stands in specs/Bodies.antt, from what the reader finds. Assumes nothing.
use Rattle.std.proofs.Common.{Ok}
use Prim.Native.Nat.{ℕ, suc, zero, ◌+◌, ◌≤◌}
use native.Mathlib.Numerals.{add-one}
use native.Mathlib.Omega.{arith}
use mathlib.Core.Bool.{Bool, ◌||◌, cond, true}
use mathlib.Core.List.{List, [], ◌∷◌, ◌++◌}
use mathlib.Core.Path.{◌≡◌, ap, refl, subst, sym}
use lib.Dec.{eqb}
use lib.ListN.{drop, length, length-drop, take}
use lib.Seq.{drop-drop}
use borrow.Author.Tests.{eqb-false, eqb-true, not-true}
use Rattle.escaped.proofs.Exactly.{escape_exactly}
use Rattle.escapes.specs.Escapes.{escape_of}
use Rattle.escaped.specs.Escape.Meant.{byte, point}
use Rattle.escapes.specs.declared.answers.EscapeAnswer.{EscapeAnswer}
use Rattle.escapes.specs.declared.answers.EscapeAnswer.TheVariants.{Ascii, Utf8, Refused}
use Rattle.escapes.specs.declared.answers.Mode.{Mode}
use Rattle.quoted.proofs.Blanked.{ends_continued}
use Rattle.quoted.specs.Bodies.{Inside}
use Rattle.quoted.specs.Bodies.Inside.{closes as closing, continued, escaped, itself}
use Rattle.strings.proofs.PieceLaws.{Sized, body_end, body_step, sized}
use Rattle.strings.specs.Pieces.{Body, behind_backslash, body_of, by_escape, by_piece, bytes_of, decoded_of, line_end, piece_of, plain}
use Rattle.strings.specs.Pieces.Body.{closes, next, spoilt, unclosed}
use Rattle.strings.specs.Quoted.{literal, measured}
use Rattle.strings.specs.declared.literal.Literal.{Literal}
use Rattle.strings.specs.declared.pieces.Piece.{Piece}
use Rattle.strings.specs.declared.pieces.Piece.TheVariants.{Backslash, Plain, Quote}
use Rattle.strings.specs.declared.pieces.Piece.TheVariants as pieces
use Rattle.text.proofs.Choices.{bool_cases, cond_cases, either, or_left, or_right}
use Rattle.text.specs.Classes.{continuation_blank}
use Rattle.text.specs.Runs.{run}

-- ---- plain bytes

-- a plain byte is no quote and no backslash
pub plain_neither : (b : ℕ) → plain b ≡ true → (b ≡ 0x22 → ⊥) × (b ≡ 0x5C → ⊥)
unfolding plain
plain_neither b e =
    let o = not-true (eqb b 0x22 || eqb b 0x5C) e in
    (eqb-false b 0x22 (or_left (eqb b 0x22) (eqb b 0x5C) o), eqb-false b 0x5C (or_right (eqb b 0x22) (eqb b 0x5C) o))

module _ (m : Mode) where
  -- before the body behind k bytes of t stand bytes that mean `bytes`
  abbrev Before : List ℕ → ℕ → List ℕ → Type 0
  Before t k bytes = (d u : List ℕ) → Inside m (drop k t) d u → Inside m t (bytes ++ d) u

  -- plain bytes mean themselves
  plain_before : (t : List ℕ) (k : ℕ) → k ≤ run plain t → Before t k (take k t)
  unfolding run
  plain_before [] zero h d u x = x
  plain_before [] (suc k) h d u x = absurd (omega arith)
  plain_before (b ∷ t) zero h d u x = x
  plain_before (b ∷ t) (suc k) h d u x =
      let rest : k ≤ run plain t → Inside m t (take k t ++ d) u = λ i. plain_before t k i d u x in
      either (bool_cases (plain b))
      (λ e. let i : suc k ≤ suc (run plain t) = rw e at h in let n = plain_neither b e in itself n.0 n.1 (rest (omega arith)))
      (λ e. let i : suc k ≤ 0 = rw e at h in absurd (omega arith))

  -- what a piece at the front of t is
  abbrev Puts : List ℕ → Piece → Type 0
  Puts t Quote = Inside m t [] (drop 1 t)
  Puts t (Plain k) = Before t k (take k t)
  Puts t (Backslash k d) = Before t k (bytes_of d)
  Puts t (pieces.Refused r) = Unit

  -- an escape means what it decodes to
  escape_puts : (w : List ℕ) (a : EscapeAnswer) → escape_of m w ≡ a → Puts (0x5C ∷ w) (by_escape a)
  escape_puts w (Ascii b k) e = rw (add-one k) (λ d u x. escaped ((escape_exactly m w (byte b) k).0 e).1 x)
  escape_puts w (Utf8 c k) e = rw (add-one k) (λ d u x. escaped ((escape_exactly m w (point c) k).0 e).1 x)
  escape_puts w (Refused r) e = tt

  -- behind a backslash stands a continuation or an escape
  backslash_puts : (w : List ℕ) → Puts (0x5C ∷ w) (behind_backslash m w)
  unfolding behind_backslash
  backslash_puts w =
      cond_cases (Puts (0x5C ∷ w)) (line_end w) _ _
      (λ e. rw (add-one (run continuation_blank w)) (λ d u x. continued (ends_continued w e) x))
      (λ e. escape_puts w (escape_of m w) refl)

  -- the piece at the front
  puts : (b : ℕ) (t : List ℕ) → Puts (b ∷ t) (piece_of m (b ∷ t))
  unfolding piece_of
  puts b t =
      cond_cases (Puts (b ∷ t)) (eqb b 0x22) _ _ (λ e. rw (eqb-true b 0x22 e) closing)
      (λ p. cond_cases (Puts (b ∷ t)) (eqb b 0x5C) _ _ (λ e. rw (eqb-true b 0x5C e) (backslash_puts t))
      (λ q. plain_before (b ∷ t) (run plain (b ∷ t)) (omega arith)))

  -- ---- the whole

  -- every piece of a body over t is what the relation says
  abbrev Good : List ℕ → Body → Type 0
  Good t closes = (1 ≤ length t) × Inside m t [] (drop 1 t)
  Good t unclosed = Unit
  Good t (spoilt r) = Unit
  Good t (next k bytes changed rest) = (k ≤ length t) × Before t k bytes × Good (drop k t) rest

  -- the piece at the front, and the rest
  good_by : (t : List ℕ) (p : Piece) → Sized t p → Puts t p → ((k : ℕ) → 1 ≤ k → k ≤ length t → Good (drop k t) (body_of m (drop k t))) → Good t (by_piece p t (λ n. body_of m (drop n t)))
  good_by t Quote z x rest = (z.0, x)
  good_by t (Plain k) z x rest = (z.1, x, rest k z.0 z.1)
  good_by t (Backslash k d) z x rest = (z.1, x, rest k z.0 z.1)
  good_by t (pieces.Refused r) z x rest = tt

  -- every body is such, by the length of its part
  good_fuel : (fuel : ℕ) (t : List ℕ) → length t ≤ fuel → Good t (body_of m t)
  good_fuel zero [] h = subst (Good []) (sym (body_end m [] refl)) tt
  good_fuel (suc fuel) [] h = subst (Good []) (sym (body_end m [] refl)) tt
  good_fuel zero (b ∷ t) h = absurd (omega arith)
  good_fuel (suc fuel) (b ∷ t) h =
      subst (Good (b ∷ t)) (sym (body_step m (b ∷ t) (piece_of m (b ∷ t)) (omega arith) refl))
      (good_by (b ∷ t) (piece_of m (b ∷ t)) (sized m (b ∷ t) (omega arith)) (puts b t) (λ k p q. good_fuel fuel (drop k (b ∷ t)) (omega (arith, length-drop k (b ∷ t)))))

  -- a body that comes to a string is a body of the relation
  good_read : (b : Body) (t : List ℕ) (start from at dec : ℕ) (esc : Bool) (l : Literal) → Good t b → measured b start from at dec esc ≡ Ok l
      → (n : ℕ) × (n ≤ length t) × (l.len ≡ at + n) × Inside m t (decoded_of b) (drop n t)
  unfolding measured decoded_of
  good_read closes t start from at dec esc l g e =
      let q : literal (at + 1) start at dec esc ≡ l = cc in (1, g.0, sym (ap (λ (x : Literal). x.len) q), g.1)
  good_read unclosed t start from at dec esc l g e = let z : ◌≡◌ {A = ℕ} 0 1 = cc in absurd (omega arith)
  good_read (spoilt r) t start from at dec esc l g e = let z : ◌≡◌ {A = ℕ} 0 1 = cc in absurd (omega arith)
  good_read (next k bytes changed rest) t start from at dec esc l g e =
      let r = good_read rest (drop k t) start (cond changed (at + k) from) (at + k) (dec + length bytes) (esc || changed) l g.2 e in
      (k + r.0, omega (arith, r.1, g.0, length-drop k t), omega (arith, r.2), g.1 (decoded_of rest) (drop (k + r.0) t) (subst (Inside m (drop k t) (decoded_of rest)) (drop-drop r.0 k t) r.3))

  -- what comes to a string stands there
  pub body_inside : (t : List ℕ) (start from at dec : ℕ) (esc : Bool) (l : Literal) → measured (body_of m t) start from at dec esc ≡ Ok l
      → (n : ℕ) × (n ≤ length t) × (l.len ≡ at + n) × Inside m t (decoded_of (body_of m t)) (drop n t)
  body_inside t start from at dec esc l e = good_read (body_of m t) t start from at dec esc l (good_fuel (length t) t (omega arith)) e
