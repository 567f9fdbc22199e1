-- A body of specs/Bodies.antt is read, to its closing quote, and decodes to what the relation says. Assumes nothing.
use Rattle.std.proofs.Common.{Ok}
use Prim.Native.Nat.{ℕ, suc, zero, ◌+◌}
use native.Mathlib.Nat.{add-suc}
use native.Mathlib.Numerals.{add-one}
use native.Mathlib.Omega.{arith}
use mathlib.Core.Bool.{Bool, ◌||◌, false, true}
use mathlib.Core.List.{List, [], ◌∷◌, ◌++◌}
use mathlib.Core.Path.{◌≡◌, ◌∙◌, ap, refl, subst, sym}
use lib.ListN.{drop, get_or, length, take}
use lib.Seq.{drop-drop, get_or-drop}
use borrow.Author.Tests.{ne_eqb}
use Rattle.escaped.proofs.Exactly.{escape_reads}
use Rattle.escaped.specs.Escape.{Meant, Says}
use Rattle.escaped.specs.Escape.Meant.{byte, point}
use Rattle.escapes.specs.Escapes.{escape_of}
use Rattle.escapes.specs.declared.answers.Mode.{Mode}
use Rattle.quoted.proofs.Blanked.{continued_ends, escape_no_end}
use Rattle.quoted.proofs.Puts.{plain_neither}
use Rattle.quoted.specs.Bodies.{Inside, decoded_to}
use Rattle.quoted.specs.Bodies.Inside.{closes as closing, continued, escaped, itself}
use Rattle.strings.proofs.PieceLaws.{body_step}
use Rattle.strings.specs.Pieces.{Body, behind_backslash, body_of, bytes_of, decoded_of, line_end, piece_of, plain}
use Rattle.strings.specs.Pieces.Body.{closes, next}
use Rattle.strings.specs.Quoted.{literal, measured}
use Rattle.strings.specs.declared.literal.Literal.{Literal}
use Rattle.strings.specs.declared.pieces.Decoded.{Decoded}
use Rattle.strings.specs.declared.pieces.Decoded.TheVariants.{Ascii, Nothing, Utf8}
use Rattle.strings.specs.declared.pieces.Piece.TheVariants.{Backslash, Plain, Quote}
use Rattle.text.proofs.Choices.{bool_cases, either, or_false}
use Rattle.text.specs.Classes.{continuation_blank}
use Rattle.text.specs.Runs.{run}

-- what an escape means, as a piece decodes to it
abbrev pub meaning : Meant → Decoded
meaning (byte b) = Ascii b
meaning (point c) = Utf8 c

-- and these are the same bytes
meaning_bytes : (v : Meant) → bytes_of (meaning v) ≡ decoded_to v
meaning_bytes (byte b) = refl
meaning_bytes (point c) = refl

module _ (m : Mode) where
  -- ---- a plain byte in front

  module _ (b : ℕ) (s : List ℕ) (h : b ≡ 0x22 → ⊥) (i : b ≡ 0x5C → ⊥) where
    -- it is a plain byte
    plain_is : plain b ≡ true
    unfolding plain
    plain_is = rw (ne_eqb b 0x22 h, ne_eqb b 0x5C i)

    -- the run in front is one byte longer
    plain_front : Plain (suc (run plain s)) ≡ piece_of m (b ∷ s)
    unfolding piece_of run
    plain_front = rw (ne_eqb b 0x22 h, ne_eqb b 0x5C i, plain_is)

    -- and the body begins with that run
    plain_body : (j : ℕ) → run plain s ≡ j → body_of m (b ∷ s) ≡ next (suc j) (b ∷ take j s) false (body_of m (drop j s))
    plain_body j e = body_step m (b ∷ s) (Plain (suc j)) (omega arith) (ap (λ (x : ℕ). Plain (suc x)) (sym e) ∙ plain_front)

  -- a run that is not empty is the piece at the front
  run_body : (s : List ℕ) (j : ℕ) → run plain s ≡ suc j → body_of m s ≡ next (suc j) (take (suc j) s) false (body_of m (drop (suc j) s))
  unfolding run
  run_body [] j e = absurd (omega arith)
  run_body (b ∷ s) j e =
      either (bool_cases (plain b))
      (λ p. let n = plain_neither b p in let q : suc (run plain s) ≡ suc j = rw p at e in plain_body b s n.0 n.1 j (omega arith))
      (λ p. let q : 0 ≡ suc j = rw p at e in absurd (omega arith))

  module _ (b : ℕ) (s : List ℕ) (h : b ≡ 0x22 → ⊥) (i : b ≡ 0x5C → ⊥) where
    -- a plain byte in front is decoded in front
    on_decoded : (j : ℕ) → run plain s ≡ j → decoded_of (body_of m (b ∷ s)) ≡ b ∷ decoded_of (body_of m s)
    unfolding decoded_of
    on_decoded zero e = ap decoded_of (plain_body b s h i zero e)
    on_decoded (suc j) e = ap decoded_of (plain_body b s h i (suc j) e) ∙ ap (λ (x : Body). b ∷ decoded_of x) (sym (run_body s j e))

    -- and what it comes to is one byte further on
    pub on_measured : (j : ℕ) → run plain s ≡ j → (start from at dec : ℕ) (esc : Bool)
        → measured (body_of m (b ∷ s)) start from at dec esc ≡ measured (body_of m s) start from (at + 1) (dec + 1) esc
    unfolding measured
    on_measured zero e start from at dec esc = ap (λ (x : Body). measured x start from at dec esc) (plain_body b s h i zero e) ∙ ap (measured (body_of m s) start from (at + 1) (dec + 1)) (or_false esc)
    on_measured (suc j) e start from at dec esc =
        let p : at + suc (suc j) ≡ at + 1 + suc j = omega arith in
        let q : dec + suc (length (take (suc j) s)) ≡ dec + 1 + length (take (suc j) s) = omega arith in
        ap (λ (x : Body). measured x start from at dec esc) (plain_body b s h i (suc j) e)
        ∙ ap (λ (x : ℕ). measured (body_of m (drop (suc j) s)) start from x (dec + suc (length (take (suc j) s))) (esc || false)) p
        ∙ ap (λ (x : ℕ). measured (body_of m (drop (suc j) s)) start from (at + 1 + suc j) x (esc || false)) q
        ∙ ap (λ (x : Body). measured x start from (at + 1) (dec + 1) esc) (sym (run_body s j e))

  -- ---- a backslash in front

  -- an escape is the piece at the front
  pub escape_front : (s : List ℕ) (v : Meant) (k : ℕ) → Says (escape_of m s) v k → line_end s ≡ false → Backslash (suc k) (meaning v) ≡ piece_of m (0x5C ∷ s)
  unfolding piece_of behind_backslash
  escape_front s (byte b) k e f = rw (f, e, add-one k)
  escape_front s (point c) k e f = rw (f, e, add-one k)

  -- and so is a continuation
  pub continued_front : (s : List ℕ) → line_end s ≡ true → Backslash (suc (run continuation_blank s)) Nothing ≡ piece_of m (0x5C ∷ s)
  unfolding piece_of behind_backslash
  continued_front s e = rw (e, add-one (run continuation_blank s))

  -- the body then begins with it
  pub backslash_body : (s : List ℕ) (k : ℕ) (d : Decoded) → Backslash (suc k) d ≡ piece_of m (0x5C ∷ s) → body_of m (0x5C ∷ s) ≡ next (suc k) (bytes_of d) true (body_of m (drop k s))
  backslash_body s k d e = body_step m (0x5C ∷ s) (Backslash (suc k) d) (omega arith) e

  -- ---- the whole

  -- from t on k bytes and a quote are read, d is decoded, and u stands behind
  abbrev pub Reads : List ℕ → List ℕ → List ℕ → Type 0
  Reads t d u =
      (k : ℕ) × (get_or t k 0 ≡ 0x22) × (u ≡ drop (suc k) t) × (decoded_of (body_of m t) ≡ d)
      × ((start from at dec : ℕ) (esc : Bool) → (l : Literal) × (measured (body_of m t) start from at dec esc ≡ Ok l) × (l.len ≡ at + suc k))

  -- a quote is the piece at the front
  quote_front : (t : List ℕ) → Quote ≡ piece_of m (0x22 ∷ t)
  unfolding piece_of
  quote_front t = refl

  -- a quote ends the body
  reads_quote : (t : List ℕ) → Reads (0x22 ∷ t) [] t
  unfolding measured decoded_of
  reads_quote t =
      let e : body_of m (0x22 ∷ t) ≡ closes = body_step m (0x22 ∷ t) Quote (omega arith) (quote_front t) in
      (0, refl, refl, ap decoded_of e, λ start from at dec esc. (literal (at + 1) start at dec esc, ap (λ (x : Body). measured x start from at dec esc) e, refl))

  -- a plain byte in front of a body
  reads_plain : (b : ℕ) (s d u : List ℕ) → (b ≡ 0x22 → ⊥) → (b ≡ 0x5C → ⊥) → Reads s d u → Reads (b ∷ s) (b ∷ d) u
  reads_plain b s d u h i r = (
    suc r.0,
    r.1,
    r.2,
    on_decoded b s h i (run plain s) refl ∙ ap (λ (x : List ℕ). b ∷ x) r.3,
    λ start from at dec esc. (let q = r.4 start from (at + 1) (dec + 1) esc in
        (q.0, on_measured b s h i (run plain s) refl start from at dec esc ∙ q.1, omega (arith, q.2))),
  )

  -- an escape or a continuation in front of a body
  reads_backslash : (s d u : List ℕ) (j : ℕ) (x : Decoded) → Backslash (suc j) x ≡ piece_of m (0x5C ∷ s) → Reads (drop j s) d u → Reads (0x5C ∷ s) (bytes_of x ++ d) u
  unfolding measured decoded_of
  reads_backslash s d u j x e r =
      let b = backslash_body s j x e in
      let k = r.0 in (
        suc (j + k),
        sym (get_or-drop j s k 0) ∙ r.1,
        r.2 ∙ drop-drop (suc k) j s ∙ ap (λ (y : ℕ). drop y s) (add-suc j k),
        ap decoded_of b ∙ ap (λ (y : List ℕ). bytes_of x ++ y) r.3,
        λ start from at dec esc. (let q = r.4 start (at + suc j) (at + suc j) (dec + length (bytes_of x)) (esc || true) in
            (q.0, ap (λ (y : Body). measured y start from at dec esc) b ∙ q.1, omega (arith, q.2))),
      )

  -- a body of the relation is read
  pub inside_reads : {s d t : List ℕ} → Inside m s d t → Reads s d t
  inside_reads (closing {t}) = reads_quote t
  inside_reads (itself {b} {s} {d} {t} h i x) = reads_plain b s d t h i (inside_reads x)
  inside_reads (escaped {v} {s} {u} {d} {t} e x) =
      let r = escape_reads e in
      subst (λ (y : List ℕ). Reads (0x5C ∷ s) (y ++ d) t) (meaning_bytes v)
      (reads_backslash s d t r.0 (meaning v) (escape_front s v r.0 r.3 (escape_no_end m s v u e)) (subst (λ (y : List ℕ). Reads y d t) r.2 (inside_reads x)))
  inside_reads (continued {s} {u} {d} {t} c x) =
      let r = continued_ends c in
      reads_backslash s d t (run continuation_blank s) Nothing (continued_front s r.0) (subst (λ (y : List ℕ). Reads y d t) r.1 (inside_reads x))
