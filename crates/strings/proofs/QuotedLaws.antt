-- Laws of quoted strings: what a body comes to, piece by piece. Assumes nothing.
use Rattle.std.proofs.Common.{Ok, Err}
use Rattle.text.specs.Refusals.{Told, expected_string_end, placed_behind, expected_byte_string}
use Rattle.strings.specs.declared.literal.Literal.{Literal}
use Prim.Native.Nat.{◌+◌, ◌<◌, ◌≤◌, ℕ, suc, zero}
use native.Mathlib.Omega.{arith}
use mathlib.Core.Bool.{Bool, ◌||◌, false, true}
use mathlib.Core.List.{List, [], ◌∷◌}
use mathlib.Core.Path.{◌∙◌, ◌≡◌, ap, refl}
use lib.Dec.{eqb}
use lib.ListN.{drop, length, length-drop, take, get_or}
use lib.Seq.{drop-drop, length-take-le, get_or-drop}
use borrow.Author.Tests.{eq-eqb, le-ltb, lt-ltb}
use Rattle.escapes.specs.declared.answers.Mode.{Mode}
use Rattle.strings.proofs.More.{run_wider}
use Rattle.strings.proofs.PieceLaws.{Fine, body_end, body_step, found}
use Rattle.strings.specs.Pieces.{Body, body_of, by_piece, decoded_len, piece_of, plain, unquoted}
use Rattle.strings.specs.Quoted.{literal, measured, quoted_of}
use Rattle.strings.specs.Strings.{byte_string_of}
use Rattle.strings.specs.declared.pieces.Decoded.{Decoded}
use Rattle.strings.specs.declared.pieces.Piece.{Piece}
use Rattle.strings.specs.declared.pieces.Piece.TheVariants.{Backslash, Plain, Quote}
use Rattle.strings.specs.declared.pieces.Piece.TheVariants as pieces
use Rattle.text.proofs.Choices.{or_false, or_true, cond_cases, bool_cases, either}
use Rattle.text.proofs.Lists.{head_at}
use Rattle.text.specs.Runs.{run}
use Rattle.text.specs.declared.refusal.Refusal.{Refusal}

module _ (m : Mode) (s : List ℕ) (start from at dec : ℕ) (esc : Bool) (h : at < length s) where
  step : (p : Piece) → p ≡ piece_of m (drop at s)
      → measured (body_of m (drop at s)) start from at dec esc ≡ measured (by_piece p (drop at s) (λ n. body_of m (drop n (drop at s)))) start from at dec esc
  step p e = ap (λ (b : Body). measured b start from at dec esc) (body_step m (drop at s) p (omega (arith, length-drop at s)) e)

  pub quote_step : Quote ≡ piece_of m (drop at s) → measured (body_of m (drop at s)) start from at dec esc ≡ Ok (literal (at + 1) start at dec esc)
  unfolding measured
  quote_step e = step Quote e

  pub plain_size : (n : ℕ) → Plain n ≡ piece_of m (drop at s) → (1 ≤ n) × (at + n ≤ length s)
  plain_size n e =
      let z = found m (drop at s) (Plain n) (omega (arith, length-drop at s)) e in (z.0, omega (arith, z.1, length-drop at s))

  plain_next : (n : ℕ) → Plain n ≡ piece_of m (drop at s)
      → measured (body_of m (drop at s)) start from at dec esc ≡ measured (body_of m (drop n (drop at s))) start from (at + n) (dec + length (take n (drop at s))) (esc || false)
  unfolding measured
  plain_next n e = step (Plain n) e

  pub plain_step : (n : ℕ) → Plain n ≡ piece_of m (drop at s)
      → measured (body_of m (drop at s)) start from at dec esc ≡ measured (body_of m (drop (at + n) s)) start from (at + n) (dec + n) esc
  plain_step n e =
      let z = plain_size n e in
      let l : length (take n (drop at s)) ≡ n = length-take-le n (drop at s) (omega (arith, z.1, length-drop at s)) in
      plain_next n e ∙ rw (drop-drop n at s, l, or_false esc)

  pub backslash_size : (n : ℕ) (d : Decoded) → Backslash n d ≡ piece_of m (drop at s) → (1 ≤ n) × (at + n ≤ length s) × (decoded_len d ≤ n) × Fine d
  backslash_size n d e =
      let z = found m (drop at s) (Backslash n d) (omega (arith, length-drop at s)) e in (z.0, omega (arith, z.1, length-drop at s), z.2, z.3)

  backslash_next : (n : ℕ) (d : Decoded) → Backslash n d ≡ piece_of m (drop at s)
      → measured (body_of m (drop at s)) start from at dec esc ≡ measured (body_of m (drop n (drop at s))) start (at + n) (at + n) (dec + decoded_len d) (esc || true)
  unfolding measured decoded_len
  backslash_next n d e = step (Backslash n d) e

  pub backslash_step : (n : ℕ) (d : Decoded) → Backslash n d ≡ piece_of m (drop at s)
      → measured (body_of m (drop at s)) start from at dec esc ≡ measured (body_of m (drop (at + n) s)) start (at + n) (at + n) (dec + decoded_len d) true
  backslash_step n d e = backslash_next n d e ∙ rw (drop-drop n at s, or_true esc)

  pub spoilt_size : (r : Refusal) → pieces.Refused r ≡ piece_of m (drop at s) → at + r.place ≤ length s
  spoilt_size r e =
      let z = found m (drop at s) (pieces.Refused r) (omega (arith, length-drop at s)) e in omega (arith, z, length-drop at s)

  pub spoilt_step : (r : Refusal) → pieces.Refused r ≡ piece_of m (drop at s)
      → measured (body_of m (drop at s)) start from at dec esc ≡ Err (placed_behind at r)
  unfolding measured
  spoilt_step r e = step (pieces.Refused r) e

pub end_step : (m : Mode) (s : List ℕ) (start from at dec : ℕ) (esc : Bool) → length s ≤ at
    → measured (body_of m (drop at s)) start from at dec esc ≡ Err (expected_string_end from)
unfolding measured
end_step m s start from at dec esc h =
    ap (λ (b : Body). measured b start from at dec esc) (body_end m (drop at s) (omega (arith, length-drop at s)))

-- ---- a string without a backslash

piece_quote : (m : Mode) (t : List ℕ) → get_or t 0 0 ≡ 0x22 → Quote ≡ piece_of m t
unfolding piece_of
piece_quote m t e = rw (eq-eqb (get_or t 0 0) 0x22 e)

piece_plain : (m : Mode) (t : List ℕ) (n : ℕ) → n ≡ run plain t → 0 < n → Plain n ≡ piece_of m t
unfolding piece_of run plain
piece_plain m [] n e h = absurd (omega arith)
piece_plain m (b ∷ t) n e h =
    either (bool_cases (eqb b 0x22)) (λ p. let z : n ≡ 0 = rw p at e in absurd (omega arith))
    (λ p. either (bool_cases (eqb b 0x5C)) (λ q. let z : n ≡ 0 = rw (p, q) at e in absurd (omega arith))
    (λ q. rw (p, q) (ap Plain (rw (p, q) at e))))

-- the run of plain bytes ends at a quote
plain_body : (m : Mode) (s : List ℕ) (start n : ℕ) → n ≡ run plain (drop start s) → start + n < length s → get_or s (start + n) 0 ≡ 0x22
    → measured (body_of m (drop start s)) start start start 0 false ≡ Ok (literal (start + n + 1) start (start + n) n false)
plain_body m s start zero e h q =
    let z : start + 0 ≡ start = omega arith in
    rw z (quote_step m s start start start 0 false (omega arith) (piece_quote m (drop start s) (head_at s start ∙ rw z at q)))
plain_body m s start (suc n) e h q =
    let z : 0 + suc n ≡ suc n = omega arith in
    plain_step m s start start start 0 false (omega arith) (suc n) (piece_plain m (drop start s) (suc n) e (omega arith))
    ∙ rw z (quote_step m s start start (start + suc n) (suc n) false h (piece_quote m (drop (start + suc n) s) (head_at s (start + suc n) ∙ q)))

-- a quote at a place stops the search for one
pub run_to : (t : List ℕ) (j : ℕ) → get_or t j 0 ≡ 0x22 → run unquoted t ≤ j
unfolding run unquoted
run_to [] j e = omega arith
run_to (b ∷ t) zero e = rw (eq-eqb b 0x22 e) (omega arith)
run_to (b ∷ t) (suc j) e = let h = run_to t j e in either (bool_cases (eqb b 0x22)) (λ f. rw f (omega arith)) (λ f. rw f (omega arith))

pub quoted_plain : (m : Mode) (s : List ℕ) (start n : ℕ) → n ≡ run plain (drop start s) → start + n < length s → get_or s (start + n) 0 ≡ 0x22
    → quoted_of m start s ≡ Ok (literal (start + n + 1) start (start + n) n false)
unfolding quoted_of
quoted_plain m s start n e h q =
    rw (lt-ltb (run unquoted (drop start s)) (length (drop start s)) (omega (arith, run_to (drop start s) n (get_or-drop start s n 0 ∙ q), length-drop start s)))
    (plain_body m s start n e h q)

-- a run of plain bytes is one of no quotes
plain_unquoted : (b : ℕ) → plain b ≡ true → unquoted b ≡ true
unfolding plain unquoted
plain_unquoted b = either (bool_cases (eqb b 0x22)) (λ p e. let z : false ≡ true = rw p at e in rw p z) (λ p e. rw p)

pub quoted_none : (m : Mode) (s : List ℕ) (start n : ℕ) → n ≡ run plain (drop start s) → start ≤ length s → length s ≤ start + n → quoted_of m start s ≡ Err (expected_string_end start)
unfolding quoted_of
quoted_none m s start n e h l =
    rw (le-ltb (run unquoted (drop start s)) (length (drop start s)) (omega (arith, run_wider plain unquoted plain_unquoted (drop start s), length-drop start s)))

-- fewer than two bytes begin no byte string
pub byte_string_short : (s : List ℕ) → length s < 2 → byte_string_of s ≡ Err (expected_byte_string 0)
unfolding byte_string_of
byte_string_short [] h = refl
byte_string_short (a ∷ []) h = cond_cases (λ (x : Told Literal). x ≡ Err (expected_byte_string 0)) (eqb a 0x62) _ _ (λ e. refl) (λ e. refl)
byte_string_short (a ∷ b ∷ s) h = absurd (omega arith)
