-- Laws of raw strings. Assumes nothing.
use Rattle.std.proofs.Common.{Ok, Err}
use Prim.Native.Nat.{◌+◌, ◌<◌, ◌≤◌, suc, ℕ, ◌-◌}
use native.Mathlib.Omega.{arith}
use mathlib.Core.Bool.{Bool, false, true, ◌&&◌}
use mathlib.Core.List.{List, [], ◌∷◌}
use mathlib.Core.Path.{◌∙◌, ◌≡◌, ap, refl, sym}
use lib.Dec.{eqb, leb}
use lib.ListN.{drop, drop_of_length-le, get_or, length, length-drop}
use lib.Seq.{drop-drop, get_or-drop}
use borrow.Author.Tests.{eq-eqb, eqb-true, le-leb, lt-leb, not-false, le-ltb, lt-ltb, ne_eqb}
use Rattle.escapes.specs.declared.answers.Mode.{Mode}
use Rattle.strings.specs.Pieces.{unquoted}
use Rattle.strings.specs.Quoted.{literal}
use Rattle.strings.specs.Raw.{hash, raw_end, missing, raw_of}
use Rattle.text.proofs.Choices.{and_false, bool_cases, either, cond_cases}
use Rattle.text.proofs.Lists.{front}
use Rattle.text.specs.Refusals.{expected_string_end}
use Rattle.text.specs.Runs.{run}

raw_empty : (n : ℕ) → raw_end n [] ≡ run unquoted [] + raw_end n (drop (run unquoted []) [])
unfolding raw_end run
raw_empty n = refl

raw_pass : (n b : ℕ) (s : List ℕ) → eqb b 0x22 ≡ false → raw_end n (b ∷ s) ≡ suc (raw_end n s)
unfolding raw_end
raw_pass n b s e = rw e

quote_out : (b : ℕ) (s : List ℕ) → eqb b 0x22 ≡ true → run unquoted (b ∷ s) ≡ 0
unfolding run unquoted
quote_out b s e = rw e

quote_on : (b : ℕ) (s : List ℕ) → eqb b 0x22 ≡ false → run unquoted (b ∷ s) ≡ suc (run unquoted s)
unfolding run unquoted
quote_on b s e = rw e

raw_run : (n : ℕ) (s : List ℕ) → raw_end n s ≡ run unquoted s + raw_end n (drop (run unquoted s) s)
raw_run n [] = raw_empty n
raw_run n (b ∷ s) =
    let h = raw_run n s in
    either (bool_cases (eqb b 0x22)) (λ e. rw (quote_out b s e) (omega arith)) (λ e. rw (quote_on b s e) (omega (arith, raw_pass n b s e)))

-- up to the next quote
pub raw_on : (n : ℕ) (t : List ℕ) (i k : ℕ) → k ≡ run unquoted (drop i t) → i + raw_end n (drop i t) ≡ i + k + raw_end n (drop (i + k) t)
raw_on n t i k e =
    let d : drop k (drop i t) ≡ drop (i + k) t = drop-drop k i t in
    let r : raw_end n (drop i t) ≡ k + raw_end n (drop k (drop i t)) = rw e (raw_run n (drop i t)) in
    omega (arith, r, ap (raw_end n) d)

pub raw_none : (n : ℕ) (t : List ℕ) (i : ℕ) → length t ≤ i → raw_end n (drop i t) ≡ 0
unfolding raw_end
raw_none n t i h = rw (drop_of_length-le t h)

pub raw_here : (n : ℕ) (t : List ℕ) (i : ℕ) → i < length t → get_or t i 0 ≡ 0x22 → n ≤ run hash (drop (i + 1) t) → raw_end n (drop i t) ≡ 0
unfolding raw_end
raw_here n t i h e l = rw (front t i h) (simp (eq-eqb (get_or t i 0) 0x22 e, le-leb n (run hash (drop (i + 1) t)) l))

pub raw_more : (n : ℕ) (t : List ℕ) (i : ℕ) → i < length t → run hash (drop (i + 1) t) < n → raw_end n (drop i t) ≡ 1 + raw_end n (drop (i + 1) t)
unfolding raw_end
raw_more n t i h l = rw (front t i h) (rw (lt-leb n (run hash (drop (i + 1) t)) l, and_false (eqb (get_or t i 0) 0x22)) (omega arith))

-- a run stops at a byte outside its class
pub run_stops : (p : ℕ → Bool) (s : List ℕ) → run p s < length s → p (get_or s (run p s) 0) ≡ false
unfolding run
run_stops p [] h = absurd (omega arith)
run_stops p (b ∷ s) h =
    either (bool_cases (p b))
    (λ e. let i : suc (run p s) < suc (length s) = rw e at h in let k = run_stops p s (omega arith) in rw e k)
    (λ e. rw e e)

quote_is : (b : ℕ) → unquoted b ≡ false → b ≡ 0x22
unfolding unquoted
quote_is b e = eqb-true b 0x22 (not-false (eqb b 0x22) e)

-- the search stopped at a quote
pub at_quote : (t : List ℕ) (i k : ℕ) → k ≡ run unquoted (drop i t) → i + k < length t → get_or t (i + k) 0 ≡ 0x22
at_quote t i k e h =
    let r = run_stops unquoted (drop i t) (omega (arith, e, length-drop i t)) in
    let g : get_or (drop i t) (run unquoted (drop i t)) 0 ≡ get_or t (i + k) 0 = get_or-drop i t (run unquoted (drop i t)) 0 ∙ ap (λ (x : ℕ). get_or t (i + x) 0) (sym e) in
    sym g ∙ quote_is (get_or (drop i t) (run unquoted (drop i t)) 0) r

-- ---- the whole, by what the code found

module _ (m : Mode) (start : ℕ) (s : List ℕ) (h : ℕ) (e : h ≡ run hash (drop start s)) where
  pub raw_missing : (get_or s (start + h) 0 ≡ 0x22 → ⊥) → raw_of m start s ≡ Err (missing m (start + h))
  unfolding raw_of
  raw_missing n = rw (sym e, ne_eqb (get_or s (start + h) 0) 0x22 n)

  module _ (k : ℕ) (f : k ≡ raw_end h (drop (start + h + 1) s)) (q : get_or s (start + h) 0 ≡ 0x22) where
    pub raw_unclosed : length s ≤ start + h + 1 + k → raw_of m start s ≡ Err (expected_string_end (start + h + 1))
    unfolding raw_of
    raw_unclosed l = rw (sym e) (rw (sym f) (rw (eq-eqb (get_or s (start + h) 0) 0x22 q, le-ltb (start + h + 1 + k) (length s) l)))

    pub raw_read : start + h + 1 + k < length s
        → raw_of m start s ≡ Ok (literal (start + h + 1 + k + 1 + h) (start + h + 1) (start + h + 1 + k) (start + h + 1 + k - (start + h + 1)) false)
    unfolding raw_of
    raw_read l = rw (sym e) (rw (sym f) (rw (eq-eqb (get_or s (start + h) 0) 0x22 q, lt-ltb (start + h + 1 + k) (length s) l)))

pub raw_le : (n : ℕ) (s : List ℕ) → raw_end n s ≤ length s
unfolding raw_end
raw_le n [] = omega arith
raw_le n (b ∷ s) = let h = raw_le n s in cond_cases (λ (k : ℕ). k ≤ suc (length s)) (eqb b 0x22 && leb n (run hash s)) _ _ (λ e. omega arith) (λ e. omega arith)
