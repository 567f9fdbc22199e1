-- How far an escape reaches: `bounded` says that it takes 1 or more bytes, all of them ASCII, that a scalar value takes 3 or more, and that a refusal's
-- place lies within the part. Assumes nothing.
use Prim.Native.Nat.{◌*◌, ◌+◌, ◌<◌, ◌≤◌, suc, zero, ℕ}
use native.Mathlib.Omega.{arith}
use mathlib.Core.Bool.{Bool, ◌&&◌, cond, false}
use mathlib.Core.List.{List, [], ◌++◌, ◌∷◌}
use mathlib.Core.Path.{◌≡◌, refl, subst, sym}
use lib.Dec.{eqb, ltb}
use lib.Ieee.{low}
use lib.ListN.{drop, length, length-drop}
use borrow.Author.Tests.{eqb-false, eqb-true, ltb-true}
use Rattle.escapes.proofs.EscapeLaws.{next_ascii, next_short, two_ascii}
use Rattle.hexes.proofs.HexLaws.{hex_ascii}
use Rattle.escapes.specs.Escapes.{close_of, digits_of, escape_of, hex_by, hex_escape, hex_of, more_bytes, next_byte, second_digit, simple_of, two_digits, unicode_escape, with_byte}
use Rattle.escapes.specs.declared.answers.EscapeAnswer.{EscapeAnswer}
use Rattle.escapes.specs.declared.answers.EscapeAnswer.TheVariants.{Ascii, Refused, Utf8}
use Rattle.escapes.specs.declared.answers.Mode.{Mode}
use Rattle.escapes.specs.declared.answers.Mode.TheVariants.{Bytes, Char, Str}
use Rattle.text.proofs.Choices.{and_true, bool_cases, cond_cases, either}
use Rattle.text.proofs.RunLaws.{run_le}
use Rattle.text.proofs.Utf8Agree.{char_len_le}
use Rattle.text.proofs.AsciiLaws.{ascii-first}
use Rattle.text.specs.Runs.{ascii, run}
use Rattle.text.specs.Utf8.{char_len, code_of, scalar}

-- an answer over the part t at the place `at`: accepted, it takes `low` or more bytes of ASCII
abbrev pub Reaches : ℕ → ℕ → List ℕ → EscapeAnswer → Type 0
Reaches low at t (Ascii b p) = (at + low ≤ p) × (p ≤ at + run ascii t)
Reaches low at t (Utf8 c p) = (at + low ≤ p) × (p ≤ at + run ascii t)
Reaches low at t (Refused r) = r.place ≤ at + length t

-- the same, seen from `by` bytes of ASCII further in front
more_reach : (low at by : ℕ) (t u : List ℕ) (a : EscapeAnswer) → by + run ascii t ≤ run ascii u → by + length t ≤ length u → Reaches low (at + by) t a → Reaches (by + low) at u a
more_reach low at by t u (Ascii b p) i j (h, k) = (omega arith, omega arith)
more_reach low at by t u (Utf8 c p) i j (h, k) = (omega arith, omega arith)
more_reach low at by t u (Refused r) i j h = omega arith

less_reach : (low low' at : ℕ) (t : List ℕ) (a : EscapeAnswer) → low' ≤ low → Reaches low at t a → Reaches low' at t a
less_reach low low' at t (Ascii b p) i (h, k) = (omega arith, k)
less_reach low low' at t (Utf8 c p) i (h, k) = (omega arith, k)
less_reach low low' at t (Refused r) i h = h

-- ---- each reader in turn

digit_reach : (b : ℕ) (t : List ℕ) → (eqb (hex_of b) 16 ≡ false) → run ascii (b ∷ t) ≡ suc (run ascii t)
digit_reach b t e = ascii-first b t (hex_ascii b (eqb-false (hex_of b) 16 e))

pub second_reach : (h at : ℕ) (t : List ℕ) → Reaches 1 at t (second_digit h at t)
unfolding second_digit
second_reach h at [] = omega arith
second_reach h at (b ∷ t) =
    cond_cases (Reaches 1 at (b ∷ t)) (eqb (hex_of b) 16) _ _ (λ e. omega (arith, char_len_le (b ∷ t)))
    (λ e. (omega arith, omega (arith, digit_reach b t e)))

pub two_reach : (at : ℕ) (t : List ℕ) → Reaches 2 at t (two_digits at t)
unfolding two_digits
two_reach at [] = omega arith
two_reach at (b ∷ t) =
    cond_cases (Reaches 2 at (b ∷ t)) (eqb (hex_of b) 16) _ _ (λ e. omega (arith, char_len_le (b ∷ t)))
    (λ e. more_reach 1 at 1 t (b ∷ t) (second_digit (hex_of b) (at + 1) t) (omega (arith, digit_reach b t e)) (omega arith) (second_reach (hex_of b) (at + 1) t))

pub close_reach : (empty : Bool) (v at : ℕ) (t : List ℕ) → Reaches 1 at t (close_of empty v at t)
unfolding close_of
close_reach empty v at [] = cond_cases (Reaches 1 at []) empty _ _ (λ e. omega arith) (λ e. omega arith)
close_reach empty v at (b ∷ t) =
    cond_cases (Reaches 1 at (b ∷ t)) empty _ _ (λ e. omega arith)
    (λ n. cond_cases (Reaches 1 at (b ∷ t)) (eqb b 0x7D) _ _
    (λ e. cond_cases (Reaches 1 at (b ∷ t)) (scalar v) _ _ (λ i. (omega arith, omega (arith, ascii-first b t (omega (arith, eqb-true b 0x7D e))))) (λ i. omega arith))
    (λ e. omega arith))

pub digits_reach : (left v at : ℕ) (t : List ℕ) → Reaches 1 at t (digits_of left v at t)
unfolding digits_of
digits_reach zero v at t = close_reach false v at t
digits_reach (suc left) v at [] = omega arith
digits_reach (suc left) v at (b ∷ t) =
    cond_cases (Reaches 1 at (b ∷ t)) (eqb b 0x7D) _ _ (λ e. close_reach (eqb (suc left) 6) v at (b ∷ t))
    (λ n. cond_cases (Reaches 1 at (b ∷ t)) (eqb (hex_of b) 16) _ _ (λ e. omega (arith, char_len_le (b ∷ t)))
    (λ e. less_reach 2 1 at (b ∷ t) (digits_of left (v * 16 + hex_of b) (at + 1) t) (omega arith) (more_reach 1 at 1 t (b ∷ t) (digits_of left (v * 16 + hex_of b) (at + 1) t) (omega (arith, digit_reach b t e)) (omega arith) (digits_reach left (v * 16 + hex_of b) (at + 1) t))))

pub unicode_reach : (at : ℕ) (t : List ℕ) → Reaches 2 at t (unicode_escape at t)
unfolding unicode_escape
unicode_reach at [] = omega arith
unicode_reach at (b ∷ t) =
    cond_cases (Reaches 2 at (b ∷ t)) (eqb b 0x7B) _ _
    (λ e. more_reach 1 at 1 t (b ∷ t) (digits_of 6 0 (at + 1) t) (omega (arith, ascii-first b t (omega (arith, eqb-true b 0x7B e)))) (omega arith) (digits_reach 6 0 (at + 1) t))
    (λ e. omega arith)

next_at : (at a b : ℕ) (t : List ℕ) → Reaches 4 at (a ∷ b ∷ t) (next_byte at (a ∷ b ∷ t))
unfolding next_byte
next_at at a b t =
    cond_cases (Reaches 4 at (a ∷ b ∷ t)) (eqb a 0x5C && eqb b 0x78) _ _
    (λ e. let q = and_true (eqb a 0x5C) (eqb b 0x78) e in
    more_reach 2 at 2 t (a ∷ b ∷ t) (two_digits (at + 2) t)
    (omega (arith, ascii-first a (b ∷ t) (omega (arith, eqb-true a 0x5C q.0)), ascii-first b t (omega (arith, eqb-true b 0x78 q.1))))
    (omega arith) (two_reach (at + 2) t))
    (λ e. omega arith)

pub next_reach : (at : ℕ) (t : List ℕ) → Reaches 4 at t (next_byte at t)
next_reach at [] = rw (next_short at [] (omega arith)) (omega arith)
next_reach at (a ∷ []) = rw (next_short at (a ∷ []) (omega arith)) (omega arith)
next_reach at (a ∷ b ∷ t) = next_at at a b t

-- the run behind its first n bytes
pub run_split : (p : ℕ → Bool) (n : ℕ) (t : List ℕ) → n ≤ run p t → run p t ≡ n + run p (drop n t)
unfolding run
run_split p zero t h = omega arith
run_split p (suc n) [] h = absurd (omega arith)
run_split p (suc n) (a ∷ t) h =
    either (bool_cases (p a))
    (λ e. let i : suc n ≤ suc (run p t) = rw e at h in let k = run_split p n t (omega arith) in rw e (omega arith))
    (λ e. let i : suc n ≤ 0 = rw e at h in absurd (omega arith))

-- one more byte, and what the rest comes to
step_reach : (left : ℕ) (bs : List ℕ) (at : ℕ) (t : List ℕ) (a : EscapeAnswer)
    → next_byte at t ≡ a → Reaches 4 at t a
    → ((b p : ℕ) → Reaches 4 p (drop 4 t) (more_bytes left (bs ++ b ∷ []) p (drop 4 t)))
    → Reaches 4 at t (with_byte a (λ b p. cond (eqb (char_len (bs ++ b ∷ [])) 0) (more_bytes left (bs ++ b ∷ []) p (drop 4 t)) (Utf8 (code_of (bs ++ b ∷ [])) p)))
step_reach left bs at t (Ascii b p) e h rest =
    let q = next_ascii at t b p (sym e) in
    let k = run_split ascii 4 t (omega arith) in
    cond_cases (Reaches 4 at t) (eqb (char_len (bs ++ b ∷ [])) 0) _ _
    (λ i. less_reach 8 4 at t (more_bytes left (bs ++ b ∷ []) p (drop 4 t)) (omega arith)
    (more_reach 4 at 4 (drop 4 t) t (more_bytes left (bs ++ b ∷ []) p (drop 4 t)) (omega arith) (omega (arith, length-drop 4 t))
    (subst (λ (n : ℕ). Reaches 4 n (drop 4 t) (more_bytes left (bs ++ b ∷ []) p (drop 4 t))) q.0 (rest b p))))
    (λ i. h)
step_reach left bs at t (Utf8 c p) e h rest = h
step_reach left bs at t (Refused r) e h rest = h

pub more_bytes_reach : (left : ℕ) (bs : List ℕ) (at : ℕ) (t : List ℕ) → Reaches 4 at t (more_bytes left bs at t)
unfolding more_bytes
more_bytes_reach zero bs at t = omega arith
more_bytes_reach (suc left) bs at t =
    step_reach left bs at t (next_byte at t) refl (next_reach at t) (λ b p. more_bytes_reach left (bs ++ b ∷ []) p (drop 4 t))

hex_by_reach : (m : Mode) (at : ℕ) (t : List ℕ) (a : EscapeAnswer) → two_digits at t ≡ a → Reaches 2 at t a → Reaches 2 at t (with_byte a (hex_by m (drop 2 t)))
hex_by_reach Str at t (Ascii b p) e h =
    let q = two_ascii at t b p (sym e) in
    let k = run_split ascii 2 t (omega arith) in
    cond_cases (Reaches 2 at t) (ltb b 0x80) _ _ (λ i. h)
    (λ i. less_reach 6 2 at t (more_bytes 3 (b ∷ []) p (drop 2 t)) (omega arith)
    (more_reach 4 at 2 (drop 2 t) t (more_bytes 3 (b ∷ []) p (drop 2 t)) (omega arith) (omega (arith, length-drop 2 t))
    (subst (λ (n : ℕ). Reaches 4 n (drop 2 t) (more_bytes 3 (b ∷ []) p (drop 2 t))) q.0 (more_bytes_reach 3 (b ∷ []) p (drop 2 t)))))
hex_by_reach Char at t (Ascii b p) e h =
    cond_cases (Reaches 2 at t) (ltb b 0x80) _ _ (λ i. h) (λ i. omega (arith, h.1, run_le ascii t))
hex_by_reach Bytes at t (Ascii b p) e h = h
hex_by_reach m at t (Utf8 c p) e h = h
hex_by_reach m at t (Refused r) e h = h

pub hex_reach : (m : Mode) (at : ℕ) (t : List ℕ) → Reaches 2 at t (hex_escape m at t)
unfolding hex_escape
hex_reach m at t = hex_by_reach m at t (two_digits at t) refl (two_reach at t)

-- what `\` may stand before without more is ASCII
Low : ℕ → ℕ → Type 0
Low b n = n < 256 → b < 0x80

simple_ascii : (b : ℕ) → simple_of b < 256 → b < 0x80
unfolding simple_of Low
simple_ascii b =
    cond_cases (Low b) (eqb b 0x27) _ _ (λ e h. omega (arith, eqb-true b 0x27 e))
    (λ n1. cond_cases (Low b) (eqb b 0x22) _ _ (λ e h. omega (arith, eqb-true b 0x22 e))
    (λ n2. cond_cases (Low b) (eqb b 0x5C) _ _ (λ e h. omega (arith, eqb-true b 0x5C e))
    (λ n3. cond_cases (Low b) (eqb b 0x6E) _ _ (λ e h. omega (arith, eqb-true b 0x6E e))
    (λ n4. cond_cases (Low b) (eqb b 0x72) _ _ (λ e h. omega (arith, eqb-true b 0x72 e))
    (λ n5. cond_cases (Low b) (eqb b 0x74) _ _ (λ e h. omega (arith, eqb-true b 0x74 e))
    (λ n6. cond_cases (Low b) (eqb b 0x30) _ _ (λ e h. omega (arith, eqb-true b 0x30 e))
    (λ n7 h. absurd (omega arith))))))))

-- ---- an escape

-- an escape over the part s
abbrev pub Bounded : List ℕ → EscapeAnswer → Type 0
Bounded s (Ascii b n) = (1 ≤ n) × (n ≤ run ascii s)
Bounded s (Utf8 c n) = (3 ≤ n) × (n ≤ run ascii s)
Bounded s (Refused r) = r.place ≤ length s

reach_bounded : (s : List ℕ) (a : EscapeAnswer) → Reaches 3 0 s a → Bounded s a
reach_bounded s (Ascii b n) h = (omega arith, omega arith)
reach_bounded s (Utf8 c n) h = (omega arith, omega arith)
reach_bounded s (Refused r) h = omega arith

pub bounded : (m : Mode) (s : List ℕ) → Bounded s (escape_of m s)
unfolding escape_of
bounded m [] = omega arith
bounded m (b ∷ t) =
    cond_cases (Bounded (b ∷ t)) (ltb (simple_of b) 256) _ _ (λ e. (omega arith, omega (arith, ascii-first b t (simple_ascii b (ltb-true (simple_of b) 256 e)))))
    (λ n1. cond_cases (Bounded (b ∷ t)) (eqb b 0x78) _ _
    (λ e. reach_bounded (b ∷ t) (hex_escape m 1 t) (more_reach 2 0 1 t (b ∷ t) (hex_escape m 1 t) (omega (arith, ascii-first b t (omega (arith, eqb-true b 0x78 e)))) (omega arith) (hex_reach m 1 t)))
    (λ n2. cond_cases (Bounded (b ∷ t)) (eqb b 0x75) _ _
    (λ e. reach_bounded (b ∷ t) (unicode_escape 1 t) (more_reach 2 0 1 t (b ∷ t) (unicode_escape 1 t) (omega (arith, ascii-first b t (omega (arith, eqb-true b 0x75 e)))) (omega arith) (unicode_reach 1 t)))
    (λ n3. char_len_le (b ∷ t))))
