-- Runs of ASCII: one byte, and eight at once. Assumes nothing.
use Prim.Native.Nat.{ℕ, zero, suc, ◌+◌, ◌≤◌, ◌<◌}
use native.Mathlib.Omega.{arith}
use native.Mathlib.Nat.{eq-or-lt_of_le}
use mathlib.Core.Path.{◌≡◌, ap, ◌∙◌}
use mathlib.Core.Logic.{⊎_elim}
use mathlib.Core.List.{List, ◌∷◌}
use mathlib.Core.Bool.{true, ◌&&◌}
use lib.ListN.{length, get_or, drop}
use lib.Dec.{ltb}
use lib.Bits.{bit_or, or_lt, or_add_and, and_le_l, and_le_r}
use borrow.Author.Tests.{lt-ltb, le-ltb}
use Rattle.text.specs.Runs.{run, ascii, ascii_for}
use Rattle.text.proofs.Choices.{either, and_true, lt_or_le}
use Rattle.text.proofs.RunLaws.{run_many}

-- a `|` is below 0x80 exactly when both its numbers are
pub or_ascii : (a b : ℕ) → ltb (bit_or a b) 0x80 ≡ (ltb a 0x80 && ltb b 0x80)
or_ascii a b =
    either (lt_or_le a 0x80)
    (λ h. either (lt_or_le b 0x80)
    (λ k. rw (lt-ltb a 0x80 h, lt-ltb b 0x80 k) (lt-ltb (bit_or a b) 0x80 (or_lt 7 a b h k)))
    (λ k. rw (lt-ltb a 0x80 h, le-ltb b 0x80 k) (le-ltb (bit_or a b) 0x80 (omega (arith, or_add_and a b, and_le_l a b)))))
    (λ h. rw (le-ltb a 0x80 h) (le-ltb (bit_or a b) 0x80 (omega (arith, or_add_and a b, and_le_r a b))))

ascii_at : (s : List ℕ) (at n : ℕ) → ascii_for s at n ≡ true → (k : ℕ) → k < n → ascii (get_or s (at + k) 0) ≡ true
unfolding ascii_for
ascii_at s at zero e k h = absurd (omega arith)
ascii_at s at (suc n) e k h =
    let p = and_true (ascii_for s at n) (ascii (get_or s (at + n) 0)) e in
    ⊎_elim (λ q. ap (λ (j : ℕ). ascii (get_or s (at + j) 0)) q ∙ p.1) (λ l. ascii_at s at n p.0 k l) (eq-or-lt_of_le {n = k} {m = n} (omega arith))

-- a byte of ASCII in front
pub ascii-first : (b : ℕ) (t : List ℕ) → b < 0x80 → run ascii (b ∷ t) ≡ suc (run ascii t)
unfolding run
ascii-first b t h = rw (lt-ltb b 0x80 h)

pub ascii_many : (s : List ℕ) (at n : ℕ) → at + n ≤ length s → ascii_for s at n ≡ true → run ascii (drop at s) ≡ n + run ascii (drop (at + n) s)
ascii_many s at n h e = run_many ascii n s at h (ascii_at s at n e)
