-- Laws of the runs that a plain number is made of. Assumes nothing.
use Prim.Native.Nat.{ℕ, suc, ◌+◌}
use native.Mathlib.Omega.{arith}
use mathlib.Core.Bool.{Bool, true, false, not}
use mathlib.Core.List.{List, [], ◌∷◌}
use mathlib.Core.Path.{◌≡◌, refl, ap, sym, ◌∙◌}
use lib.ListN.{drop, get_or}
use borrow.Author.Tests.{ne_eqb, not-true}
use Rattle.text.proofs.Choices.{bool_cases, either}
use Rattle.text.proofs.ClassLaws.{within_true}
use Rattle.text.specs.Classes.{digit, float_char, hex_digit, int_char, within}
use Rattle.text.specs.Runs.{run, run2}
use Rattle.text.specs.Utf8.{In}
use Rattle.floats.specs.Classes.{float_goes, point}
use Rattle.reading.proofs.QuietLaws.{quiet_all}
use Rattle.reading.specs.Owed.{quiet_byte}

-- ---- runs

-- a wider class that stops at the same byte
pub run_wider : (p q : ℕ → Bool) → ((c : ℕ) → p c ≡ true → q c ≡ true) → (s : List ℕ) → q (get_or s (run p s) 0) ≡ false → run q s ≡ run p s
unfolding run
run_wider p q w [] h = refl
run_wider p q w (a ∷ s) h =
    either (bool_cases (p a)) (λ e. rw (e, w a e) (ap suc (run_wider p q w s (rw e at h)))) (λ e. rw (e, (rw e at h)))

-- a run of a wider class goes on behind the narrower one
pub run2_passed : (p : ℕ → Bool) (q : ℕ → ℕ → Bool) → ((a b : ℕ) → p a ≡ true → q a b ≡ true) → (s : List ℕ) → run2 q s ≡ run p s + run2 q (drop (run p s) s)
unfolding run run2
run2_passed p q w [] = refl
run2_passed p q w (a ∷ s) =
    either (bool_cases (p a)) (λ e. rw (e, w a (get_or s 0 0) e) (omega (arith, run2_passed p q w s))) (λ e. rw e (omega arith))

pub run2_none : (q : ℕ → ℕ → Bool) (s : List ℕ) → ((b : ℕ) → q (get_or s 0 0) b ≡ false) → run2 q s ≡ 0
unfolding run2
run2_none q [] h = refl
run2_none q (a ∷ s) h = rw (h (get_or s 0 0))

-- ---- digits

pub digit_in : (c : ℕ) → digit c ≡ true → In 0x30 0x39 c
unfolding digit
digit_in c e = within_true 0x30 0x39 c e

pub digit_int : (c : ℕ) → digit c ≡ true → int_char c ≡ true
unfolding int_char hex_digit
digit_int c e = rw e

pub digit_goes : (a b : ℕ) → digit a ≡ true → float_goes a b ≡ true
unfolding float_goes float_char
digit_goes a b e = let i = digit_in a e in rw (ne_eqb a 0x2e (λ z. omega arith), e)

-- ---- quiet bytes

module _ (c : ℕ) (q : quiet_byte c ≡ true) where
  pub quiet_int : int_char c ≡ false
  unfolding int_char hex_digit digit within
  quiet_int = not-true (int_char c) (quiet_all (λ (b : ℕ). not (int_char b)) c refl q)

  quiet_out : float_char c ≡ false
  unfolding float_char digit within
  quiet_out = not-true (float_char c) (quiet_all (λ (b : ℕ). not (float_char b)) c refl q)

  quiet_point : point c ≡ false
  quiet_point = not-true (point c) (quiet_all (λ (b : ℕ). not (point b)) c refl q)

  pub quiet_float : (b : ℕ) → float_goes c b ≡ false
  unfolding float_goes
  quiet_float b = rw quiet_point quiet_out

  -- it is no other byte
  pub quiet_not : (l : ℕ) → quiet_byte l ≡ false → c ≡ l → ⊥
  quiet_not l n e = let z : true ≡ false = sym q ∙ ap quiet_byte e ∙ n in let y : ◌≡◌ {A = ℕ} 0 1 = cc in omega arith
