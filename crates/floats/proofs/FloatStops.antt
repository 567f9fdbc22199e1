-- Nothing behind a byte outside of the raw name's class changes what a float reads as, refusals included. Assumes nothing.
use Rattle.std.proofs.Common.{Err}
use Rattle.text.specs.Refusals.{Told, expected_float}
use Rattle.floats.specs.declared.float.FloatSpan.{FloatSpan}
use Prim.Native.Nat.{◌+◌, ◌≤◌, ℕ}
use native.Mathlib.Omega.{arith}
use mathlib.Core.Bool.{cond, false, true}
use mathlib.Core.List.{List}
use mathlib.Core.Path.{◌∙◌, ◌≡◌, ap, refl, sym}
use lib.Dec.{eqb}
use lib.ListN.{drop, length}
use borrow.Author.Tests.{ne_eqb}
use Rattle.floats.specs.Classes.{float_goes, float_run}
use Rattle.floats.specs.Float.{behind_float, float_of, float_suffixes, run_at, signed_or, specials}
use Rattle.floats.specs.Judged.{float_judged}
use Rattle.integers.proofs.IntegerStops.{Outside, out_digit, out_next, out_letter, out_underscore, out_sign, sign_reach}
use Rattle.integers.proofs.WordStops.{first_stopped}
use Rattle.integers.specs.Front.{sign_of}
use Rattle.integers.specs.Words.{first_of}
use Rattle.integers.specs.declared.ident.Found.{Found}
use Rattle.text.proofs.Choices.{or_left, or_right}
use Rattle.text.proofs.ClassLaws.{inside}
use Rattle.text.proofs.Stops.{Stopped, Reach, on₂, part, behind, run2_reach}
use Rattle.text.specs.Classes.{digit, float_char, ascii_next, ascii_raw, letter, within}

module _ (c : ℕ) (o : Outside c) where
  -- it is no e and no E
  e_out : (lo hi l : ℕ) → within lo hi c ≡ false → lo ≤ l → l ≤ hi → eqb c l ≡ false
  e_out lo hi l w a b = ne_eqb c l (λ e.
      let z : true ≡ false = sym (inside lo hi l a b) ∙ ap (within lo hi) (sym e) ∙ w in
      let k : ◌≡◌ {A = ℕ} 0 1 = cc in absurd (omega arith))

  out_float : float_char c ≡ false
  unfolding float_char letter
  out_float =
      let l = out_letter o in
      rw (out_digit o, e_out 0x61 0x7a 0x65 (or_right (within 0x41 0x5a c) (within 0x61 0x7a c) l) (omega arith) (omega arith), e_out 0x41 0x5a 0x45 (or_left (within 0x41 0x5a c) (within 0x61 0x7a c) l) (omega arith) (omega arith), (out_sign o).0, (out_sign o).1, (out_sign o).2, out_underscore o)

  goes_out : (b : ℕ) → float_goes c b ≡ false
  unfolding float_goes
  goes_out b = rw (out_sign o).0 out_float

  pub float_reach : Reach c float_run
  float_reach = run2_reach float_goes goes_out

  suffix_stopped : Stopped c (first_of float_suffixes)
  unfolding ascii_raw ascii_next letter digit within
  suffix_stopped = first_stopped ascii_raw c o.low (out_next o) o.raw float_suffixes refl

  special_stopped : Stopped c (first_of specials)
  unfolding ascii_raw ascii_next letter digit within
  special_stopped = first_stopped ascii_raw c o.low (out_next o) o.raw specials refl

  run_stopped : Stopped c run_at
  unfolding run_at
  run_stopped =
      on₂ (λ (p : List ℕ) (f : Found). cond (eqb (length p) 0) (Err (expected_float 0)) (behind_float f.code (length p + f.end) (float_judged p)))
      (part float_reach) (behind float_reach suffix_stopped)

  -- inf and NaN at the front
  special_both : Stopped c (λ s. signed_or (sign_of s).end (first_of specials (drop (sign_of s).end s)))
  special_both = on₂ signed_or (sign_reach c o).stopped (behind (sign_reach c o) special_stopped)

  pub float_stopped : Stopped c float_of
  unfolding float_of
  float_stopped = on₂ (λ (f : Told FloatSpan → Told FloatSpan) (r : Told FloatSpan). f r) special_both run_stopped
