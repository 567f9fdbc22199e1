-- An integer that is read has the form of an integer of its width: its suffix's, or without one the first that fits. Assumes nothing.
use Rattle.std.proofs.Common.{Ok, Err}
use Rattle.text.specs.Refusals.{Told, eof}
use Rattle.floats.specs.declared.float.FloatSpan.{FloatSpan}
use Prim.Native.Nat.{ℕ, ◌+◌}
use native.Mathlib.Omega.{arith}
use mathlib.Core.Bool.{Bool}
use mathlib.Core.List.{List}
use mathlib.Core.Logic.{◌⊎◌, inl, inr}
use mathlib.Core.Path.{◌≡◌, ap, refl, subst, sym, ◌∙◌}
use lib.Dec.{eqb, leb}
use lib.ListN.{drop, length}
use borrow.Author.Tests.{eqb-false, eqb-true}
use Rattle.text.proofs.Choices.{bool_cases, cond_cases, either}
use Rattle.text.specs.declared.refusal.Refusal.{Refusal}
use Rattle.digits.proofs.Exact.{digits_exact}
use Rattle.digits.specs.Digits.{run_of}
use Rattle.digits.specs.declared.Run.TheVariants.{Value}
use Rattle.floats.specs.Float.{float_of}
use Rattle.integers.proofs.Fronts.{front_base}
use Rattle.integers.proofs.Runs.{digits_run}
use Rattle.integers.specs.Front.{front_of}
use Rattle.integers.specs.Integer.{any_as, any_of, chosen_of, numeral_of, width_for}
use Rattle.integers.specs.Width.{code_of, first_fit, limit_at, widest}
use Rattle.integers.specs.declared.width.Width.{Width}
use Rattle.numbers.specs.Numbers.{float_ahead, number_of, of_float, or_else, or_float}
use Rattle.numbers.specs.declared.Number.{Number}
use Rattle.numbers.specs.declared.Number.TheVariants as number
use Rattle.written.proofs.AnyWritten.{any_written}
use Rattle.written.proofs.TypedWritten.{numeral_read}
use Rattle.written.specs.Written.{IsWritten, digits_in, magnitude_in, suffix_in, unprefixed}
use Rattle.tiled.specs.Forms.{Form, WidthOf}
use Rattle.tiled.specs.Forms.Form.{integer}
use Rattle.tiled.proofs.Floats.{FloatSays, float_says}

-- ---- the width

-- the suffix's, or the first that fits, by what was found and what the digits say
width-for : (code v : ℕ) (minus : Bool) (w : Width) → (code ≡ 0) ⊎ (code ≡ code_of w) → width_for code minus v ≡ w → (code ≡ code_of w) ⊎ ((code ≡ 0) × (first_fit minus v ≡ w))
width-for code v minus w own h =
    either (bool_cases (eqb code 0))
    (λ p. inr (eqb-true code 0 p, rw p at h))
    (λ p. either own (λ z. absurd (eqb-false code 0 p z)) (λ q. inl q))

module _ (s : List ℕ) (w : Width) (len : ℕ) where
  -- what was read of a numeral
  by_numeral : (minus : Bool) (at : ℕ) (n : Told (ℕ × ℕ × ℕ)) → any_as minus at n ≡ Ok (w, len) → (v : ℕ) × (code : ℕ) × (to : ℕ) × (n ≡ Ok (v, code, to)) × (width_for code minus v ≡ w)
  by_numeral minus at (Ok (v, code, to)) h =
      let z : ◌≡◌ {A = Width × ℕ} (width_for code minus v, at + to) (w, len) = cc in
      (v, code, to, refl, ap (λ (p : Width × ℕ). p.0) z)
  by_numeral minus at (Err r) h = let z : ◌≡◌ {A = ℕ} 0 1 = cc in absurd (omega arith)

  behind_end : any_of s ≡ Ok (w, len)
      → any_as (front_of s).minus (front_of s).end (numeral_of (widest (front_of s).minus) (front_of s).minus (front_of s).base (unprefixed s)) ≡ Ok (w, len)
  unfolding any_of
  behind_end h =
      either (bool_cases (eqb (length s) 0))
      (λ p. let q : ◌≡◌ {A = Told (Width × ℕ)} (Err (eof 0)) (Ok (w, len)) = rw p at h in let z : ◌≡◌ {A = ℕ} 0 1 = cc in absurd (omega arith))
      (λ p. rw p at h)

  -- the digits say the magnitude
  magnitude_is : IsWritten w s → (limit v : ℕ) → run_of limit (front_of s).base (digits_in s) ≡ Value v → magnitude_in s ≡ v
  magnitude_is x limit v e =
      let base : ℕ = (front_of s).base in
      ((digits_exact limit base (digits_in s) v (front_base s).0).0 (digits_run limit base (digits_in s) x.digits.begun.0 x.digits.begun.1 ∙ e)).value

  any_width : IsWritten w s → any_of s ≡ Ok (w, len) → WidthOf w s
  any_width x h =
      let minus : Bool = (front_of s).minus in
      let base : ℕ = (front_of s).base in
      let found : ℕ = (suffix_in s).code in
      let (v, code, to, e, f) = by_numeral minus (front_of s).end (numeral_of (widest minus) minus base (unprefixed s)) (behind_end h) in
      let n = numeral_read (widest minus) minus base (unprefixed s) v code to e in
      let m : magnitude_in s ≡ v = magnitude_is x (limit_at (chosen_of found (widest minus)) minus) v n.run_is in
      let is : width_for found minus (magnitude_in s) ≡ w = ap (λ (c : ℕ). width_for c minus (magnitude_in s)) n.code_is ∙ ap (width_for code minus) m ∙ f in
      width-for found (magnitude_in s) minus w x.suffix is

  -- an integer that is read has its form
  pub any_form : any_of s ≡ Ok (w, len) → Form 11 (code_of w) s (drop len s)
  any_form h =
      let x = any_written s w len h in
      subst (λ (n : ℕ). Form 11 (code_of w) s (drop n s)) (sym x.1) (integer x.0 (any_width x.0 h))

-- ---- a number

abbrev pub NumberSays : List ℕ → Number → Type 0
NumberSays s (number.Int w n) = Form 11 (code_of w) s (drop n s)
NumberSays s (number.Float f) = Form 12 f.suffix s (drop f.len s)
NumberSays s (number.Refused r) = Unit {0}

of-float : (s : List ℕ) (f : Told FloatSpan) → FloatSays s f → NumberSays s (of_float f)
of-float s (Ok f) h = h
of-float s (Err r) h = tt

or-float : (s : List ℕ) (r : Refusal) (f : Told FloatSpan) → FloatSays s f → NumberSays s (or_float r f)
or-float s r (Ok f) h = cond_cases (NumberSays s) (leb r.place f.len) (number.Float f) (number.Refused r) (λ e. h) (λ e. tt)
or-float s r (Err q) h = tt

or-else : (s : List ℕ) (a : Told (Width × ℕ)) (f : Told FloatSpan) → any_of s ≡ a → FloatSays s f → NumberSays s (or_else a f)
or-else s (Ok (w, n)) f e h = any_form s w n e
or-else s (Err r) f e h = or-float s r f h

-- a number that is read has its form
pub number_says : (s : List ℕ) → NumberSays s (number_of s)
unfolding number_of
number_says s =
    cond_cases (NumberSays s) (float_ahead s) _ _
    (λ e. of-float s (float_of s) (float_says s))
    (λ e. or-else s (any_of s) (float_of s) refl (float_says s))
