-- The call `integer` is refused with 6, 7, 8, 9, 10 and 27 exactly in their cases (specs/Refused.antt). Assumes nothing.
use Rattle.std.proofs.Common.{Err}
use Prim.Native.Nat.{ℕ, ◌+◌}
use native.Mathlib.Omega.{arith}
use mathlib.Core.List.{List}
use mathlib.Core.Logic.{◌↔◌}
use mathlib.Core.Path.{◌≡◌, ap, refl, sym, ◌∙◌}
use lib.ListN.{drop}
use Rattle.text.specs.Refusals.{expected_integer, integer_out_of_bounds, invalid_integer_digit, underscore_at_beginning}
use Rattle.text.specs.declared.refusal.Refusal.{Refusal}
use Rattle.digits.specs.declared.Run.{Run}
use Rattle.digits.specs.declared.Run.TheVariants.{Value, Empty, Underscore, NotDigit, Over}
use Rattle.integers.proofs.Exactly.{eight_exactly, nine_exactly, seven_exactly, ten_exactly}
use Rattle.integers.proofs.Fronts.{front_base}
use Rattle.integers.specs.Front.{front_of}
use Rattle.integers.specs.declared.width.Width.{Width}
use Rattle.sarridok.specs.Typed.{integer_of}
use Rattle.written.specs.Refused.{DigitTooHigh, NoDigits, OutOfBounds, UnderscoreFirst, judged_width}
use Rattle.written.specs.Written.{bits_of, digits_in, is_signed, written_len}
use Rattle.written.proofs.RunAnswers.{asked_answer, refusal_of, refused_digits, run_here}

-- two numbers of refusals that differ
apart : {X : Type 0} (a b : Refusal) → a ≡ b → (a.number ≡ b.number → ⊥) → X
apart a b e n = absurd (n (ap (λ (r : Refusal). r.number) e))

module _ (text : List ℕ) (place : ℕ) (width : Width) (p : ℕ) where
  -- ---- 7

  seven_run : (k : Run) → expected_integer p ≡ refusal_of text place width k → (k ≡ Empty) × (p ≡ place + written_len (drop place text))
  seven_run (Value v) e = apart _ _ e (λ z. omega arith)
  seven_run Empty e = (refl, ap (λ (r : Refusal). r.place) e)
  seven_run Underscore e = apart _ _ e (λ z. omega arith)
  seven_run (NotDigit i) e = apart _ _ e (λ z. omega arith)
  seven_run Over e = apart _ _ e (λ z. omega arith)

  -- 7 exactly where no digit stands
  pub integer_7 : (integer_of text place width ≡ Err (expected_integer p)) ↔ NoDigits text place p
  integer_7 =
      let s : List ℕ = drop place text in
      let w : Width = judged_width width s in
      let exactly = seven_exactly (is_signed w) (bits_of w) (front_of s).minus (front_of s).base (front_base s).0 (digits_in s) in (
        (λ h.
            let d = refused_digits text place width (expected_integer p) (omega arith) (omega arith) h in
            let k = seven_run (run_here width s) d.1 in
            record { asked = d.0; none = exactly.0 k.0; place_is = k.1 }),
        (λ n. asked_answer text place width n.asked Empty (exactly.1 n.none) ∙ ap (λ (q : ℕ). Err (expected_integer q)) (sym n.place_is)),
      )

  -- ---- 8

  eight_run : (k : Run) → underscore_at_beginning p ≡ refusal_of text place width k → (k ≡ Underscore) × (p ≡ place + (front_of (drop place text)).end)
  eight_run (Value v) e = apart _ _ e (λ z. omega arith)
  eight_run Empty e = apart _ _ e (λ z. omega arith)
  eight_run Underscore e = (refl, ap (λ (r : Refusal). r.place) e)
  eight_run (NotDigit i) e = apart _ _ e (λ z. omega arith)
  eight_run Over e = apart _ _ e (λ z. omega arith)

  -- 8 exactly where an underscore stands in front
  pub integer_8 : (integer_of text place width ≡ Err (underscore_at_beginning p)) ↔ UnderscoreFirst text place p
  integer_8 =
      let s : List ℕ = drop place text in
      let w : Width = judged_width width s in
      let exactly = eight_exactly (is_signed w) (bits_of w) (front_of s).minus (front_of s).base (front_base s).0 (digits_in s) in (
        (λ h.
            let d = refused_digits text place width (underscore_at_beginning p) (omega arith) (omega arith) h in
            let k = eight_run (run_here width s) d.1 in
            record { asked = d.0; underscore = exactly.0 k.0; place_is = k.1 }),
        (λ n.
            let e : place + ((front_of s).end + 0) ≡ p = omega (arith, n.place_is) in
            asked_answer text place width n.asked Underscore (exactly.1 n.underscore) ∙ ap (λ (q : ℕ). Err (underscore_at_beginning q)) e),
      )

  -- ---- 9

  nine_run : (k : Run) → invalid_integer_digit p ≡ refusal_of text place width k → (i : ℕ) × (k ≡ NotDigit i) × (p ≡ place + ((front_of (drop place text)).end + i))
  nine_run (Value v) e = apart _ _ e (λ z. omega arith)
  nine_run Empty e = apart _ _ e (λ z. omega arith)
  nine_run Underscore e = apart _ _ e (λ z. omega arith)
  nine_run (NotDigit i) e = (i, refl, ap (λ (r : Refusal). r.place) e)
  nine_run Over e = apart _ _ e (λ z. omega arith)

  -- 9 exactly where a digit is not below the base
  pub integer_9 : (integer_of text place width ≡ Err (invalid_integer_digit p)) ↔ DigitTooHigh width text place p
  integer_9 =
      let s : List ℕ = drop place text in
      let w : Width = judged_width width s in
      let exactly = nine_exactly (is_signed w) (bits_of w) (front_of s).minus (front_of s).base (front_base s).0 (digits_in s) in (
        (λ h.
            let d = refused_digits text place width (invalid_integer_digit p) (omega arith) (omega arith) h in
            let k = nine_run (run_here width s) d.1 in
            record { asked = d.0; nth = k.0; not_below = (exactly k.0).0 k.1; place_is = k.2 }),
        (λ n. asked_answer text place width n.asked (NotDigit n.nth) ((exactly n.nth).1 n.not_below) ∙ ap (λ (q : ℕ). Err (invalid_integer_digit q)) (sym n.place_is)),
      )

  -- ---- 10

  ten_run : (k : Run) → integer_out_of_bounds p ≡ refusal_of text place width k → (k ≡ Over) × (p ≡ place + written_len (drop place text))
  ten_run (Value v) e = apart _ _ e (λ z. omega arith)
  ten_run Empty e = apart _ _ e (λ z. omega arith)
  ten_run Underscore e = apart _ _ e (λ z. omega arith)
  ten_run (NotDigit i) e = apart _ _ e (λ z. omega arith)
  ten_run Over e = (refl, ap (λ (r : Refusal). r.place) e)

  -- 10 exactly where the digits pass the limit
  pub integer_10 : (integer_of text place width ≡ Err (integer_out_of_bounds p)) ↔ OutOfBounds width text place p
  integer_10 =
      let s : List ℕ = drop place text in
      let w : Width = judged_width width s in
      let exactly = ten_exactly (is_signed w) (bits_of w) (front_of s).minus (front_of s).base (front_base s).0 (digits_in s) in (
        (λ h.
            let d = refused_digits text place width (integer_out_of_bounds p) (omega arith) (omega arith) h in
            let k = ten_run (run_here width s) d.1 in
            let x = exactly.0 k.0 in
            record { asked = d.0; nth = x.0; passes = x.1; behind = k.1 }),
        (λ n. asked_answer text place width n.asked Over (exactly.1 (n.nth, n.passes)) ∙ ap (λ (q : ℕ). Err (integer_out_of_bounds q)) (sym n.behind)),
      )
