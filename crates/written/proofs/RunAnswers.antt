-- What the call `integer` answers where a number may be asked for is decided by its digit run, and a refusal with 7 to 10 is that of the run. Assumes nothing.
use Rattle.std.proofs.Common.{Ok, Err}
use Prim.Native.Nat.{ℕ, ◌+◌, ◌≤◌}
use native.Mathlib.Omega.{arith}
use mathlib.Core.Bool.{Bool}
use mathlib.Core.List.{List}
use mathlib.Core.Path.{◌≡◌, ap, sym, ◌∙◌}
use lib.Dec.{eqb}
use lib.ListN.{drop, length, length-drop}
use borrow.Author.Tests.{ne_eqb}
use Rattle.text.proofs.Choices.{bool_cases, either}
use Rattle.text.specs.Refusals.{Told, expected_integer, integer_out_of_bounds, invalid_integer_digit, other_kind, underscore_at_beginning}
use Rattle.text.specs.declared.refusal.Refusal.{Refusal}
use Rattle.digits.specs.Digits.{run_of}
use Rattle.digits.specs.declared.Run.{Run}
use Rattle.digits.specs.declared.Run.TheVariants.{Value, Empty, Underscore, NotDigit, Over}
use Rattle.integers.specs.Front.{front_of}
use Rattle.integers.specs.Integer.{behind_run, chosen_of, numeral_of, other_suffix, typed_as, typed_of, number_read}
use Rattle.integers.specs.Width.{code_of, limit_at, width_at}
use Rattle.integers.specs.declared.integer.Integer.{Integer}
use Rattle.integers.specs.declared.width.Width.{Width}
use Rattle.sarridok.specs.declared.integer_call.Typed.{Typed}
use Rattle.sarridok.specs.Typed.{integer_of, placed_at}
use Rattle.written.specs.Refused.{Asked, limit_here}
use Rattle.written.specs.Written.{behind_digits, digits_in, suffix_in, written_len}
use Rattle.written.proofs.AnyWritten.{of_known, suffix_known}
use Rattle.written.proofs.Asking.{Source, own_answer, refused_from}
use Rattle.written.proofs.Asking.Source.{at_end, cut, no_byte, other_byte, digits}
use Rattle.written.proofs.IntegerWritten.{at_front}
use Rattle.written.proofs.TypedWritten.{width_limit}

-- the limit of the width that is judged by
limit-here : (width : Width) (s : List ℕ) → limit_at (chosen_of (suffix_in s).code (code_of width)) (front_of s).minus ≡ limit_here width s
limit-here width s =
    let code : ℕ = (suffix_in s).code in
    let minus : Bool = (front_of s).minus in
    either (bool_cases (eqb code 0))
    (λ p. rw p (width_limit width minus))
    (λ p. rw p (ap (λ (c : ℕ). limit_at c minus) (sym (of_known code (suffix_known (behind_digits s)) p)) ∙ width_limit (width_at code) minus))

-- what a digit run comes to at the front of a part
abbrev pub by_run : Width → List ℕ → Run → Integer
by_run width s k = typed_as (code_of width) (front_of s).minus (front_of s).end (behind_run (suffix_in s).code (length (digits_in s) + (suffix_in s).end) k)

-- the digit run there
abbrev pub run_here : Width → List ℕ → Run
run_here width s = run_of (limit_here width s) (front_of s).base (digits_in s)

typed_run : (width : Width) (s : List ℕ) → (length s ≡ 0 → ⊥) → typed_of width s ≡ by_run width s (run_here width s)
unfolding typed_of numeral_of
typed_run width s some =
    rw (ne_eqb (length s) 0 some)
    (ap (λ (l : ℕ). by_run width s (run_of l (front_of s).base (digits_in s))) (limit-here width s))

module _ (text : List ℕ) (place : ℕ) (width : Width) where
  -- the refusal for a digit run at the place; where it reads, that of another suffix
  abbrev pub refusal_of : Run → Refusal
  refusal_of (Value v) = other_kind
  refusal_of Empty = expected_integer (place + written_len (drop place text))
  refusal_of Underscore = underscore_at_beginning (place + (front_of (drop place text)).end)
  refusal_of (NotDigit i) = invalid_integer_digit (place + ((front_of (drop place text)).end + i))
  refusal_of Over = integer_out_of_bounds (place + written_len (drop place text))

  -- the answer for it
  abbrev pub answered : Run → Told Typed
  answered k = placed_at place (by_run width (drop place text) k)

  part_some : Asked text place → length (drop place text) ≡ 0 → ⊥
  part_some a z = omega (arith, length-drop place text, a.some)

  pub at_run : Asked text place → placed_at place (typed_of width (drop place text)) ≡ answered (run_here width (drop place text))
  at_run a = ap (λ (i : Integer). placed_at place i) (typed_run width (drop place text) (part_some a))

  -- the call answers what its digit run comes to
  pub asked_answer : Asked text place → (k : Run) → run_here width (drop place text) ≡ k → integer_of text place width ≡ answered k
  asked_answer a k e =
      own_answer text place width a.placed ∙ ap (λ (i : Integer). placed_at place i) (at_front width (drop place text) a.no_byte) ∙ at_run a ∙ ap answered e

  pub run_refused : (k : Run) (r : Refusal) → answered k ≡ Err r → r ≡ refusal_of k
  run_refused (Value v) r h =
      either (bool_cases (other_suffix (suffix_in (drop place text)).code (code_of width)))
      (λ p. let q : ◌≡◌ {A = Told Typed} (Err other_kind) (Err r) = rw p at h in cc)
      (λ p. let q : ◌≡◌ {A = Told Typed} (Ok (record { number = number_read (front_of (drop place text)).minus v; end = place + written_len (drop place text) })) (Err r) = rw p at h in
      let z : ◌≡◌ {A = ℕ} 0 1 = cc in absurd (omega arith))
  run_refused Empty r h = cc
  run_refused Underscore r h =
      let e : place + ((front_of (drop place text)).end + 0) ≡ place + (front_of (drop place text)).end = omega arith in
      let q : underscore_at_beginning (place + ((front_of (drop place text)).end + 0)) ≡ r = cc in
      sym q ∙ ap underscore_at_beginning e
  run_refused (NotDigit i) r h = cc
  run_refused Over r h = cc

  from_digits : (r : Refusal) → 7 ≤ r.number → r.number ≤ 10 → Source text place width r → Asked text place × (r ≡ refusal_of (run_here width (drop place text)))
  from_digits r l h (at_end e q) = absurd (omega (arith, ap (λ (x : Refusal). x.number) q))
  from_digits r l h (cut c q) = absurd (omega (arith, ap (λ (x : Refusal). x.number) q))
  from_digits r l h (no_byte a b) = absurd (omega arith)
  from_digits r l h (other_byte o q) = absurd (omega (arith, ap (λ (x : Refusal). x.number) q))
  from_digits r l h (digits a e) = (a, run_refused (run_here width (drop place text)) r (sym (at_run a) ∙ e))

  -- 7 to 10 are of the digit run
  pub refused_digits : (r : Refusal) → 7 ≤ r.number → r.number ≤ 10 → integer_of text place width ≡ Err r → Asked text place × (r ≡ refusal_of (run_here width (drop place text)))
  refused_digits r l h e = from_digits r l h (refused_from text place width r (omega arith) (omega arith) e).1
