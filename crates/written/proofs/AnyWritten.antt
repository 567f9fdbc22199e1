-- What a read of any width accepts is written, and fits the width that it says: an integer of a reading can be read again in that width. Assumes nothing.
use Rattle.std.proofs.Common.{Ok, Err}
use Prim.Native.Nat.{ℕ, ◌+◌, ◌≤◌}
use native.Mathlib.Omega.{arith}
use mathlib.Core.Bool.{Bool, true, false}
use mathlib.Core.List.{List, [], ◌∷◌}
use mathlib.Core.Logic.{◌⊎◌, inl, inr}
use mathlib.Core.Path.{◌≡◌, ap, refl, subst, sym, ◌∙◌}
use lib.Dec.{eqb, leb}
use lib.ListN.{length}
use borrow.Author.Tests.{eqb-false, eqb-true, leb-true}
use Rattle.text.proofs.Choices.{bool_cases, either}
use Rattle.text.specs.Refusals.{Told, eof}
use Rattle.digits.proofs.Exact.{digits_exact}
use Rattle.digits.specs.Digits.{run_of}
use Rattle.digits.specs.declared.Run.TheVariants.{Value}
use Rattle.integers.proofs.Exactly.{reads_exactly}
use Rattle.integers.proofs.Fronts.{front_base}
use Rattle.integers.proofs.Runs.{digits_run}
use Rattle.integers.proofs.Suffixes.{from, from_all}
use Rattle.integers.specs.Front.{front_of}
use Rattle.integers.specs.Integer.{any_as, any_of, chosen_of, numeral_of, width_for}
use Rattle.integers.specs.Range.{Reads}
use Rattle.integers.specs.Width.{code_of, first_fit, limit_at, limit_of, suffix_of, widest, width_at}
use Rattle.integers.specs.Words.{Word, first_of, ident_of}
use Rattle.integers.specs.declared.width.Width.{Width}
use Rattle.written.specs.Written.{IsWritten, behind_digits, bits_of, digits_in, is_signed, suffix_in, unprefixed, written_len}
use Rattle.written.proofs.TypedWritten.{is_written, numeral_read, width_limit}

-- ---- the width of a suffix

-- no suffix, or one of a width
abbrev pub Known : ℕ → Type 0
Known code = (code ≡ 0) ⊎ (code_of (width_at code) ≡ code)

abbrev AllKnown : List Word → Type 0
AllKnown [] = Unit {0}
AllKnown (w ∷ ws) = Known w.says × AllKnown ws

first_known : (ws : List Word) (t : List ℕ) → AllKnown ws → Known (first_of ws t).code
unfolding first_of
first_known [] t k = inl refl
first_known (w ∷ ws) t k =
    let rest = first_known ws t k.1 in
    either (bool_cases (eqb (ident_of w.letters t) 0)) (λ p. rw p rest) (λ p. rw p k.0)

pub suffix_known : (t : List ℕ) → Known (suffix_of t).code
unfolding width_at
suffix_known t = rw (from_all t) (first_known (from 8 1) t (inr refl, (inr refl, (inr refl, (inr refl, (inr refl, (inr refl, (inr refl, (inr refl, tt)))))))))

pub of_known : (code : ℕ) → Known code → eqb code 0 ≡ false → code_of (width_at code) ≡ code
of_known code (inl z) e = absurd (eqb-false code 0 e z)
of_known code (inr k) e = k

-- ---- without a suffix, the first width that fits

widest_limit : (minus : Bool) → limit_at (widest minus) minus ≡ limit_of minus 64 minus
unfolding limit_at width_at
widest_limit true = refl
widest_limit false = refl

abbrev Holds : ℕ → Bool → Width → Type 0
Holds v minus w = v ≤ limit_of (is_signed w) (bits_of w) minus

first_fits : (minus : Bool) (v : ℕ) → v ≤ limit_of minus 64 minus → Holds v minus (first_fit minus v)
unfolding first_fit
first_fits true v h =
    either (bool_cases (leb v (limit_of true 8 true))) (λ a. rw a (leb-true _ _ a)) λ a.
    either (bool_cases (leb v (limit_of true 16 true))) (λ b. rw (a, b) (leb-true _ _ b)) λ b.
    either (bool_cases (leb v (limit_of true 32 true))) (λ c. rw (a, b, c) (leb-true _ _ c)) (λ c. rw (a, b, c) h)
first_fits false v h =
    either (bool_cases (leb v (limit_of false 8 false))) (λ a. rw a (leb-true _ _ a)) λ a.
    either (bool_cases (leb v (limit_of false 16 false))) (λ b. rw (a, b) (leb-true _ _ b)) λ b.
    either (bool_cases (leb v (limit_of false 32 false))) (λ c. rw (a, b, c) (leb-true _ _ c)) (λ c. rw (a, b, c) h)

-- ---- the whole

-- what was read of a numeral
record Read-any (minus : Bool) (at : ℕ) (n : Told (ℕ × ℕ × ℕ)) (w : Width) (len : ℕ) : Type 0 where
  value : ℕ
  code : ℕ
  to : ℕ
  numeral_is : n ≡ Ok (value, code, to)
  width_is : width_for code minus value ≡ w
  len_is : at + to ≡ len

any_read : (minus : Bool) (at : ℕ) (n : Told (ℕ × ℕ × ℕ)) (w : Width) (len : ℕ) → any_as minus at n ≡ Ok (w, len) → Read-any minus at n w len
any_read minus at (Ok (v, code, to)) w len h =
    let z : ◌≡◌ {A = Width × ℕ} (width_for code minus v, at + to) (w, len) = cc in
    record {
      value = v;
      code = code;
      to = to;
      numeral_is = refl;
      width_is = ap (λ (p : Width × ℕ). p.0) z;
      len_is = ap (λ (p : Width × ℕ). p.1) z;
    }
any_read minus at (Err r) w len h = let z : ◌≡◌ {A = ℕ} 0 1 = cc in absurd (omega arith)

module _ (s : List ℕ) where
  behind_end : (w : Width) (len : ℕ) → any_of s ≡ Ok (w, len)
      → any_as (front_of s).minus (front_of s).end (numeral_of (widest (front_of s).minus) (front_of s).minus (front_of s).base (unprefixed s)) ≡ Ok (w, len)
  unfolding any_of
  behind_end w len h =
      either (bool_cases (eqb (length s) 0))
      (λ p. let q : ◌≡◌ {A = Told (Width × ℕ)} (Err (eof 0)) (Ok (w, len)) = rw p at h in let z : ◌≡◌ {A = ℕ} 0 1 = cc in absurd (omega arith))
      (λ p. rw p at h)

  -- a run that reads within 64 bits reads at every limit that its value is within
  at_limit : (v limit : ℕ) → Reads (front_of s).minus 64 (front_of s).minus (front_of s).base (digits_in s) v → v ≤ limit → run_of limit (front_of s).base (digits_in s) ≡ Value v
  at_limit v limit r h =
      sym (digits_run limit (front_of s).base (digits_in s) r.begun.0 r.begun.1)
      ∙ (digits_exact limit (front_of s).base (digits_in s) v (front_base s).0).1 record { only = r.only; value = r.value; fits = h }

  -- and its value is within them
  within_64 : (v : ℕ) → Reads (front_of s).minus 64 (front_of s).minus (front_of s).base (digits_in s) v → v ≤ limit_of (front_of s).minus 64 (front_of s).minus
  within_64 v r =
      let base : ℕ = (front_of s).base in
      let limit : ℕ = limit_of (front_of s).minus 64 (front_of s).minus in
      let e = (reads_exactly (front_of s).minus 64 (front_of s).minus base (front_base s).0 (digits_in s) v).1 r in
      ((digits_exact limit base (digits_in s) v (front_base s).0).0 (digits_run limit base (digits_in s) r.begun.0 r.begun.1 ∙ e)).fits

  -- without a suffix, the run at the first width that fits
  run_first : (v : ℕ) → run_of (limit_at (widest (front_of s).minus) (front_of s).minus) (front_of s).base (digits_in s) ≡ Value v
      → run_of (limit_at (code_of (first_fit (front_of s).minus v)) (front_of s).minus) (front_of s).base (digits_in s) ≡ Value v
  run_first v h =
      let minus : Bool = (front_of s).minus in
      let base : ℕ = (front_of s).base in
      let w : Width = first_fit minus v in
      let r = (reads_exactly minus 64 minus base (front_base s).0 (digits_in s) v).0 (ap (λ (l : ℕ). run_of l base (digits_in s)) (sym (widest_limit minus)) ∙ h) in
      ap (λ (l : ℕ). run_of l base (digits_in s)) (width_limit w minus) ∙ at_limit v (limit_of (is_signed w) (bits_of w) minus) r (first_fits minus v (within_64 v r))

  -- the run at the width that was found
  run-at : (code v : ℕ) → Known code → run_of (limit_at (chosen_of code (widest (front_of s).minus)) (front_of s).minus) (front_of s).base (digits_in s) ≡ Value v
      → ((code ≡ 0) ⊎ (code ≡ code_of (width_for code (front_of s).minus v)))
      × (run_of (limit_at (chosen_of code (code_of (width_for code (front_of s).minus v))) (front_of s).minus) (front_of s).base (digits_in s) ≡ Value v)
  run-at code v k h =
      either (bool_cases (eqb code 0))
      (λ p. rw p (inl (eqb-true code 0 p), run_first v (rw p at h)))
      (λ p. rw p (inr (sym (of_known code k p)), rw p at h))

  -- what a read of any width accepts is written in the width that it says
  pub any_written : (w : Width) (len : ℕ) → any_of s ≡ Ok (w, len) → IsWritten w s × (len ≡ written_len s)
  any_written w len h =
      let minus : Bool = (front_of s).minus in
      let base : ℕ = (front_of s).base in
      let code : ℕ = (suffix_in s).code in
      let r = any_read minus (front_of s).end (numeral_of (widest minus) minus base (unprefixed s)) w len (behind_end w len h) in
      let n = numeral_read (widest minus) minus base (unprefixed s) r.value r.code r.to r.numeral_is in
      let q = run-at code r.value (suffix_known (behind_digits s)) n.run_is in
      let is : width_for code minus r.value ≡ w = ap (λ (c : ℕ). width_for c minus r.value) n.code_is ∙ r.width_is in (
        (is_written w s r.value (subst (λ (x : Width). (code ≡ 0) ⊎ (code ≡ code_of x)) is q.0)
            (subst (λ (x : Width). run_of (limit_at (chosen_of code (code_of x)) minus) base (digits_in s) ≡ Value r.value) is q.1)).0,
        sym r.len_is ∙ ap (λ (k : ℕ). (front_of s).end + k) (sym n.end_is),
      )
