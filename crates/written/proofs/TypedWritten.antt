-- The number that `integer` accepts is the one that is written, and what is written is accepted. Assumes nothing.
use Rattle.std.proofs.Common.{Ok, Err}
use Prim.Native.Nat.{ℕ, zero, suc, ◌+◌}
use native.Mathlib.Omega.{arith}
use mathlib.Core.Bool.{Bool, true, false}
use mathlib.Core.List.{List}
use mathlib.Core.Logic.{◌⊎◌, inl, inr}
use mathlib.Core.Path.{◌≡◌, ap, refl, subst, sym, ◌∙◌}
use lib.Dec.{eqb}
use lib.ListN.{length, take, drop, length-drop}
use lib.Seq.{length-take-le}
use borrow.Author.Tests.{eq-eqb, eqb-true, ne_eqb, not-false}
use Rattle.text.proofs.Choices.{bool_cases, either}
use Rattle.text.proofs.RunLaws.{run_le}
use Rattle.text.specs.Classes.{int_char}
use Rattle.text.specs.Refusals.{Told, eof}
use Rattle.text.specs.Runs.{run}
use Rattle.digits.specs.Digits.{run_of}
use Rattle.digits.specs.declared.Run.{Run}
use Rattle.digits.specs.declared.Run.TheVariants.{Value, Empty, Underscore, NotDigit, Over}
use Rattle.integers.proofs.Exactly.{reads_exactly}
use Rattle.integers.proofs.Fronts.{front_base}
use Rattle.integers.proofs.WidthRows.{width_of}
use Rattle.integers.specs.Front.{front_of}
use Rattle.integers.specs.Integer.{behind_run, chosen_of, numeral_of, other_suffix, typed_as, typed_of, number_read}
use Rattle.integers.specs.Range.{Reads, signed_of}
use Rattle.integers.specs.Width.{code_of, limit_at, limit_of, suffix_of, width_at}
use Rattle.integers.specs.declared.ident.Found.{Found}
use Rattle.integers.specs.declared.integer.Integer.TheVariants as integer
use Rattle.integers.specs.declared.integer.Value.{Value as Number}
use Rattle.integers.specs.declared.width.Width.{Width}
use Rattle.integers.specs.declared.width.Width.TheVariants.{I8, I16, I32, I64, U8, U16, U32, U64}
use Rattle.sarridok.specs.Typed.{signed_number}
use Rattle.written.specs.Written.{IsWritten, bits_of, digits_in, is_signed, magnitude_in, suffix_in, unprefixed, written, written_len}

-- ---- widths and signs

pub width_limit : (width : Width) (minus : Bool) → limit_at (code_of width) minus ≡ limit_of (is_signed width) (bits_of width) minus
unfolding limit_at width_at
width_limit I8 minus = refl
width_limit I16 minus = refl
width_limit I32 minus = refl
width_limit I64 minus = refl
width_limit U8 minus = refl
width_limit U16 minus = refl
width_limit U32 minus = refl
width_limit U64 minus = refl

pub width_some : (width : Width) → code_of width ≡ 0 → ⊥
width_some I8 e = omega arith
width_some I16 e = omega arith
width_some I32 e = omega arith
width_some I64 e = omega arith
width_some U8 e = omega arith
width_some U16 e = omega arith
width_some U32 e = omega arith
width_some U64 e = omega arith

-- a width by its number
pub one_width : (v w : Width) → code_of v ≡ code_of w → v ≡ w
one_width v w e = sym (width_of v) ∙ ap width_at e ∙ width_of w

-- 0 has no minus, and is the same number
number_signed : (minus : Bool) (m : ℕ) → signed_number (number_read minus m) ≡ signed_of minus m
number_signed false zero = refl
number_signed false (suc m) = rw (ne_eqb (suc m) 0 (λ z. omega arith))
number_signed true zero = refl
number_signed true (suc m) = rw (ne_eqb (suc m) 0 (λ z. omega arith))

-- no suffix, or that of the width
own_suffix : (found asked : ℕ) → other_suffix found asked ≡ false → (found ≡ 0) ⊎ (found ≡ asked)
own_suffix found asked e =
    either (bool_cases (eqb found 0)) (λ p. inl (eqb-true found 0 p)) (λ p. inr (eqb-true found asked (not-false (eqb found asked) (rw p at e))))

suffix_own : (found asked : ℕ) → (found ≡ 0) ⊎ (found ≡ asked) → (other_suffix found asked ≡ false) × (chosen_of found asked ≡ asked)
suffix_own found asked (inl z) = (rw z, rw z)
suffix_own found asked (inr z) = either (bool_cases (eqb found 0)) (λ p. (rw p, rw p)) (λ p. (simp (p, eq-eqb found asked z), rw p z))

-- ---- digits and suffix

-- a numeral that was read: what its run and its suffix said
pub record Read-numeral (found end : ℕ) (r : Run) (v code to : ℕ) : Type 0 where
  pub run_is : r ≡ Value v
  pub code_is : found ≡ code
  pub end_is : end ≡ to

by_run : (found end : ℕ) (r : Run) (v code to : ℕ) → behind_run found end r ≡ Ok (v, code, to) → Read-numeral found end r v code to
by_run found end (Value m) v code to h =
    let z : ◌≡◌ {A = ℕ × ℕ × ℕ} (m, found, end) (v, code, to) = cc in
    record {
      run_is = ap (λ (p : ℕ × ℕ × ℕ). Value p.0) z;
      code_is = ap (λ (p : ℕ × ℕ × ℕ). p.1) z;
      end_is = ap (λ (p : ℕ × ℕ × ℕ). p.2) z;
    }
by_run found end Empty v code to h = let z : ◌≡◌ {A = ℕ} 0 1 = cc in absurd (omega arith)
by_run found end Underscore v code to h = let z : ◌≡◌ {A = ℕ} 0 1 = cc in absurd (omega arith)
by_run found end (NotDigit at) v code to h = let z : ◌≡◌ {A = ℕ} 0 1 = cc in absurd (omega arith)
by_run found end Over v code to h = let z : ◌≡◌ {A = ℕ} 0 1 = cc in absurd (omega arith)

module _ (asked : ℕ) (minus : Bool) (base : ℕ) (t : List ℕ) where
  pub numeral_read : (v code to : ℕ) → numeral_of asked minus base t ≡ Ok (v, code, to)
      → Read-numeral (suffix_of (drop (run int_char t) t)).code (length (take (run int_char t) t) + (suffix_of (drop (run int_char t) t)).end)
      (run_of (limit_at (chosen_of (suffix_of (drop (run int_char t) t)).code asked) minus) base (take (run int_char t) t)) v code to
  unfolding numeral_of
  numeral_read v code to h =
      let n : ℕ = run int_char t in
      let f : Found = suffix_of (drop n t) in
      by_run f.code (length (take n t) + f.end) (run_of (limit_at (chosen_of f.code asked) minus) base (take n t)) v code to h

-- ---- a typed read

-- what was read of a numeral
record Read-typed (asked : ℕ) (minus : Bool) (at : ℕ) (n : Told (ℕ × ℕ × ℕ)) (number : Number) (len : ℕ) : Type 0 where
  value : ℕ
  code : ℕ
  to : ℕ
  numeral_is : n ≡ Ok (value, code, to)
  own : (code ≡ 0) ⊎ (code ≡ asked)
  number_is : number_read minus value ≡ number
  len_is : at + to ≡ len

typed_read : (asked : ℕ) (minus : Bool) (at : ℕ) (n : Told (ℕ × ℕ × ℕ)) (number : Number) (len : ℕ) → typed_as asked minus at n ≡ integer.Read number len
    → Read-typed asked minus at n number len
typed_read asked minus at (Ok (v, code, to)) number len h =
    either (bool_cases (other_suffix code asked))
    (λ p. let q : integer.OtherSuffix ≡ integer.Read number len = rw p at h in let z : ◌≡◌ {A = ℕ} 0 1 = cc in absurd (omega arith))
    (λ p. let q : integer.Read (number_read minus v) (at + to) ≡ integer.Read number len = rw p at h in
    record { value = v; code = code; to = to; numeral_is = refl; own = own_suffix code asked p; number_is = cc; len_is = cc })
typed_read asked minus at (Err r) number len h = let z : ◌≡◌ {A = ℕ} 0 1 = cc in absurd (omega arith)

module _ (width : Width) (s : List ℕ) where
  behind_end : (number : Number) (len : ℕ) → typed_of width s ≡ integer.Read number len
      → typed_as (code_of width) (front_of s).minus (front_of s).end (numeral_of (code_of width) (front_of s).minus (front_of s).base (unprefixed s)) ≡ integer.Read number len
  unfolding typed_of
  behind_end number len h =
      either (bool_cases (eqb (length s) 0))
      (λ p. let q : integer.Refused (eof 0) ≡ integer.Read number len = rw p at h in let z : ◌≡◌ {A = ℕ} 0 1 = cc in absurd (omega arith))
      (λ p. rw p at h)

  -- the limit of the width that is read at
  pub limit_is : (code : ℕ) → (code ≡ 0) ⊎ (code ≡ code_of width) → limit_at (chosen_of code (code_of width)) (front_of s).minus ≡ limit_of (is_signed width) (bits_of width) (front_of s).minus
  limit_is code own = ap (λ (c : ℕ). limit_at c (front_of s).minus) (suffix_own code (code_of width) own).1 ∙ width_limit width (front_of s).minus

  -- a run that reads at the width, with its suffix
  pub is_written : (v : ℕ) → ((suffix_in s).code ≡ 0) ⊎ ((suffix_in s).code ≡ code_of width)
      → run_of (limit_at (chosen_of (suffix_in s).code (code_of width)) (front_of s).minus) (front_of s).base (digits_in s) ≡ Value v → IsWritten width s × (magnitude_in s ≡ v)
  is_written v own h =
      let minus : Bool = (front_of s).minus in
      let base : ℕ = (front_of s).base in
      let reads : Reads (is_signed width) (bits_of width) minus base (digits_in s) v =
      (reads_exactly (is_signed width) (bits_of width) minus base (front_base s).0 (digits_in s) v).0
      (ap (λ (l : ℕ). run_of l base (digits_in s)) (sym (limit_is (suffix_in s).code own)) ∙ h) in
      (record { digits = subst (Reads (is_signed width) (bits_of width) minus base (digits_in s)) (sym reads.value) reads; suffix = own }, reads.value)

  -- what a typed read accepts is written
  pub typed_written : (number : Number) (len : ℕ) → typed_of width s ≡ integer.Read number len → IsWritten width s × (signed_number number ≡ written s) × (len ≡ written_len s)
  typed_written number len h =
      let asked : ℕ = code_of width in
      let minus : Bool = (front_of s).minus in
      let r = typed_read asked minus (front_of s).end (numeral_of asked minus (front_of s).base (unprefixed s)) number len (behind_end number len h) in
      let n = numeral_read asked minus (front_of s).base (unprefixed s) r.value r.code r.to r.numeral_is in
      let own : ((suffix_in s).code ≡ 0) ⊎ ((suffix_in s).code ≡ asked) = subst (λ (c : ℕ). (c ≡ 0) ⊎ (c ≡ asked)) (sym n.code_is) r.own in
      let w = is_written r.value own n.run_is in (
        w.0,
        ap signed_number (sym r.number_is) ∙ number_signed minus r.value ∙ ap (signed_of minus) (sym w.1),
        sym r.len_is ∙ ap (λ (k : ℕ). (front_of s).end + k) (sym n.end_is),
      )

  some : IsWritten width s → length s ≡ 0 → ⊥
  some w z =
      w.digits.begun.0
      (omega (arith, length-take-le (run int_char (unprefixed s)) (unprefixed s) (run_le int_char (unprefixed s)), run_le int_char (unprefixed s), length-drop (front_of s).end s))

  -- and what is written is accepted
  pub written_typed : IsWritten width s → typed_of width s ≡ integer.Read (number_read (front_of s).minus (magnitude_in s)) (written_len s)
  unfolding typed_of numeral_of
  written_typed w =
      let minus : Bool = (front_of s).minus in
      let base : ℕ = (front_of s).base in
      let reads : run_of (limit_at (chosen_of (suffix_in s).code (code_of width)) minus) base (digits_in s) ≡ Value (magnitude_in s) =
      ap (λ (l : ℕ). run_of l base (digits_in s)) (limit_is (suffix_in s).code w.suffix)
      ∙ (reads_exactly (is_signed width) (bits_of width) minus base (front_base s).0 (digits_in s) (magnitude_in s)).1 w.digits in
      rw (ne_eqb (length s) 0 (some w), reads, (suffix_own (suffix_in s).code (code_of width) w.suffix).0)
