-- The call `integer`: what it accepts is written at the place, and what is written there is accepted. Assumes nothing.
use Rattle.std.proofs.Common.{Ok, Err}
use Prim.Native.Nat.{ℕ, ◌+◌}
use native.Mathlib.Omega.{arith}
use mathlib.Core.Bool.{Bool, true, false, cond}
use mathlib.Core.List.{List, [], ◌∷◌}
use mathlib.Core.Logic.{inl, inr}
use mathlib.Core.Path.{◌≡◌, ap, refl, subst, sym, ◌∙◌}
use lib.Dec.{eqb}
use lib.ListN.{drop}
use borrow.Author.Tests.{eqb-true}
use Rattle.text.proofs.Choices.{bool_cases, either}
use Rattle.text.proofs.JudgeLaws.{front_fit}
use Rattle.text.specs.Classes.{digit, hex_digit, int_char, within}
use Rattle.text.specs.Judged.{behind_front, behind_judged, judged_of, place_fits}
use Rattle.text.specs.Refusals.{Told, unfit}
use Rattle.text.specs.Runs.{run}
use Rattle.text.specs.Words.{starts_with}
use Rattle.digits.specs.Digits.{hex_of}
use Rattle.digits.specs.Value.{Fit as DigitFit}
use Rattle.integers.proofs.WidthRows.{width_of}
use Rattle.integers.specs.Front.{front_of, prefix_of, sign_of}
use Rattle.integers.specs.Integer.{typed_of, number_read}
use Rattle.integers.specs.Range.{InWidth}
use Rattle.integers.specs.declared.integer.Integer.{Integer}
use Rattle.integers.specs.declared.integer.Integer.TheVariants as integer
use Rattle.integers.specs.declared.integer.Value.{Value}
use Rattle.integers.specs.Width.{code_of, width_at}
use Rattle.integers.specs.declared.width.Width.{Width}
use Rattle.integers.specs.declared.width.Width.TheVariants.{U8}
use Rattle.strings.specs.Chars.{byte_of}
use Rattle.sarridok.specs.declared.integer_call.Typed.{Typed}
use Rattle.sarridok.specs.Typed.{byte_as, integer_at, integer_of, signed_number, placed_at}
use Rattle.written.specs.Written.{AsByte, AsWritten, IsWritten, bits_of, byte_literal, is_signed, magnitude_in, written_len}
use Rattle.written.proofs.TypedWritten.{typed_written, written_typed}

-- an accepted call's text and place fit, and the answer is its own
pub front_accepted : {A : Type 0} (text : List ℕ) (fits : Bool) (own : Told A) (a : A) → behind_front text fits own ≡ Ok a
    → (judged_of text ≡ Ok tt) × (fits ≡ true) × (own ≡ Ok a)
unfolding behind_front
front_accepted {A} text fits own a h = go (judged_of text) fits h
  where
    go : (j : Told Unit) (f : Bool) → behind_judged j (cond f own (Err unfit)) ≡ Ok a → (j ≡ Ok tt) × (f ≡ true) × (own ≡ Ok a)
    go (Ok tt) true e = (refl, refl, e)
    go (Ok tt) false e = let z : ◌≡◌ {A = ℕ} 0 1 = cc in absurd (omega arith)
    go (Err r) f e = let z : ◌≡◌ {A = ℕ} 0 1 = cc in absurd (omega arith)

-- what was read at the place
pub placed_read : (place : ℕ) (i : Integer) (t : Typed) → placed_at place i ≡ Ok t → (len : ℕ) × (i ≡ integer.Read t.number len) × (t.end ≡ place + len)
placed_read place (integer.Read v len) t h =
    let e : record { number = v; end = place + len } ≡ t = cc in
    (len, ap (λ (x : Typed). integer.Read x.number len) e, sym (ap (λ (x : Typed). x.end) e))
placed_read place integer.OtherSuffix t h = let z : ◌≡◌ {A = ℕ} 0 1 = cc in absurd (omega arith)
placed_read place (integer.Refused r) t h = let z : ◌≡◌ {A = ℕ} 0 1 = cc in absurd (omega arith)

-- no number is written where a byte literal stands: `b` is no digit of base 10
no_digit : DigitFit 10 0x62 → ⊥
unfolding hex_of within
no_digit (inl e) = omega arith
no_digit (inr l) = omega arith

no_b : (width : Width) (s : List ℕ) → IsWritten width (0x62 ∷ s) → ⊥
unfolding front_of sign_of prefix_of run int_char hex_digit digit within
no_b width s w = no_digit (w.digits.only 0 (omega arith))

no_byte : (width : Width) (s : List ℕ) → IsWritten width s → byte_literal s ≡ false
unfolding starts_with
no_byte width [] w = refl
no_byte width (a ∷ s) w =
    either (bool_cases (eqb a 0x62))
    (λ e. absurd (no_b width s (subst (λ (x : ℕ). IsWritten width (x ∷ s)) (eqb-true a 0x62 e) w)))
    (λ e. rw e)

pub at_front : (width : Width) (s : List ℕ) → byte_literal s ≡ false → integer_at width s ≡ typed_of width s
unfolding integer_at
at_front width s b = rw b

-- what is written at the front of a part
pub written_at : (width : Width) (s : List ℕ) → IsWritten width s → integer_at width s ≡ integer.Read (number_read (front_of s).minus (magnitude_in s)) (written_len s)
written_at width s w = at_front width s (no_byte width s w) ∙ written_typed width s w

-- what is read at the front of a part is answered at its place
pub front_answered : (text : List ℕ) (place : ℕ) (width : Width) (v : Value) (len : ℕ) → judged_of text ≡ Ok tt → place_fits text place ≡ true
    → integer_at width (drop place text) ≡ integer.Read v len → integer_of text place width ≡ Ok (record { number = v; end = place + len })
unfolding integer_of
front_answered text place width v len j f e =
    front_fit text (placed_at place (integer_at width (drop place text))) (place_fits text place) j f ∙ ap (λ (i : Integer). placed_at place i) e

pub byte_read : (width : Width) (a : Told (ℕ × ℕ)) (v : Value) (len : ℕ) → byte_as width a ≡ integer.Read v len
    → (b : ℕ) × (a ≡ Ok (len, b)) × (width ≡ U8) × (record { minus = false; magnitude = b } ≡ v)
unfolding width_at
byte_read width (Ok (n, b)) v len h =
    either (bool_cases (eqb (code_of width) 5))
    (λ p. let q : integer.Read (record { minus = false; magnitude = b }) n ≡ integer.Read v len = rw p at h in
    let l : n ≡ len = cc in
    (b, ap (λ (k : ℕ). Ok (k, b)) l, sym (width_of width) ∙ ap width_at (eqb-true (code_of width) 5 p), cc))
    (λ p. let q : integer.OtherSuffix ≡ integer.Read v len = rw p at h in let z : ◌≡◌ {A = ℕ} 0 1 = cc in absurd (omega arith))
byte_read width (Err r) v len h = let z : ◌≡◌ {A = ℕ} 0 1 = cc in absurd (omega arith)

pub byte_at : (width : Width) (s : List ℕ) → byte_literal s ≡ true → integer_at width s ≡ byte_as width (byte_of s)
unfolding integer_at
byte_at width s b = rw b

module _ (text : List ℕ) (place : ℕ) (width : Width) where
  pub accepted_byte : (t : Typed) → byte_literal (drop place text) ≡ true → integer_of text place width ≡ Ok t → AsByte width (drop place text) place t
  unfolding integer_of
  accepted_byte t b h =
      let s : List ℕ = drop place text in
      let p = placed_read place (integer_at width s) t (front_accepted text (place_fits text place) (placed_at place (integer_at width s)) t h).2 in
      let q = byte_read width (byte_of s) t.number p.0 (sym (byte_at width s b) ∙ p.1) in
      record { byte = q.0; len = p.0; read = q.1; width_is = q.2; number_is = ap signed_number (sym q.3); end_is = p.2 }

  pub accepted_written : (t : Typed) → byte_literal (drop place text) ≡ false → integer_of text place width ≡ Ok t
      → IsWritten width (drop place text) × AsWritten width (drop place text) place t
  unfolding integer_of
  accepted_written t b h =
      let s : List ℕ = drop place text in
      let p = placed_read place (integer_at width s) t (front_accepted text (place_fits text place) (placed_at place (integer_at width s)) t h).2 in
      let w = typed_written width s t.number p.0 (sym (at_front width s b) ∙ p.1) in (
        w.0,
        record {
          number_is = w.1;
          fits = subst (InWidth (is_signed width) (bits_of width)) (sym w.1) w.0.digits.fits;
          end_is = p.2 ∙ ap (λ (n : ℕ). place + n) w.2;
        },
      )

  pub written_accepted : judged_of text ≡ Ok tt → place_fits text place ≡ true → IsWritten width (drop place text) → (t : Typed) × (integer_of text place width ≡ Ok t)
  written_accepted j f w =
      let s : List ℕ = drop place text in
      (_, front_answered text place width (number_read (front_of s).minus (magnitude_in s)) (written_len s) j f (written_at width s w))
