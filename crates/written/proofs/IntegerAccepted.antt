-- The call `integer` accepts exactly what is written at the place in the width asked for, and byte literals as u8 (specs/Accepted.antt). Assumes nothing.
use Rattle.std.proofs.Common.{Ok}
use Prim.Native.Nat.{ℕ, ◌+◌}
use mathlib.Core.Bool.{false}
use mathlib.Core.List.{List}
use mathlib.Core.Logic.{◌↔◌, ◌⊎◌, inl, inr}
use mathlib.Core.Path.{◌≡◌, ap, sym, ◌∙◌}
use lib.ListN.{drop}
use Rattle.text.proofs.Choices.{bool_cases, either}
use Rattle.integers.specs.Front.{front_of}
use Rattle.integers.specs.Integer.{number_read}
use Rattle.integers.specs.declared.integer.Integer.{Integer}
use Rattle.integers.specs.declared.integer.Integer.TheVariants as integer
use Rattle.integers.specs.declared.integer.Value.{Value}
use Rattle.integers.specs.declared.width.Width.{Width}
use Rattle.sarridok.specs.declared.integer_call.Typed.{Typed}
use Rattle.sarridok.specs.Typed.{integer_at, integer_of}
use Rattle.written.specs.Accepted.{ByteAccepted, NumberAccepted}
use Rattle.written.specs.Written.{byte_literal, magnitude_in, written_len}
use Rattle.written.proofs.Asking.{own_accepted}
use Rattle.written.proofs.ByteWritten.{accepted_literal, literal_accepted}
use Rattle.written.proofs.IntegerWritten.{accepted_written, front_answered, placed_read, written_at}

-- two reads of one part
same_read : (i : Integer) (v w : Value) (m n : ℕ) → i ≡ integer.Read v m → i ≡ integer.Read w n → (v ≡ w) × (m ≡ n)
same_read i v w m n e f = (cc, cc)

module _ (text : List ℕ) (place : ℕ) (width : Width) (t : Typed) where
  accepted_number : byte_literal (drop place text) ≡ false → integer_of text place width ≡ Ok t → NumberAccepted width text place t
  accepted_number b h =
      let s : List ℕ = drop place text in
      let o = own_accepted text place width t h in
      let w = (accepted_written text place width t b h).0 in
      let p = placed_read place (integer_at width s) t o.1 in
      let q = same_read (integer_at width s) t.number (number_read (front_of s).minus (magnitude_in s)) p.0 (written_len s) p.1 (written_at width s w) in
      record { placed = o.0; written_is = w; number_is = q.0; end_is = p.2 ∙ ap (λ (n : ℕ). place + n) q.1 }

  number_accepted : NumberAccepted width text place t → integer_of text place width ≡ Ok t
  number_accepted a =
      let s : List ℕ = drop place text in
      front_answered text place width (number_read (front_of s).minus (magnitude_in s)) (written_len s) a.placed.fit a.placed.place-fits (written_at width s a.written_is)
      ∙ ap (λ (v : Value). Ok (record { number = v; end = place + written_len s })) (sym a.number_is)
      ∙ ap (λ (n : ℕ). Ok (record { number = t.number; end = n })) (sym a.end_is)

  -- what is accepted is a number that is written, or a byte literal
  pub integer_accepted : (integer_of text place width ≡ Ok t) ↔ (NumberAccepted width text place t ⊎ ByteAccepted width text place t)
  integer_accepted = (
    (λ h. either (bool_cases (byte_literal (drop place text))) (λ b. inr (accepted_literal text place width t b h)) (λ b. inl (accepted_number b h))),
    (λ x. either x (λ a. number_accepted a) (λ a. literal_accepted text place width t a)),
  )
