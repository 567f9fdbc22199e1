-- The call `integer` on byte literals: accepted exactly where one stands and u8 is asked for, 27 exactly where another width is. Assumes nothing.
use Rattle.std.proofs.Common.{Ok, Err}
use Prim.Native.Nat.{ℕ, ◌+◌, ◌-◌}
use native.Mathlib.Omega.{arith}
use mathlib.Core.Bool.{true, false}
use mathlib.Core.List.{List}
use mathlib.Core.Logic.{◌↔◌, ◌⊎◌, inl, inr}
use mathlib.Core.Path.{◌≡◌, ap, refl, subst, sym, ◌∙◌}
use lib.ListN.{drop}
use lib.Seq.{drop-drop}
use Rattle.text.proofs.Choices.{either}
use Rattle.text.specs.Refusals.{Told, other_kind}
use Rattle.text.specs.Words.{starts_with}
use Rattle.integers.specs.declared.integer.Integer.{Integer}
use Rattle.integers.specs.declared.integer.Value.{Value}
use Rattle.integers.specs.declared.width.Width.{Width}
use Rattle.quoted.proofs.ByteLiterals.{byte_reads}
use Rattle.quoted.proofs.Exactly.{byte_exactly}
use Rattle.quoted.specs.Literals.{ByteAt}
use Rattle.quoted.specs.Literals.ByteAt.{itself, escaped}
use Rattle.strings.proofs.Bounds.{Bounded-byte, byte_bounded}
use Rattle.strings.specs.Chars.{byte_of}
use Rattle.sarridok.specs.declared.integer_call.Typed.{Typed}
use Rattle.sarridok.specs.Typed.{byte_as, integer_at, integer_of, placed_at}
use Rattle.written.specs.Accepted.{ByteAccepted}
use Rattle.written.specs.Refused.{OtherByte, OtherWidth, Placed}
use Rattle.written.specs.Written.{byte_literal}
use Rattle.written.proofs.Asking.{OtherThanU8, ends_at, own_accepted, own_answer}
use Rattle.written.proofs.IntegerOthers.{other-kind}
use Rattle.written.proofs.IntegerWritten.{byte_at, byte_read, placed_read}

-- a byte literal begins as one
literal_begins : {s t : List ℕ} {b : ℕ} → ByteAt s b t → byte_literal s ≡ true
unfolding starts_with
literal_begins (itself l n) = refl
literal_begins (escaped e) = refl

-- a number and the place behind it
typed_is : (t : Typed) (b n place : ℕ) → t.number ≡ record { minus = false; magnitude = b } → place + n ≡ t.end
    → ◌≡◌ {A = Told Typed} (Ok (record { number = record { minus = false; magnitude = b }; end = place + n })) (Ok t)
typed_is t b n place e l =
    ap (λ (v : Value). Ok (record { number = v; end = place + n })) (sym e) ∙ ap (λ (k : ℕ). Ok (record { number = t.number; end = k })) l

module _ (text : List ℕ) (place : ℕ) (width : Width) where
  pub accepted_literal : (t : Typed) → byte_literal (drop place text) ≡ true → integer_of text place width ≡ Ok t → ByteAccepted width text place t
  accepted_literal t b h =
      let s : List ℕ = drop place text in
      let o = own_accepted text place width t h in
      let p = placed_read place (integer_at width s) t o.1 in
      let q = byte_read width (byte_of s) t.number p.0 (sym (byte_at width s b) ∙ p.1) in
      let c = (byte_exactly s p.0 q.0).0 q.1 in
      let k = subst (Bounded-byte s) q.1 (byte_bounded s) in
      let e : drop p.0 s ≡ drop t.end text = drop-drop p.0 place text ∙ ap (λ (n : ℕ). drop n text) (sym p.2) in
      record {
        placed = o.0;
        width_is = q.2;
        byte = q.0;
        number_is = sym q.3;
        behind = omega (arith, p.2, k.0);
        inside = omega (arith, p.2, c.0, ends_at text place o.0);
        literal = subst (ByteAt s q.0) e c.1;
      }

  pub literal_accepted : (t : Typed) → ByteAccepted width text place t → integer_of text place width ≡ Ok t
  literal_accepted t a =
      let s : List ℕ = drop place text in
      let n : ℕ = t.end - place in
      let l : place + n ≡ t.end = omega (arith, a.behind) in
      let e : drop t.end text ≡ drop n s = ap (λ (k : ℕ). drop k text) (sym l) ∙ sym (drop-drop n place text) in
      let r = (byte_exactly s n a.byte).1 (omega (arith, a.inside, ends_at text place a.placed), subst (ByteAt s a.byte) e a.literal) in
      own_answer text place width a.placed
      ∙ ap (λ (i : Integer). placed_at place i)
      (byte_at width s (literal_begins a.literal) ∙ ap (byte_as width) r ∙ ap (λ (w : Width). byte_as w (Ok (n, a.byte))) a.width_is)
      ∙ typed_is t a.byte n place a.number_is l

  -- a byte literal is accepted exactly as u8, with its byte and the place behind it
  pub byte_literal_exactly : (t : Typed) → byte_literal (drop place text) ≡ true → (integer_of text place width ≡ Ok t) ↔ ByteAccepted width text place t
  byte_literal_exactly t b = (accepted_literal t b, literal_accepted t)

  other_literal : Placed text place → OtherThanU8 width (drop place text) → OtherByte width text place
  other_literal d o =
      let s : List ℕ = drop place text in
      record { placed = d; differs = o.differs; byte = o.value; rest = drop o.len s; literal = ((byte_exactly s o.len o.value).0 o.read).1 }

  literal_other : OtherByte width text place → OtherThanU8 width (drop place text)
  literal_other o =
      let r = byte_reads o.literal in
      record { begins = literal_begins o.literal; value = o.byte; len = r.0; read = r.3; differs = o.differs }

  -- 27 exactly where a number is written with the suffix of another width, or a byte literal stands and another width than u8 is asked for
  pub integer_27 : (integer_of text place width ≡ Err other_kind) ↔ (OtherWidth width text place ⊎ OtherByte width text place)
  integer_27 = (
    (λ h. either ((other-kind text place width).0 h) inl (λ x. inr (other_literal x.0 x.1))),
    (λ h. (other-kind text place width).1 (either h inl (λ o. inr (o.placed, literal_other o)))),
  )
