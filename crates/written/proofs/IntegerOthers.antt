-- The call `integer` is refused with 6 and 27 exactly in their cases (specs/Refused.antt). Assumes nothing.
use Rattle.std.proofs.Common.{Ok, Err}
use Prim.Native.Nat.{ℕ, ◌+◌}
use native.Mathlib.Omega.{arith}
use mathlib.Core.Bool.{true, false, true≢false}
use mathlib.Core.List.{List, [], ◌∷◌}
use mathlib.Core.Logic.{◌↔◌, ◌⊎◌, inl, inr}
use mathlib.Core.Path.{◌≡◌, ap, refl, subst, sym, ◌∙◌}
use lib.Dec.{eqb}
use lib.ListN.{drop, length}
use borrow.Author.Tests.{eq-eqb, ne_eqb}
use Rattle.text.proofs.Choices.{bool_cases, either}
use Rattle.text.specs.Refusals.{Told, eof, other_kind}
use Rattle.text.specs.Words.{starts_with}
use Rattle.text.specs.declared.refusal.Refusal.{Refusal}
use Rattle.digits.specs.declared.Run.{Run}
use Rattle.digits.specs.declared.Run.TheVariants.{Value, Empty, Underscore, NotDigit, Over}
use Rattle.integers.proofs.WidthRows.{width_of}
use Rattle.integers.proofs.Exactly.{reads_exactly}
use Rattle.integers.proofs.Fronts.{front_base}
use Rattle.integers.specs.Front.{front_of}
use Rattle.integers.specs.Integer.{other_suffix, number_read}
use Rattle.integers.specs.Range.{Reads}
use Rattle.integers.specs.Width.{code_of, width_at}
use Rattle.integers.specs.declared.integer.Integer.{Integer}
use Rattle.integers.specs.declared.integer.Integer.TheVariants as integer
use Rattle.integers.specs.declared.width.Width.{Width}
use Rattle.integers.specs.declared.width.Width.TheVariants.{U8}
use Rattle.sarridok.specs.declared.integer_call.Typed.{Typed}
use Rattle.sarridok.specs.Typed.{byte_as, integer_at, integer_of, placed_at}
use Rattle.written.specs.Refused.{Asked, CutByte, OtherWidth, Placed, TextEnds, judged_width}
use Rattle.written.specs.Written.{behind_digits, bits_of, byte_literal, digits_in, is_signed, magnitude_in, suffix_in, written_len}
use Rattle.written.proofs.AnyWritten.{of_known, suffix_known}
use Rattle.written.proofs.Asking.{OtherThanU8, Source, ends_at, own_answer, refused_from, typed_end}
use Rattle.written.proofs.Asking.Source.{at_end, cut, no_byte, other_byte, digits}
use Rattle.written.proofs.CutBytes.{cut_begins, cut_byte}
use Rattle.written.proofs.IntegerWritten.{at_front, byte_at}
use Rattle.written.proofs.RunAnswers.{answered, asked_answer, at_run, refusal_of, run_refused, run_here}
use Rattle.written.proofs.TypedWritten.{one_width, width_some}

module _ (text : List ℕ) (place : ℕ) (width : Width) where
  -- what stands at the front of the part is answered at the place
  placed_as : Placed text place → (i : Integer) → integer_at width (drop place text) ≡ i → integer_of text place width ≡ placed_at place i
  placed_as d i e = own_answer text place width d ∙ ap (λ (x : Integer). placed_at place x) e

  -- ---- 6

  -- 6 is not of a digit run
  six_run : (p : ℕ) (k : Run) → eof p ≡ refusal_of text place width k → ⊥
  six_run p (Value v) e = omega (arith, ap (λ (r : Refusal). r.number) e)
  six_run p Empty e = omega (arith, ap (λ (r : Refusal). r.number) e)
  six_run p Underscore e = omega (arith, ap (λ (r : Refusal). r.number) e)
  six_run p (NotDigit i) e = omega (arith, ap (λ (r : Refusal). r.number) e)
  six_run p Over e = omega (arith, ap (λ (r : Refusal). r.number) e)

  six_from : (p : ℕ) → Placed text place → Source text place width (eof p) → TextEnds text place p
  six_from p d (at_end e q) = record { placed = d; ends = inl e; place_is = ap (λ (r : Refusal). r.place) q }
  six_from p d (cut c q) = record { placed = d; ends = inr c; place_is = ap (λ (r : Refusal). r.place) q }
  six_from p d (no_byte a b) = absurd (omega arith)
  six_from p d (other_byte o q) = absurd (omega (arith, ap (λ (r : Refusal). r.number) q))
  six_from p d (digits a e) =
      absurd (six_run p (run_here width (drop place text)) (run_refused text place width (run_here width (drop place text)) (eof p) (sym (at_run text place width a) ∙ e)))

  empty_literal : (s : List ℕ) → length s ≡ 0 → byte_literal s ≡ false
  unfolding starts_with
  empty_literal [] e = refl
  empty_literal (a ∷ s) e = absurd (omega arith)

  ends_eof : (d : Placed text place) → (place ≡ length text) ⊎ CutByte (drop place text) → integer_of text place width ≡ Err (eof (length text))
  ends_eof d (inl e) =
      let s : List ℕ = drop place text in
      let z : length s ≡ 0 = omega (arith, ends_at text place d) in
      placed_as d (integer.Refused (eof 0)) (at_front width s (empty_literal s z) ∙ typed_end width s (eq-eqb (length s) 0 z)) ∙ ap (λ (p : ℕ). Err (eof p)) (omega arith)
  ends_eof d (inr c) =
      let s : List ℕ = drop place text in
      placed_as d (integer.Refused (eof (length s))) (byte_at width s (cut_begins s c) ∙ ap (byte_as width) (cut_byte s c))
      ∙ ap (λ (p : ℕ). Err (eof p)) (ends_at text place d)

  -- 6 exactly at the end of the text, and where a byte literal is cut off
  pub integer_6 : (p : ℕ) → (integer_of text place width ≡ Err (eof p)) ↔ TextEnds text place p
  integer_6 p = (
    (λ h. let f = refused_from text place width (eof p) (omega arith) (omega arith) h in six_from p f.0 f.1),
    (λ e. ends_eof e.placed e.ends ∙ ap (λ (q : ℕ). Err (eof q)) (sym e.place_is)),
  )

  -- ---- 27

  -- another suffix: one is there, and it isn't the width's
  other-suffix : (found asked : ℕ) → other_suffix found asked ≡ true → (eqb found 0 ≡ false) × (found ≡ asked → ⊥)
  other-suffix found asked e =
      either (bool_cases (eqb found 0))
      (λ p. absurd (true≢false (sym (rw p at e))))
      (λ p. (p, λ z. true≢false (sym (simp (p, eq-eqb found asked z) at e))))

  -- a digit run that comes to 27 reads, and another suffix stands behind it
  kind_run : (k : Run) → answered text place width k ≡ Err other_kind → (v : ℕ) × (k ≡ Value v) × (other_suffix (suffix_in (drop place text)).code (code_of width) ≡ true)
  kind_run (Value v) h =
      either (bool_cases (other_suffix (suffix_in (drop place text)).code (code_of width)))
      (λ p. (v, refl, p))
      (λ p. let q : ◌≡◌ {A = Told Typed} (Ok (record { number = number_read (front_of (drop place text)).minus v; end = place + written_len (drop place text) })) (Err other_kind) = rw p at h in
      let z : ◌≡◌ {A = ℕ} 0 1 = cc in absurd (omega arith))
  kind_run Empty h = absurd (omega (arith, ap (λ (r : Refusal). r.number) (run_refused text place width Empty other_kind h)))
  kind_run Underscore h = absurd (omega (arith, ap (λ (r : Refusal). r.number) (run_refused text place width Underscore other_kind h)))
  kind_run (NotDigit i) h = absurd (omega (arith, ap (λ (r : Refusal). r.number) (run_refused text place width (NotDigit i) other_kind h)))
  kind_run Over h = absurd (omega (arith, ap (λ (r : Refusal). r.number) (run_refused text place width Over other_kind h)))

  -- and so the number is written with the suffix of another width
  kind_digits : Asked text place → answered text place width (run_here width (drop place text)) ≡ Err other_kind → OtherWidth width text place
  kind_digits a h =
      let s : List ℕ = drop place text in
      let code : ℕ = (suffix_in s).code in
      let k = kind_run (run_here width s) h in
      let o = other-suffix code (code_of width) k.2 in
      let known : code_of (width_at code) ≡ code = of_known code (suffix_known (behind_digits s)) o.0 in
      let w : Width = judged_width width s in
      let judged : w ≡ width_at code = rw o.0 in
      let reads : Reads (is_signed w) (bits_of w) (front_of s).minus (front_of s).base (digits_in s) k.0 =
      (reads_exactly (is_signed w) (bits_of w) (front_of s).minus (front_of s).base (front_base s).0 (digits_in s) k.0).0 k.1 in
      record {
        asked = a;
        other = width_at code;
        differs = λ z. o.1 (sym known ∙ ap code_of z);
        suffix = sym known;
        digits =
            subst (λ (x : Width). Reads (is_signed x) (bits_of x) (front_of s).minus (front_of s).base (digits_in s) (magnitude_in s)) judged
            (subst (Reads (is_signed w) (bits_of w) (front_of s).minus (front_of s).base (digits_in s)) (sym reads.value) reads);
      }

  -- a number with the suffix of another width is of another kind
  other_width : OtherWidth width text place → integer_of text place width ≡ Err other_kind
  other_width o =
      let s : List ℕ = drop place text in
      let w : Width = o.other in
      let some : eqb (suffix_in s).code 0 ≡ false = ne_eqb (suffix_in s).code 0 (λ z. width_some w (sym o.suffix ∙ z)) in
      let differs : eqb (suffix_in s).code (code_of width) ≡ false = ne_eqb (suffix_in s).code (code_of width) (λ z. o.differs (one_width w width (sym o.suffix ∙ z))) in
      let judged : judged_width width s ≡ w = rw some (ap width_at o.suffix ∙ width_of w) in
      let reads = subst (λ (x : Width). Reads (is_signed x) (bits_of x) (front_of s).minus (front_of s).base (digits_in s) (magnitude_in s)) (sym judged) o.digits in
      let run = (reads_exactly (is_signed (judged_width width s)) (bits_of (judged_width width s)) (front_of s).minus (front_of s).base (front_base s).0 (digits_in s) (magnitude_in s)).1 reads in
      asked_answer text place width o.asked (Value (magnitude_in s)) run ∙ rw (some, differs)

  -- a byte literal is so for another width than u8
  other_byte_kind : Placed text place → OtherThanU8 width (drop place text) → integer_of text place width ≡ Err other_kind
  other_byte_kind d o =
      let s : List ℕ = drop place text in
      placed_as d integer.OtherSuffix
      (byte_at width s o.begins ∙ ap (byte_as width) o.read ∙ rw (ne_eqb (code_of width) 5 (λ z. o.differs (one_width width U8 z))))

  kind_from : Placed text place → Source text place width other_kind → OtherWidth width text place ⊎ (Placed text place × OtherThanU8 width (drop place text))
  kind_from d (at_end e q) = absurd (omega (arith, ap (λ (r : Refusal). r.number) q))
  kind_from d (cut c q) = absurd (omega (arith, ap (λ (r : Refusal). r.number) q))
  kind_from d (no_byte a b) = absurd (omega arith)
  kind_from d (other_byte o q) = inr (d, o)
  kind_from d (digits a e) = inl (kind_digits a (sym (at_run text place width a) ∙ e))

  -- 27 is for another suffix, or for a byte literal
  pub other-kind : (integer_of text place width ≡ Err other_kind) ↔ (OtherWidth width text place ⊎ (Placed text place × OtherThanU8 width (drop place text)))
  other-kind = (
    (λ h. let f = refused_from text place width other_kind (omega arith) (omega arith) h in kind_from f.0 f.1),
    (λ x. either x (λ a. other_width a) (λ b. other_byte_kind b.0 b.1)),
  )
