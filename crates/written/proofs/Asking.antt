-- Where a refusal of `integer` comes from: the front of the call, a byte literal, the end of the text, or the digits; its number tells. Assumes nothing.
use Rattle.std.proofs.Common.{Ok, Err, Some, None, Option}
use Prim.Native.Nat.{ℕ, ◌+◌, ◌≤◌}
use native.Mathlib.Omega.{arith}
use mathlib.Core.Bool.{Bool, true, false, cond}
use mathlib.Core.List.{List}
use mathlib.Core.Path.{◌≡◌, ap, refl, sym, ◌∙◌}
use lib.Dec.{eqb, ltb}
use lib.ListN.{drop, length, length-drop}
use borrow.Author.Tests.{eqb-false, eqb-true}
use Rattle.text.proofs.Choices.{bool_cases, cond_cases, either}
use Rattle.text.proofs.JudgeLaws.{front_fit, place_within}
use Rattle.text.specs.Judged.{behind_front, behind_judged, by_utf8, judged_of, place_fits}
use Rattle.text.specs.Refusals.{Told, eof, other_kind, placed_behind, unfit}
use Rattle.text.specs.Utf8.{utf8_of}
use Rattle.text.specs.declared.refusal.Refusal.{Refusal}
use Rattle.integers.specs.Integer.{typed_of}
use Rattle.integers.specs.Width.{code_of, width_at}
use Rattle.integers.specs.declared.integer.Integer.{Integer}
use Rattle.integers.specs.declared.integer.Integer.TheVariants as integer
use Rattle.integers.specs.declared.width.Width.{Width}
use Rattle.integers.specs.declared.width.Width.TheVariants.{U8}
use Rattle.strings.specs.Chars.{byte_of}
use Rattle.sarridok.specs.declared.integer_call.Typed.{Typed}
use Rattle.sarridok.specs.Typed.{byte_as, integer_at, integer_of, placed_at}
use Rattle.written.specs.Refused.{Asked, CutByte, Placed}
use Rattle.written.specs.Written.{byte_literal}
use Rattle.written.proofs.CutBytes.{byte_says}
use Rattle.written.proofs.IntegerWritten.{at_front, byte_at, front_accepted}

-- ---- the front of a call gives 1, 2 and 28

abbrev Low : Told Unit → Type 0
Low (Ok tt) = Unit {0}
Low (Err r) = r.number ≤ 2

by-utf8 : (a : Option ℕ) → Low (by_utf8 a)
by-utf8 None = tt
by-utf8 (Some p) = omega arith

judged_low : (text : List ℕ) → Low (judged_of text)
unfolding judged_of
judged_low text = cond_cases Low (ltb 65536 (length text)) _ _ (λ p. omega arith) (λ p. by-utf8 (utf8_of text))

module _ {A : Type 0} (text : List ℕ) (own : Told A) (r : Refusal) (low : 3 ≤ r.number) (high : r.number ≤ 27) where
  by_judged : (j : Told Unit) → Low j → (f : Bool) → behind_judged j (cond f own (Err unfit)) ≡ Err r → (j ≡ Ok tt) × (f ≡ true) × (own ≡ Err r)
  by_judged (Ok tt) l true e = (refl, refl, e)
  by_judged (Ok tt) l false e = let q : unfit ≡ r = cc in absurd (omega (arith, ap (λ (x : Refusal). x.number) q))
  by_judged (Err x) l f e = let q : x ≡ r = cc in absurd (omega (arith, ap (λ (x : Refusal). x.number) q))

  -- another number is the call's own
  pub front_own : (fits : Bool) → behind_front text fits own ≡ Err r → (judged_of text ≡ Ok tt) × (fits ≡ true) × (own ≡ Err r)
  unfolding behind_front
  front_own fits e = by_judged (judged_of text) (judged_low text) fits e

-- ---- the call at a place that fits

module _ (text : List ℕ) (place : ℕ) (width : Width) where
  pub own_answer : Placed text place → integer_of text place width ≡ placed_at place (integer_at width (drop place text))
  unfolding integer_of
  own_answer p = front_fit text (placed_at place (integer_at width (drop place text))) (place_fits text place) p.fit p.place-fits

  -- a refusal that is not the front's
  pub own_refused : (r : Refusal) → 3 ≤ r.number → r.number ≤ 27 → integer_of text place width ≡ Err r
      → Placed text place × (placed_at place (integer_at width (drop place text)) ≡ Err r)
  unfolding integer_of
  own_refused r l h e =
      let q = front_own text (placed_at place (integer_at width (drop place text))) r l h (place_fits text place) e in
      (record { fit = q.0; place-fits = q.1 }, q.2)

  -- what is accepted
  pub own_accepted : (t : Typed) → integer_of text place width ≡ Ok t → Placed text place × (placed_at place (integer_at width (drop place text)) ≡ Ok t)
  unfolding integer_of
  own_accepted t e =
      let q = front_accepted text (place_fits text place) (placed_at place (integer_at width (drop place text))) t e in
      (record { fit = q.0; place-fits = q.1 }, q.2)

pub typed_end : (width : Width) (s : List ℕ) → eqb (length s) 0 ≡ true → typed_of width s ≡ integer.Refused (eof 0)
unfolding typed_of
typed_end width s p = rw p

-- the part from a place on ends where the text does
pub ends_at : (text : List ℕ) (place : ℕ) → Placed text place → place + length (drop place text) ≡ length text
ends_at text place d = omega (arith, length-drop place text, place_within text place d.place-fits)

-- a byte literal that reads, where another width than u8 is asked for
pub record OtherThanU8 (width : Width) (s : List ℕ) : Type 0 where
  pub begins : byte_literal s ≡ true
  pub value : ℕ
  pub len : ℕ
  pub read : byte_of s ≡ Ok (len, value)
  pub differs : width ≡ U8 → ⊥

-- where a refusal of a call at a place that fits comes from
pub data Source (text : List ℕ) (place : ℕ) (width : Width) (r : Refusal) : Type 0 where
  at_end : place ≡ length text → r ≡ eof (length text) → Source text place width r
  cut : CutByte (drop place text) → r ≡ eof (length text) → Source text place width r
  no_byte : 13 ≤ r.number → r.number ≤ 15 → Source text place width r
  other_byte : OtherThanU8 width (drop place text) → r ≡ other_kind → Source text place width r
  digits : Asked text place → placed_at place (typed_of width (drop place text)) ≡ Err r → Source text place width r

module _ (text : List ℕ) (place : ℕ) (width : Width) (r : Refusal) (placed : Placed text place) where
  by_byte : (a : Told (ℕ × ℕ)) → byte_of (drop place text) ≡ a → byte_literal (drop place text) ≡ true → placed_at place (byte_as width a) ≡ Err r → Source text place width r
  unfolding width_at
  by_byte (Ok (n, b)) e l h =
      either (bool_cases (eqb (code_of width) 5))
      (λ p. let q : ◌≡◌ {A = Told Typed} (Ok (record { number = record { minus = false; magnitude = b }; end = place + n })) (Err r) = rw p at h in let z : ◌≡◌ {A = ℕ} 0 1 = cc in absurd (omega arith))
      (λ p. let q : ◌≡◌ {A = Told Typed} (Err other_kind) (Err r) = rw p at h in
      let x : other_kind ≡ r = cc in
      other_byte (record { begins = l; value = b; len = n; read = e; differs = λ w. eqb-false (code_of width) 5 p (ap code_of w) }) (sym x))
  by_byte (Err x) e l h =
      let q : placed_behind place x ≡ r = cc in
      either (byte_says (drop place text) x l e)
      (λ c. cut c.0 (sym q ∙ ap (placed_behind place) c.1 ∙ ap eof (ends_at text place placed)))
      (λ c. let k = ap (λ (y : Refusal). y.number) q in no_byte (omega (arith, k, c.0)) (omega (arith, k, c.1)))

  by_digits : byte_literal (drop place text) ≡ false → placed_at place (typed_of width (drop place text)) ≡ Err r → Source text place width r
  by_digits l h =
      let s : List ℕ = drop place text in
      either (bool_cases (eqb (length s) 0))
      (λ p. let e = ends_at text place placed in
      let x : ◌≡◌ {A = Told Typed} (Err (eof (place + 0))) (Err r) = ap (λ (i : Integer). placed_at place i) (sym (typed_end width s p)) ∙ h in
      let y : eof (place + 0) ≡ r = cc in
      let f : place ≡ length text = omega (arith, eqb-true (length s) 0 p) in
      at_end f (sym y ∙ ap eof (omega arith)))
      (λ p. let n = eqb-false (length s) 0 p in digits (record { placed = placed; no_byte = l; some = omega (arith, ends_at text place placed, n) }) h)

  source : placed_at place (integer_at width (drop place text)) ≡ Err r → Source text place width r
  source h =
      let s : List ℕ = drop place text in
      either (bool_cases (byte_literal s))
      (λ l. by_byte (byte_of s) refl l (ap (λ (i : Integer). placed_at place i) (sym (byte_at width s l)) ∙ h))
      (λ l. by_digits l (ap (λ (i : Integer). placed_at place i) (sym (at_front width s l)) ∙ h))

-- a refusal that is not the front's, and where it comes from
pub refused_from : (text : List ℕ) (place : ℕ) (width : Width) (r : Refusal) → 3 ≤ r.number → r.number ≤ 27 → integer_of text place width ≡ Err r
    → Placed text place × Source text place width r
refused_from text place width r l h e = let o = own_refused text place width r l h e in (o.0, source text place width r o.0 o.1)
