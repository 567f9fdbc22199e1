-- The judgement of a text, and of a place in it, said plainly.
--     fit-exactly      a text is fit exactly where it has at most 65,536 bytes and is UTF-8
--     long-exactly     1 exactly where it has more
--     bad-exactly      2 exactly at the first bad sequence of one that has not
--     place-exactly    a place of a text fits exactly where it stands between two characters or at one of its ends
-- Assumes nothing.
use Rattle.std.proofs.Common.{Ok, Err, Some, None, Option}
use Prim.Native.Nat.{ℕ, ◌≤◌, ◌<◌}
use native.Mathlib.Omega.{arith}
use mathlib.Core.Bool.{Bool, true, false, not, ◌&&◌}
use mathlib.Core.List.{List}
use mathlib.Core.Logic.{◌↔◌}
use mathlib.Core.Path.{◌≡◌, ◌∙◌, ap, refl, sym}
use lib.Dec.{leb}
use lib.ListN.{length, get_or}
use borrow.Author.Tests.{le-leb, le-ltb, leb-true, lt-ltb}
use Rattle.text.proofs.Choices.{and_true, either, lt_or_le}
use Rattle.text.proofs.Lists.{head_at}
use Rattle.text.proofs.Utf8Agree.{bad_means, encoded_good, encoded_text, good_encoded, means_bad, text_encoded}
use Rattle.text.specs.Judged.{by_utf8, judged_of, place_fits}
use Rattle.text.specs.Refusals.{Told, not_utf8, too_long}
use Rattle.text.specs.Utf8.{Encoded, tail_byte, utf8_of}
use Rattle.text.specs.declared.refusal.Refusal.{Refusal}
use Rattle.fronts.specs.Fronts.{Boundary, FirstBad, Sound}
use Rattle.fronts.proofs.Shapes.{cut, first_byte}

-- ---- the answer, by cases

-- a refusal is not fit
not_fit : {X : Type 0} (r : Refusal) → ◌≡◌ {A = Told Unit} (Err r) (Ok tt) → X
not_fit r e = let z : ◌≡◌ {A = ℕ} 0 1 = cc in absurd (omega arith)

-- 2 is not 1
not_both : {X : Type 0} (p : ℕ) → ◌≡◌ {A = Told Unit} (Err (not_utf8 p)) (Err too_long) → X
not_both p e = let q : not_utf8 p ≡ too_long = cc in absurd (omega (arith, ap (λ (r : Refusal). r.number) q))

-- 2 stands at one place
same_place : (p q : ℕ) → ◌≡◌ {A = Told Unit} (Err (not_utf8 p)) (Err (not_utf8 q)) → p ≡ q
same_place p q e = let s : not_utf8 p ≡ not_utf8 q = cc in ap (λ (r : Refusal). r.place) s

module _ (text : List ℕ) where
  -- 1 for a text that is too long
  long : 65536 < length text → judged_of text ≡ Err too_long
  unfolding judged_of
  long h = rw (lt-ltb 65536 (length text) h)

  -- and else what its bytes are
  short : length text ≤ 65536 → judged_of text ≡ by_utf8 (utf8_of text)
  unfolding judged_of
  short h = rw (le-ltb 65536 (length text) h)

-- what the judgement says of the bytes, taken back
by_good : (u : Option ℕ) → by_utf8 u ≡ Ok tt → u ≡ None
by_good None e = refl
by_good (Some p) e = not_fit (not_utf8 p) e

by_bad : (u : Option ℕ) (p : ℕ) → by_utf8 u ≡ Err (not_utf8 p) → u ≡ Some p
by_bad None p e = not_fit (not_utf8 p) (sym e)
by_bad (Some q) p e = ap Some (same_place q p e)

by_long : {X : Type 0} (u : Option ℕ) → by_utf8 u ≡ Err too_long → X
by_long None e = not_fit too_long (sym e)
by_long (Some p) e = not_both p e

-- ---- texts

-- a text is fit exactly where it is sound
pub fit_exactly : (text : List ℕ) → (judged_of text ≡ Ok tt) ↔ Sound text
fit_exactly text = (means, says)
  where
    means : judged_of text ≡ Ok tt → Sound text
    means e =
        either (lt_or_le 65536 (length text)) (λ h. not_fit too_long (sym (long text h) ∙ e))
        (λ h. record { short = omega arith; encoded = good_encoded text (by_good (utf8_of text) (sym (short text h) ∙ e)) })

    says : Sound text → judged_of text ≡ Ok tt
    says s = short text s.short ∙ ap by_utf8 (encoded_good text s.encoded)

-- 1 is given exactly for a text of more than 65,536 bytes
pub long_exactly : (text : List ℕ) → (judged_of text ≡ Err too_long) ↔ (65536 < length text)
long_exactly text = (means, long text)
  where
    means : judged_of text ≡ Err too_long → 65536 < length text
    means e = either (lt_or_le 65536 (length text)) (λ h. h) (λ h. by_long (utf8_of text) (sym (short text h) ∙ e))

-- 2 is given exactly at the first bad sequence of a text that is not too long
pub bad_exactly : (text : List ℕ) (p : ℕ) → (judged_of text ≡ Err (not_utf8 p)) ↔ ((length text ≤ 65536) × FirstBad text p)
bad_exactly text p = (means, says)
  where
    first : utf8_of text ≡ Some p → FirstBad text p
    first e = let b = bad_means text p e in record { inside = omega (arith, b.0); before = b.1; bad = b.2 }

    means : judged_of text ≡ Err (not_utf8 p) → (length text ≤ 65536) × FirstBad text p
    means e =
        either (lt_or_le 65536 (length text)) (λ h. not_both p (sym e ∙ long text h))
        (λ h. (h, first (by_bad (utf8_of text) p (sym (short text h) ∙ e))))

    says : (length text ≤ 65536) × FirstBad text p → judged_of text ≡ Err (not_utf8 p)
    says (h, b) = short text h ∙ ap by_utf8 (means_bad text p b.inside b.before b.bad)

-- ---- places

-- a test that fails
off : (t : Bool) → not t ≡ true → t ≡ false
off true e = let z : ◌≡◌ {A = ℕ} 0 1 = cc in absurd (omega arith)
off false e = refl

-- a place of a text that is UTF-8 fits exactly where it stands between two characters or at one of its ends
pub place_exactly : (text : List ℕ) (p : ℕ) → Encoded text → (place_fits text p ≡ true) ↔ Boundary text p
unfolding place_fits
place_exactly text p x = (means, says)
  where
    means : (leb p (length text) && not (tail_byte (get_or text p 0))) ≡ true → Boundary text p
    means e =
        let both = and_true (leb p (length text)) (not (tail_byte (get_or text p 0))) e in
        let h : p ≤ length text = leb-true p (length text) both.0 in
        let parts = cut (encoded_text x) p h (off _ both.1) in
        record { inside = omega arith; before = text_encoded parts.0; behind = text_encoded parts.1 }

    says : Boundary text p → (leb p (length text) && not (tail_byte (get_or text p 0))) ≡ true
    says b =
        let no_tail : tail_byte (get_or text p 0) ≡ false = ap tail_byte (sym (head_at text p)) ∙ first_byte (encoded_text b.behind) in
        rw (le-leb p (length text) b.inside, no_tail)
