-- What is packed is got back where the numbers are low, and they are wherever the text is fit. Assumes nothing.
use Rattle.std.proofs.Common.{Ok, Err, Some, None, Option}
use Prim.Native.Nat.{ℕ, ◌+◌, ◌*◌, ◌^◌, ◌≤◌, ◌<◌}
use native.Mathlib.Omega.{arith}
use mathlib.Core.Bool.{Bool, true}
use mathlib.Core.List.{List, [], ◌∷◌}
use mathlib.Core.Path.{◌≡◌, refl}
use lib.Dec.{eqb, leb, ltb}
use lib.ListN.{length}
use borrow.Author.Tests.{eqb-false, eqb-true, leb-true, ltb-false}
use Rattle.text.proofs.Choices.{and_true, bool_cases, cond_cases, either, or_cases}
use Rattle.text.proofs.ClassLaws.{one_of_all, within_true}
use Rattle.text.proofs.JudgeLaws.{fit_short}
use Rattle.text.proofs.Utf8Agree.{bad_means}
use Rattle.text.specs.Classes.{one_of, within}
use Rattle.text.specs.Judged.{behind_front, behind_judged, by_utf8, judged_of}
use Rattle.text.specs.Refusals.{Told, too_long}
use Rattle.text.specs.Utf8.{utf8_of}
use Rattle.text.specs.declared.refusal.Refusal.{Refusal}
use Rattle.given.proofs.Calls.{reason_13, reason_none}
use Rattle.given.specs.Given.{Given, given, reasoned}
use Rattle.sarridok_c.specs.Packed.{pair_of, refusal_word, unfit_in, unless_judged}
use Rattle.sarridok_c.specs.Whole.{Halves, Refuses, Unpacks, Whole}
use Rattle.sarridok_c.proofs.PackLaws.{pair_plain}

-- ---- two numbers that fit

module _ (high low : ℕ) (h : high < 2 ^ 31) (l : low < 2 ^ 32) where
  -- from a pair, with the top bit free
  pub unpack_pair : Unpacks (pair_of high low) 0 high low
  unpack_pair = rw (pair_plain high low h l) (record { first = omega arith; above = omega arith; below = omega arith })

-- a refusal's number and reason are low
abbrev pub Short : Refusal → Type 0
Short r = (r.number ≤ 31) × (r.reason ≤ 8)

-- from a refusal, with the top bit set
pub unpack_refusal : (r : Refusal) → Short r → r.place < 2 ^ 32 → Refuses (refusal_word r) r
unfolding refusal_word
unpack_refusal r h l =
    rw (pair_plain (r.number + 256 * r.reason) r.place (omega (arith, h.0, h.1)) l)
    (record {
      first = omega (arith, h.0, h.1);
      number = omega (arith, h.0, h.1);
      reason = omega (arith, h.0, h.1);
      place = omega (arith, h.0, h.1);
    })

-- ---- low numbers

-- the most that any answer holds
abbrev pub most : ℕ
most = 3 * 65536

-- the numbers of an answer are no higher; a refusal's own number and reason are told by the crate `given`
abbrev pub Low : {A : Type 0} → (A → Halves) → Told A → Type 0
Low parts (Ok a) = ((parts a).upper ≤ most) × ((parts a).lower ≤ most)
Low parts (Err r) = r.place ≤ most

-- no number of the table is above 31
number_low : (r : Refusal) → given r.number ≡ true → r.number ≤ 31
unfolding given
number_low r h =
    either (or_cases (one_of (1 ∷ 2 ∷ 31 ∷ []) r.number) (within 4 29 r.number) h)
    (λ e. leb-true r.number 31 (one_of_all (λ (n : ℕ). leb n 31) (1 ∷ 2 ∷ 31 ∷ []) r.number refl e)) (λ e. omega (arith, (within_true 4 29 r.number e).1))

-- and no reason above 8
pub given_low : (r : Refusal) → Given r → Short r
given_low r h = (
  number_low r (and_true (given r.number) (reasoned r) h).0,
  either (bool_cases (eqb r.number 13)) (λ e. (reason_13 r h (eqb-true r.number 13 e)).1) (λ e. omega (arith, reason_none r h (eqb-false r.number 13 e))),
)

-- an answer with low numbers is got back whole
pub got_back : {A : Type 0} (word : A → ℕ) (parts : A → Halves) → ((a : A) → word a ≡ pair_of (parts a).upper (parts a).lower) → (t : Told A)
    → ((r : Refusal) → t ≡ Err r → Short r) → Low parts t → Whole word parts t
got_back word parts is (Ok a) g h = rw (is a) (unpack_pair (parts a).upper (parts a).lower (omega (arith, h.0)) (omega (arith, h.1)))
got_back word parts is (Err r) g h = unpack_refusal r (g r refl) (omega arith)

-- ---- behind 1, 2 and 28

-- a text that is refused is refused with 1 or 2
abbrev Low-judged : Told Unit → Type 0
Low-judged (Ok tt) = Unit {0}
Low-judged (Err r) = Short r × (r.place ≤ most)

by-utf8 : (text : List ℕ) → length text ≤ 65536 → (a : Option ℕ) → utf8_of text ≡ a → Low-judged (by_utf8 a)
by-utf8 text h None e = tt
by-utf8 text h (Some p) e = ((omega arith, omega arith), omega (arith, (bad_means text p e).0))

-- and within its first 65,536 bytes
judged_low : (text : List ℕ) → Low-judged (judged_of text)
unfolding judged_of
judged_low text =
    cond_cases Low-judged (ltb 65536 (length text)) (Err too_long) (by_utf8 (utf8_of text)) (λ e. ((omega arith, omega arith), omega arith))
    (λ e. by-utf8 text (ltb-false 65536 (length text) e) (utf8_of text) refl)

-- what names no width or mode is refused so too, or with 28 at 0
pub unfit_low : (text : List ℕ) → Short (unfit_in text) × ((unfit_in text).place ≤ most)
unfolding unfit_in
unfit_low text = go (judged_of text) (judged_low text)
  where
    go : (j : Told Unit) → Low-judged j → Short (unless_judged j) × ((unless_judged j).place ≤ most)
    go (Ok tt) h = ((omega arith, omega arith), omega arith)
    go (Err r) h = h

module _ {A : Type 0} (parts : A → Halves) (text : List ℕ) where
  -- a call's numbers are low where they are over a text of at most 65,536 bytes
  pub behind-judged : (own : Told A) → (length text ≤ 65536 → Low parts own) → Low parts (behind_judged (judged_of text) own)
  behind-judged own h = go (judged_of text) refl (judged_low text)
    where
      go : (j : Told Unit) → judged_of text ≡ j → Low-judged j → Low parts (behind_judged j own)
      go (Ok tt) e l = h (fit_short text e)
      go (Err r) e l = l.1

  -- and where its place is fit besides
  pub behind-front : (fits : Bool) (own : Told A) → (length text ≤ 65536 → fits ≡ true → Low parts own) → Low parts (behind_front text fits own)
  unfolding behind_front
  behind-front fits own h = behind-judged _ (λ l. cond_cases (Low parts) fits own _ (λ e. h l e) (λ e. omega arith))
