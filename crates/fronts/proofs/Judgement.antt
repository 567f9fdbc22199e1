-- One law for every call with a text: behind the judgement of the text, a call whose own refusals are above 2 has the front that specs/Fronts.antt tells.
-- Assumes nothing.
use Rattle.std.proofs.Common.{Ok, Err, Some, None, Option}
use Prim.Native.Nat.{ℕ, ◌≤◌, ◌<◌}
use native.Mathlib.Omega.{arith}
use mathlib.Core.List.{List}
use mathlib.Core.Logic.{◌↔◌}
use mathlib.Core.Path.{◌≡◌, ◌∙◌, ap, refl, sym}
use lib.Dec.{lit≤, ltb}
use lib.ListN.{length}
use Rattle.text.proofs.Choices.{cond_cases}
use Rattle.text.specs.Judged.{behind_judged, by_utf8, judged_of}
use Rattle.text.specs.Refusals.{Told, not_utf8, too_long}
use Rattle.text.specs.Utf8.{utf8_of}
use Rattle.text.specs.declared.refusal.Refusal.{Refusal}
use Rattle.given.proofs.Front.{Own-told, number-in, told_number}
use Rattle.fronts.specs.Fronts.{FrontOf, Sound}
use Rattle.fronts.proofs.Texts.{bad_exactly, fit_exactly, long_exactly}

-- ---- the judgement refuses with 1 and 2

-- a judgement that refuses with no higher number than 2
abbrev Low : Told Unit → Type 0
Low (Ok tt) = Unit
Low (Err r) = r.number ≤ 2

-- that of the bytes is 2
by-utf8 : (u : Option ℕ) → Low (by_utf8 u)
by-utf8 None = tt
by-utf8 (Some p) = lit≤ tt

-- so it is 1 or 2
low : (text : List ℕ) → Low (judged_of text)
unfolding judged_of
low text = cond_cases Low (ltb 65536 (length text)) _ _ (λ e. lit≤ tt) (λ e. by-utf8 (utf8_of text))

low_number : (j : Told Unit) (r : Refusal) → Low j → j ≡ Err r → r.number ≤ 2
low_number (Ok tt) r l e = let z : ◌≡◌ {A = ℕ} 0 1 = cc in absurd (omega arith)
low_number (Err q) r l e = let z : q ≡ r = cc in let n : q.number ≡ r.number = ap (λ (x : Refusal). x.number) z in omega arith

pub judged_low : (text : List ℕ) (r : Refusal) → judged_of text ≡ Err r → r.number ≤ 2
judged_low text r e = low_number (judged_of text) r (low text) e

-- ---- what stands behind it

-- one answer holds one refusal
same : {A : Type 0} (q r : Refusal) → ◌≡◌ {A = Told A} (Err q) (Err r) → q ≡ r
same q r e = cc

-- a call whose own refusals are higher, where the text is fit
module _ {A : Type 0} (own : Told A) where
  -- 1 and 2 are the judgement's
  judged : (j : Told Unit) → (j ≡ Ok tt → (r : Refusal) → own ≡ Err r → 2 < r.number) → (r : Refusal) → r.number ≤ 2 → (behind_judged j own ≡ Err r) ↔ (j ≡ Err r)
  judged (Ok tt) higher r l = (λ e. absurd (omega (arith, higher refl r e)), λ e. (let z : ◌≡◌ {A = ℕ} 0 1 = cc in absurd (omega arith)))
  judged (Err q) higher r l = (λ e. ap Err (same q r e), λ e. (let s : q ≡ r = cc in ap Err s))

  -- a higher refusal is not
  fit : (j : Told Unit) (r : Refusal) → Low j → behind_judged j own ≡ Err r → 2 < r.number → j ≡ Ok tt
  fit (Ok tt) r l e k = refl
  fit (Err q) r l e k = absurd (omega (arith, ap (λ (x : Refusal). x.number) (same q r e)))

  -- nor is what is accepted
  accepts : (j : Told Unit) (a : A) → behind_judged j own ≡ Ok a → j ≡ Ok tt
  accepts (Ok tt) a e = refl
  accepts (Err q) a e = let z : ◌≡◌ {A = ℕ} 0 1 = cc in absurd (omega arith)

-- two statements that are each the same as a third
through : {A B C : Type 0} → A ↔ B → B ↔ C → A ↔ C
through (f, g) (h, k) = (λ a. h (f a), λ c. g (k c))

-- the front of every call
pub front_judged : {A : Type 0} (text : List ℕ) (own : Told A) → (judged_of text ≡ Ok tt → (r : Refusal) → own ≡ Err r → 2 < r.number)
    → FrontOf text (behind_judged (judged_of text) own) own
front_judged text own h = record {
  long = through (judged own j h too_long (lit≤ tt)) (long_exactly text);
  bad = λ p. through (judged own j h (not_utf8 p) (lit≤ tt)) (bad_exactly text p);
  past = past;
  accepts = λ a e. (fit_exactly text).0 (accepts own j a e);
  refuses = λ r e. (λ k. (fit_exactly text).0 (fit own j r (low text) e k), λ s. h ((fit_exactly text).1 s) r (sym (past s) ∙ e));
}
  where
    j : Told Unit
    j = judged_of text

    past : Sound text → behind_judged j own ≡ own
    past s = rw ((fit_exactly text).1 s)

-- of those whose own refusals are higher over any text
pub front_higher : {A : Type 0} (text : List ℕ) (own : Told A) → ((r : Refusal) → own ≡ Err r → 2 < r.number) → FrontOf text (behind_judged (judged_of text) own) own
front_higher text own h = front_judged text own (λ f. h)

-- and so of those that refuse with 4 to 29
pub front : {A : Type 0} (text : List ℕ) (own : Told A) → Own-told own → FrontOf text (behind_judged (judged_of text) own) own
front text own h = front_higher text own (λ r e. omega (arith, number-in 4 29 r (told_number 29 own r h e)))
