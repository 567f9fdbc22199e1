-- The front of a call, by its cases. Assumes nothing.
use Rattle.std.proofs.Common.{Ok, Err}
use Prim.Native.Nat.{◌≤◌, ℕ}
use native.Mathlib.Omega.{arith}
use mathlib.Core.Bool.{Bool, false, not, true}
use mathlib.Core.List.{List}
use mathlib.Core.Path.{◌≡◌, ◌∙◌, sym}
use lib.Dec.{leb}
use lib.Ieee.{fits}
use lib.ListN.{get_or, length}
use borrow.Author.Tests.{leb-true, lt-ltb}
use Rattle.text.proofs.Choices.{and_true, either, lt_or_le}
use Rattle.text.specs.Classes.{within}
use Rattle.text.specs.Judged.{behind_front, judged_of, place_fits}
use Rattle.text.specs.Refusals.{Told, too_long, unfit}
use Rattle.text.specs.declared.refusal.Refusal.{Refusal}

module _ {A : Type 0} (text : List ℕ) (own : Told A) where
  pub front_refused : (fits : Bool) (r : Refusal) → judged_of text ≡ Err r → behind_front text fits own ≡ Err r
  unfolding behind_front
  front_refused fits r e = rw e

  pub front_unfit : (fits : Bool) → judged_of text ≡ Ok tt → fits ≡ false → behind_front text fits own ≡ Err unfit
  unfolding behind_front
  front_unfit fits e f = rw (e, f)

  pub front_fit : (fits : Bool) → judged_of text ≡ Ok tt → fits ≡ true → behind_front text fits own ≡ own
  unfolding behind_front
  front_fit fits e f = rw (e, f)

-- a place that fits lies within the text
pub place_within : (text : List ℕ) (p : ℕ) → place_fits text p ≡ true → p ≤ length text
unfolding place_fits
place_within text p e = leb-true p (length text) (and_true (leb p (length text)) (not (within 0x80 0xBF (get_or text p 0))) e).0

-- a text that is judged fit has at most 65,536 bytes
pub fit_short : (text : List ℕ) → judged_of text ≡ Ok tt → length text ≤ 65536
unfolding judged_of
fit_short text e =
    either (lt_or_le 65536 (length text))
    (λ h. let z : ◌≡◌ {A = Told Unit} (Err too_long) (Ok tt) = sym (simp (lt-ltb 65536 (length text) h)) ∙ e in let y : ◌≡◌ {A = ℕ} 0 1 = cc in absurd (omega arith))
    (λ h. h)
