-- What every call asks of its text and place first: a call whose own refusals are 4 to 29 gives 1, 2 and 4 to 29. Assumes nothing.
use Rattle.std.proofs.Common.{Ok, Err, Some, None, Option}
use Prim.Native.Nat.{◌≤◌, ℕ}
use native.Mathlib.Omega.{arith}
use mathlib.Core.Bool.{true, ◌||◌}
use mathlib.Core.List.{List, [], ◌∷◌}
use mathlib.Core.Path.{◌≡◌, refl, subst}
use lib.Dec.{lit≤, ltb}
use lib.ListN.{length}
use Rattle.text.proofs.Choices.{and_true, or_true}
use Rattle.text.proofs.ClassLaws.{in_within, inside, within_true}
use Rattle.text.specs.Classes.{one_of}
use Rattle.text.specs.Judged.{by_utf8, judged_of, behind_judged}
use Rattle.text.specs.Refusals.{Told}
use Rattle.text.specs.Utf8.{In, utf8_of}
use Rattle.text.specs.declared.refusal.Refusal.{Refusal}
use Rattle.given.specs.Given.{Between, FourTo, Given, Inner, given, reasoned, within}
use Rattle.given.proofs.Both.{both}

-- ---- the number and the reason of a refusal

-- both are told of it
pub number-in : (first last : ℕ) (r : Refusal) → Between first last r → In first last r.number
number-in first last r h = within_true first last r.number (and_true (within first last r.number) (reasoned r) h).0

pub reason-fits : (first last : ℕ) (r : Refusal) → Between first last r → reasoned r ≡ true
reason-fits first last r h = (and_true (within first last r.number) (reasoned r) h).1

-- and they are all that has to be told
pub between : (first last : ℕ) (r : Refusal) → In first last r.number → reasoned r ≡ true → Between first last r
between first last r h k = rw (in_within first last r.number h) k

-- the range may be wider
pub wider : (i j m n : ℕ) (r : Refusal) → m ≤ i → j ≤ n → Between i j r → Between m n r
wider i j m n r f l h = let k = number-in i j r h in between m n r (omega (arith, k.0), omega (arith, k.1)) (reason-fits i j r h)

-- ---- 4 to a last number

-- an answer that refuses with 4 to `last` only
abbrev pub FourTo-told : {A : Type 0} → ℕ → Told A → Type 0
FourTo-told last (Ok a) = Unit
FourTo-told last (Err r) = FourTo last r

-- what a call answers of its own, behind its judgement of the text
abbrev pub Own-told : {A : Type 0} → Told A → Type 0
Own-told a = FourTo-told 29 a

-- the last number may be higher
pub higher : (m n : ℕ) (r : Refusal) → m ≤ n → FourTo m r → FourTo n r
higher m n r l h = wider 4 m 4 n r (omega arith) l h

pub higher_told : {A : Type 0} (m n : ℕ) (a : Told A) → m ≤ n → FourTo-told m a → FourTo-told n a
higher_told m n (Ok a) l h = tt
higher_told m n (Err r) l h = higher m n r l h

pub inner_own : (r : Refusal) → Inner r → FourTo 29 r
inner_own r h = higher 21 29 r (lit≤ tt) h

-- the refusal that was answered is one of them
pub told_number : {A : Type 0} (last : ℕ) (a : Told A) (r : Refusal) → FourTo-told last a → a ≡ Err r → FourTo last r
told_number last a r h e = subst (FourTo-told last) e h

-- ---- given

-- an answer whose refusal is one that calls give
abbrev pub Given-told : {A : Type 0} → Told A → Type 0
Given-told (Ok a) = Unit
Given-told (Err r) = Given r

-- so a refusal that was answered is given
pub answered : {A : Type 0} (a : Told A) (r : Refusal) → Given-told a → a ≡ Err r → Given r
answered a r h e = subst Given-told e h

-- a number of a range is among those listed or of the range
among : (l : List ℕ) (lo hi n : ℕ) → lo ≤ n → n ≤ hi → (one_of l n || within lo hi n) ≡ true
among l lo hi n h k = rw (inside lo hi n h k) (or_true (one_of l n))

-- 4 to 29 are given
pub four_given : (r : Refusal) → FourTo 29 r → Given r
unfolding given
four_given r h = let i = number-in 4 29 r h in rw (among (1 ∷ 2 ∷ 31 ∷ []) 4 29 r.number i.0 i.1) (reason-fits 4 29 r h)

pub own_given : {A : Type 0} (a : Told A) → Own-told a → Given-told a
own_given (Ok a) h = tt
own_given (Err r) h = four_given r h

-- ---- behind the judgement of the text

abbrev Given-judged : Told Unit → Type 0
Given-judged (Ok tt) = Unit
Given-judged (Err r) = Given r

by-utf8 : (a : Option ℕ) → Given-judged (by_utf8 a)
unfolding given within
by-utf8 None = tt
by-utf8 (Some p) = refl

judged_given : (text : List ℕ) → Given-judged (judged_of text)
unfolding judged_of given within
judged_given text = both Given-judged (ltb 65536 (length text)) refl (by-utf8 (utf8_of text))

by_judged : {A : Type 0} (j : Told Unit) (own : Told A) → Given-judged j → Given-told own → Given-told (behind_judged j own)
by_judged (Ok tt) own h k = k
by_judged (Err r) own h k = h

pub behind_given : {A : Type 0} (text : List ℕ) (own : Told A) → Given-told own → Given-told (behind_judged (judged_of text) own)
behind_given text own h = by_judged (judged_of text) own (judged_given text) h

pub behind-judged : {A : Type 0} (text : List ℕ) (own : Told A) → Own-told own → Given-told (behind_judged (judged_of text) own)
behind-judged text own h = behind_given text own (own_given own h)
