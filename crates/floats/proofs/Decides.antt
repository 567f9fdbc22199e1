-- The machine accepts exactly the texts of the grammar. Assumes nothing.
use Prim.Native.Nat.{ℕ}
use native.Mathlib.Omega.{arith}
use mathlib.Core.Bool.{Bool, ◌||◌, false, true}
use mathlib.Core.List.{List, [], ◌∷◌, ◌++◌}
use mathlib.Core.Logic.{◌⊎◌, inl, inr, ◌↔◌}
use mathlib.Core.Path.{◌∙◌, ◌≡◌, ap, refl}
use lib.Dec.{eqb}
use borrow.Author.Tests.{eqb-true}
use Rattle.floats.specs.Classes.{point, scale, sign}
use Rattle.floats.specs.Grammar.{Digits, Some, Signable, Exponent, Numeral, Float, step_of, accepts, final, on_digit, on_point, on_scale, on_sign}
use Rattle.floats.specs.declared.state.State.{State}
use Rattle.floats.specs.declared.state.State.TheVariants.{Start, Signed, Whole, Bare, Fraction, Scale, ScaleSigned, Power, Wrong}
use Rattle.text.proofs.Choices.{bool_cases, either}
use Rattle.text.specs.Classes.{digit, within}
use Rattle.floats.specs.Grammar as g

or_cases : (a b : Bool) → a || b ≡ true → (a ≡ true) ⊎ (b ≡ true)
or_cases true b e = inl refl
or_cases false b e = inr e

no : {X : Type 0} → false ≡ true → X
no e = let z : ◌≡◌ {A = ℕ} 0 1 = cc in absurd (omega arith)

point_digit : (c : ℕ) → point c ≡ true → digit c ≡ false
unfolding digit within
point_digit c e = rw (eqb-true c 0x2e e)

scale_digit : (c : ℕ) → scale c ≡ true → digit c ≡ false
unfolding digit within
scale_digit c e = either (or_cases (eqb c 0x65) (eqb c 0x45) e) (λ a. rw (eqb-true c 0x65 a)) (λ a. rw (eqb-true c 0x45 a))

scale_point : (c : ℕ) → scale c ≡ true → point c ≡ false
scale_point c e = either (or_cases (eqb c 0x65) (eqb c 0x45) e) (λ a. rw (eqb-true c 0x65 a)) (λ a. rw (eqb-true c 0x45 a))

sign_digit : (c : ℕ) → sign c ≡ true → digit c ≡ false
unfolding digit within
sign_digit c e = either (or_cases (eqb c 0x2b) (eqb c 0x2d) e) (λ a. rw (eqb-true c 0x2b a)) (λ a. rw (eqb-true c 0x2d a))

sign_point : (c : ℕ) → sign c ≡ true → point c ≡ false
sign_point c e = either (or_cases (eqb c 0x2b) (eqb c 0x2d) e) (λ a. rw (eqb-true c 0x2b a)) (λ a. rw (eqb-true c 0x2d a))

sign_scale : (c : ℕ) → sign c ≡ true → scale c ≡ false
sign_scale c e = either (or_cases (eqb c 0x2b) (eqb c 0x2d) e) (λ a. rw (eqb-true c 0x2b a)) (λ a. rw (eqb-true c 0x2d a))

-- ---- where a byte of each kind leads

module _ (st : State) (c : ℕ) where
  on-digit : digit c ≡ true → step_of st c ≡ on_digit st
  unfolding step_of
  on-digit e = rw e

  on-point : point c ≡ true → step_of st c ≡ on_point st
  unfolding step_of
  on-point e = rw (point_digit c e, e)

  on-scale : scale c ≡ true → step_of st c ≡ on_scale st
  unfolding step_of
  on-scale e = rw (scale_digit c e, scale_point c e, e)

  on-sign : sign c ≡ true → step_of st c ≡ on_sign st
  unfolding step_of
  on-sign e = rw (sign_digit c e, sign_point c e, sign_scale c e, e)

-- ---- what is of the grammar is accepted

-- digits lead from a state that they keep to itself
loops : (st : State) → on_digit st ≡ st → (a x : List ℕ) → Digits a → accepts (a ++ x) st ≡ accepts x st
unfolding accepts
loops st k [] x ds = refl
loops st k (c ∷ a) x (g.Digits.next d s e ds) = ap (accepts (a ++ x)) (on-digit st c e ∙ k) ∙ loops st k a x ds

-- one or more digits lead from a state to the one that a digit leads to
leads : (st to : State) → on_digit st ≡ to → on_digit to ≡ to → (a x : List ℕ) → Some a → accepts (a ++ x) st ≡ accepts x to
unfolding accepts
leads st to f k [] x s = elim s [ ]
leads st to f k (c ∷ a) x (g.Some.next d s e ds) = ap (accepts (a ++ x)) (on-digit st c e ∙ f) ∙ loops to k a x ds

power_digits : (a : List ℕ) → Digits a → accepts a Power ≡ true
unfolding accepts
power_digits [] ds = refl
power_digits (c ∷ a) (g.Digits.next d s e ds) = ap (accepts a) (on-digit Power c e) ∙ power_digits a ds

power_accepted : (st : State) → on_digit st ≡ Power → (s : List ℕ) → Some s → accepts s st ≡ true
unfolding accepts
power_accepted st f [] s = elim s [ ]
power_accepted st f (c ∷ s) (g.Some.next d t e ds) = ap (accepts s) (on-digit st c e ∙ f) ∙ power_digits s ds

scaled_accepted : (s : List ℕ) → Signable Some s → accepts s Scale ≡ true
unfolding accepts
scaled_accepted s (g.Signable.plain t n) = power_accepted Scale refl s n
scaled_accepted (a ∷ s) (g.Signable.signed b t e n) = ap (accepts s) (on-sign Scale a e) ∙ power_accepted ScaleSigned refl s n

-- an exponent or nothing, behind the whole part and behind a fraction
exponent_accepted : (st : State) → final st ≡ true → on_scale st ≡ Scale → (x : List ℕ) → Exponent x → accepts x st ≡ true
unfolding accepts
exponent_accepted st f k [] e = f
exponent_accepted st f k (c ∷ x) (g.Exponent.power e s h m) = ap (accepts x) (on-scale st c h ∙ k) ∙ scaled_accepted x m

-- a numeral, from the start and behind a sign
module _ (st : State) (digits : on_digit st ≡ Whole) (dot : on_point st ≡ Bare) where
  begun_accepted : (a b x : List ℕ) (p : ℕ) → point p ≡ true → Digits a → Some b → Exponent x → accepts (a ++ p ∷ (b ++ x)) st ≡ true
  unfolding accepts
  begun_accepted [] b x p e da sb ex =
      ap (accepts (b ++ x)) (on-point st p e ∙ dot) ∙ leads Bare Fraction refl refl b x sb ∙ exponent_accepted Fraction refl refl x ex
  begun_accepted (c ∷ a) b x p e (g.Digits.next d s q da) sb ex =
      ap (accepts (a ++ p ∷ (b ++ x))) (on-digit st c q ∙ digits) ∙ loops Whole refl a (p ∷ (b ++ x)) da
      ∙ ap (accepts (b ++ x)) (on-point Whole p e) ∙ leads Fraction Fraction refl refl b x sb ∙ exponent_accepted Fraction refl refl x ex

  numeral_accepted : (s : List ℕ) → Numeral s → accepts s st ≡ true
  unfolding accepts
  numeral_accepted s (g.Numeral.whole a x sa ex) = leads st Whole digits refl a x sa ∙ exponent_accepted Whole refl refl x ex
  numeral_accepted s (g.Numeral.ended a b x p e sa db ex) =
      leads st Whole digits refl a (p ∷ (b ++ x)) sa ∙ ap (accepts (b ++ x)) (on-point Whole p e)
      ∙ loops Fraction refl b x db ∙ exponent_accepted Fraction refl refl x ex
  numeral_accepted s (g.Numeral.begun a b x p e da sb ex) = begun_accepted a b x p e da sb ex

pub complete : (s : List ℕ) → Float s → accepts s Start ≡ true
unfolding accepts
complete s (g.Signable.plain t n) = numeral_accepted Start refl refl s n
complete (a ∷ s) (g.Signable.signed b t e n) = ap (accepts s) (on-sign Start a e) ∙ numeral_accepted Signed refl refl s n

-- ---- what is accepted is of the grammar

wrong : {X : Type 0} (s : List ℕ) → accepts s Wrong ≡ true → X
unfolding accepts step_of
wrong [] e = no e
wrong (c ∷ s) e =
    either (bool_cases (digit c)) (λ a. wrong s (rw a at e)) λ a.
    either (bool_cases (point c)) (λ b. wrong s (rw (a, b) at e)) λ b.
    either (bool_cases (scale c)) (λ d. wrong s (rw (a, b, d) at e)) λ d.
    either (bool_cases (sign c)) (λ f. wrong s (rw (a, b, d, f) at e)) (λ f. wrong s (rw (a, b, d, f) at e))

-- the kinds of a byte, where what is behind it is accepted
by : {X : Type 0} (st : State) (c : ℕ) (s : List ℕ) → accepts s (step_of st c) ≡ true
    → (digit c ≡ true → accepts s (on_digit st) ≡ true → X) → (point c ≡ true → accepts s (on_point st) ≡ true → X)
    → (scale c ≡ true → accepts s (on_scale st) ≡ true → X) → (sign c ≡ true → accepts s (on_sign st) ≡ true → X) → X
unfolding step_of
by st c s e f g h k =
    either (bool_cases (digit c)) (λ a. f a (rw a at e)) λ a.
    either (bool_cases (point c)) (λ b. g b (rw (a, b) at e)) λ b.
    either (bool_cases (scale c)) (λ d. h d (rw (a, b, d) at e)) λ d.
    either (bool_cases (sign c)) (λ i. k i (rw (a, b, d, i) at e)) (λ i. wrong s (rw (a, b, d, i) at e))

-- digits and an exponent
data Rest : List ℕ → Type 0 where
  rest : (b x : List ℕ) → Digits b → Exponent x → Rest (b ++ x)

-- the same with one digit or more
data Fuller : List ℕ → Type 0 where
  fuller : (b x : List ℕ) → Some b → Exponent x → Fuller (b ++ x)

-- what may follow a whole part's digit
data Tail : List ℕ → Type 0 where
  flat : (a x : List ℕ) → Digits a → Exponent x → Tail (a ++ x)
  pointed : (a b x : List ℕ) (p : ℕ) → point p ≡ true → Digits a → Digits b → Exponent x → Tail (a ++ p ∷ (b ++ x))

power_sound : (s : List ℕ) → accepts s Power ≡ true → Digits s
unfolding accepts
power_sound [] e = g.Digits.none
power_sound (c ∷ s) e =
    by Power c s e (λ a h. g.Digits.next c s a (power_sound s h)) (λ a h. wrong s h) (λ a h. wrong s h) (λ a h. wrong s h)

signed_sound : (s : List ℕ) → accepts s ScaleSigned ≡ true → Some s
unfolding accepts
signed_sound [] e = no e
signed_sound (c ∷ s) e =
    by ScaleSigned c s e (λ a h. g.Some.next c s a (power_sound s h)) (λ a h. wrong s h) (λ a h. wrong s h) (λ a h. wrong s h)

scale_sound : (s : List ℕ) → accepts s Scale ≡ true → Signable Some s
unfolding accepts
scale_sound [] e = no e
scale_sound (c ∷ s) e =
    by Scale c s e (λ a h. g.Signable.plain (c ∷ s) (g.Some.next c s a (power_sound s h))) (λ a h. wrong s h) (λ a h. wrong s h) (λ a h. g.Signable.signed c s a (signed_sound s h))

longer : (c : ℕ) (s : List ℕ) → digit c ≡ true → Rest s → Rest (c ∷ s)
longer c s e (rest b x d h) = rest (c ∷ b) x (g.Digits.next c b e d) h

full : (c : ℕ) (s : List ℕ) → digit c ≡ true → Rest s → Fuller (c ∷ s)
full c s e (rest b x d h) = fuller (c ∷ b) x (g.Some.next c b e d) h

fraction_sound : (s : List ℕ) → accepts s Fraction ≡ true → Rest s
unfolding accepts
fraction_sound [] e = rest [] [] g.Digits.none g.Exponent.none
fraction_sound (c ∷ s) e =
    by Fraction c s e (λ a h. longer c s a (fraction_sound s h)) (λ a h. wrong s h) (λ a h. rest [] (c ∷ s) g.Digits.none (g.Exponent.power c s a (scale_sound s h))) (λ a h. wrong s h)

bare_sound : (s : List ℕ) → accepts s Bare ≡ true → Fuller s
unfolding accepts
bare_sound [] e = no e
bare_sound (c ∷ s) e = by Bare c s e (λ a h. full c s a (fraction_sound s h)) (λ a h. wrong s h) (λ a h. wrong s h) (λ a h. wrong s h)

further : (c : ℕ) (s : List ℕ) → digit c ≡ true → Tail s → Tail (c ∷ s)
further c s e (flat a x d h) = flat (c ∷ a) x (g.Digits.next c a e d) h
further c s e (pointed a b x p q d k h) = pointed (c ∷ a) b x p q (g.Digits.next c a e d) k h

at_point : (c : ℕ) (s : List ℕ) → point c ≡ true → Rest s → Tail (c ∷ s)
at_point c s e (rest b x d h) = pointed [] b x c e g.Digits.none d h

whole_sound : (s : List ℕ) → accepts s Whole ≡ true → Tail s
unfolding accepts
whole_sound [] e = flat [] [] g.Digits.none g.Exponent.none
whole_sound (c ∷ s) e =
    by Whole c s e (λ a h. further c s a (whole_sound s h)) (λ a h. at_point c s a (fraction_sound s h)) (λ a h. flat [] (c ∷ s) g.Digits.none (g.Exponent.power c s a (scale_sound s h))) (λ a h. wrong s h)

from_digit : (c : ℕ) (s : List ℕ) → digit c ≡ true → Tail s → Numeral (c ∷ s)
from_digit c s e (flat a x d h) = g.Numeral.whole (c ∷ a) x (g.Some.next c a e d) h
from_digit c s e (pointed a b x p q d k h) = g.Numeral.ended (c ∷ a) b x p q (g.Some.next c a e d) k h

from_point : (c : ℕ) (s : List ℕ) → point c ≡ true → Fuller s → Numeral (c ∷ s)
from_point c s e (fuller b x d h) = g.Numeral.begun [] b x c e g.Digits.none d h

numeral_sound : (s : List ℕ) → accepts s Signed ≡ true → Numeral s
unfolding accepts
numeral_sound [] e = no e
numeral_sound (c ∷ s) e =
    by Signed c s e (λ a h. from_digit c s a (whole_sound s h)) (λ a h. from_point c s a (bare_sound s h)) (λ a h. wrong s h) (λ a h. wrong s h)

pub sound : (s : List ℕ) → accepts s Start ≡ true → Float s
unfolding accepts
sound [] e = no e
sound (c ∷ s) e =
    by Start c s e (λ a h. g.Signable.plain (c ∷ s) (from_digit c s a (whole_sound s h))) (λ a h. g.Signable.plain (c ∷ s) (from_point c s a (bare_sound s h))) (λ a h. wrong s h) (λ a h. g.Signable.signed c s a (numeral_sound s h))

-- the machine accepts exactly the floats of the grammar
pub decides : (s : List ℕ) → (accepts s Start ≡ true) ↔ Float s
decides s = (sound s, complete s)
