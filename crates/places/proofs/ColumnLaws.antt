-- Going back by characters, as the loop asks for it. Assumes nothing.
use Prim.Native.Nat.{ℕ, zero, suc, ◌+◌}
use native.Mathlib.Numerals.{add-one}
use mathlib.Core.Path.{◌≡◌, refl, sym, ap, ◌∙◌}
use mathlib.Core.Bool.{Bool, true, false, cond}
use mathlib.Core.List.{List}
use lib.ListN.{get_or}
use borrow.Author.Tests.{eq-eqb, ne_eqb}
use Rattle.places.specs.Columns.{starts_char, chars_back}

module _ (s : List ℕ) where
  back_none : (p : ℕ) → chars_back s p 0 ≡ p
  unfolding chars_back
  back_none zero = refl
  back_none (suc p) = refl

  back_feed : (p n : ℕ) → get_or s p 0 ≡ 10 → chars_back s (suc p) n ≡ suc p
  unfolding chars_back
  back_feed p zero e = refl
  back_feed p (suc n) e = rw (eq-eqb _ _ e)

  back_other : (p n : ℕ) → (get_or s p 0 ≡ 10 → ⊥) → chars_back s (suc p) (suc n) ≡ chars_back s p (cond (starts_char (get_or s p 0)) n (suc n))
  unfolding chars_back
  back_other p n e = rw (ne_eqb _ _ e)

  pub back_zero : (n : ℕ) → chars_back s 0 n ≡ 0
  unfolding chars_back
  back_zero n = refl

  pub back_enough : (p n : ℕ) → n ≡ 0 → chars_back s p n ≡ p
  back_enough p n e = ap (chars_back s p) e ∙ back_none p

  module _ (i p : ℕ) (q : i ≡ suc p) (n : ℕ) where
    pub back_here : get_or s p 0 ≡ 10 → chars_back s i n ≡ p + 1
    back_here e = ap (λ (k : ℕ). chars_back s k n) q ∙ back_feed p n e ∙ sym (add-one p)

    -- a character's first byte uses one up, and no other byte does
    pub back_char : (m : ℕ) → n ≡ suc m → (get_or s p 0 ≡ 10 → ⊥) → starts_char (get_or s p 0) ≡ true → chars_back s i n ≡ chars_back s p m
    back_char m w e f = ap (λ (k : ℕ). chars_back s k n) q ∙ ap (chars_back s (suc p)) w ∙ back_other p m e ∙ ap (λ (t : Bool). chars_back s p (cond t m (suc m))) f

    pub back_tail : (m : ℕ) → n ≡ suc m → (get_or s p 0 ≡ 10 → ⊥) → starts_char (get_or s p 0) ≡ false → chars_back s i n ≡ chars_back s p n
    back_tail m w e f =
        ap (λ (k : ℕ). chars_back s k n) q ∙ ap (chars_back s (suc p)) w ∙ back_other p m e ∙ ap (λ (t : Bool). chars_back s p (cond t m (suc m))) f
        ∙ sym (ap (chars_back s p) w)
