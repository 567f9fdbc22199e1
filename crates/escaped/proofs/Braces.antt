-- The digits between `\u{` and `}`, and what stands behind them, as the reader takes them (`digits_of`, `close_of`). Assumes nothing.
use Prim.Native.Nat.{ℕ, zero, suc, ◌+◌, ◌*◌, ◌<◌}
use native.Mathlib.Omega.{arith}
use mathlib.Core.Bool.{false, true≢false}
use mathlib.Core.List.{List, [], ◌∷◌, ◌++◌}
use mathlib.Core.Path.{◌≡◌, ◌∙◌, ap, refl, subst, sym}
use lib.Dec.{eqb}
use lib.ListN.{length}
use borrow.Author.Tests.{eq-eqb, eqb-false, eqb-true, ne_eqb}
use Rattle.escapes.specs.Escapes.{close_of, digits_of, hex_of}
use Rattle.escapes.specs.declared.answers.EscapeAnswer.{EscapeAnswer}
use Rattle.escapes.specs.declared.answers.EscapeAnswer.TheVariants.{Refused, Utf8}
use Rattle.escaped.proofs.Pairs.{digit_is, is_digit}
use Rattle.escaped.specs.Escape.{Hex}
use Rattle.escaped.specs.Escape.Hex.{none, more}
use Rattle.escaped.specs.Wrong.{NotAt}
use Rattle.text.proofs.Choices.{bool_cases, cond_cases, either}
use Rattle.text.proofs.Utf8Agree.{scalar_scalar, scalar_true}
use Rattle.text.specs.Classes.{within}
use Rattle.text.specs.Refusals.{eof, invalid_escape}
use Rattle.text.specs.Utf8.{Scalar, char_len, scalar}
use Rattle.text.specs.declared.reason.EscapeReason.TheVariants.{DigitNotHex, NoClosingBrace, NoDigits, NotACharacter}

-- a closing brace has no value
brace : hex_of 0x7D ≡ 16
unfolding hex_of within
brace = refl

-- so no digit is one
no_brace : (b : ℕ) → hex_of b < 16 → eqb b 0x7D ≡ false
no_brace b h = ne_eqb b 0x7D (λ q. omega (arith, ap hex_of q, brace))

-- ---- what stands behind the digits

-- behind digits that come to v, where so many may still come: what may stand there, and what is answered
pub data Stop (left v at : ℕ) : List ℕ → EscapeAnswer → Type 0 where
  closed : {t : List ℕ} → (left ≡ 6 → ⊥) → Scalar v → Stop left v at (0x7D ∷ t) (Utf8 v (at + 1))
  no_scalar : {t : List ℕ} → (left ≡ 6 → ⊥) → (Scalar v → ⊥) → Stop left v at (0x7D ∷ t) (Refused (invalid_escape NotACharacter (at + 1)))
  no_digits : {t : List ℕ} → left ≡ 6 → Stop left v at (0x7D ∷ t) (Refused (invalid_escape NoDigits at))
  no_digit : (b : ℕ) (t : List ℕ) → 0 < left → hex_of b ≡ 16 → (b ≡ 0x7D → ⊥) → Stop left v at (b ∷ t) (Refused (invalid_escape DigitNotHex (at + char_len (b ∷ t))))
  not_closed : (t : List ℕ) → left ≡ 0 → NotAt (0x7D ∷ []) t → Stop left v at t (Refused (invalid_escape NoClosingBrace at))
  ended : 0 < left → Stop left v at [] (Refused (eof at))

-- a brace is looked at, whether digits may still come or not
brace_is : (left v at : ℕ) (t : List ℕ) → digits_of left v at (0x7D ∷ t) ≡ close_of (eqb left 6) v at (0x7D ∷ t)
unfolding digits_of
brace_is zero v at t = refl
brace_is (suc left) v at t = refl

-- what is no scalar value fails the test
scalar_not : (v : ℕ) → (Scalar v → ⊥) → scalar v ≡ false
scalar_not v n = either (bool_cases (scalar v)) (λ e. absurd (n (scalar_true v e))) (λ e. e)

-- what stands there is answered so
stop_is : (left : ℕ) {v at : ℕ} {t : List ℕ} {a : EscapeAnswer} → Stop left v at t a → digits_of left v at t ≡ a
unfolding digits_of close_of
stop_is left {v} {at} (closed {t} n sc) = brace_is left v at t ∙ rw (ne_eqb left 6 n, scalar_scalar v sc)
stop_is left {v} {at} (no_scalar {t} n sc) = brace_is left v at t ∙ rw (ne_eqb left 6 n, scalar_not v sc)
stop_is left {v} {at} (no_digits {t} e) = brace_is left v at t ∙ rw (eq-eqb left 6 e)
stop_is zero (no_digit b t h e n) = absurd (omega arith)
stop_is (suc left) (no_digit b t h e n) = rw (ne_eqb b 0x7D n, eq-eqb (hex_of b) 16 e)
stop_is zero (not_closed [] e n) = refl
stop_is zero (not_closed (b ∷ t) e n) = rw (ne_eqb b 0x7D (λ q. n t (ap (λ (i : ℕ). i ∷ t) q)))
stop_is (suc left) (not_closed t e n) = absurd (omega arith)
stop_is zero (ended h) = absurd (omega arith)
stop_is (suc left) (ended h) = refl

-- a brace, by its cases
brace_view : (left v at : ℕ) (t : List ℕ) → Stop left v at (0x7D ∷ t) (close_of (eqb left 6) v at (0x7D ∷ t))
unfolding close_of
brace_view left v at t =
    cond_cases (Stop left v at (0x7D ∷ t)) (eqb left 6) _ _ (λ e. no_digits (eqb-true left 6 e))
    (λ n. cond_cases (Stop left v at (0x7D ∷ t)) (scalar v) _ _ (λ e. closed (eqb-false left 6 n) (scalar_true v e))
    (λ e. no_scalar (eqb-false left 6 n) (λ sc. true≢false (sym (scalar_scalar v sc) ∙ e))))

-- no digit may come any more
full_view : (v at : ℕ) (t : List ℕ) → Stop 0 v at t (close_of false v at t)
unfolding close_of
full_view v at [] = not_closed [] refl (λ u e. omega (arith, ap length e))
full_view v at (b ∷ t) =
    cond_cases (Stop 0 v at (b ∷ t)) (eqb b 0x7D) _ _
    (λ e. subst (λ (i : ℕ). Stop 0 v at (i ∷ t) (close_of false v at (0x7D ∷ t))) (sym (eqb-true b 0x7D e)) (brace_view 0 v at t))
    (λ e. not_closed (b ∷ t) refl (λ u q. let z : b ≡ 0x7D = cc in eqb-false b 0x7D e z))

-- ---- the digits in front

-- the same digits so far, at the same place
same_digits : (j k v p q : ℕ) (t : List ℕ) → j ≡ k → p ≡ q → digits_of j v p t ≡ digits_of k v q t
same_digits j k v p q t e f = cc

-- digits are passed
digits_pass : {v c : ℕ} {ds : List ℕ} → Hex v ds c → (left k at : ℕ) (t : List ℕ) → left ≡ length ds + k
    → digits_of left v at (ds ++ t) ≡ digits_of k c (at + length ds) t
unfolding digits_of
digits_pass (none {v}) left k at t e = same_digits left k v at _ t (omega arith) (omega arith)
digits_pass (more x y) zero k at t e = absurd (omega arith)
digits_pass (more {d} {v} x y) (suc left) k at t e =
    rw (no_brace d x, digit_is d x) (digits_pass y left k (at + 1) t (omega arith) ∙ same_digits k k v _ _ t refl (omega arith))

-- and then what stops them is answered
pub digits_read : {v c : ℕ} {ds : List ℕ} → Hex v ds c → (left k at : ℕ) (t : List ℕ) (a : EscapeAnswer) → left ≡ length ds + k → Stop k c (at + length ds) t a
    → digits_of left v at (ds ++ t) ≡ a
digits_read x left k at t a e z = digits_pass x left k at t e ∙ stop_is k z

-- what the reader of digits may answer, where those before come to v and so many may still come
pub data Digits (left v at : ℕ) : List ℕ → EscapeAnswer → Type 0 where
  digits : {c : ℕ} {a : EscapeAnswer} (k p : ℕ) (ds u : List ℕ) → Hex v ds c → left ≡ length ds + k → p ≡ at + length ds → Stop k c p u a
      → Digits left v at (ds ++ u) a

-- no digit stands in front
at_once : (left v at : ℕ) (t : List ℕ) (a : EscapeAnswer) → Stop left v at t a → Digits left v at t a
at_once left v at t a z = digits left at [] t none (omega arith) (omega arith) z

-- a digit more in front
one_more : (left v at b : ℕ) (t : List ℕ) (a : EscapeAnswer) → hex_of b < 16 → Digits left (v * 16 + hex_of b) (at + 1) t a → Digits (suc left) v at (b ∷ t) a
one_more left v at b t a h (digits k p ds u x e f z) = digits k p (b ∷ ds) u (more h x) (omega arith) (omega arith) z

-- what it answers is one of these
pub digits_view : (left v at : ℕ) (t : List ℕ) → Digits left v at t (digits_of left v at t)
unfolding digits_of
digits_view zero v at t = at_once 0 v at t (close_of false v at t) (full_view v at t)
digits_view (suc left) v at [] = at_once (suc left) v at [] (Refused (eof at)) (ended (omega arith))
digits_view (suc left) v at (b ∷ t) =
    cond_cases (Digits (suc left) v at (b ∷ t)) (eqb b 0x7D) _ _
    (λ e. subst (λ (i : ℕ). Digits (suc left) v at (i ∷ t) (close_of (eqb (suc left) 6) v at (i ∷ t))) (sym (eqb-true b 0x7D e))
    (at_once (suc left) v at (0x7D ∷ t) (close_of (eqb (suc left) 6) v at (0x7D ∷ t)) (brace_view (suc left) v at t)))
    (λ n. cond_cases (Digits (suc left) v at (b ∷ t)) (eqb (hex_of b) 16) _ _
    (λ e. at_once (suc left) v at (b ∷ t) _ (no_digit b t (omega arith) (eqb-true (hex_of b) 16 e) (eqb-false b 0x7D n)))
    (λ e. one_more left v at b t (digits_of left (v * 16 + hex_of b) (at + 1) t) (is_digit b e) (digits_view left (v * 16 + hex_of b) (at + 1) t)))
