-- The reader of escapes refuses exactly what specs/Wrong.antt holds of, for that reason and at that place.
--     escape-13          13 with a reason at a place, both ways
--     escape-6           6 exactly where the text ends within the escape, at its end
--     escape-refusals    there is no other refusal
--     wrong-one          an escape is wrong for one reason, at one place
--     wrong-no-escape    what is wrong is no escape
-- Assumes nothing.
use Prim.Native.Nat.{ℕ}
use native.Mathlib.Omega.{arith}
use mathlib.Core.List.{List, [], ◌∷◌}
use mathlib.Core.Logic.{◌↔◌, ◌⊎◌, inl, inr}
use mathlib.Core.Path.{◌≡◌, ◌∙◌, ap, refl, subst, sym}
use lib.ListN.{get_or, length}
use Rattle.escapes.specs.Escapes.{escape_of}
use Rattle.escapes.specs.declared.answers.EscapeAnswer.TheVariants.{Refused}
use Rattle.escapes.specs.declared.answers.Mode.{Mode}
use Rattle.escaped.proofs.Exactly.{escape_refused}
use Rattle.escaped.proofs.Pairs.{same_place}
use Rattle.escaped.proofs.Right.{Refuses, Right, right}
use Rattle.escaped.proofs.Right.Refuses.{ended, refuses}
use Rattle.escaped.proofs.WrongReads.{ends_reads, wrong_reads}
use Rattle.escaped.specs.Escape.{Escape, Meant}
use Rattle.escaped.specs.Wrong.{Ends, Wrong}
use Rattle.text.specs.Refusals.{eof, invalid_escape, reason_of}
use Rattle.text.specs.declared.reason.EscapeReason.{EscapeReason}
use Rattle.text.specs.declared.reason.EscapeReason.TheVariants.{DigitNotHex, MissingOpenBrace, NoClosingBrace, NoDigits, NotACharacter, NotByteEscaped}
use Rattle.text.specs.declared.reason.EscapeReason.TheVariants.{UnicodeInByteLiteral, UnknownLetter}
use Rattle.text.specs.declared.refusal.Refusal.{Refusal}

-- ---- a refusal tells its reason and its place

-- the reason of a number
abbrev named : ℕ → EscapeReason
named k =
    get_or (DigitNotHex ∷ DigitNotHex ∷ UnknownLetter ∷ NotByteEscaped ∷ MissingOpenBrace ∷ NoDigits ∷ NoClosingBrace ∷ NotACharacter ∷ UnicodeInByteLiteral ∷ [])
    k DigitNotHex

named_back : (why : EscapeReason) → named (reason_of why) ≡ why
named_back DigitNotHex = refl
named_back UnknownLetter = refl
named_back NotByteEscaped = refl
named_back MissingOpenBrace = refl
named_back NoDigits = refl
named_back NoClosingBrace = refl
named_back NotACharacter = refl
named_back UnicodeInByteLiteral = refl

-- so two refusals that are the same have one reason and one place
tells : (w v : EscapeReason) (p q : ℕ) → invalid_escape w p ≡ invalid_escape v q → (w ≡ v) × (p ≡ q)
tells w v p q e = (
  sym (named_back w) ∙ ap (λ (r : Refusal). named r.reason) e ∙ named_back v,
  ap (λ (r : Refusal). r.place) e,
)

-- and 6 is not 13
apart : (why : EscapeReason) (p q : ℕ) → eof p ≡ invalid_escape why q → ⊥
apart why p q e = omega (arith, ap (λ (r : Refusal). r.number) e)

-- ---- both ways

-- what a refusal of the reader says
refusal_right : (m : Mode) (s : List ℕ) (r : Refusal) → escape_of m s ≡ Refused r → Refuses m s r
refusal_right m s r e = subst (Right m s) e (right m s)

-- a refusal is 6 at the end where the text ends within the escape, or 13 of a wrong one
pub escape_refusals : (m : Mode) (s : List ℕ) (r : Refusal) → escape_of m s ≡ Refused r
    → (Ends m s × (r ≡ eof (length s))) ⊎ ((why : EscapeReason) × (p : ℕ) × Wrong m s why p × (r ≡ invalid_escape why p))
escape_refusals m s r e = go r (refusal_right m s r e)
  where
    go : (r : Refusal) → Refuses m s r
        → (Ends m s × (r ≡ eof (length s))) ⊎ ((why : EscapeReason) × (p : ℕ) × Wrong m s why p × (r ≡ invalid_escape why p))
    go r (refuses {why} {q} p x f) = inr (why, q, x, ap (invalid_escape why) f)
    go r (ended p x f) = inl (x, ap eof f)

-- 13 says that the escape is wrong
says_13 : (m : Mode) (s : List ℕ) (r : Refusal) (why : EscapeReason) (p : ℕ) → Refuses m s r → r ≡ invalid_escape why p → Wrong m s why p
says_13 m s r why p (refuses {why = w} {q} k x f) e =
    let t = tells w why k p e in subst (Wrong m s why) (sym f ∙ t.1) (subst (λ (i : EscapeReason). Wrong m s i q) t.0 x)
says_13 m s r why p (ended k x f) e = absurd (apart why k p e)

-- 6 says that the text ends within it
says_6 : (m : Mode) (s : List ℕ) (r : Refusal) (p : ℕ) → Refuses m s r → r ≡ eof p → Ends m s × (p ≡ length s)
says_6 m s r p (refuses {why} k x f) e = absurd (apart why p k (sym e))
says_6 m s r p (ended k x f) e = (x, sym (ap (λ (i : Refusal). i.place) e) ∙ f)

-- the reader refuses with 13, this reason and this place exactly where the escape is wrong so
pub escape_13 : (m : Mode) (s : List ℕ) (why : EscapeReason) (p : ℕ) → (escape_of m s ≡ Refused (invalid_escape why p)) ↔ Wrong m s why p
escape_13 m s why p = (λ e. says_13 m s (invalid_escape why p) why p (refusal_right m s (invalid_escape why p) e) refl, λ x. wrong_reads x)

-- and with 6 exactly where the text ends within it, at its end
pub escape_6 : (m : Mode) (s : List ℕ) (p : ℕ) → (escape_of m s ≡ Refused (eof p)) ↔ (Ends m s × (p ≡ length s))
escape_6 m s p = (λ e. says_6 m s (eof p) p (refusal_right m s (eof p) e) refl, λ h. ends_reads h.0 ∙ same_place eof (length s) p (sym h.1))

-- ---- an escape is wrong in one way

-- one reason, one place
pub wrong_one : {m : Mode} {s : List ℕ} {w v : EscapeReason} {p q : ℕ} → Wrong m s w p → Wrong m s v q → (w ≡ v) × (p ≡ q)
wrong_one {m} {s} {w} {v} {p} {q} x y = let e : invalid_escape w p ≡ invalid_escape v q = cc (wrong_reads x, wrong_reads y) in tells w v p q e

-- and then it is none
pub wrong_no_escape : {m : Mode} {s : List ℕ} {w : EscapeReason} {p : ℕ} {v : Meant} {t : List ℕ} → Wrong m s w p → Escape m s v t → ⊥
wrong_no_escape {m} {s} {w} {p} {v} {t} x y = escape_refused m s (invalid_escape w p) (wrong_reads x) v t y
