-- Refusals that are 13 with a reason: seen from further in front, and told from the others. Assumes nothing.
use Prim.Native.Nat.{ℕ, ◌+◌}
use native.Mathlib.Omega.{arith}
use mathlib.Core.Path.{◌≡◌, ap, refl}
use Rattle.text.specs.Refusals.{at_place, invalid_escape, placed_behind, reason_of}
use Rattle.text.specs.declared.reason.EscapeReason.{EscapeReason}
use Rattle.text.specs.declared.reason.EscapeReason.TheVariants.{DigitNotHex, MissingOpenBrace, NoClosingBrace, NoDigits, NotACharacter, NotByteEscaped}
use Rattle.text.specs.declared.reason.EscapeReason.TheVariants.{UnicodeInByteLiteral, UnknownLetter}
use Rattle.text.specs.declared.refusal.Refusal.{Refusal}

-- what is 13 from k bytes further in front is 13 for that reason, k bytes nearer
pub unplaced : (k : ℕ) (r : Refusal) (why : EscapeReason) (p : ℕ) → placed_behind k r ≡ invalid_escape why p
    → (r ≡ invalid_escape why r.place) × (k + r.place ≡ p)
unplaced k r why p e = (ap (λ (i : Refusal). at_place i r.place) e, ap (λ (i : Refusal). i.place) e)

-- the eighth reason is this one
eighth : (why : EscapeReason) → 8 ≡ reason_of why → UnicodeInByteLiteral ≡ why
eighth DigitNotHex e = absurd (omega (arith, e))
eighth UnknownLetter e = absurd (omega (arith, e))
eighth NotByteEscaped e = absurd (omega (arith, e))
eighth MissingOpenBrace e = absurd (omega (arith, e))
eighth NoDigits e = absurd (omega (arith, e))
eighth NoClosingBrace e = absurd (omega (arith, e))
eighth NotACharacter e = absurd (omega (arith, e))
eighth UnicodeInByteLiteral e = refl

-- so a refusal for it tells it, and its place
pub unicode_told : (why : EscapeReason) (p q : ℕ) → invalid_escape UnicodeInByteLiteral p ≡ invalid_escape why q → (UnicodeInByteLiteral ≡ why) × (p ≡ q)
unicode_told why p q e = (eighth why (ap (λ (i : Refusal). i.reason) e), ap (λ (i : Refusal). i.place) e)
