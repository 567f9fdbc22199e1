-- Laws of one step of the scan: it takes at least one byte, and no more than the part has. Assumes nothing.
use Rattle.std.proofs.Common.{Ok, Err}
use Rattle.text.specs.Refusals.{Told}
use Prim.Native.Nat.{◌+◌, ◌<◌, ◌≤◌, ℕ}
use native.Mathlib.Omega.{arith}
use mathlib.Core.List.{List, [], ◌∷◌}
use mathlib.Core.Path.{◌≡◌, refl, subst}
use lib.Dec.{eqb, ltb}
use lib.ListN.{length}
use borrow.Author.Tests.{ltb-true}
use Rattle.text.proofs.Choices.{cond_cases}
use Rattle.text.specs.Classes.{one_of}
use Rattle.text.specs.Refusals.{eof}
use Rattle.comments.specs.Gaps.{gap_from, gap_of}
use Rattle.strings.specs.Chars.{char_of}
use Rattle.strings.specs.Strings.{byte_string_of, string_of}
use Rattle.structs.proofs.PassLaws.{byte_string_fits, char_fits, gap_fits, string_fits}
use Rattle.structs.specs.Passes.{Fits, past_byte_string, past_char, past_gap, past_string}
use Rattle.structs.specs.Scan.{marked_by, past_spurious, step_of, taking}
use Rattle.structs.specs.declared.steps.Step.{Step}
use Rattle.structs.specs.declared.steps.Step.TheVariants.{Closing, Comma, Opening, Plain, Refused}

-- a step of at least one byte within s, or a refusal within it
abbrev pub Sized : List ℕ → Step → Type 0
Sized s (Opening n) = (0 < n) × (n ≤ length s)
Sized s (Closing n) = (0 < n) × (n ≤ length s)
Sized s (Comma n) = (0 < n) × (n ≤ length s)
Sized s (Plain n) = (0 < n) × (n ≤ length s)
Sized s (Refused r) = r.place ≤ length s

marked_sized : (s : List ℕ) (c n : ℕ) → 0 < n → n ≤ length s → Sized s (marked_by c n)
unfolding marked_by
marked_sized s c n p q =
    cond_cases (Sized s) (one_of (0x28 ∷ 0x5B ∷ 0x7B ∷ []) c) _ _ (λ e. (p, q))
    (λ e. cond_cases (Sized s) (one_of (0x29 ∷ 0x5D ∷ 0x7D ∷ []) c) _ _ (λ f. (p, q))
    (λ f. cond_cases (Sized s) (eqb c 0x2C) _ _ (λ g. (p, q)) (λ g. (p, q))))

pub spurious_fits : (s : List ℕ) → Fits (length s) (past_spurious s)
unfolding past_spurious
spurious_fits s =
    gap_fits s _ (byte_string_fits s _ (string_fits s _ (char_fits s _ (gap_fits s (Ok 0) (omega arith)))))

taking_sized : (s : List ℕ) (p : Told ℕ) → Fits (length s) p → Sized s (taking s p)
taking_sized s (Ok n) h =
    cond_cases (Sized s) (ltb n (length s)) _ _ (λ e. marked_sized s _ (n + 1) (omega arith) (omega (arith, ltb-true n (length s) e))) (λ e. h)
taking_sized s (Err r) h = h

pub step_sized : (s : List ℕ) (x : Step) → step_of s ≡ x → Sized s x
unfolding step_of
step_sized s x e = subst (Sized s) e (taking_sized s (past_spurious s) (spurious_fits s))

-- where the text ends it is refused
pub step_none : step_of [] ≡ Refused (eof 0)
unfolding step_of past_spurious past_gap gap_of gap_from past_char char_of past_string string_of past_byte_string byte_string_of
step_none = refl
