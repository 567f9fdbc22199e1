-- Runs of the characters of a name, byte by byte. Assumes nothing.
use Prim.Native.Nat.{ℕ, ◌+◌, ◌<◌}
use native.Mathlib.Omega.{arith}
use mathlib.Core.Bool.{Bool, true, false, cond, ◌||◌}
use mathlib.Core.List.{List, [], ◌∷◌}
use mathlib.Core.Path.{◌≡◌, ap, refl, sym, ◌∙◌}
use lib.Dec.{eqb}
use lib.ListN.{get_or}
use borrow.Author.Tests.{ne_eqb}
use Rattle.names.proofs.CharLaws.{chars_first, chars_none}
use Rattle.text.proofs.AheadLaws.{char_ascii, char_nil}
use Rattle.names.specs.Characters.{char_if, chars}
use Rattle.text.proofs.Choices.{bool_cases, either, lt_or_le}
use Rattle.text.proofs.ClassLaws.{ascii_wide, next_ascii}
use Rattle.text.specs.Classes.{ascii_first, ascii_next, digit, ident_next, letter}
use Rattle.text.specs.Runs.{run}

-- a byte of a class is none outside it
pub unequal : (p : ℕ → Bool) (a w : ℕ) → p a ≡ true → p w ≡ false → eqb a w ≡ false
unequal p a w is isn = ne_eqb a w (λ e. (let z : ◌≡◌ {A = Bool} true false = sym is ∙ ap p e ∙ isn in let y : ◌≡◌ {A = ℕ} 0 1 = cc in omega arith))

-- ---- the bytes of such a run

pub below_80 : (a : ℕ) → ascii_next a ≡ true → a < 0x80
below_80 a is = either (lt_or_le a 0x80) (λ h. h) (λ h. let z : ◌≡◌ {A = Bool} true false = sym is ∙ ascii_wide a h in let y : ◌≡◌ {A = ℕ} 0 1 = cc in absurd (omega arith))

pub first_next : (a : ℕ) → ascii_first a ≡ true → ascii_next a ≡ true
unfolding ascii_first ascii_next
first_next a is = go (letter a) (digit a) (eqb a 0x5f) is
  where
    go : (l d u : Bool) → (l || u) ≡ true → (l || (d || u)) ≡ true
    go true d u e = refl
    go false true u e = refl
    go false false u e = e

-- ---- so a run of them is told from bytes where no other character stands behind it

one_more : (a : ℕ) (s : List ℕ) → ascii_next a ≡ true → chars ident_next (a ∷ s) ≡ 1 + chars ident_next s
one_more a s e =
    let one : char_if ident_next (a ∷ s) ≡ 1 = char_ascii ident_next (a ∷ s) (omega arith) (below_80 a e) ∙ ap (λ (t : Bool). cond t 1 0) (next_ascii a (below_80 a e) ∙ e) in
    chars_first ident_next (a ∷ s) 1 one (omega arith)

none_there : (a : ℕ) (s : List ℕ) → a < 0x80 → ascii_next a ≡ false → chars ident_next (a ∷ s) ≡ 0
none_there a s h e = chars_none ident_next (a ∷ s) (char_ascii ident_next (a ∷ s) (omega arith) h ∙ ap (λ (t : Bool). cond t 1 0) (next_ascii a h ∙ e))

pub chars_run : (s : List ℕ) → get_or s (run ascii_next s) 0 < 0x80 → chars ident_next s ≡ run ascii_next s
unfolding run
chars_run [] h = chars_none ident_next [] (char_nil ident_next [] refl)
chars_run (a ∷ s) h =
    either (bool_cases (ascii_next a))
    (λ e. rw e (one_more a s e ∙ ap (λ (n : ℕ). 1 + n) (chars_run s (rw e at h)) ∙ omega arith))
    (λ e. rw e (none_there a s (rw e at h) e))
