-- Marks on lent numbers and bytes (the program `answers`): what a call may not write is told by them.
use Rattle.std.specs.Prelude.{ℕ, zero, suc, ◌+◌, ◌-◌, ◌%◌, Bool, true, ◌&&◌, List, [], ◌∷◌, eqb, set}

-- The mark of place i among numbers, of 32 bits or 64: larger than any entry or link that a call writes.
unfoldable pub mark_at : ℕ → ℕ
mark_at i = 4294967295 - i % 65536

-- The mark of place i among bytes.
unfoldable pub byte_mark_at : ℕ → ℕ
byte_mark_at i = i % 251

-- The elements with n of them marked from place i on.
unfoldable pub marked : {X : Type 0} → (ℕ → X) → ℕ → ℕ → List X → List X
marked mark zero i s = s
marked mark (suc n) i s = marked mark n (i + 1) (set s i (mark i))

-- The numbers from place i on all have their marks.
unfoldable pub kept_from : (ℕ → ℕ) → List ℕ → ℕ → Bool
kept_from mark [] i = true
kept_from mark (a ∷ s) i = eqb a (mark i) && kept_from mark s (i + 1)

-- The same for elements that another test compares.
unfoldable pub kept_by : {X : Type 0} → (X → X → Bool) → (ℕ → X) → List X → ℕ → Bool
kept_by eq mark [] i = true
kept_by eq mark (a ∷ s) i = eq a (mark i) && kept_by eq mark s (i + 1)
