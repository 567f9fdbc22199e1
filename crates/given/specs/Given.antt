-- The refusals that calls give (document 01, "Refusal numbers"): 1, 2 and 4 to 29, and 31 (CR 2); 3 is reserved (CR 5). CR 1: of 13 "a reason, 1 to 8", "0 for every
-- other number".
use Rattle.std.specs.Prelude.{ℕ, ◌≡◌, [], ◌∷◌, Bool, true, cond, ◌&&◌, ◌||◌, eqb}
use Rattle.text.specs.Classes.{one_of}
unfoldable pub use Rattle.text.specs.Classes.{within}
use Rattle.text.specs.declared.refusal.Refusal.{Refusal}

-- A number that calls give.
unfoldable pub given : ℕ → Bool
given n = one_of (1 ∷ 2 ∷ 31 ∷ []) n || within 4 29 n

-- The reason belongs to the number: 1 to 8 to 13, and 0 to any other.
abbrev pub reasoned : Refusal → Bool
reasoned r = cond (eqb r.number 13) (within 1 8 r.reason) (eqb r.reason 0)

-- A refusal with such a number and its reason.
abbrev pub Given : Refusal → Type 0
Given r = (given r.number && reasoned r) ≡ true

-- A refusal with a number from `first` to `last` and its reason.
abbrev pub Between : ℕ → ℕ → Refusal → Type 0
Between first last r = (within first last r.number && reasoned r) ≡ true

-- A refusal with one of the numbers 4 to `last`. 1 and 2 are told of the text alone, before a call's own answer.
abbrev pub FourTo : ℕ → Refusal → Type 0
FourTo last r = Between 4 last r

-- A refusal of reading, which the readers inside the calls give: 4 to 21.
abbrev pub Inner : Refusal → Type 0
Inner r = FourTo 21 r
