-- The refusals that the readers inside the calls give (document 01, "Refusal numbers"): 4 to 21. CR 1: of 13 "a reason, 1 to 8", "0 for every other number".
use Rattle.std.specs.Prelude.{◌≡◌, Bool, true, cond, ◌&&◌, eqb}
unfoldable pub use Rattle.text.specs.Classes.{within}
use Rattle.text.specs.declared.refusal.Refusal.{Refusal}

-- The reason belongs to the number: 1 to 8 to 13, and 0 to any other.
abbrev pub reasoned : Refusal → Bool
reasoned r = cond (eqb r.number 13) (within 1 8 r.reason) (eqb r.reason 0)

-- A refusal of reading: one of the numbers 4 to 21, and its reason.
abbrev pub Inner : Refusal → Type 0
Inner r = (within 4 21 r.number && reasoned r) ≡ true
