-- Behind a refusal bytes give nothing. Assumes nothing.
use Prim.Native.Nat.{ℕ, ◌+◌}
use mathlib.Core.List.{List, [], ◌∷◌}
use mathlib.Core.Path.{◌≡◌, ap, refl}
use Rattle.text.specs.declared.refusal.Refusal.{Refusal}
use Rattle.arriving.specs.Arrivals.{Given, piece}
use Rattle.arriving.specs.Arrivals.Coming.{halted, shut}
use Rattle.pieces.specs.Bars.{bytes_give}

pub shut_rest : (z : List ℕ) (d : Refusal) → bytes_give (shut d) z ≡ record { entries = []; next = shut d; bytes = 0 }
unfolding piece
shut_rest [] d = refl
shut_rest (b ∷ z) d = ap (λ (g : Given). record { entries = g.entries; next = g.next; bytes = 0 + g.bytes }) (shut_rest z d)

pub halted_rest : (z : List ℕ) (d : Refusal) → bytes_give (halted d) z ≡ record { entries = []; next = halted d; bytes = 0 }
unfolding piece
halted_rest [] d = refl
halted_rest (b ∷ z) d = ap (λ (g : Given). record { entries = g.entries; next = g.next; bytes = 0 + g.bytes }) (halted_rest z d)
