-- What a search passes: how far it goes is the run of these bytes (crate text, specs/Runs.antt).
use Rattle.std.specs.Prelude.{ℕ, Bool, cond, not, ◌||◌, eqb, ltb}

-- A byte that is not b.
unfoldable pub other : ℕ → ℕ → Bool
other b x = not (eqb x b)

-- A byte that is neither a nor b.
unfoldable pub neither : ℕ → ℕ → ℕ → Bool
neither a b x = not (eqb x a || eqb x b)

-- A number, or the bound where it is more.
unfoldable pub at_most : ℕ → ℕ → ℕ
at_most bound n = cond (ltb n bound) n bound
