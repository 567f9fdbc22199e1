-- The rows of a table by their numbers, from 0: what "sorted", "apart" and "lies in a row" are said with.
use Rattle.std.specs.Prelude.{ℕ, ◌+◌, ◌*◌, ◌≤◌, ◌<◌, ◌≡◌, List, Bool, true, length, get_or}

-- A row's first code point, its last and its class.
abbrev pub first_at : List ℕ → ℕ → ℕ
first_at t j = get_or t (j * 3) 0

abbrev pub last_at : List ℕ → ℕ → ℕ
last_at t j = get_or t (j * 3 + 1) 0

abbrev pub class_at : List ℕ → ℕ → ℕ
class_at t j = get_or t (j * 3 + 2) 0

-- There is a row j.
abbrev pub Row : List ℕ → ℕ → Type 0
Row t j = j * 3 + 2 < length t

-- c lies in row j, whose class passes the test.
pub record Lies (p : ℕ → Bool) (t : List ℕ) (c j : ℕ) : Type 0 where
  pub there : Row t j
  pub from : first_at t j ≤ c
  pub to : c ≤ last_at t j
  pub class : p (class_at t j) ≡ true
