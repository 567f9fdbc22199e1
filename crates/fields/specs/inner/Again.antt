-- The first of some fields that has the name of one before it: what the code finds in each ( ), in whatever order the fields stand.
use Rattle.std.specs.Prelude.{Some, None, Option, ◌≡◌, List, cond, ℕ, ◌<◌, ◌≤◌, ltb, length, get_or}

-- The earlier of two.
abbrev pub earlier : Option ℕ → Option ℕ → Option ℕ
earlier None b = b
earlier (Some i) None = Some i
earlier (Some i) (Some j) = cond (ltb j i) (Some j) (Some i)

-- One of these.
pub record In (x : ℕ) (es : List ℕ) : Type 0 where
  pub place : ℕ
  pub inside : place < length es
  pub there : get_or es place 0 ≡ x

-- Entry j is one of these, and so is an entry before it with its name.
pub record Repeats (nm : ℕ → List ℕ) (es : List ℕ) (j : ℕ) : Type 0 where
  pub is_one : In j es
  pub former : ℕ
  pub also : In former es
  pub before : former < j
  pub alike : nm former ≡ nm j

-- The first that repeats.
pub data FirstIn (nm : ℕ → List ℕ) (es : List ℕ) : Option ℕ → Type 0 where
  nowhere : ((j : ℕ) → Repeats nm es j → ⊥) → FirstIn nm es None
  at : (j : ℕ) → Repeats nm es j → ((i : ℕ) → Repeats nm es i → j ≤ i) → FirstIn nm es (Some j)
