-- Words at the front of a part: the crate's `check_ident`, which "only returns true if the char after `ident` cannot belong to an identifier".
use Rattle.std.specs.Prelude.{ℕ, List, [], ◌∷◌, Bool, false, cond, not, length, drop, eqb}
use Rattle.text.specs.Ahead.{next_ahead}
use Rattle.text.specs.Words.{starts_with}
use Rattle.integers.specs.declared.ident.Found.{Found}

-- The word stands at the front and no name goes on behind it.
unfoldable pub ident_at : (word t : List ℕ) → Bool
ident_at word t = cond (starts_with word t) (not (next_ahead (drop (length word) t))) false

-- The word's length where it stands at the front and no name goes on behind it, else 0.
unfoldable pub ident_of : (word t : List ℕ) → ℕ
ident_of word t = cond (starts_with word t) (cond (next_ahead (drop (length word) t)) 0 (length word)) 0

-- A word, and the number that it stands for.
pub record Word : Type 0 where
  pub letters : List ℕ
  pub says : ℕ

-- No word found.
abbrev pub nothing_found : Found
nothing_found = record { code = 0; end = 0 }

-- The first of the words that stands at the front with no name going on behind it.
unfoldable pub first_of : List Word → List ℕ → Found
first_of [] t = nothing_found
first_of (w ∷ ws) t =
    let rest = first_of ws t in
    cond (eqb (ident_of w.letters t) 0) rest (record { code = w.says; end = ident_of w.letters t })
