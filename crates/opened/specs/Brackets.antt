-- The innermost bracket that is open, where the walk refuses with 25 or 26 (document 01, module 10: "entry not allowed here", "tape ends early"). Kinds of
-- entries:
-- 1 `(` 2 `)` 3 `[` 4 `]` 5 `{` 6 `}`.
use Rattle.std.specs.Prelude.{ℕ, zero, suc, Bool, false, not, cond, List, [], ◌∷◌, Option, None, Some, eqb, drop}
use Rattle.grammar.specs.declared.kinds.Side.{Side}
use Rattle.grammar.specs.declared.kinds.Side.TheVariants.{Opens, Closes, Neither}
use Rattle.grammar.specs.Kinds.{kind_of, side_of}
use Rattle.rows.specs.Rows.{entry_at}
use Rattle.opened.specs.declared.begun.Begun.{Begun}
use Rattle.opened.specs.declared.begun.Begun.TheVariants.{Nothing, Bracket}

-- The side of entry i.
unfoldable pub side_at : List ℕ → ℕ → Side
side_at tape i = side_of (kind_of (entry_at tape i).kind)

-- The open brackets behind entry n, from those before it: an opening bracket is put in front, a closing one takes the innermost away.
abbrev pub behind_entry : Side → ℕ → List ℕ → List ℕ
behind_entry Opens n os = n ∷ os
behind_entry Closes n os = drop 1 os
behind_entry Neither n os = os

-- The brackets that are open behind the first n entries, by their numbers, the innermost first.
unfoldable pub open_brackets : List ℕ → ℕ → List ℕ
open_brackets tape zero = []
open_brackets tape (suc n) = behind_entry (side_at tape n) n (open_brackets tape n)

-- The first of them.
abbrev pub first_of : List ℕ → Option ℕ
first_of [] = None
first_of (i ∷ os) = Some i

-- The innermost bracket that is open behind the first n entries.
unfoldable pub innermost : List ℕ → ℕ → Option ℕ
innermost tape n = first_of (open_brackets tape n)

-- A closing bracket, but not of the kind that the opening one needs.
unfoldable pub closes_other : ℕ → ℕ → Bool
closes_other o kind =
    cond (eqb kind 2) (not (eqb o 1)) (cond (eqb kind 4) (not (eqb o 3)) (cond (eqb kind 6) (not (eqb o 5)) false))

-- Where the innermost one begins.
abbrev pub bracket_of : List ℕ → Option ℕ → Begun
bracket_of tape None = Nothing
bracket_of tape (Some i) = Bracket (entry_at tape i).start

-- The same where entry n closes a bracket of another kind.
abbrev pub other_of : List ℕ → ℕ → Option ℕ → Begun
other_of tape n None = Nothing
other_of tape n (Some i) = cond (closes_other (entry_at tape i).kind (entry_at tape n).kind) (Bracket (entry_at tape i).start) Nothing

-- The innermost bracket that is open behind the first n entries.
unfoldable pub open_behind : List ℕ → ℕ → Begun
open_behind tape n = bracket_of tape (innermost tape n)

-- The same where entry n closes a bracket of another kind.
unfoldable pub other_before : List ℕ → ℕ → Begun
other_before tape n = other_of tape n (innermost tape n)
