-- The field of the same brackets that has the name of an entry already, where the walk refuses with 31 (document 02, CR 2: "Within one `( )` of fields no name
-- may come again"). Kinds of entries: 8 `:` 9 a name 10 a raw name.
use Rattle.std.specs.Prelude.{ℕ, zero, suc, ◌+◌, Bool, cond, ◌&&◌, List, Option, None, Some, eqb}
use Rattle.text.specs.Classes.{within}
use Rattle.grammar.specs.declared.kinds.Side.{Side}
use Rattle.grammar.specs.declared.kinds.Side.TheVariants.{Opens, Closes, Neither}
use Rattle.rows.specs.Rows.{entry_at}
use Rattle.fields.specs.Fields.{same}
use Rattle.fields.specs.Names.{name_from, name_at}
use Rattle.opened.specs.declared.begun.Begun.{Begun}
use Rattle.opened.specs.declared.begun.Begun.TheVariants.{Nothing, Field}
use Rattle.opened.specs.Brackets.{side_at}

-- Entry i names a field: a name with a colon behind it.
unfoldable pub is_field : List ℕ → ℕ → Bool
is_field tape i = within 9 10 (entry_at tape i).kind && eqb (entry_at tape (i + 1)).kind 8

module _ (text tape : List ℕ) (n : ℕ) where
  -- Entry i is the field, k brackets being closed between it and entry n.
  unfoldable pub is_former : ℕ → ℕ → Bool
  is_former i k = eqb k 0 && (is_field tape i && same (name_at text tape i) (name_at text tape n))

  -- The search from entry i back, by its side: at the bracket that is open it ends.
  abbrev pub by_side : Side → ℕ → ℕ → (ℕ → Option ℕ) → Option ℕ
  by_side Opens i zero on = None
  by_side Opens i (suc k) on = on k
  by_side Closes i k on = on (suc k)
  by_side Neither i k on = cond (is_former i k) (Some i) (on k)

  -- The last such field among the first i entries, k brackets being closed between them and entry n.
  unfoldable pub former_from : ℕ → ℕ → Option ℕ
  former_from zero k = None
  former_from (suc i) k = by_side (side_at tape i) i k (λ m. former_from i m)

  -- The last one before entry n.
  unfoldable pub former_of : Option ℕ
  former_of = former_from n 0

-- Where entry i and its name begin, and where both end.
unfoldable pub field_at : List ℕ → ℕ → Begun
field_at tape i = let e = entry_at tape i in Field e.start (name_from e) e.end

-- The same of the field, if there is one.
abbrev pub field_of : List ℕ → Option ℕ → Begun
field_of tape None = Nothing
field_of tape (Some i) = field_at tape i

-- Where the field stands that has the name of entry n already.
unfoldable pub field_before : List ℕ → List ℕ → ℕ → Begun
field_before text tape n = field_of tape (former_of text tape n)
