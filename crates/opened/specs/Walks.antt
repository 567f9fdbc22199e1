-- What people look for where the walk refuses with 25, 26 (document 01, module 10: "entry not allowed here", "tape ends early") or 31 (document 02, CR 2:
-- "repeated field").
use Rattle.std.specs.Prelude.{ℕ, cond, List, eqb, ltb}
use Rattle.text.specs.declared.refusal.Refusal.{Refusal}
use Rattle.opened.specs.declared.begun.Begun.{Begun}
use Rattle.opened.specs.declared.begun.Begun.TheVariants.{Nothing}
use Rattle.opened.specs.Brackets.{open_behind, other_before}
use Rattle.opened.specs.Former.{field_before}

-- What is shown where the walk of so many entries is refused: 26 stands behind all of them; 25 and 31 name an entry.
unfoldable pub walk_begun : List ℕ → List ℕ → ℕ → Refusal → Begun
walk_begun text tape count r =
    let named = cond (eqb r.number 25) (other_before tape r.place) (cond (eqb r.number 31) (field_before text tape r.place) Nothing) in
    cond (eqb r.number 26) (open_behind tape count) (cond (ltb r.place count) named Nothing)
