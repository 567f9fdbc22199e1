-- A float run judged (document 01, module 6): "Float text must meet the `f64::from_str` grammar, else 11." 12 is a misplaced underscore, and underscores
-- are left out before the grammar is asked.
use Rattle.std.specs.Prelude.{ℕ, suc, List, [], ◌∷◌, Bool, true, false, cond, not, ◌&&◌, ◌||◌, length, eqb, ltb}
use Rattle.text.specs.Classes.{digit}
use Rattle.floats.specs.Classes.{point, scale}
use Rattle.floats.specs.Grammar.{step_of, accepts}
use Rattle.floats.specs.declared.state.State.{State}
use Rattle.floats.specs.declared.state.State.TheVariants.{Start}
use Rattle.floats.specs.declared.judge.Judged.{Judged}
use Rattle.floats.specs.declared.judge.Judged.TheVariants.{Misplaced, Fine, Unfit}

-- An underscore may follow: behind a digit or an e, not behind a point; a sign and an underscore leave it as it was.
abbrev pub may_follow : Bool → ℕ → Bool
may_follow may c = cond (digit c || scale c) true (cond (point c) false may)

-- An underscore that stands where none may.
abbrev pub misplaced : Bool → ℕ → Bool
misplaced may c = eqb c 0x5f && not may

-- How far the underscores of a run stand well.
unfoldable pub well_to : List ℕ → Bool → ℕ
well_to [] may = 0
well_to (c ∷ cs) may = let rest = well_to cs (may_follow may c) in cond (misplaced may c) 0 (suc rest)

-- A run without its underscores.
unfoldable pub stripped : List ℕ → List ℕ
stripped [] = []
stripped (c ∷ cs) = let rest = stripped cs in cond (eqb c 0x5f) rest (c ∷ rest)

-- One byte of a run further: an underscore is passed over.
abbrev pub advance_of : State → ℕ → State
advance_of st c = cond (eqb c 0x5f) st (step_of st c)

-- A run judged: its underscores first, then the grammar.
unfoldable pub float_judged : List ℕ → Judged
float_judged part =
    cond (ltb (well_to part false) (length part)) (Misplaced (well_to part false))
    (cond (accepts (stripped part) Start) Fine Unfit)
