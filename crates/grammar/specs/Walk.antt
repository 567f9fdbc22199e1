-- The walk as a function of the entries' kinds (document 01, module 10): "24, 25: depth limit passed; entry not allowed here; place: entry number.
-- 26: tape ends early; place: entry count. .. at one entry 25 before 24."
use Rattle.std.specs.Prelude.{Ok, Err, cond, List, [], ◌∷◌, ℕ, ◌+◌, ltb, length, set}
use Rattle.text.specs.Refusals.{Told, depth_limit_passed, not_allowed_here, tape_ends_early}
use Rattle.grammar.specs.declared.kinds.Kind.{Kind}
use Rattle.grammar.specs.declared.states.Frame.{Frame}
use Rattle.grammar.specs.declared.states.Frame.TheVariants.{Top, Square, Tuple, Struct, Key, Pair}
use Rattle.grammar.specs.declared.states.Want.{Want}
use Rattle.grammar.specs.declared.states.Want.TheVariants.{Start, Must, Item, First, FirstName, Named, Behind, Field, FieldName}
use Rattle.grammar.specs.declared.states.Move.{Move}
use Rattle.grammar.specs.declared.states.Move.TheVariants.{Stay, Push, Pop, Bad}
use Rattle.grammar.specs.declared.kinds.Side.{Side}
use Rattle.grammar.specs.declared.kinds.Side.TheVariants.{Opens, Closes, Neither}
use Rattle.grammar.specs.Kinds.{side_of}
use Rattle.grammar.specs.Steps.{step_of}

-- Behind the last value: nothing may be open.
abbrev pub ended : Frame → ℕ → Told Unit
ended Top i = Ok tt
ended Square i = Err (tape_ends_early i)
ended Tuple i = Err (tape_ends_early i)
ended Struct i = Err (tape_ends_early i)
ended Key i = Err (tape_ends_early i)
ended Pair i = Err (tape_ends_early i)

-- What the end of the tape says.
abbrev pub finish : Want → Frame → ℕ → Told Unit
finish Start f i = Err (tape_ends_early i)
finish Must f i = Err (tape_ends_early i)
finish Item f i = Err (tape_ends_early i)
finish First f i = Err (tape_ends_early i)
finish FirstName f i = Err (tape_ends_early i)
finish Named f i = ended f i
finish Behind f i = ended f i
finish Field f i = Err (tape_ends_early i)
finish FieldName f i = Err (tape_ends_early i)

-- The bracket that is closed gives way to the one around it.
abbrev pub popped : List Frame → (Frame → List Frame → Told Unit) → ℕ → Told Unit
popped [] on i = Err (not_allowed_here i)
popped (g ∷ σ) on i = on g σ

-- A step, the limit and the stack of open brackets together.
abbrev pub by_move : Move → ℕ → Frame → List Frame → ℕ → (Want → Frame → List Frame → Told Unit) → Told Unit
by_move (Stay w g) limit f σ i on = on w g σ
by_move (Push w g) limit f σ i on = let r = on w g (f ∷ σ) in cond (ltb (length σ) limit) r (Err (depth_limit_passed i))
by_move Pop limit f σ i on = popped σ (λ g τ. on Behind g τ) i
by_move Bad limit f σ i on = Err (not_allowed_here i)

-- The answer over the entries from entry i on: what is wanted, the innermost bracket, and those around it.
unfoldable pub check : List Kind → ℕ → Want → Frame → List Frame → ℕ → Told Unit
check [] limit w f σ i = finish w f i
check (k ∷ ks) limit w f σ i = by_move (step_of w k f) limit f σ i (λ w' f' σ'. check ks limit w' f' σ' (i + 1))

-- A closing bracket and the innermost open one are joined; σ has the numbers of the open ones, innermost first.
abbrev pub joined : List ℕ → ℕ → List ℕ → (List ℕ → List ℕ → List ℕ) → List ℕ
joined [] i out on = on [] out
joined (j ∷ σ) i out on = on σ (set (set out i j) j i)

-- What each side does to the open brackets and to the links.
abbrev pub by_side : Side → List ℕ → ℕ → List ℕ → (List ℕ → List ℕ → List ℕ) → List ℕ
by_side Opens σ i out on = on (i ∷ σ) (set out i i)
by_side Closes σ i out on = joined σ i out on
by_side Neither σ i out on = on σ (set out i i)

-- The links from entry i on.
unfoldable pub link : List Kind → List ℕ → ℕ → List ℕ → List ℕ
link [] σ i out = out
link (k ∷ ks) σ i out = by_side (side_of k) σ i out (λ σ' out'. link ks σ' (i + 1) out')

-- The whole walk over the entries of a tape.
abbrev pub walk_of : List Kind → ℕ → Told Unit
walk_of ks limit = check ks limit Start Top [] 0

-- The links that an accepted walk stores; what stands behind them stays as it was.
abbrev pub linked_of : List Kind → List ℕ → List ℕ
linked_of ks out = link ks [] 0 out
