-- What the next entry comes to: the grammar's step, held to the limit, or the verdict with which the walk stops there.
use Rattle.std.specs.Prelude.{Err, ℕ, ◌<◌, ◌≤◌, List, ◌≡◌}
use Rattle.text.specs.Refusals.{Told, depth_limit_passed, not_allowed_here}
use Rattle.rows.specs.Rows.{entry_at}
use Rattle.grammar.specs.declared.states.Frame.{Frame}
use Rattle.grammar.specs.declared.states.Want.{Want}
use Rattle.grammar.specs.declared.states.Move.{Move}
use Rattle.grammar.specs.declared.states.Move.TheVariants as move
use Rattle.grammar.specs.Kinds.{kind_of}
use Rattle.grammar.specs.Steps.{step_of}
use Rattle.grammar.specs.Walk.{finish}
use Rattle.walk.specs.declared.turning.Turn.{Turn}
use Rattle.walk.specs.declared.turning.Turn.TheVariants.{Stay, Push, Pop, Stop}

module _ (tape : List ℕ) (count limit i depth : ℕ) (want : Want) (inside : Frame) where
  -- There is an entry i, and by the grammar it does this.
  pub record Steps (m : Move) : Type 0 where
    pub there : i < count
    pub does : step_of want (kind_of (entry_at tape i).kind) inside ≡ m

  -- The verdicts with which the walk stops.
  pub data Stops : Told Unit → Type 0 where
    at_end : count ≤ i → Stops (finish want inside i)
    deep : (w : Want) (f : Frame) → Steps (move.Push w f) → limit ≤ depth → Stops (Err (depth_limit_passed i))
    closes_none : Steps move.Pop → depth ≡ 0 → Stops (Err (not_allowed_here i))
    not_allowed : Steps move.Bad → Stops (Err (not_allowed_here i))

  abbrev pub Comes : Turn → Type 0
  Comes (Stay w f) = Steps (move.Stay w f)
  Comes (Push w f) = Steps (move.Push w f) × (depth < limit)
  Comes Pop = Steps move.Pop × (0 < depth)
  Comes (Stop v) = Stops v
