use native.Mathlib.Omega.{arith}
use mathlib.Core.Path.{◌∙◌, ap}
use Prim.Native.Nat.{ℕ, ◌+◌}
use Rattle.places.specs.Lines.{count, line_feed, line_of}
use Rattle.places.proofs.LineLaws.{part_count}
use Rattle.places.proofs.line.line_of.Goals as goal

pub overflow_add-result : goal.overflow_add-result
overflow_add-result c = omega (arith, part_count line_feed c.args.s.now 0 c.args.place, c.feeds-n.ensures ∙ ap (count line_feed) c.part.ensures)

pub returns : goal.returns
unfolding line_of
returns c = ap (λ (n : ℕ). 1 + n) (c.feeds-n.ensures ∙ ap (count line_feed) c.part.ensures)
