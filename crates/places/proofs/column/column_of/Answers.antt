use native.Mathlib.Omega.{arith}
use mathlib.Core.Path.{◌∙◌, ap}
use Prim.Native.Nat.{ℕ, ◌+◌}
use Rattle.places.specs.Lines.{count, between}
use Rattle.places.specs.Columns.{starts_char, column_of}
use Rattle.places.proofs.LineLaws.{part_count}
use Rattle.places.proofs.column.column_of.Goals as goal

pub overflow_add-result : goal.overflow_add-result
overflow_add-result c = omega (arith, part_count starts_char c.args.s.now c.line_start-start.result c.args.place, c.chars-n.ensures ∙ ap (count starts_char) c.part.ensures)

pub returns : goal.returns
unfolding column_of
returns c =
    ap (λ (n : ℕ). 1 + n)
    (c.chars-n.ensures ∙ ap (count starts_char) c.part.ensures ∙ ap (λ (a : ℕ). count starts_char (between c.args.s.now a c.args.place)) c.line_start-start.ensures)
