use mathlib.Core.Path.{◌∙◌, ap, sym}
use Rattle.numbers.proofs.Laws.{number_else, number_float}
use Rattle.numbers.specs.Numbers.{of_float}
use Rattle.numbers.proofs.any_number.Goals as goal

pub returns-then-next_bytes_is_float : goal.returns-then-next_bytes_is_float
returns-then-next_bytes_is_float c = c.of_float.ensures ∙ ap of_float c.float.ensures ∙ number_float c.args.s.now (sym c.next_bytes_is_float.ensures ∙ c.if-next_bytes_is_float.true)

pub returns-in-Ok : goal.returns-in-Ok
returns-in-Ok c = number_else c.args.s.now (sym c.next_bytes_is_float.ensures ∙ c.if-next_bytes_is_float.false) _ (sym c.in-Ok.is ∙ c.any_integer-i.ensures)

pub returns-in-Err : goal.returns-in-Err
returns-in-Err c = c.or_float.ensures ∙ number_else c.args.s.now (sym c.next_bytes_is_float.ensures ∙ c.if-next_bytes_is_float.false) _ (sym c.in-Err.is ∙ c.any_integer-i.ensures)
