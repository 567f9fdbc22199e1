use mathlib.Core.Path.{ap, ◌∙◌}
use Rattle.integers.specs.Width.{code_of}
use Rattle.plain_numbers.proofs.width.fit_code.Goals as goal

pub returns : goal.returns
returns c = c.code_of.ensures ∙ ap code_of c.first_fit-width.ensures
