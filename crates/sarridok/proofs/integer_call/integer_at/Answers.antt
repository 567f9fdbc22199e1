use mathlib.Core.Path.{◌∙◌, ap, sym}
use Rattle.sarridok.specs.Typed.{byte_as, integer_at}
use Rattle.sarridok.proofs.integer_call.integer_at.Goals as goal

pub returns-then-check_str : goal.returns-then-check_str
unfolding integer_at
returns-then-check_str c = simp (sym c.check_str.ensures ∙ c.if-check_str.true) (c.byte_as.ensures ∙ ap (byte_as c.args.width) c.byte_literal.ensures)

pub returns : goal.returns
unfolding integer_at
returns c = simp (sym c.check_str.ensures ∙ c.if-check_str.false) c.typed.ensures
