use mathlib.Core.Path.{sym, ◌∙◌}
use Rattle.opened.proofs.FrontLaws.{literal_bytes, literal_string}
use Rattle.opened.proofs.front.literal_front.Goals as goal

pub returns-then-peek-eq98 : goal.returns-then-peek-eq98
returns-then-peek-eq98 c = c.by_literal.ensures ∙ literal_bytes c.args.s.now _ (sym c.peek.ensures ∙ c.if-peek-eq98.true) c.byte_string_no_base64.ensures

pub returns : goal.returns
returns c = c.by_literal-2.ensures ∙ literal_string c.args.s.now _ (λ e. c.if-peek-eq98.false (c.peek.ensures ∙ e)) c.string.ensures
