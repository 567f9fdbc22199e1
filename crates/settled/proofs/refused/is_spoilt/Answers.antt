use mathlib.Core.Path.{◌∙◌, ap, sym}
use Rattle.settled.proofs.CodeLaws.{spoilt_nothing, spoilt_read, spoilt_refused}
use Rattle.tokens.specs.Lexemes.{lexeme_of}
use Rattle.settled.proofs.refused.is_spoilt.Goals as goal

pub returns-then-starts_nothing : goal.returns-then-starts_nothing
returns-then-starts_nothing c = sym (spoilt_nothing c.args.p.now (sym c.starts_nothing.ensures ∙ c.if-starts_nothing.true))

pub returns-in-Ok : goal.returns-in-Ok
returns-in-Ok c = sym (spoilt_read c.args.p.now _ (sym (c.lexeme_of-found.ensures ∙ ap lexeme_of c.token_at.ensures) ∙ c.in-Ok.is))

pub returns-else-starts_nothing : goal.returns-else-starts_nothing
returns-else-starts_nothing c = c.stays.ensures ∙ sym (spoilt_refused c.args.p.now _ (sym c.starts_nothing.ensures ∙ c.if-starts_nothing.false) (sym (c.lexeme_of-found.ensures ∙ ap lexeme_of c.token_at.ensures) ∙ c.in-Err.is))
