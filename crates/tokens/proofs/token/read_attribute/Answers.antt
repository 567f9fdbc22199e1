use mathlib.Core.Path.{◌∙◌, ap, sym}
use Rattle.tokens.specs.Token.{of_attribute}
use Rattle.tokens.proofs.token.read_attribute.Goals as goal

pub returns-in-Ok : goal.returns-in-Ok
returns-in-Ok c = sym (ap (of_attribute) (sym c.attribute-found.ensures ∙ c.in-Ok.is))

pub returns-in-Err : goal.returns-in-Err
returns-in-Err c = sym (ap (of_attribute) (sym c.attribute-found.ensures ∙ c.in-Err.is))
