use mathlib.Core.Path.{◌∙◌, ap, sym}
use Rattle.tokens.specs.Token.{of_word}
use Rattle.tokens.proofs.token.read_word.Goals as goal

pub returns-in-Plain : goal.returns-in-Plain
returns-in-Plain c = sym (ap (of_word) (sym c.word-found.ensures ∙ c.in-Plain.is))

pub returns-in-Raw : goal.returns-in-Raw
returns-in-Raw c = sym (ap (of_word) (sym c.word-found.ensures ∙ c.in-Raw.is))

pub returns-in-Float : goal.returns-in-Float
returns-in-Float c = sym (ap (of_word) (sym c.word-found.ensures ∙ c.in-Float.is))

pub returns-in-Refused : goal.returns-in-Refused
returns-in-Refused c = sym (ap (of_word) (sym c.word-found.ensures ∙ c.in-Refused.is))
