use mathlib.Core.Path.{◌∙◌, ap, sym}
use Rattle.tokens.specs.Lexemes.{lexeme, number_lexeme}
use Rattle.tokens.proofs.lexeme.number_lexeme.Goals as goal

pub returns-in-Int : goal.returns-in-Int
returns-in-Int c = c.read.ensures ∙ ap (lexeme _ 11) c.code_of-code.ensures ∙ sym (ap number_lexeme c.in-Int.is)

pub returns-in-Float : goal.returns-in-Float
returns-in-Float c = c.read-in-Float.ensures ∙ sym (ap number_lexeme c.in-Float.is)

pub returns-in-Refused : goal.returns-in-Refused
returns-in-Refused c = sym (ap number_lexeme c.in-Refused.is)
