use mathlib.Core.Path.{◌∙◌, ap, sym}
use Rattle.tokens.specs.Lexemes.{lexeme_of}
use Rattle.tokens.proofs.lexeme.lexeme_of.Goals as goal

pub returns-in-Mark : goal.returns-in-Mark
returns-in-Mark c = c.read.ensures ∙ sym (ap lexeme_of c.in-Mark.is)

pub returns-in-Name : goal.returns-in-Name
returns-in-Name c = c.read-in-Name.ensures ∙ sym (ap lexeme_of c.in-Name.is)

pub returns-in-RawName : goal.returns-in-RawName
returns-in-RawName c = c.read-in-RawName.ensures ∙ sym (ap lexeme_of c.in-RawName.is)

pub returns-in-Char : goal.returns-in-Char
returns-in-Char c = c.read-in-Char.ensures ∙ sym (ap lexeme_of c.in-Char.is)

pub returns-in-Str : goal.returns-in-Str
returns-in-Str c = c.read-in-Str.ensures ∙ sym (ap lexeme_of c.in-Str.is)

pub returns-in-ByteStr : goal.returns-in-ByteStr
returns-in-ByteStr c = c.read-in-ByteStr.ensures ∙ sym (ap lexeme_of c.in-ByteStr.is)

pub returns-in-Attribute : goal.returns-in-Attribute
returns-in-Attribute c = c.read-in-Attribute.ensures ∙ sym (ap lexeme_of c.in-Attribute.is)

pub returns-in-Refused : goal.returns-in-Refused
returns-in-Refused c = sym (ap lexeme_of c.in-Refused.is)
