use mathlib.Core.Path.{◌∙◌, ap}
use Rattle.tokens.proofs.ShapeLaws.{token_by}
use Rattle.tokens.specs.declared.token.Token.TheVariants.{Number}
use Rattle.tokens.specs.declared.shape.Shape.TheVariants as shape
use Rattle.tokens.proofs.token.token_at.Goals as goal

pub returns-in-Mark : goal.returns-in-Mark
returns-in-Mark c = token_by _ _ _ _ _ (shape.Mark _) c.peek.ensures c.peek-2.ensures c.peek-3.ensures c.shape_of-shape.ensures c.in-Mark.is

pub returns-in-Attribute : goal.returns-in-Attribute
returns-in-Attribute c = c.read_attribute.ensures ∙ token_by _ _ _ _ _ shape.Attribute c.peek.ensures c.peek-2.ensures c.peek-3.ensures c.shape_of-shape.ensures c.in-Attribute.is

pub returns-in-Str : goal.returns-in-Str
returns-in-Str c = c.read_string.ensures ∙ token_by _ _ _ _ _ shape.Str c.peek.ensures c.peek-2.ensures c.peek-3.ensures c.shape_of-shape.ensures c.in-Str.is

pub returns-in-Char : goal.returns-in-Char
returns-in-Char c = c.read_char.ensures ∙ token_by _ _ _ _ _ shape.Char c.peek.ensures c.peek-2.ensures c.peek-3.ensures c.shape_of-shape.ensures c.in-Char.is

pub returns-in-Byte : goal.returns-in-Byte
returns-in-Byte c = c.read_byte.ensures ∙ token_by _ _ _ _ _ shape.Byte c.peek.ensures c.peek-2.ensures c.peek-3.ensures c.shape_of-shape.ensures c.in-Byte.is

pub returns-in-ByteStr : goal.returns-in-ByteStr
returns-in-ByteStr c = c.read_byte_string.ensures ∙ token_by _ _ _ _ _ shape.ByteStr c.peek.ensures c.peek-2.ensures c.peek-3.ensures c.shape_of-shape.ensures c.in-ByteStr.is

pub returns-in-Number : goal.returns-in-Number
returns-in-Number c = ap Number c.any_number.ensures ∙ token_by _ _ _ _ _ shape.Number c.peek.ensures c.peek-2.ensures c.peek-3.ensures c.shape_of-shape.ensures c.in-Number.is

pub returns-in-Word : goal.returns-in-Word
returns-in-Word c = c.read_word.ensures ∙ token_by _ _ _ _ _ shape.Word c.peek.ensures c.peek-2.ensures c.peek-3.ensures c.shape_of-shape.ensures c.in-Word.is
