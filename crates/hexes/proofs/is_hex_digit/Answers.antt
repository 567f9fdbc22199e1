use mathlib.Core.Path.{◌∙◌, refl}
use Rattle.hexes.proofs.HexLaws.{among_class, hex_above, hex_below}
use Rattle.text.specs.Classes.{digit, hex_digit, int_char, within}
use Rattle.hexes.proofs.is_hex_digit.Goals as goal

pub returns : goal.returns
unfolding hex_digit digit within int_char
returns c = c.is_among.ensures ∙ among_class 0x7e0000007e03ff hex_digit refl c.args.c (hex_below c.args.c) (hex_above c.args.c)
