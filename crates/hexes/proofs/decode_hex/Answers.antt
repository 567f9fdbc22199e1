use Rattle.std.proofs.Common.{Some}
use mathlib.Core.Path.{◌∙◌, ap, sym}
use Rattle.hexes.proofs.HexLaws.{hex_value}
use Rattle.hexes.proofs.decode_hex.Goals as goal

pub returns-then-not-is_hex_digit : goal.returns-then-not-is_hex_digit
returns-then-not-is_hex_digit c = rw (sym c.is_hex_digit.ensures ∙ c.if-not-is_hex_digit.true)

pub returns : goal.returns
returns c = let h = sym c.is_hex_digit.ensures ∙ c.if-not-is_hex_digit.false in rw h (ap Some (sym (hex_value c.args.c h)))
