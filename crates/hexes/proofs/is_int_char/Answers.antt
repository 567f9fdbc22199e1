use native.Mathlib.Omega.{arith}
use mathlib.Core.Path.{◌∙◌, refl}
use borrow.Author.Tests.{ne_eqb}
use Rattle.hexes.proofs.HexLaws.{among_class, hex_above, hex_below}
use Rattle.text.specs.Classes.{digit, hex_digit, int_char, within}
use Rattle.hexes.proofs.is_int_char.Goals as goal

pub returns : goal.returns
unfolding hex_digit digit within int_char
returns c = c.is_among.ensures ∙ among_class 0x7e8000007e03ff int_char refl c.args.c
    (λ l. simp (hex_below c.args.c l, ne_eqb c.args.c 0x5f (λ e. omega arith)))
    (λ l. simp (hex_above c.args.c l, ne_eqb c.args.c 0x5f (λ e. omega arith)))
