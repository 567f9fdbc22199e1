use native.Mathlib.Omega.{arith}
use mathlib.Core.Path.{refl}
use lib.ListN.{drop, length-drop}
use borrow.Author.Tests.{eq-eqb, ne_eqb}
use Rattle.names.proofs.CharLaws.{chars_le}
use Rattle.names.specs.Characters.{chars}
use Rattle.names.specs.Identifiers.{raw_of}
use Rattle.text.specs.Classes.{ident_raw}
use Rattle.text.proofs.Lists.{on_part}
use Rattle.names.proofs.identifiers.raw.Goals as goal

pub overflow_add-end : goal.overflow_add-end
overflow_add-end c = omega (arith, on_part (chars ident_raw) c.args.s.now 2 c.next_chars_while_len-n.result _ c.next_chars_while_len-n.ensures refl, chars_le ident_raw (drop 2 c.args.s.now), length-drop 2 c.args.s.now)

pub returns-then-n-eq0 : goal.returns-then-n-eq0
unfolding raw_of
returns-then-n-eq0 c = simp (on_part (chars ident_raw) c.args.s.now 2 c.next_chars_while_len-n.result _ c.next_chars_while_len-n.ensures refl, eq-eqb _ _ c.if-n-eq0.true)

pub returns : goal.returns
unfolding raw_of
returns c = simp (on_part (chars ident_raw) c.args.s.now 2 c.next_chars_while_len-n.result _ c.next_chars_while_len-n.ensures refl, ne_eqb _ _ c.if-n-eq0.false)
