use mathlib.Core.Path.{◌∙◌, ap}
use lib.ListN.{get_or}
use borrow.Author.Tests.{eq-eqb, ne_eqb}
use Rattle.strings.specs.Pieces.{piece_of}
use Rattle.strings.specs.declared.pieces.Piece.TheVariants.{Plain}
use Rattle.text.proofs.Lists.{tail_part}
use Rattle.strings.proofs.pieces.next_piece.Goals as goal

pub returns-then-s-eq34 : goal.returns-then-s-eq34
unfolding piece_of
returns-then-s-eq34 c = simp (eq-eqb (get_or c.args.s.now 0 0) 0x22 c.if-s-eq34.true)

pub returns-then-s-eq92 : goal.returns-then-s-eq92
unfolding piece_of
returns-then-s-eq92 c = (simp tail_part at c.behind_backslash.ensures) ∙ simp (ne_eqb (get_or c.args.s.now 0 0) 0x22 c.if-s-eq34.false, eq-eqb (get_or c.args.s.now 0 0) 0x5C c.if-s-eq92.true)

pub returns : goal.returns
unfolding piece_of
returns c = ap Plain c.find_end.ensures ∙ simp (ne_eqb (get_or c.args.s.now 0 0) 0x22 c.if-s-eq34.false, ne_eqb (get_or c.args.s.now 0 0) 0x5C c.if-s-eq92.false)
