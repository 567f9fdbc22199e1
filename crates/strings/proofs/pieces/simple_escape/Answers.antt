use native.Mathlib.Omega.{arith}
use mathlib.Core.Path.{◌∙◌}
use Rattle.strings.proofs.SimpleLaws.{no_backslash, nothing_behind, by_letter}
use Rattle.strings.proofs.pieces.simple_escape.Goals as goal

pub returns-then-s-at-ne92 : goal.returns-then-s-at-ne92
returns-then-s-at-ne92 c = no_backslash c.args.s.now c.args.at c.if-s-at-ne92.true

pub returns-then-s-at-lt2 : goal.returns-then-s-at-lt2
returns-then-s-at-lt2 c = nothing_behind c.args.s.now c.args.at (omega arith)

pub returns : goal.returns
returns c = c.is_simple.ensures ∙ by_letter c.args.s.now c.args.at c.if-s-at-ne92.false
