use mathlib.Core.Path.{◌∙◌, ap, sym}
use Rattle.gaps.proofs.PassLaws.{slash_none, slash_told_block, slash_told_line, slash_told_odd}
use Rattle.gaps.specs.declared.pass.Passed.TheVariants as passed
use borrow.Author.Rules.{rules}
use Rattle.gaps.proofs.pass.behind_slash.Goals as goal

pub returns-then-s-eq0 : goal.returns-then-s-eq0
returns-then-s-eq0 c = sym (slash_none _ c.if-s-eq0.true)

pub returns-then-b-eq47 : goal.returns-then-b-eq47
returns-then-b-eq47 c = c.from_line.ensures ∙ sym (slash_told_line _ (search rules) c.if-b-eq47.true)

pub returns-then-b-eq42 : goal.returns-then-b-eq42
returns-then-b-eq42 c = c.from_block.ensures ∙ sym (slash_told_block _ (search rules) c.if-b-eq42.true)

pub returns : goal.returns
returns c = ap passed.Unexpected c.char_len.ensures ∙ sym (slash_told_odd _ (search rules) c.if-b-eq47.false c.if-b-eq42.false)
