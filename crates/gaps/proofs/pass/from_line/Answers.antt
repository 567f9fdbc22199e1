use mathlib.Core.Path.{◌∙◌, sym}
use Rattle.gaps.proofs.PassLaws.{line_found_at, line_none_at}
use Rattle.gaps.proofs.pass.from_line.Goals as goal

pub returns-then-i-s : goal.returns-then-i-s
returns-then-i-s c = c.from_clear.ensures ∙ sym (line_found_at _ _ _ c.find-i.ensures c.if-i-s.true)

pub returns : goal.returns
returns c = sym (line_none_at _ _ _ c.find-i.ensures c.if-i-s.false)
