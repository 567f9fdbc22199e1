use native.Mathlib.Omega.{arith}
use mathlib.Core.Path.{◌∙◌, ap}
use Rattle.repair.proofs.Rows.{end_none, end_row}
use Rattle.rows.specs.declared.Entry.{Entry}
use Rattle.repair.proofs.seeking.resume_at.Goals as goal

pub returns-then-j-eq0 : goal.returns-then-j-eq0
returns-then-j-eq0 c = end_none c.args.j c.args.tape.now c.if-j-eq0.true

pub returns : goal.returns
returns c = c.wide.ensures ∙ ap (λ (x : Entry). x.end) c.entry-last.ensures ∙ end_row c.args.j c.args.tape.now (omega (arith, c.if-j-eq0.false))
