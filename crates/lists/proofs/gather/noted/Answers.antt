use native.Mathlib.Omega.{arith}
use mathlib.Core.Path.{ap, sym, ◌∙◌}
use Rattle.rows.specs.Rows.{entry_at}
use Rattle.rows.specs.declared.Entry.{Entry}
use Rattle.lists.proofs.GatherLaws.{noted_full, noted_other, noted_in}
use Rattle.lists.proofs.gather.noted.Goals as goal

pub returns-then-list-k : goal.returns-then-list-k
returns-then-list-k c = noted_full (entry_at c.args.tape.now c.args.i) c.args.i c.args.list.now c.args.k (omega arith)

pub returns-then-e-ne-INTEGER : goal.returns-then-e-ne-INTEGER
returns-then-e-ne-INTEGER c = noted_other (entry_at c.args.tape.now c.args.i) c.args.i c.args.list.now c.args.k (omega arith) (λ q. c.if-e-ne-INTEGER.true (ap (λ (e : Entry). e.kind) c.entry-e.ensures ∙ q))

pub returns : goal.returns
returns c = noted_in (entry_at c.args.tape.now c.args.i) c.args.i c.args.list.now c.args.k (omega arith) (sym (ap (λ (e : Entry). e.kind) c.entry-e.ensures) ∙ c.if-e-ne-INTEGER.false)
