use Rattle.std.proofs.Common.{Err}
use native.Mathlib.Omega.{arith}
use mathlib.Core.Path.{ap}
use Rattle.entries.proofs.LiteralLaws.{read_found, read_inside, refused_inside}
use Rattle.entries.proofs.view.contents_at.Goals as goal

pub returns-then-l : goal.returns-then-l
returns-then-l c = rw (read_found c.args.bytes c.args.text.now c.args.place _ _ c.read_named-read.ensures c.in-Ok.is, c.if-l.true) (ap Err c.holds_escape.ensures)

pub overflow_add-start : goal.overflow_add-start
overflow_add-start c = omega (arith, read_inside c.args.bytes c.args.text.now c.args.place c.requires _ (read_found c.args.bytes c.args.text.now c.args.place _ _ c.read_named-read.ensures c.in-Ok.is))

pub overflow_add-end : goal.overflow_add-end
overflow_add-end c = omega (arith, read_inside c.args.bytes c.args.text.now c.args.place c.requires _ (read_found c.args.bytes c.args.text.now c.args.place _ _ c.read_named-read.ensures c.in-Ok.is))

pub placed_behind-requires : goal.placed_behind-requires
placed_behind-requires c = omega (arith, refused_inside c.args.bytes c.args.text.now c.args.place c.requires _ (read_found c.args.bytes c.args.text.now c.args.place _ _ c.read_named-read.ensures c.in-Err.is))

pub returns-else-l : goal.returns-else-l
returns-else-l c = rw (read_found c.args.bytes c.args.text.now c.args.place _ _ c.read_named-read.ensures c.in-Ok.is, c.if-l.false)

pub returns-in-Err : goal.returns-in-Err
returns-in-Err c = rw (read_found c.args.bytes c.args.text.now c.args.place _ _ c.read_named-read.ensures c.in-Err.is) (ap Err c.placed_behind.ensures)
