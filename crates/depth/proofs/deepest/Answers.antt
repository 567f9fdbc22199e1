use native.Mathlib.Omega.{arith}
use mathlib.Core.Path.{◌∙◌, ◌≡◌, ap}
use Rattle.rows.specs.declared.Entry.{Entry}
use Rattle.rows.specs.Rows.{entry_at}
use Rattle.grammar.specs.declared.kinds.Side.{Side}
use Rattle.grammar.specs.Kinds.{kind_of, side_of}
use Rattle.grammar.specs.Refused.{open_behind}
use Rattle.depth.proofs.DepthLaws.{deep_starts, deep_turns, deep_ends}
use borrow.Author.Rules.{rules}
use Rattle.depth.proofs.deepest.Goals as goal

pub loop-i-init : goal.loop-i-init
loop-i-init c = (search rules, deep_starts c.args.tape.now c.args.count)

pub loop-i-preserved : goal.loop-i-preserved
loop-i-preserved c =
    let kind : c.kind_of-kind.result ≡ kind_of (entry_at c.args.tape.now c.loop-i.i).kind =
    c.kind_of-kind.ensures ∙ ap (λ (x : Entry). kind_of x.kind) c.entry.ensures in
    let side : c.side_of.result ≡ side_of (kind_of (entry_at c.args.tape.now c.loop-i.i).kind) = c.side_of.ensures ∙ ap side_of kind in
    (search rules, deep_turns c.args.tape.now c.args.count c.loop-i.deep c.loop-i.most c.loop-i.i c.loop-i.invariant.1 (omega arith) c.open_behind-deep.result c.max-most.result (c.open_behind-deep.ensures ∙ ap (λ (x : Side). open_behind x c.loop-i.deep) side) c.max-most.ensures)

pub returns : goal.returns
returns c = deep_ends c.args.tape.now c.args.count c.loop-i.deep c.loop-i.most c.loop-i.i c.loop-i.invariant.1 (omega arith)
