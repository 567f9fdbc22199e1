use Rattle.std.proofs.Common.{Ok, Err}
use Prim.Native.Nat.{◌+◌}
use native.Mathlib.Omega.{arith}
use mathlib.Core.Bool.{Bool, cond}
use mathlib.Core.Path.{◌∙◌, ap, sym}
use Rattle.attributes.proofs.StepLaws.{end_in, end_out, stands_fits}
use Rattle.attributes.specs.Close.{no_end}
use Rattle.attributes.proofs.close.list_end.Goals as goal

pub returns-then-peek-ne93 : goal.returns-then-peek-ne93
returns-then-peek-ne93 c = ap Err c.expected_attribute_end.ensures ∙ end_out c.args.s.now c.args.at c.args.extensions _ c.peek.ensures c.args.all c.if-peek-ne93.true

pub overflow_add-end : goal.overflow_add-end
overflow_add-end c = omega (arith, stands_fits c.args.s.now c.args.at 0x5d _ c.peek.ensures (omega arith) c.if-peek-ne93.false)

pub returns-then-all : goal.returns-then-all
returns-then-all c = ap (λ (b : Bool). cond b (Ok (c.args.at + 1, c.args.extensions)) (no_end c.args.s.now (c.args.at + 1))) (sym c.if-all.true) ∙ end_in c.args.s.now c.args.at c.args.extensions _ c.peek.ensures c.args.all c.if-peek-ne93.false

pub returns : goal.returns
returns c = c.no_end.ensures ∙ ap (λ (b : Bool). cond b (Ok (c.args.at + 1, c.args.extensions)) (no_end c.args.s.now (c.args.at + 1))) (sym c.if-all.false) ∙ end_in c.args.s.now c.args.at c.args.extensions _ c.peek.ensures c.args.all c.if-peek-ne93.false
