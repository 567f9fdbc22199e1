use Prim.Native.Nat.{ℕ}
use native.Mathlib.Omega.{arith}
use mathlib.Core.Bool.{true≢false}
use mathlib.Core.List.{List}
use mathlib.Core.Path.{sym, ap, ◌∙◌}
use Rattle.integers.specs.declared.integer.Value.{Value}
use Rattle.lines.proofs.OutLaws.{put_behind}
use Rattle.lines.specs.Decimal.{decimal}
use Rattle.lines.specs.Out.{put}
use Rattle.show.proofs.SignLaws.{signed_minus, signed_plain}
use Rattle.show.proofs.integer.value.Goals as goal
use Rattle.show.proofs.integer.value.Goals.{then-v+else-v-gt0, else-v}

pub returns-then-v-gt0 : goal.returns-then-v-gt0
returns-then-v-gt0 c =
    let out : List ℕ × ℕ = (c.args.o.now, c.args.at) in
    let v : Value = c.args.v in
    put_behind out _ _ 45 (decimal v.magnitude) c.byte-a.ensures c.number.ensures
    ∙ ap (put out) (signed_minus v.minus v.magnitude c.if-v.true c.if-v-gt0.true)

pub returns : goal.returns
returns c =
    let out : List ℕ × ℕ = (c.args.o.now, c.args.at) in
    let v : Value = c.args.v in
    c.number-2.ensures ∙ ap (put out) (signed_plain v.minus v.magnitude (elim c.if-v.branch [
      | then-v+else-v-gt0 w ↦ λ minus some. omega (arith, w.if-v-gt0.false)
      | else-v w ↦ λ minus some. true≢false (sym minus ∙ w.if-v.false)
    ]))
