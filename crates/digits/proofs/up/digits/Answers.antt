use mathlib.Core.Path.{◌∙◌, sym}
use native.Mathlib.Omega.{arith}
use Rattle.digits.proofs.Laws.{from_end, from_next, from_not, from_over}
use Rattle.digits.proofs.up.digits.Goals as goal

pub returns-in-Over : goal.returns-in-Over
returns-in-Over c =
    let a = c.args in
    let l = c.loop-i in
    sym (l.invariant ∙ from_over a.limit a.base l.acc a.run.now l.i (omega arith) (sym c.turn.ensures ∙ c.in-Over.is))

pub returns-in-NotDigit : goal.returns-in-NotDigit
returns-in-NotDigit c =
    let a = c.args in
    let l = c.loop-i in
    sym (l.invariant ∙ from_not a.limit a.base l.acc a.run.now l.i (omega arith) (sym c.turn.ensures ∙ c.in-NotDigit.is))

pub loop-i-preserved : goal.loop-i-preserved
loop-i-preserved c =
    let a = c.args in
    let l = c.loop-i in
    l.invariant ∙ from_next a.limit a.base l.acc a.run.now l.i _ (omega arith) (sym c.turn.ensures ∙ c.in-Next.is)

pub returns : goal.returns
returns c =
    let a = c.args in
    let l = c.loop-i in
    sym (l.invariant ∙ from_end a.limit a.base l.acc a.run.now l.i (omega arith))
