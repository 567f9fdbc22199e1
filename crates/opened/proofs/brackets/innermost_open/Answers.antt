use Prim.Native.Nat.{ℕ, suc, ◌+◌, ◌-◌}
use native.Mathlib.Omega.{arith}
use mathlib.Core.Path.{◌≡◌, sym, ◌∙◌}
use Rattle.opened.proofs.BracketLaws.{search_starts, search_found, search_opens, search_closes, search_neither, search_ends}
use Rattle.opened.proofs.brackets.innermost_open.Goals as goal

pub loop-i-init : goal.loop-i-init
loop-i-init c = (omega arith, search_starts c.args.tape.now c.args.n)

pub returns-then-closed-eq0 : goal.returns-then-closed-eq0
returns-then-closed-eq0 c =
    let i : ℕ = c.loop-i.i in
    let z : i ≡ suc (i - 1) = omega arith in
    sym (search_found c.args.tape.now i (i - 1) c.loop-i.closed z (sym c.side_at-side.ensures ∙ c.in-Opens.is) c.if-closed-eq0.true) ∙ c.loop-i.invariant.1

pub loop-i-preserved-in-Opens : goal.loop-i-preserved-in-Opens
loop-i-preserved-in-Opens c =
    let i : ℕ = c.loop-i.i in
    let k : ℕ = c.loop-i.closed in
    let z : i ≡ suc (i - 1) = omega arith in
    let less : k ≡ suc (k - 1) = omega arith in
    (omega arith, sym (search_opens c.args.tape.now i (i - 1) k z (k - 1) (sym c.side_at-side.ensures ∙ c.in-Opens.is) less) ∙ c.loop-i.invariant.1)

pub loop-i-preserved-in-Closes : goal.loop-i-preserved-in-Closes
loop-i-preserved-in-Closes c =
    let i : ℕ = c.loop-i.i in
    let k : ℕ = c.loop-i.closed in
    let z : i ≡ suc (i - 1) = omega arith in
    let more : k + 1 ≡ suc k = omega arith in
    (omega arith, sym (search_closes c.args.tape.now i (i - 1) k z (k + 1) (sym c.side_at-side.ensures ∙ c.in-Closes.is) more) ∙ c.loop-i.invariant.1)

pub loop-i-preserved : goal.loop-i-preserved
loop-i-preserved c =
    let i : ℕ = c.loop-i.i in
    let z : i ≡ suc (i - 1) = omega arith in
    (omega arith, sym (search_neither c.args.tape.now i (i - 1) c.loop-i.closed z (sym c.side_at-side.ensures ∙ c.in-Neither.is)) ∙ c.loop-i.invariant.1)

pub returns : goal.returns
returns c = sym (search_ends c.args.tape.now c.loop-i.i c.loop-i.closed (omega arith)) ∙ c.loop-i.invariant.1
