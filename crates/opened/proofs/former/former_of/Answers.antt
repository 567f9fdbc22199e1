use native.Mathlib.Omega.{arith}
use mathlib.Core.Path.{sym, ◌∙◌}
use Rattle.opened.proofs.FormerLaws.{search_starts, search_stops, search_opens, search_closes, search_found, search_passes, search_ends}
use Rattle.opened.proofs.former.former_of.Goals as goal

pub loop-i-init : goal.loop-i-init
loop-i-init c = (omega arith, search_starts c.args.text.now c.args.tape.now c.args.n)

pub returns-then-closed-eq0 : goal.returns-then-closed-eq0
returns-then-closed-eq0 c = search_stops c.args.text.now c.args.tape.now c.args.n c.loop-i.i c.loop-i.closed _ c.loop-i.invariant.1 (omega arith) (sym c.side_at-side.ensures ∙ c.in-Opens.is) c.if-closed-eq0.true

pub loop-i-preserved-in-Opens : goal.loop-i-preserved-in-Opens
loop-i-preserved-in-Opens c = (omega arith, search_opens c.args.text.now c.args.tape.now c.args.n c.loop-i.i c.loop-i.closed _ c.loop-i.invariant.1 (omega arith) (sym c.side_at-side.ensures ∙ c.in-Opens.is) c.if-closed-eq0.false)

pub loop-i-preserved-in-Closes : goal.loop-i-preserved-in-Closes
loop-i-preserved-in-Closes c = (omega arith, search_closes c.args.text.now c.args.tape.now c.args.n c.loop-i.i c.loop-i.closed _ c.loop-i.invariant.1 (omega arith) (sym c.side_at-side.ensures ∙ c.in-Closes.is))

pub returns-then-is_former : goal.returns-then-is_former
returns-then-is_former c = search_found c.args.text.now c.args.tape.now c.args.n c.loop-i.i c.loop-i.closed _ c.loop-i.invariant.1 (omega arith) (sym c.side_at-side.ensures ∙ c.in-Neither.is) (sym c.is_former.ensures ∙ c.if-is_former.true)

pub loop-i-preserved : goal.loop-i-preserved
loop-i-preserved c = (omega arith, search_passes c.args.text.now c.args.tape.now c.args.n c.loop-i.i c.loop-i.closed _ c.loop-i.invariant.1 (omega arith) (sym c.side_at-side.ensures ∙ c.in-Neither.is) (sym c.is_former.ensures ∙ c.if-is_former.false))

pub returns : goal.returns
returns c = sym (search_ends c.args.text.now c.args.tape.now c.args.n c.loop-i.i c.loop-i.closed (omega arith)) ∙ c.loop-i.invariant.1
