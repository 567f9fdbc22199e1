use Prim.Native.Nat.{◌-◌, ◌<◌}
use native.Mathlib.Omega.{arith}
use mathlib.Core.Path.{◌∙◌, ap, sym}
use lib.ListN.{length-set, get_or}
use borrow.Author.Rules.{rules}
use Rattle.rows.specs.declared.Entry.{Entry}
use Rattle.grammar.specs.Kinds.{kind_of}
use Rattle.walk.proofs.JoinLaws.{joins_end, open-fits, join_opens, close_fits, join_closes, join_passes}
use Rattle.walk.proofs.joining.join.Goals as goal

pub bounds-open-depth : goal.bounds-open-depth
bounds-open-depth c =
    let opens_fit : c.loop-i.depth < 128 = open-fits c.args.tape.now c.args.count c.args.links.now c.loop-i.«open» c.loop-i.depth c.loop-i.i c.loop-i.links c.loop-i.invariant.4 (kind_of c.entry.result.kind) (omega arith) (ap (λ (x : Entry). kind_of x.kind) c.entry.ensures) (sym c.side_at.ensures ∙ c.in-Opens.is) in
    omega (arith, opens_fit)

pub loop-i-preserved-in-Opens : goal.loop-i-preserved-in-Opens
loop-i-preserved-in-Opens c =
    let opens_fit : c.loop-i.depth < 128 = open-fits c.args.tape.now c.args.count c.args.links.now c.loop-i.«open» c.loop-i.depth c.loop-i.i c.loop-i.links c.loop-i.invariant.4 (kind_of c.entry.result.kind) (omega arith) (ap (λ (x : Entry). kind_of x.kind) c.entry.ensures) (sym c.side_at.ensures ∙ c.in-Opens.is) in
    (search rules, omega (arith, opens_fit), length-set c.loop-i.links c.loop-i.i c.loop-i.i ∙ c.loop-i.invariant.2, length-set c.loop-i.«open» c.loop-i.depth c.loop-i.i ∙ c.loop-i.invariant.3, join_opens c.args.tape.now c.args.count c.args.links.now c.loop-i.«open» c.loop-i.depth c.loop-i.i c.loop-i.links c.loop-i.invariant.4 (kind_of c.entry.result.kind) (omega arith) (ap (λ (x : Entry). kind_of x.kind) c.entry.ensures) (sym c.side_at.ensures ∙ c.in-Opens.is) c.loop-i.invariant.3)

pub overflow_sub-depth : goal.overflow_sub-depth
overflow_sub-depth c =
    let closes_fit : (0 < c.loop-i.depth) × (get_or c.loop-i.«open» (c.loop-i.depth - 1) 0 < c.loop-i.i) = close_fits c.args.tape.now c.args.count c.args.links.now c.loop-i.«open» c.loop-i.depth c.loop-i.i c.loop-i.links c.loop-i.invariant.4 (kind_of c.entry.result.kind) (omega arith) (ap (λ (x : Entry). kind_of x.kind) c.entry.ensures) (sym c.side_at.ensures ∙ c.in-Closes.is) in
    omega (arith, (closes_fit).0, (closes_fit).1)

pub overflow_cast-links-in-Closes : goal.overflow_cast-links-in-Closes
overflow_cast-links-in-Closes c =
    let closes_fit : (0 < c.loop-i.depth) × (get_or c.loop-i.«open» (c.loop-i.depth - 1) 0 < c.loop-i.i) = close_fits c.args.tape.now c.args.count c.args.links.now c.loop-i.«open» c.loop-i.depth c.loop-i.i c.loop-i.links c.loop-i.invariant.4 (kind_of c.entry.result.kind) (omega arith) (ap (λ (x : Entry). kind_of x.kind) c.entry.ensures) (sym c.side_at.ensures ∙ c.in-Closes.is) in
    omega (arith, (closes_fit).0, (closes_fit).1)

pub offset_bounds-links-j : goal.offset_bounds-links-j
offset_bounds-links-j c =
    let closes_fit : (0 < c.loop-i.depth) × (get_or c.loop-i.«open» (c.loop-i.depth - 1) 0 < c.loop-i.i) = close_fits c.args.tape.now c.args.count c.args.links.now c.loop-i.«open» c.loop-i.depth c.loop-i.i c.loop-i.links c.loop-i.invariant.4 (kind_of c.entry.result.kind) (omega arith) (ap (λ (x : Entry). kind_of x.kind) c.entry.ensures) (sym c.side_at.ensures ∙ c.in-Closes.is) in
    omega (arith, (closes_fit).0, (closes_fit).1)

pub bounds-links-j : goal.bounds-links-j
bounds-links-j c =
    let closes_fit : (0 < c.loop-i.depth) × (get_or c.loop-i.«open» (c.loop-i.depth - 1) 0 < c.loop-i.i) = close_fits c.args.tape.now c.args.count c.args.links.now c.loop-i.«open» c.loop-i.depth c.loop-i.i c.loop-i.links c.loop-i.invariant.4 (kind_of c.entry.result.kind) (omega arith) (ap (λ (x : Entry). kind_of x.kind) c.entry.ensures) (sym c.side_at.ensures ∙ c.in-Closes.is) in
    simp length-set (omega (arith, (closes_fit).0, (closes_fit).1))

pub loop-i-preserved-in-Closes : goal.loop-i-preserved-in-Closes
loop-i-preserved-in-Closes c = (search rules, omega arith, simp length-set c.loop-i.invariant.2, c.loop-i.invariant.3, join_closes c.args.tape.now c.args.count c.args.links.now c.loop-i.«open» c.loop-i.depth c.loop-i.i c.loop-i.links c.loop-i.invariant.4 (kind_of c.entry.result.kind) (omega arith) (ap (λ (x : Entry). kind_of x.kind) c.entry.ensures) (sym c.side_at.ensures ∙ c.in-Closes.is))

pub loop-i-preserved : goal.loop-i-preserved
loop-i-preserved c = (search rules, search rules, length-set c.loop-i.links c.loop-i.i c.loop-i.i ∙ c.loop-i.invariant.2, c.loop-i.invariant.3, join_passes c.args.tape.now c.args.count c.args.links.now c.loop-i.«open» c.loop-i.depth c.loop-i.i c.loop-i.links c.loop-i.invariant.4 (kind_of c.entry.result.kind) (omega arith) (ap (λ (x : Entry). kind_of x.kind) c.entry.ensures) (sym c.side_at.ensures ∙ c.in-Neither.is))

pub returns : goal.returns
returns c = joins_end c.args.tape.now c.args.count c.args.links.now c.loop-i.«open» c.loop-i.depth c.loop-i.i c.loop-i.links c.loop-i.invariant.4 (omega arith)
