use Rattle.pieces.proofs.LastLaws.{cut_given}
use Prim.Native.Nat.{◌+◌, ◌-◌}
use Rattle.pieces.specs.declared.state.Ended.TheVariants as ended
use Rattle.pieces.specs.Ends.{ending_of}
use Rattle.pieces.proofs.LastLaws.{Lies, ending_by, passed_lies, same_answers, unexpected_given, within_given}
use Rattle.pieces.proofs.OrderLaws.{numbers, open_level}
use Rattle.gaps.specs.declared.pass.Passed.TheVariants.{Begins, Within, Unexpected}
use Rattle.rows.specs.Rows.{room_of}
use lib.ListN.{length}
use mathlib.Core.Path.{◌≡◌, ap, subst, sym, ◌∙◌}
use native.Mathlib.Omega.{arith}
use Rattle.pieces.proofs.finish.rest.Goals as goal

pub overflow_sub-state : goal.overflow_sub-state
overflow_sub-state c = let n = numbers c.args.state c.requires.order in omega (arith, n.part, n.former)

pub returns-then-state-gt0 : goal.returns-then-state-gt0
returns-then-state-gt0 c =
    let a = c.args in
    let w = cut_given (room_of (length a.tape.now)) a.tape.now a.state a.s.now c.if-state-gt0.true in
    (ap (ended.Stopped 0) c.not_utf8.ensures ∙ w.0, w.1)

pub pass_gap-passed-requires : goal.pass_gap-passed-requires
pass_gap-passed-requires c =
    let p = c.requires in
    let n = numbers c.args.state p.order in
    omega (arith, open_level c.args.state.gap c.args.state.taken n.opened, n.short, p.all, n.held)

pub last_entries-requires : goal.last_entries-requires
last_entries-requires c =
    let s = c.args.s.now in
    let p = c.requires in
    record { order = p.order; unrefused = p.unrefused; all = p.all; inside = subst (Lies (length s)) (sym c.pass_gap-passed.ensures ∙ c.in-Begins.is) (passed_lies c.args.state.gap s) }

pub overflow_sub-state-in-Unexpected : goal.overflow_sub-state-in-Unexpected
overflow_sub-state-in-Unexpected c = omega (arith, (numbers c.args.state c.requires.order).former)

pub overflow_add-state : goal.overflow_add-state
overflow_add-state c =
    let s = c.args.s.now in
    let p = c.requires in
    let n = numbers c.args.state p.order in
    omega (arith, subst (Lies (length s)) (sym c.pass_gap-passed.ensures ∙ c.in-Unexpected.is) (passed_lies c.args.state.gap s), n.short, n.held, p.all)

pub returns-in-Begins : goal.returns-in-Begins
returns-in-Begins c =
    let a = c.args in
    same_answers _ a.tape.now (ending_of a.state a.s.now) _ _ _ (ending_by a.state a.s.now (Begins c.in-Begins.k) (omega (arith, c.if-state-gt0.false)) (sym c.pass_gap-passed.ensures ∙ c.in-Begins.is)) c.last_entries.ensures

pub returns-in-Within : goal.returns-in-Within
returns-in-Within c =
    let a = c.args in
    let p = c.requires in
    let n = numbers a.state p.order in
    let o = c.in-Within.o in
    let z : a.state.taken - a.state.kept + length a.s.now ≡ a.state.taken = omega (arith, p.all, n.former) in
    let w = same_answers (room_of (length a.tape.now)) a.tape.now (ending_of a.state a.s.now) _ _ a.tape.now (ending_by a.state a.s.now (Within o) (omega (arith, c.if-state-gt0.false)) (sym c.pass_gap-passed.ensures ∙ c.in-Within.is))
    (within_given _ a.tape.now a.state a.s.now a.state.taken z o) in
    (c.ends_in.ensures ∙ w.0, w.1)

pub returns-in-Unexpected : goal.returns-in-Unexpected
returns-in-Unexpected c =
    let a = c.args in
    let q = c.in-Unexpected.p in
    let w = same_answers (room_of (length a.tape.now)) a.tape.now (ending_of a.state a.s.now) _ _ a.tape.now (ending_by a.state a.s.now (Unexpected q) (omega (arith, c.if-state-gt0.false)) (sym c.pass_gap-passed.ensures ∙ c.in-Unexpected.is))
    (unexpected_given _ a.tape.now a.state q) in
    (ap (ended.Stopped 0) c.unexpected_char.ensures ∙ w.0, w.1)
