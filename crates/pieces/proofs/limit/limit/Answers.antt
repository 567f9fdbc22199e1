use lib.ListN.{length}
use Prim.Native.Nat.{◌+◌, ◌≤◌}
use Rattle.pieces.proofs.LimitLaws.{bad_begins, cut_inside, limit_bad, limit_inside, limit_long}
use native.Mathlib.Omega.{arith}
use borrow.Author.Rules.{rules}
use Rattle.pieces.proofs.limit.limit.Goals as goal

pub overflow_add-end : goal.overflow_add-end
overflow_add-end c =
    let a = c.args in
    omega (arith, limit_inside a.s.now a.taken a.kept a.part _ _ _ c.allowed-all.ensures c.bad_at-bad.ensures c.sooner-m.ensures (omega arith) (omega arith))

pub slice_bounds-allowed-end-2 : goal.slice_bounds-allowed-end-2
slice_bounds-allowed-end-2 c =
    let a = c.args in
    let h : a.kept + c.sooner-m.result ≤ length a.s.now = limit_inside a.s.now a.taken a.kept a.part _ _ _ c.allowed-all.ensures c.bad_at-bad.ensures c.sooner-m.ensures (omega arith) (omega arith) in
    search rules

pub overflow_sub-whole : goal.overflow_sub-whole
overflow_sub-whole c =
    let a = c.args in
    cut_inside a.s.now a.taken a.kept a.part _ _ _ c.allowed-all.ensures c.bad_at-bad.ensures c.sooner-m.ensures _ _ c.allowed.ensures c.cut_off-cut.ensures

pub returns-then-left-bad : goal.returns-then-left-bad
returns-then-left-bad c =
    let a = c.args in
    limit_long a.s.now a.taken a.kept a.part _ _ _ c.allowed-all.ensures c.bad_at-bad.ensures c.sooner-m.ensures _ _ c.allowed.ensures c.cut_off-cut.ensures
    c.too_long.result c.too_long.ensures c.if-left-bad.true

pub overflow_add-from : goal.overflow_add-from
overflow_add-from c =
    let a = c.args in
    omega (arith, bad_begins a.s.now a.taken a.kept a.part _ _ _ c.allowed-all.ensures c.bad_at-bad.ensures c.sooner-m.ensures c.bad_from.result c.bad_from.ensures, c.if-left-bad.false)

pub returns : goal.returns
returns c =
    let a = c.args in
    limit_bad a.s.now a.taken a.kept a.part _ _ _ c.allowed-all.ensures c.bad_at-bad.ensures c.sooner-m.ensures _ _ c.allowed.ensures c.cut_off-cut.ensures
    c.not_utf8.result c.bad_from.result c.bad_from.ensures c.not_utf8.ensures c.if-left-bad.false
