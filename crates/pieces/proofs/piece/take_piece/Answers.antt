use Prim.Native.Nat.{◌+◌}
use native.Mathlib.Omega.{arith}
use mathlib.Core.Path.{sym}
use lib.Seq.{length-take-le}
use Rattle.pieces.proofs.AnswerLaws.{found, given_there, kept_inside, limited, no-room, stopped_there}
use Rattle.pieces.proofs.TakenLaws.{open_more, ordered}
use Rattle.pieces.proofs.piece.take_piece.Goals as goal

pub slice_bounds-limit-end-2 : goal.slice_bounds-limit-end-2
slice_bounds-limit-end-2 c =
    let a = c.args in
    sym (length-take-le (a.state.kept + a.n) a.buffer.now c.requires.there)

pub limit-most-requires : goal.limit-most-requires
limit-most-requires c =
    let a = c.args in
    let o = ordered a.state c.requires.order in
    (o.part_kept, omega (arith, o.behind), o.few, omega (arith, length-take-le (a.state.kept + a.n) a.buffer.now c.requires.there))

pub slice_bounds-come-end : goal.slice_bounds-come-end
slice_bounds-come-end c =
    let a = c.args in
    let l = limited a.state a.buffer.now a.n c.requires c.limit-most.result c.limit-most.ensures in
    l.inside

pub slice_bounds-come-end-2 : goal.slice_bounds-come-end-2
slice_bounds-come-end-2 c =
    let a = c.args in
    let l = limited a.state a.buffer.now a.n c.requires c.limit-most.result c.limit-most.ensures in
    sym l.long

pub come-came-requires : goal.come-came-requires
come-came-requires c =
    let a = c.args in
    let l = limited a.state a.buffer.now a.n c.requires c.limit-most.result c.limit-most.ensures in
    let o = ordered a.state c.requires.order in (
      omega (arith, l.whole_inside, l.long),
      omega (arith, l.held, l.long),
      omega (arith, l.small, l.long, o.behind),
      open_more a.state.gap a.state.taken 65536 o.few o.opened,
      l.cut,
    )

pub returns-then-room-count : goal.returns-then-room-count
returns-then-room-count c =
    let a = c.args in
    let f = found a.state a.buffer.now a.n c.requires c.limit-most.result c.limit-most.ensures c.come-came.result c.come-came.ensures in
    no-room a.state a.buffer.now a.n c.limit-most.result c.come-came.result f a.tape.now (omega (arith, c.if-room-count.true, c.room.ensures)) c.no_room.result c.no_room.ensures

pub overflow_sub-base : goal.overflow_sub-base
overflow_sub-base c =
    let a = c.args in
    let o = ordered a.state c.requires.order in
    omega (arith, o.behind)

pub slice_bounds-lay-end : goal.slice_bounds-lay-end
slice_bounds-lay-end c =
    let a = c.args in
    let l = limited a.state a.buffer.now a.n c.requires c.limit-most.result c.limit-most.ensures in
    l.inside

pub slice_bounds-lay-end-2 : goal.slice_bounds-lay-end-2
slice_bounds-lay-end-2 c =
    let a = c.args in
    let l = limited a.state a.buffer.now a.n c.requires c.limit-most.result c.limit-most.ensures in
    sym l.long

pub lay-requires : goal.lay-requires
lay-requires c =
    let a = c.args in
    let l = limited a.state a.buffer.now a.n c.requires c.limit-most.result c.limit-most.ensures in
    let o = ordered a.state c.requires.order in
    let f = found a.state a.buffer.now a.n c.requires c.limit-most.result c.limit-most.ensures c.come-came.result c.come-came.ensures in (
      omega (arith, l.small, l.long, o.behind),
      omega (arith, f.from_in, l.long),
      omega (arith, c.if-room-count.false, c.room.ensures),
      f.many,
      omega (arith, o.behind),
      omega (arith, o.few),
    )

pub stop-refusal-requires : goal.stop-refusal-requires
stop-refusal-requires c =
    let a = c.args in
    let f = found a.state a.buffer.now a.n c.requires c.limit-most.result c.limit-most.ensures c.come-came.result c.come-came.ensures in
    f.fits

pub overflow_add-base : goal.overflow_add-base
overflow_add-base c =
    let a = c.args in
    let l = limited a.state a.buffer.now a.n c.requires c.limit-most.result c.limit-most.ensures in
    let f = found a.state a.buffer.now a.n c.requires c.limit-most.result c.limit-most.ensures c.come-came.result c.come-came.ensures in
    omega (arith, f.end_in, l.small)

pub overflow_add-base-then-refusal-ne0 : goal.overflow_add-base-then-refusal-ne0
overflow_add-base-then-refusal-ne0 c =
    let a = c.args in
    let l = limited a.state a.buffer.now a.n c.requires c.limit-most.result c.limit-most.ensures in
    let f = found a.state a.buffer.now a.n c.requires c.limit-most.result c.limit-most.ensures c.come-came.result c.come-came.ensures in
    omega (arith, f.bytes_in, l.small)

pub returns-then-refusal-ne0 : goal.returns-then-refusal-ne0
returns-then-refusal-ne0 c =
    let a = c.args in
    let f = found a.state a.buffer.now a.n c.requires c.limit-most.result c.limit-most.ensures c.come-came.result c.come-came.ensures in
    stopped_there a.state a.buffer.now a.n c.limit-most.result c.come-came.result f a.tape.now (omega (arith, c.if-room-count.false, c.room.ensures)) c.stop-refusal.result c.stop-refusal.ensures
    c.former_of-former.result c.former_of-former.ensures c.lay.new.tape c.lay.ensures c.if-refusal-ne0.true c.stopped.result c.stopped.ensures

pub overflow_sub-kept : goal.overflow_sub-kept
overflow_sub-kept c =
    let a = c.args in
    let f = found a.state a.buffer.now a.n c.requires c.limit-most.result c.limit-most.ensures c.come-came.result c.come-came.ensures in
    omega (arith, kept_inside a.state a.buffer.now a.n c.limit-most.result c.come-came.result f c.stop-refusal.result c.stop-refusal.ensures c.if-refusal-ne0.false, c.kept_from-from.ensures)

pub keep-requires : goal.keep-requires
keep-requires c =
    let a = c.args in
    let l = limited a.state a.buffer.now a.n c.requires c.limit-most.result c.limit-most.ensures in
    let f = found a.state a.buffer.now a.n c.requires c.limit-most.result c.limit-most.ensures c.come-came.result c.come-came.ensures in
    omega (arith, kept_inside a.state a.buffer.now a.n c.limit-most.result c.come-came.result f c.stop-refusal.result c.stop-refusal.ensures c.if-refusal-ne0.false, c.kept_from-from.ensures, l.inside)

pub overflow_add-next : goal.overflow_add-next
overflow_add-next c =
    let a = c.args in
    let l = limited a.state a.buffer.now a.n c.requires c.limit-most.result c.limit-most.ensures in
    omega (arith, l.small)

pub overflow_sub-next : goal.overflow_sub-next
overflow_sub-next c =
    let a = c.args in
    let l = limited a.state a.buffer.now a.n c.requires c.limit-most.result c.limit-most.ensures in
    l.whole_inside

pub returns : goal.returns
returns c =
    let a = c.args in
    let f = found a.state a.buffer.now a.n c.requires c.limit-most.result c.limit-most.ensures c.come-came.result c.come-came.ensures in
    given_there a.state a.buffer.now a.n c.limit-most.result c.come-came.result f a.tape.now (omega (arith, c.if-room-count.false, c.room.ensures)) c.stop-refusal.result c.stop-refusal.ensures
    c.former_of-former.result c.former_of-former.ensures c.lay.new.tape c.lay.ensures c.if-refusal-ne0.false c.open_in.result c.open_in.ensures c.kept_from-from.result c.kept_from-from.ensures
    c.keep.new.buffer c.keep.ensures
