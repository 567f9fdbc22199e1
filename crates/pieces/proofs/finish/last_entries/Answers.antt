use Rattle.pieces.proofs.LastLaws.{broken_given, complete_given, no_room_given, scan_count, scan_within}
use Rattle.pieces.proofs.OrderLaws.{numbers}
use Rattle.text.proofs.Lists.{tail_part}
use lib.ListN.{length-drop}
use native.Mathlib.Omega.{arith}
use Rattle.pieces.proofs.finish.last_entries.Goals as goal

pub scan-all-requires : goal.scan-all-requires
scan-all-requires c =
    let s = c.args.s.now in
    let p = c.requires in
    let n = numbers c.args.state p.order in
    rw (tail_part s c.args.from) (omega (arith, length-drop c.args.from s, p.all, n.held))

pub returns-then-room-all : goal.returns-then-room-all
returns-then-room-all c =
    let a = c.args in
    no_room_given _ a.tape.now a.state a.s.now a.from c.scan-all.result c.scan-all.ensures c.no_room.result c.no_room.ensures (omega (arith, c.if-room-all.true, c.room.ensures))

pub overflow_sub-base : goal.overflow_sub-base
overflow_sub-base c = omega (arith, (numbers c.args.state c.requires.order).former)

pub lay-requires : goal.lay-requires
lay-requires c =
    let a = c.args in
    let p = c.requires in
    let n = numbers a.state p.order in
    let m = scan_count a.s.now a.from c.scan-all.result c.scan-all.ensures in
    (omega (arith, p.all, n.held), p.inside, omega (arith, c.if-room-all.false, c.room.ensures), omega (arith, m), omega (arith, n.former), omega (arith, n.short))

pub placed_behind-requires : goal.placed_behind-requires
placed_behind-requires c =
    let a = c.args in
    let p = c.requires in
    let n = numbers a.state p.order in
    omega (arith, scan_within a.s.now a.from c.scan-all.result c.scan-all.ensures _ c.in-Err.is, n.short, p.inside, p.all, n.held)

pub returns-in-Ok : goal.returns-in-Ok
returns-in-Ok c =
    let a = c.args in
    complete_given _ a.tape.now a.state a.s.now a.from c.scan-all.result c.scan-all.ensures (omega (arith, c.if-room-all.false, c.room.ensures)) _ c.lay.ensures c.in-Ok.is

pub returns-in-Err : goal.returns-in-Err
returns-in-Err c =
    let a = c.args in
    broken_given _ a.tape.now a.state a.s.now a.from c.scan-all.result c.scan-all.ensures (omega (arith, c.if-room-all.false, c.room.ensures)) _ c.lay.ensures
    _ _ c.in-Err.is c.placed_behind.ensures _ c.ended_with.ensures
