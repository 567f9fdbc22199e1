use Prim.Native.Nat.{ℕ}
use native.Mathlib.Omega.{arith}
use mathlib.Core.List.{List}
use mathlib.Core.Path.{refl, ap, ◌∙◌}
use lib.ListN.{length}
use Rattle.lines.specs.Out.{put}
use Rattle.rows.specs.Rows.{room_of}
use Rattle.arrivals.specs.declared.arrive_text.Stand.{Stand}
use Rattle.arrivals.proofs.TextLaws.{left_starts, sum_front, cuts_fit, left_goes, left_ends}
use borrow.Author.Rules.{rules}
use Rattle.arrivals.proofs.arrive_text.pieces.Goals as goal

pub loop-cut-init : goal.loop-cut-init
loop-cut-init c = (
  refl,
  refl,
  refl,
  search rules,
  omega (arith, c.requires.0),
  ap (put (c.args.o.now, c.args.at)) (left_starts c.args.cuts.now c.args.n c.args.text.now (room_of (length c.args.tape.now)) _ c.args.at c.begin.ensures),
)

pub turn-s-requires : goal.turn-s-requires
turn-s-requires c = (c.loop-cut.invariant.3, omega (arith, c.loop-cut.invariant.0, c.loop-cut.invariant.4, c.requires.1, c.loop-cut-test.true, sum_front c.args.cuts.now c.loop-cut.cut-index (omega (arith, c.loop-cut-test.true))))

pub loop-cut-preserved : goal.loop-cut-preserved
loop-cut-preserved c =
    let cuts : List ℕ = c.args.cuts.now in
    let n : ℕ = c.args.n in
    let text : List ℕ = c.loop-cut.text in
    let s : Stand = c.loop-cut.s in
    let room : ℕ = room_of (length c.args.tape.now) in
    let inv = c.loop-cut.invariant in (
      c.turn-s.auto.text ∙ inv.0,
      c.turn-s.auto.tape ∙ inv.1,
      c.turn-s.auto.o ∙ inv.2,
      c.turn-s.ensures.turned.3,
      cuts_fit cuts c.loop-cut.cut-index n s c.turn-s.result text c.turn-s.new.text room (c.loop-cut.o, s.at) (c.turn-s.new.o, c.turn-s.result.at) (c.args.o.now, c.args.at) (omega (arith, c.loop-cut-test.true)) inv.4 (omega (arith, inv.0, c.requires.1)) _ c.turn-s.ensures.turned,
      left_goes cuts c.loop-cut.cut-index n s c.turn-s.result text c.turn-s.new.text room (c.loop-cut.o, s.at) (c.turn-s.new.o, c.turn-s.result.at) _ (omega (arith, c.loop-cut-test.true)) inv.4 (omega (arith, inv.0, c.requires.1)) _ (ap room_of inv.1) c.turn-s.ensures.turned c.turn-s.ensures.at_after inv.5,
    )

pub overflow_sub-n : goal.overflow_sub-n
overflow_sub-n c = omega (arith, c.loop-cut.invariant.4)

pub turn-rest-requires : goal.turn-rest-requires
turn-rest-requires c = (c.loop-cut.invariant.3, omega (arith, c.loop-cut.invariant.0, c.loop-cut.invariant.4, c.requires.1))

pub shape_of-text : goal.shape_of-text
shape_of-text c = c.turn-rest.auto.text ∙ c.loop-cut.invariant.0

pub shape_of-tape : goal.shape_of-tape
shape_of-tape c = c.end.auto.tape ∙ c.turn-rest.auto.tape ∙ c.loop-cut.invariant.1

pub shape_of-o : goal.shape_of-o
shape_of-o c = c.end.auto.o ∙ c.turn-rest.auto.o ∙ c.loop-cut.invariant.2

pub returns : goal.returns
returns c =
    let cuts : List ℕ = c.args.cuts.now in
    let n : ℕ = c.args.n in
    let text : List ℕ = c.loop-cut.text in
    let s : Stand = c.loop-cut.s in
    let room : ℕ = room_of (length c.args.tape.now) in
    let inv = c.loop-cut.invariant in
    left_ends cuts c.loop-cut.cut-index n s c.turn-rest.result text c.turn-rest.new.text room (c.loop-cut.o, s.at) (c.turn-rest.new.o, c.turn-rest.result.at) _ (omega (arith, c.loop-cut-test.false)) (omega (arith, inv.4)) (omega (arith, inv.0, c.requires.1)) _ (ap room_of inv.1)
    c.turn-rest.ensures.turned c.turn-rest.ensures.at_after inv.5 _ _ (ap room_of (c.turn-rest.auto.tape ∙ inv.1)) c.end.ensures
