use Rattle.pieces.proofs.LayLaws.{place_ends, place_goes, place_starts, row_behind, row_end, row_start}
use mathlib.Core.Path.{refl, ◌∙◌}
use native.Mathlib.Omega.{arith}
use Rattle.pieces.proofs.lay.place_rows.Goals as goal

pub loop-i-init : goal.loop-i-init
loop-i-init c = (refl, place_starts c.args.n c.args.base c.args.former c.args.from c.args.limit c.args.tape.now c.requires.0 c.requires.1 c.requires.2)

pub entry-e-requires : goal.entry-e-requires
entry-e-requires c = omega (arith, c.loop-i.invariant.0, c.requires.0)

pub overflow_sub-gap : goal.overflow_sub-gap
overflow_sub-gap c = row_behind _ _ _ _ _ _ _ c.loop-i.invariant.1 (omega arith) c.entry-e.result c.entry-e.ensures

pub overflow_cast-placed : goal.overflow_cast-placed
overflow_cast-placed c = omega (arith, c.requires.3, row_start _ _ _ _ _ _ _ c.loop-i.invariant.1 (omega arith) c.entry-e.result c.entry-e.ensures)

pub overflow_cast-placed-in-loop-i : goal.overflow_cast-placed-in-loop-i
overflow_cast-placed-in-loop-i c = omega (arith, c.requires.3, row_end _ _ _ _ _ _ _ c.loop-i.invariant.1 (omega arith) c.entry-e.result c.entry-e.ensures)

pub overflow_cast-placed-in-loop-i-2 : goal.overflow_cast-placed-in-loop-i-2
overflow_cast-placed-in-loop-i-2 c = omega (arith, c.requires.3, row_start _ _ _ _ _ _ _ c.loop-i.invariant.1 (omega arith) c.entry-e.result c.entry-e.ensures)

pub write-requires : goal.write-requires
write-requires c = omega (arith, c.loop-i.invariant.0, c.requires.0)

pub loop-i-preserved : goal.loop-i-preserved
loop-i-preserved c = (
  c.write.auto.tape ∙ c.loop-i.invariant.0,
  place_goes _ _ _ _ _ _ _ c.loop-i.invariant.1 (omega arith) c.entry-e.result c.entry-e.ensures _ (omega (arith, c.loop-i.invariant.0, c.requires.0)) c.write.ensures,
)

pub shape_of-tape : goal.shape_of-tape
shape_of-tape c = c.loop-i.invariant.0

pub returns : goal.returns
returns c = place_ends _ _ _ _ _ _ _ c.loop-i.invariant.1 (omega arith)
