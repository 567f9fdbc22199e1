use native.Mathlib.Omega.{arith}
use Rattle.repair.proofs.Halving.{half_above, half_below}
use Rattle.repair.proofs.Leading.{lead_le}
use Rattle.repair.specs.Repair.{ends_before}
use Rattle.rows.proofs.RowLaws.{length_entries}
use Rattle.rows.specs.Rows.{entries_of}
use Rattle.repair.proofs.seeking.ends_before.Goals as goal

pub loop-low-init : goal.loop-low-init
loop-low-init c = (omega arith, omega (arith, lead_le (ends_before c.args.q) (entries_of c.args.count c.args.tape.now), length_entries c.args.count c.args.tape.now), omega arith)

pub loop-low-preserved-then-wide-q : goal.loop-low-preserved-then-wide-q
loop-low-preserved-then-wide-q c = (half_below c.args.tape.now c.args.count c.args.q _ _ c.entry-old.ensures (omega (arith, c.loop-low.invariant.2)) c.requires.1 (omega (arith, c.wide.ensures, c.if-wide-q.true)), c.loop-low.invariant.1, c.loop-low.invariant.2)

pub loop-low-preserved : goal.loop-low-preserved
loop-low-preserved c = (c.loop-low.invariant.0, half_above c.args.tape.now c.args.count c.args.q _ _ c.entry-old.ensures (omega (arith, c.loop-low.invariant.2)) (omega (arith, c.wide.ensures, c.if-wide-q.false)), omega (arith, c.loop-low.invariant.2))
