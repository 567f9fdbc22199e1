use native.Mathlib.Omega.{arith}
use mathlib.Core.Path.{◌∙◌, sym}
use Rattle.repair.proofs.Checks.{fits_bad1, fits_bad2, fits_last}
use Rattle.repair.proofs.check.repair_fits.Goals as goal

pub returns-then-not-cut_fits : goal.returns-then-not-cut_fits
returns-then-not-cut_fits c = fits_bad1 c.args.tape.now c.args.count c.args.old_len c.args.a c.args.b c.args.new_len (sym c.cut_fits.ensures ∙ c.if-not-cut_fits.true)

pub returns-then-room-count : goal.returns-then-room-count
returns-then-room-count c = fits_bad2 c.args.tape.now c.args.count c.args.old_len c.args.a c.args.b c.args.new_len (sym c.cut_fits.ensures ∙ c.if-not-cut_fits.false) (omega (arith, c.room.ensures, c.if-room-count.true))

pub returns : goal.returns
returns c = fits_last c.args.tape.now c.args.count c.args.old_len c.args.a c.args.b c.args.new_len (sym c.cut_fits.ensures ∙ c.if-not-cut_fits.false) (omega (arith, c.room.ensures, c.if-room-count.false)) _ c.in_order.ensures
