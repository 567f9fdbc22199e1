use Prim.Native.Nat.{◌*◌, ◌-◌}
use native.Mathlib.Omega.{arith}
use mathlib.Core.Path.{◌∙◌, ap, sym}
use lib.ListN.{drop}
use Rattle.rows.specs.Rows.{entries_of, entry_at, width}
use Rattle.fields.specs.Names.{raw_fits, raws_fit}
use Rattle.fields.proofs.RawLaws.{fit_bad, fit_done, fit_on, row_at, row_fit}
use Rattle.fields.proofs.names.rest_fit.Goals as goal

pub raw_fits-requires : goal.raw_fits-requires
raw_fits-requires c = row_fit c.args.text.now _ (entry_at c.args.tape.now c.loop-i.i) c.entry.ensures (row_at c.args.text.now c.args.tape.now c.args.count c.requires.2 c.loop-i.i (omega arith))

pub returns-then-not-raw_fits : goal.returns-then-not-raw_fits
returns-then-not-raw_fits c = fit_bad c.args.text.now c.args.tape.now c.args.count (raws_fit c.args.text.now (entries_of (c.args.count - c.args.from) (drop (width * c.args.from) c.args.tape.now))) c.loop-i.i c.loop-i.invariant.1 (omega arith) (ap (raw_fits c.args.text.now) (sym c.entry.ensures) ∙ sym c.raw_fits.ensures ∙ c.if-not-raw_fits.true)

pub loop-i-preserved : goal.loop-i-preserved
loop-i-preserved c = (omega arith, fit_on c.args.text.now c.args.tape.now c.args.count (raws_fit c.args.text.now (entries_of (c.args.count - c.args.from) (drop (width * c.args.from) c.args.tape.now))) c.loop-i.i c.loop-i.invariant.1 (omega arith) (ap (raw_fits c.args.text.now) (sym c.entry.ensures) ∙ sym c.raw_fits.ensures ∙ c.if-not-raw_fits.false))

pub returns : goal.returns
returns c = fit_done c.args.text.now c.args.tape.now c.args.count (raws_fit c.args.text.now (entries_of (c.args.count - c.args.from) (drop (width * c.args.from) c.args.tape.now))) c.loop-i.i c.loop-i.invariant.1 (omega arith)
