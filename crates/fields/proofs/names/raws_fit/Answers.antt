use native.Mathlib.Omega.{arith}
use mathlib.Core.Path.{◌∙◌, sym}
use Rattle.rows.specs.Rows.{entries_of}
use Rattle.fields.specs.Names.{raws_fit}
use Rattle.fields.proofs.RawLaws.{fit_eight}
use Rattle.fields.proofs.names.raws_fit.Goals as goal

pub loop-i-preserved : goal.loop-i-preserved
loop-i-preserved c = (omega arith, fit_eight c.args.text.now c.args.tape.now c.args.count (raws_fit c.args.text.now (entries_of c.args.count c.args.tape.now)) c.loop-i.i c.loop-i.invariant.1 (omega arith) (sym c.some_raw.ensures ∙ c.if-some_raw.false) (sym c.some_raw-in-loop-i.ensures ∙ c.if-some_raw-2.false))
