use Prim.Native.Nat.{◌*◌, ◌+◌}
use native.Mathlib.Omega.{arith}
use mathlib.Core.List.{map}
use mathlib.Core.Path.{◌∙◌, ap}
use lib.ListN.{drop, length-map, take}
use lib.Seq.{length-take-le}
use Rattle.reading.specs.Readings.{entries, read_from}
use Rattle.repair.proofs.Clearing.{part_is}
use Rattle.repair.specs.inner.Steps.{clipped_from, emptied}
use Rattle.rows.proofs.RowLaws.{length_entries}
use Rattle.rows.specs.Rows.{entries_of, laid, width}
use Rattle.tokens.specs.Ron.{ron_token}
use Rattle.repair.proofs.rewrite.rewrite.Goals as goal

pub returns : goal.returns
returns c = c.clear.ensures ∙ ap (emptied (c.args.rest.n + c.args.rest.m) (c.args.rest.f + c.args.rest.m)) (c.fill.ensures ∙ ap (laid (take c.args.rest.n (entries (read_from ron_token c.args.text.now c.args.rest.from)))) c.shift.ensures) ∙ part_is c.args.part.now (take c.args.rest.n (entries (read_from ron_token c.args.text.now c.args.rest.from))) (map (clipped_from c.args.rest.b c.args.rest.e) (entries_of c.args.rest.m (drop (width * c.args.rest.f) c.args.part.now))) c.args.rest.n c.args.rest.m (c.args.rest.f + c.args.rest.m) (length-take-le c.args.rest.n (entries (read_from ron_token c.args.text.now c.args.rest.from)) c.requires.2) (length-map (entries_of c.args.rest.m (drop (width * c.args.rest.f) c.args.part.now)) (clipped_from c.args.rest.b c.args.rest.e) ∙ length_entries c.args.rest.m (drop (width * c.args.rest.f) c.args.part.now)) (omega (arith, c.requires.3)) (omega (arith, c.requires.4))
