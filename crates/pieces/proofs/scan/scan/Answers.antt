use mathlib.Core.Path.{◌∙◌}
use Rattle.pieces.proofs.ScanLaws.{scanned_pass}
use Rattle.pieces.proofs.scan.scan.Goals as goal

pub returns : goal.returns
returns c = c.scan.ensures ∙ scanned_pass c.args.part.now
