use Rattle.std.proofs.Common.{rules}
use Rattle.reading.specs.Owed.{quiet_byte}
use Rattle.repair.proofs.QuietEnds.{none_quiet, quiet_last}
use Rattle.repair.proofs.quiet_end.last_quiet.Goals as goal

pub returns-in-Some : goal.returns-in-Some
returns-in-Some c = quiet_last quiet_byte c.args.s.now c.in-Some.i (search rules) (search rules) (search rules)

pub returns-in-None : goal.returns-in-None
returns-in-None c = none_quiet quiet_byte c.args.s.now (search rules)
