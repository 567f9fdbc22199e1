use native.Mathlib.Omega.{arith}
use mathlib.Core.Path.{ap, sym}
use lib.ListN.{get_or-eq_default}
use Rattle.reading.specs.Owed.{quiet_byte}
use Rattle.plain_numbers.proofs.parts.begins_quiet.Goals as goal

pub returns-then-s-eq0 : goal.returns-then-s-eq0
unfolding quiet_byte
returns-then-s-eq0 c = sym (ap quiet_byte (get_or-eq_default c.args.s.now 0 {n = 0} (omega (arith, c.if-s-eq0.true))))
