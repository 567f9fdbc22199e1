use Prim.Native.Nat.{◌≤◌}
use mathlib.Core.Path.{◌≡◌}
use lib.ListN.{length}
use Rattle.reading.specs.Readings.{read_from}
use Rattle.read.proofs.PassLaws.{Left}
use Rattle.tokens.specs.Ron.{ron_token}
use Rattle.read.proofs.pass.pass.Given as goal

abbrev pub invariant-loop-i : goal.invariant-loop-i
invariant-loop-i l =
    (l.at ≤ length l.text) × (length l.tape ≡ length l.initial.tape) × Left l.on l.n l.from (read_from ron_token l.text l.from) l.initial.tape l.i l.at l.before (read_from ron_token l.text l.at) l.tape
