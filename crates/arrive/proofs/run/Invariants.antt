use mathlib.Core.Path.{◌≡◌}
use lib.ListN.{length}
use Rattle.arrive.proofs.run.Given as goal

abbrev pub invariant-loop : goal.invariant-loop
invariant-loop l = (length l.buf ≡ length l.initial.buf) × (length l.tape ≡ length l.initial.tape) × (length l.o ≡ length l.initial.o)
