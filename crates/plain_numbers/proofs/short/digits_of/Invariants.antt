use Rattle.plain_numbers.proofs.ShortLaws.{Passed}
use Rattle.plain_numbers.proofs.short.digits_of.Given as goal

abbrev pub invariant-loop-i : goal.invariant-loop-i
invariant-loop-i l = Passed l.s l.value l.i
