use Rattle.repair.proofs.Laying.{Up}
use Rattle.repair.proofs.moving.shift_up.Given as goal

abbrev pub invariant-loop-k : goal.invariant-loop-k
invariant-loop-k l = Up l.b l.e l.m l.f l.g l.initial.tape l.k l.tape
