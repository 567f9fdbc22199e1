use Rattle.repair.proofs.Laying.{Down}
use Rattle.repair.proofs.moving.shift_down.Given as goal

abbrev pub invariant-loop-k : goal.invariant-loop-k
invariant-loop-k l = Down l.b l.e l.m l.f l.g l.initial.tape l.k l.tape
