use Rattle.structs.proofs.types.undecided.Goals as goal

pub returns-in-ImpreciseTupleOrNewtype : goal.returns-in-ImpreciseTupleOrNewtype
returns-in-ImpreciseTupleOrNewtype c = rw c.in-ImpreciseTupleOrNewtype.is

pub returns-in-DifferentiateNewtype : goal.returns-in-DifferentiateNewtype
returns-in-DifferentiateNewtype c = rw c.in-DifferentiateNewtype.is c.scan_value.ensures
