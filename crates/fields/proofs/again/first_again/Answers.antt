use Rattle.fields.proofs.EntryLaws.{first_before, named_left}
use Rattle.fields.proofs.FirstLaws.{told_first}
use Rattle.fields.specs.Names.{name_at}
use Rattle.fields.proofs.again.first_again.Goals as goal

pub neighbours-requires : goal.neighbours-requires
neighbours-requires c = named_left c.args.text.now c.args.tape.now c.args.fields.now _ c.requires.1 c.sort.ensures

pub each-requires : goal.each-requires
each-requires c = named_left c.args.text.now c.args.tape.now c.args.fields.now _ c.requires.1 c.sort.ensures

pub returns-in-Some : goal.returns-in-Some
returns-in-Some c = record { first = first_before (name_at c.args.text.now c.args.tape.now) c.args.fields.now _ c.sort.ensures (told_first (name_at c.args.text.now c.args.tape.now) _ _ _ c.in-Some.is c.neighbours.ensures); left = c.sort.ensures }

pub returns-in-None : goal.returns-in-None
returns-in-None c = record { first = first_before (name_at c.args.text.now c.args.tape.now) c.args.fields.now _ c.sort.ensures c.each.ensures; left = c.sort.ensures }
