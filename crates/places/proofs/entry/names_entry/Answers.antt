use Rattle.text.proofs.ClassLaws.{inside, below, above}
use Rattle.text.proofs.Choices.{or_true}
use Rattle.text.specs.Classes.{within}
use borrow.Author.Tests.{eq-eqb, ne_eqb}
use Rattle.places.specs.Entries.{names_entry}
use Rattle.places.proofs.entry.names_entry.Goals as goal

pub returns-then-number-eq-REPEATED_FIELD : goal.returns-then-number-eq-REPEATED_FIELD
unfolding names_entry
returns-then-number-eq-REPEATED_FIELD c = simp (eq-eqb c.args.number 31 c.if-number-eq-REPEATED_FIELD.true, or_true (within 24 26 c.args.number))

pub returns-then-number-lt-DEPTH_LIMIT_PASSED : goal.returns-then-number-lt-DEPTH_LIMIT_PASSED
unfolding names_entry
returns-then-number-lt-DEPTH_LIMIT_PASSED c = simp (below 24 26 c.args.number c.if-number-lt-DEPTH_LIMIT_PASSED.true, ne_eqb c.args.number 31 c.if-number-eq-REPEATED_FIELD.false)

pub returns-then-number-gt-TAPE_ENDS_EARLY : goal.returns-then-number-gt-TAPE_ENDS_EARLY
unfolding names_entry
returns-then-number-gt-TAPE_ENDS_EARLY c = simp (above 24 26 c.args.number c.if-number-gt-TAPE_ENDS_EARLY.true, ne_eqb c.args.number 31 c.if-number-eq-REPEATED_FIELD.false)

pub returns : goal.returns
unfolding names_entry
returns c = simp (inside 24 26 c.args.number c.if-number-lt-DEPTH_LIMIT_PASSED.false c.if-number-gt-TAPE_ENDS_EARLY.false)
