use mathlib.Core.Path.{◌∙◌}
use Rattle.opened.proofs.WalkLaws.{walk_26, walk_behind, walk_25, walk_31, walk_other}
use Rattle.opened.proofs.walks.walk_begun.Goals as goal

pub returns-then-r-eq-TAPE_ENDS_EARLY : goal.returns-then-r-eq-TAPE_ENDS_EARLY
returns-then-r-eq-TAPE_ENDS_EARLY c = c.open_behind.ensures ∙ walk_26 c.args.text.now c.args.tape.now c.args.count c.args.r c.if-r-eq-TAPE_ENDS_EARLY.true

pub returns-then-count-n : goal.returns-then-count-n
returns-then-count-n c = walk_behind c.args.text.now c.args.tape.now c.args.count c.args.r c.if-r-eq-TAPE_ENDS_EARLY.false c.if-count-n.true

pub returns-then-r-eq-NOT_ALLOWED_HERE : goal.returns-then-r-eq-NOT_ALLOWED_HERE
returns-then-r-eq-NOT_ALLOWED_HERE c = c.other_before.ensures ∙ walk_25 c.args.text.now c.args.tape.now c.args.count c.args.r c.if-r-eq-TAPE_ENDS_EARLY.false c.if-count-n.false c.if-r-eq-NOT_ALLOWED_HERE.true

pub returns-then-r-eq-REPEATED_FIELD : goal.returns-then-r-eq-REPEATED_FIELD
returns-then-r-eq-REPEATED_FIELD c = c.field_before.ensures ∙ walk_31 c.args.text.now c.args.tape.now c.args.count c.args.r c.if-r-eq-TAPE_ENDS_EARLY.false c.if-count-n.false c.if-r-eq-NOT_ALLOWED_HERE.false c.if-r-eq-REPEATED_FIELD.true

pub returns : goal.returns
returns c = walk_other c.args.text.now c.args.tape.now c.args.count c.args.r c.if-r-eq-TAPE_ENDS_EARLY.false c.if-count-n.false c.if-r-eq-NOT_ALLOWED_HERE.false c.if-r-eq-REPEATED_FIELD.false
