use mathlib.Core.Bool.{true, false}
use mathlib.Core.Path.{ap, ◌∙◌}
use lib.Dec.{eqb}
use Rattle.rows.specs.declared.Entry.{Entry}
use Rattle.text.proofs.ClassLaws.{inside, below, above}
use Rattle.opened.proofs.FormerLaws.{field_by}
use Rattle.opened.proofs.former.is_field.Goals as goal

pub returns-then-kind-lt-NAME : goal.returns-then-kind-lt-NAME
returns-then-kind-lt-NAME c = field_by c.args.tape.now c.args.i _ (ap (λ (e : Entry). e.kind) c.entry-kind.ensures) false (below 9 10 _ c.if-kind-lt-NAME.true)

pub returns-then-kind-gt-RAW_NAME : goal.returns-then-kind-gt-RAW_NAME
returns-then-kind-gt-RAW_NAME c = field_by c.args.tape.now c.args.i _ (ap (λ (e : Entry). e.kind) c.entry-kind.ensures) false (above 9 10 _ c.if-kind-gt-RAW_NAME.true)

pub returns : goal.returns
returns c =
    ap (λ (e : Entry). eqb e.kind 8) c.entry.ensures ∙ field_by c.args.tape.now c.args.i _ (ap (λ (e : Entry). e.kind) c.entry-kind.ensures) true (inside 9 10 _ c.if-kind-lt-NAME.false c.if-kind-gt-RAW_NAME.false)
