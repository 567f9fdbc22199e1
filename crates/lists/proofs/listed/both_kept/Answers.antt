use mathlib.Core.Path.{sym, ◌∙◌}
use Rattle.lists.proofs.ListedLaws.{kept_not, kept_if}
use Rattle.lists.proofs.listed.both_kept.Goals as goal

pub returns-then-not-kept : goal.returns-then-not-kept
returns-then-not-kept c = kept_not c.args.from c.args.magnitudes.now c.args.codes.now (sym c.kept.ensures ∙ c.if-not-kept.true)

pub returns : goal.returns
returns c = kept_if c.args.from c.args.magnitudes.now c.args.codes.now _ (sym c.kept.ensures ∙ c.if-not-kept.false) c.kept-2.ensures
