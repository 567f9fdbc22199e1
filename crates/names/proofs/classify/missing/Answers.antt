use mathlib.Core.Path.{sym, ◌∙◌}
use Rattle.names.specs.Classify.{missing}
use Rattle.names.proofs.classify.missing.Goals as goal

pub returns-then-begins_raw : goal.returns-then-begins_raw
unfolding missing
returns-then-begins_raw c = simp (sym c.begins_raw.ensures ∙ c.if-begins_raw.true, c.expected_string.ensures)

pub returns : goal.returns
unfolding missing
returns c = simp (sym c.begins_raw.ensures ∙ c.if-begins_raw.false, c.unexpected_char.ensures)
