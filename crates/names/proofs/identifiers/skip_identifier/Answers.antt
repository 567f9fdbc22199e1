use mathlib.Core.Path.{◌∙◌, sym}
use Rattle.names.proofs.IdentifierLaws.{raw_long}
use Rattle.names.specs.Identifiers.{skip_identifier_of}
use Rattle.names.proofs.identifiers.skip_identifier.Goals as goal

pub returns-then-begins_string : goal.returns-then-begins_string
unfolding skip_identifier_of
returns-then-begins_string c = simp (sym c.begins_string.ensures ∙ c.if-begins_string.true)

pub raw-requires : goal.raw-requires
raw-requires c = raw_long c.args.s.now (sym c.begins_raw.ensures ∙ c.if-begins_raw.true)

pub returns-then-begins_raw : goal.returns-then-begins_raw
unfolding skip_identifier_of
returns-then-begins_raw c = simp (sym c.begins_string.ensures ∙ c.if-begins_string.false, sym c.begins_raw.ensures ∙ c.if-begins_raw.true, c.raw.ensures)

pub returns : goal.returns
unfolding skip_identifier_of
returns c = simp (sym c.begins_string.ensures ∙ c.if-begins_string.false, sym c.begins_raw.ensures ∙ c.if-begins_raw.false, c.plain.ensures)
