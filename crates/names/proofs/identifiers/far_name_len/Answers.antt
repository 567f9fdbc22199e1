use mathlib.Core.Path.{◌∙◌, sym}
use Rattle.names.proofs.NearLaws.{no_name}
use Rattle.names.proofs.identifiers.far_name_len.Goals as goal

pub returns-then-not-is_wide_ahead : goal.returns-then-not-is_wide_ahead
returns-then-not-is_wide_ahead c = sym (no_name c.args.s.now (sym c.is_wide_ahead.ensures ∙ c.if-not-is_wide_ahead.true) c.requires)
