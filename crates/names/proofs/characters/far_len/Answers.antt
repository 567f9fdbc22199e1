use mathlib.Core.Path.{◌∙◌, sym}
use Rattle.names.proofs.CharLaws.{chars_none}
use Rattle.names.proofs.NearLaws.{far_none}
use Rattle.names.specs.Characters.{ident_char}
use Rattle.names.proofs.characters.far_len.Goals as goal

pub returns-then-not-is_wide_ahead : goal.returns-then-not-is_wide_ahead
returns-then-not-is_wide_ahead c = sym (chars_none (ident_char c.args.class) c.args.s.now (far_none (ident_char c.args.class) c.args.s.now (sym c.is_wide_ahead.ensures ∙ c.if-not-is_wide_ahead.true) c.requires))
