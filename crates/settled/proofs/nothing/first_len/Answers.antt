use native.Mathlib.Omega.{arith}
use mathlib.Core.Path.{◌∙◌, sym}
use Rattle.names.proofs.NearLaws.{far_none, near_char}
use Rattle.text.specs.Classes.{ident_first}
use Rattle.settled.proofs.nothing.first_len.Goals as goal

pub returns-then-n-ne0 : goal.returns-then-n-ne0
returns-then-n-ne0 c = sym (near_char ident_first _ _ (sym c.near_if-n.ensures) (omega (arith, c.if-n-ne0.true)))

pub returns-then-not-is_wide_ahead : goal.returns-then-not-is_wide_ahead
returns-then-not-is_wide_ahead c = sym (far_none ident_first _ (sym c.is_wide_ahead.ensures ∙ c.if-not-is_wide_ahead.true) (sym c.near_if-n.ensures ∙ c.if-n-ne0.false))
