use mathlib.Core.Path.{sym}
use borrow.Author.Rules.{rules}
use Rattle.names.proofs.NearLaws.{wide_nil}
use Rattle.names.specs.Characters.{wide_ahead}
use Rattle.names.proofs.characters.is_wide_ahead.Goals as goal

pub returns-then-s-eq0 : goal.returns-then-s-eq0
returns-then-s-eq0 c = sym (wide_nil c.args.s.now c.if-s-eq0.true)

pub returns : goal.returns
unfolding wide_ahead
returns c = search rules
