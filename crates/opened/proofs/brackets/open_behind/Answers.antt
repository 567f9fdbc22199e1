use mathlib.Core.Path.{ap, sym, ◌∙◌}
use native.Mathlib.Omega.{arith}
use Rattle.opened.specs.Brackets.{bracket_of, open_behind}
use Rattle.opened.proofs.BracketLaws.{innermost_before}
use Rattle.opened.proofs.brackets.open_behind.Goals as goal

pub bracket_at-requires : goal.bracket_at-requires
bracket_at-requires c = omega (arith, (innermost_before c.args.tape.now c.args.n _ (sym c.in-Some.ensures)).0)

pub returns-in-None : goal.returns-in-None
unfolding open_behind
returns-in-None c = ap (bracket_of c.args.tape.now) c.in-None.ensures

pub returns-in-Some : goal.returns-in-Some
unfolding open_behind
returns-in-Some c = c.bracket_at.ensures ∙ ap (bracket_of c.args.tape.now) c.in-Some.ensures
