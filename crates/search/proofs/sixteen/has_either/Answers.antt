use mathlib.Core.Path.{◌∙◌, sym}
use lib.ListN.{drop}
use Rattle.search.proofs.SearchLaws.{either_first, either_second}
use Rattle.search.proofs.sixteen.has_either.Goals as goal

pub returns-then-has : goal.returns-then-has
returns-then-has c = sym (either_first c.args.a c.args.b (drop c.args.at c.args.s.now) 16 (sym c.has.ensures ∙ c.if-has.true))

pub returns : goal.returns
returns c = c.has-2.ensures ∙ sym (either_second c.args.a c.args.b (drop c.args.at c.args.s.now) 16 (sym c.has.ensures ∙ c.if-has.false))
