use mathlib.Core.Path.{◌∙◌}
use borrow.Author.Rules.{rules}
use borrow.Author.Tests.{tests}
use Rattle.std.proofs.lemmas.Iterator.{YieldsList-from_slice}
use Rattle.std.proofs.lemmas.Iterator.Consumers.{YieldsList-from_filter, count_from_yields_List}
use Rattle.places.specs.Columns.{starts_char}
use Rattle.places.proofs.LineLaws.{filtered}
use Rattle.places.proofs.column.chars.Goals as goal

pub returns : goal.returns
returns c =
    count_from_yields_List c.filter.result _ c.count.ensures.ran (YieldsList-from_filter _ starts_char (YieldsList-from_slice c.args.s.now (cc)) c.filter.ensures.closure (λ x b q k. search (rules, tests)))
    ∙ filtered starts_char c.args.s.now
