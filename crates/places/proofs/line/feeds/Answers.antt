use mathlib.Core.Path.{◌∙◌}
use borrow.Author.Rules.{rules}
use borrow.Author.Tests.{tests}
use Rattle.std.proofs.lemmas.Iterator.{YieldsList-from_slice}
use Rattle.std.proofs.lemmas.Iterator.Consumers.{YieldsList-from_filter, count_from_yields_List}
use Rattle.places.specs.Lines.{line_feed}
use Rattle.places.proofs.LineLaws.{filtered}
use Rattle.places.proofs.line.feeds.Goals as goal

pub returns : goal.returns
returns c =
    count_from_yields_List c.filter.result _ c.count.ensures.ran (YieldsList-from_filter _ line_feed (YieldsList-from_slice c.args.s.now (cc)) c.filter.ensures.closure (λ x b q k. search (rules, tests)))
    ∙ filtered line_feed c.args.s.now
