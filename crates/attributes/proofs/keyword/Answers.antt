use Rattle.std.proofs.Common.{Err}
use mathlib.Core.Path.{◌∙◌, ap, sym}
use Rattle.attributes.specs.Attributes.{by_keyword, keyword_from}
use Rattle.attributes.proofs.keyword.Goals as goal

pub returns-in-Enable : goal.returns-in-Enable
unfolding keyword_from
returns-in-Enable c = c.enable.ensures ∙ ap (by_keyword c.args.s.now) (sym c.in-Enable.is ∙ c.keyword_at-found.ensures)

pub returns-in-Text : goal.returns-in-Text
unfolding keyword_from
returns-in-Text c = c.value.ensures ∙ ap (by_keyword c.args.s.now) (sym c.in-Text.is ∙ c.keyword_at-found.ensures)

pub returns-in-NoKeyword : goal.returns-in-NoKeyword
unfolding keyword_from
returns-in-NoKeyword c = ap Err c.expected_attribute.ensures ∙ ap (by_keyword c.args.s.now) (sym c.in-NoKeyword.is ∙ c.keyword_at-found.ensures)
