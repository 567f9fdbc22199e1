use mathlib.Core.Path.{◌∙◌, ap, subst, sym}
use Rattle.names.proofs.IdentifierLaws.{Within, skip_within}
use Rattle.names.specs.Classify.{by_identifier, word_of}
use Rattle.names.proofs.classify.word.Goals as goal

pub name-requires : goal.name-requires
name-requires c = (subst (Within c.args.s.now) (sym c.skip_identifier-found.ensures ∙ c.in-Name.is) (skip_within c.args.s.now)).1

pub returns-in-Missing : goal.returns-in-Missing
unfolding word_of
returns-in-Missing c = rw c.missing.ensures (sym (ap (by_identifier c.args.s.now) (sym c.skip_identifier-found.ensures ∙ c.in-Missing.is)))

pub returns-in-Name : goal.returns-in-Name
unfolding word_of
returns-in-Name c = c.name.ensures ∙ sym (ap (by_identifier c.args.s.now) (sym c.skip_identifier-found.ensures ∙ c.in-Name.is))

pub returns-in-RawName : goal.returns-in-RawName
unfolding word_of
returns-in-RawName c = sym (ap (by_identifier c.args.s.now) (sym c.skip_identifier-found.ensures ∙ c.in-RawName.is))
