use mathlib.Core.Path.{◌∙◌, sym}
use Rattle.attributes.specs.Words.{keyword_of}
use Rattle.integers.proofs.Words.{ident_here, ident_none}
use Rattle.integers.specs.Words.{first_of}
use Rattle.attributes.proofs.words.word_of.Goals as goal

pub returns-then-check_ident : goal.returns-then-check_ident
unfolding keyword_of first_of
returns-then-check_ident c = simp (ident_here _ _ (sym c.check_ident.ensures ∙ c.if-check_ident.true))

pub returns-then-check_ident-2 : goal.returns-then-check_ident-2
unfolding keyword_of first_of
returns-then-check_ident-2 c = simp (ident_none _ _ (sym c.check_ident.ensures ∙ c.if-check_ident.false), ident_here _ _ (sym c.check_ident-2.ensures ∙ c.if-check_ident-2.true))

pub returns-then-check_ident-3 : goal.returns-then-check_ident-3
unfolding keyword_of first_of
returns-then-check_ident-3 c = simp (ident_none _ _ (sym c.check_ident.ensures ∙ c.if-check_ident.false), ident_none _ _ (sym c.check_ident-2.ensures ∙ c.if-check_ident-2.false), ident_here _ _ (sym c.check_ident-3.ensures ∙ c.if-check_ident-3.true))

pub returns : goal.returns
unfolding keyword_of first_of
returns c = c.nothing.ensures ∙ simp (ident_none _ _ (sym c.check_ident.ensures ∙ c.if-check_ident.false), ident_none _ _ (sym c.check_ident-2.ensures ∙ c.if-check_ident-2.false), ident_none _ _ (sym c.check_ident-3.ensures ∙ c.if-check_ident-3.false))
