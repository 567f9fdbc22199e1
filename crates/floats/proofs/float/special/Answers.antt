use mathlib.Core.Path.{◌∙◌, sym}
use Rattle.integers.proofs.Words.{ident_here, ident_none}
use Rattle.integers.specs.Words.{first_of}
use Rattle.floats.proofs.float.special.Goals as goal

pub returns-then-check_ident : goal.returns-then-check_ident
unfolding first_of
returns-then-check_ident c = simp (ident_here _ _ (sym c.check_ident.ensures ∙ c.if-check_ident.true))

pub returns-then-check_ident-2 : goal.returns-then-check_ident-2
unfolding first_of
returns-then-check_ident-2 c = simp (ident_none _ _ (sym c.check_ident.ensures ∙ c.if-check_ident.false), ident_here _ _ (sym c.check_ident-2.ensures ∙ c.if-check_ident-2.true))

pub returns-then-check_ident-3 : goal.returns-then-check_ident-3
unfolding first_of
returns-then-check_ident-3 c = simp (ident_none _ _ (sym c.check_ident.ensures ∙ c.if-check_ident.false), ident_none _ _ (sym c.check_ident-2.ensures ∙ c.if-check_ident-2.false), ident_here _ _ (sym c.check_ident-3.ensures ∙ c.if-check_ident-3.true))

pub returns-then-check_ident-4 : goal.returns-then-check_ident-4
unfolding first_of
returns-then-check_ident-4 c = simp (ident_none _ _ (sym c.check_ident.ensures ∙ c.if-check_ident.false), ident_none _ _ (sym c.check_ident-2.ensures ∙ c.if-check_ident-2.false), ident_none _ _ (sym c.check_ident-3.ensures ∙ c.if-check_ident-3.false), ident_here _ _ (sym c.check_ident-4.ensures ∙ c.if-check_ident-4.true))

pub returns-then-check_ident-5 : goal.returns-then-check_ident-5
unfolding first_of
returns-then-check_ident-5 c = simp (ident_none _ _ (sym c.check_ident.ensures ∙ c.if-check_ident.false), ident_none _ _ (sym c.check_ident-2.ensures ∙ c.if-check_ident-2.false), ident_none _ _ (sym c.check_ident-3.ensures ∙ c.if-check_ident-3.false), ident_none _ _ (sym c.check_ident-4.ensures ∙ c.if-check_ident-4.false), ident_here _ _ (sym c.check_ident-5.ensures ∙ c.if-check_ident-5.true))

pub returns-then-check_ident-6 : goal.returns-then-check_ident-6
unfolding first_of
returns-then-check_ident-6 c = simp (ident_none _ _ (sym c.check_ident.ensures ∙ c.if-check_ident.false), ident_none _ _ (sym c.check_ident-2.ensures ∙ c.if-check_ident-2.false), ident_none _ _ (sym c.check_ident-3.ensures ∙ c.if-check_ident-3.false), ident_none _ _ (sym c.check_ident-4.ensures ∙ c.if-check_ident-4.false), ident_none _ _ (sym c.check_ident-5.ensures ∙ c.if-check_ident-5.false), ident_here _ _ (sym c.check_ident-6.ensures ∙ c.if-check_ident-6.true))

pub returns : goal.returns
unfolding first_of
returns c = c.nothing.ensures ∙ simp (ident_none _ _ (sym c.check_ident.ensures ∙ c.if-check_ident.false), ident_none _ _ (sym c.check_ident-2.ensures ∙ c.if-check_ident-2.false), ident_none _ _ (sym c.check_ident-3.ensures ∙ c.if-check_ident-3.false), ident_none _ _ (sym c.check_ident-4.ensures ∙ c.if-check_ident-4.false), ident_none _ _ (sym c.check_ident-5.ensures ∙ c.if-check_ident-5.false), ident_none _ _ (sym c.check_ident-6.ensures ∙ c.if-check_ident-6.false))
