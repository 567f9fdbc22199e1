use mathlib.Core.Path.{◌∙◌, sym}
use Rattle.attributes.specs.Extensions.{extension_of, first_named}
use Rattle.attributes.proofs.extensions.from_ident.Goals as goal

pub returns-then-is_word : goal.returns-then-is_word
unfolding extension_of first_named
returns-then-is_word c = simp (sym c.is_word.ensures ∙ c.if-is_word.true)

pub returns-then-is_word-2 : goal.returns-then-is_word-2
unfolding extension_of first_named
returns-then-is_word-2 c = simp (sym c.is_word.ensures ∙ c.if-is_word.false, sym c.is_word-2.ensures ∙ c.if-is_word-2.true)

pub returns-then-is_word-3 : goal.returns-then-is_word-3
unfolding extension_of first_named
returns-then-is_word-3 c = simp (sym c.is_word.ensures ∙ c.if-is_word.false, sym c.is_word-2.ensures ∙ c.if-is_word-2.false, sym c.is_word-3.ensures ∙ c.if-is_word-3.true)

pub returns-then-is_word-4 : goal.returns-then-is_word-4
unfolding extension_of first_named
returns-then-is_word-4 c = simp (sym c.is_word.ensures ∙ c.if-is_word.false, sym c.is_word-2.ensures ∙ c.if-is_word-2.false, sym c.is_word-3.ensures ∙ c.if-is_word-3.false, sym c.is_word-4.ensures ∙ c.if-is_word-4.true)

pub returns : goal.returns
unfolding extension_of first_named
returns c = simp (sym c.is_word.ensures ∙ c.if-is_word.false, sym c.is_word-2.ensures ∙ c.if-is_word-2.false, sym c.is_word-3.ensures ∙ c.if-is_word-3.false, sym c.is_word-4.ensures ∙ c.if-is_word-4.false)
