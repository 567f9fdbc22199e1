use native.Mathlib.Omega.{arith}
use mathlib.Core.Bool.{false, true}
use mathlib.Core.Path.{◌∙◌, sym}
use borrow.Author.Tests.{eq-eqb, ne_eqb}
use Rattle.attributes.proofs.StepLaws.{keyword_by, keyword_out, word_by, word_fits}
use Rattle.attributes.specs.Words.{by_word}
use Rattle.attributes.proofs.words.keyword_at.Goals as goal

pub returns-then-s-at : goal.returns-then-s-at
returns-then-s-at c = keyword_out c.args.s.now c.args.at c.if-s-at.true

pub returns-then-word-eq0 : goal.returns-then-word-eq0
unfolding by_word
returns-then-word-eq0 c = rw (← keyword_by c.args.s.now c.args.at _ c.word_of-word.ensures, eq-eqb _ 0 c.if-word-eq0.true)

pub overflow_add-behind : goal.overflow_add-behind
overflow_add-behind c = omega (arith, word_fits c.args.s.now c.args.at _ c.word_of-word.ensures)

pub returns-then-word-eq-ENABLE : goal.returns-then-word-eq-ENABLE
returns-then-word-eq-ENABLE c = sym (word_by c.args.at c.word_of-word.result false true (ne_eqb _ 0 c.if-word-eq0.false) (eq-eqb _ 1 c.if-word-eq-ENABLE.true)) ∙ keyword_by c.args.s.now c.args.at _ c.word_of-word.ensures

pub returns : goal.returns
returns c = sym (word_by c.args.at c.word_of-word.result false false (ne_eqb _ 0 c.if-word-eq0.false) (ne_eqb _ 1 c.if-word-eq-ENABLE.false)) ∙ keyword_by c.args.s.now c.args.at _ c.word_of-word.ensures
