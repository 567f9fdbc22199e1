use mathlib.Core.Bool.{Bool, cond}
use mathlib.Core.Path.{◌∙◌, ap, sym}
use Rattle.settled.specs.Stood.{attribute_stood, keyword_stood, opened_stood}
use Rattle.attributes.specs.Attributes.{opened_of}
use Rattle.attributes.specs.Steps.{consume_of}
use Rattle.attributes.specs.Words.{keyword_at}
use Rattle.settled.proofs.stood.attribute_stood.Goals as goal

pub returns-then-all : goal.returns-then-all
unfolding attribute_stood opened_of
returns-then-all c = c.keyword_stood.ensures ∙ ap (λ (b : Bool). cond b (keyword_stood c.args.s.now c.in-Ok.at (keyword_at c.args.s.now c.in-Ok.at)) c.in-Ok.at) (sym c.if-all.true) ∙ ap (opened_stood c.args.s.now) (sym c.in-Ok.is ∙ c.consume-bracket.ensures ∙ ap (consume_of 0x5b c.args.s.now) (c.consume-bang.ensures ∙ ap (consume_of 0x21 c.args.s.now) c.consume-hash.ensures))

pub returns-else-all : goal.returns-else-all
unfolding attribute_stood opened_of
returns-else-all c = ap (λ (b : Bool). cond b (keyword_stood c.args.s.now c.in-Ok.at (keyword_at c.args.s.now c.in-Ok.at)) c.in-Ok.at) (sym c.if-all.false) ∙ ap (opened_stood c.args.s.now) (sym c.in-Ok.is ∙ c.consume-bracket.ensures ∙ ap (consume_of 0x5b c.args.s.now) (c.consume-bang.ensures ∙ ap (consume_of 0x21 c.args.s.now) c.consume-hash.ensures))

pub returns-in-Err : goal.returns-in-Err
unfolding attribute_stood opened_of
returns-in-Err c = ap (opened_stood c.args.s.now) (sym c.in-Err.is ∙ c.consume-bracket.ensures ∙ ap (consume_of 0x5b c.args.s.now) (c.consume-bang.ensures ∙ ap (consume_of 0x21 c.args.s.now) c.consume-hash.ensures))
