use mathlib.Core.Path.{refl}
use Rattle.lines.specs.Out.{put}
use Rattle.opened.specs.declared.begun.Begun.TheVariants.{Nothing, Comment, Quote, Bracket}
use Rattle.explain.specs.Explained.{begun_text}
use Rattle.explain.proofs.ExplainLaws.{begun_as, begun_field}
use Rattle.explain.proofs.answer.began.Goals as goal

pub returns-in-Nothing : goal.returns-in-Nothing
unfolding put begun_text
returns-in-Nothing c = begun_as c.args.s.now (c.args.o.now, c.args.at) _ c.args.b Nothing c.in-Nothing.is refl

pub returns-in-Comment : goal.returns-in-Comment
unfolding begun_text
returns-in-Comment c = begun_as c.args.s.now (c.args.o.now, c.args.at) _ c.args.b (Comment c.in-Comment.p) c.in-Comment.is c.began_at.ensures

pub returns-in-Quote : goal.returns-in-Quote
unfolding begun_text
returns-in-Quote c = begun_as c.args.s.now (c.args.o.now, c.args.at) _ c.args.b (Quote c.in-Quote.p) c.in-Quote.is c.began_at-in-Quote.ensures

pub returns-in-Bracket : goal.returns-in-Bracket
unfolding begun_text
returns-in-Bracket c = begun_as c.args.s.now (c.args.o.now, c.args.at) _ c.args.b (Bracket c.in-Bracket.p) c.in-Bracket.is c.began_at-in-Bracket.ensures

pub returns-in-Field : goal.returns-in-Field
returns-in-Field c = begun_field c.args.s.now (c.args.o.now, c.args.at) _ c.args.b c.in-Field.p c.in-Field.from c.in-Field.end _ c.in-Field.is c.part.ensures c.named_at.ensures
