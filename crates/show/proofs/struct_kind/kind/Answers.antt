use Rattle.text.specs.Refusals.{Told}
use Rattle.structs.specs.declared.kinds.StructType.{StructType}
use mathlib.Core.Path.{sym, ap, ◌∙◌}
use Rattle.lines.specs.Ascii.{ascii}
use Rattle.lines.specs.Out.{put}
use Rattle.lines.proofs.OutLaws.{then}
use Rattle.show.specs.Answers.{answer_text}
use Rattle.show.specs.StructKinds.{kind_name, kind_text}
use Rattle.show.proofs.struct_kind.kind.Goals as goal

pub returns-in-Ok : goal.returns-in-Ok
unfolding kind_text
returns-in-Ok c = then (c.args.o.now, c.args.at) _ _ (ascii "ok ") (kind_name c.in-Ok.k) c.bytes-a.ensures c.name.ensures ∙ sym (ap (λ (x : Told StructType). put (c.args.o.now, c.args.at) (answer_text kind_text x)) c.in-Ok.is)

pub returns-in-Err : goal.returns-in-Err
returns-in-Err c = c.refused.ensures ∙ sym (ap (λ (x : Told StructType). put (c.args.o.now, c.args.at) (answer_text kind_text x)) c.in-Err.is)
