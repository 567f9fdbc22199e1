use mathlib.Core.Path.{sym, ap, ◌∙◌}
use Rattle.structs.specs.declared.kinds.StructType.{StructType}
use Rattle.lines.specs.Out.{put}
use Rattle.show.specs.StructKinds.{kind_name}
use Rattle.show.proofs.struct_kind.name.Goals as goal

pub returns-in-AnyTuple : goal.returns-in-AnyTuple
returns-in-AnyTuple c = c.bytes.ensures ∙ sym (ap (λ (x : StructType). put (c.args.o.now, c.args.at) (kind_name x)) c.in-AnyTuple.is)

pub returns-in-EmptyTuple : goal.returns-in-EmptyTuple
returns-in-EmptyTuple c = c.bytes-in-EmptyTuple.ensures ∙ sym (ap (λ (x : StructType). put (c.args.o.now, c.args.at) (kind_name x)) c.in-EmptyTuple.is)

pub returns-in-NewtypeTuple : goal.returns-in-NewtypeTuple
returns-in-NewtypeTuple c = c.bytes-in-NewtypeTuple.ensures ∙ sym (ap (λ (x : StructType). put (c.args.o.now, c.args.at) (kind_name x)) c.in-NewtypeTuple.is)

pub returns-in-NonNewtypeTuple : goal.returns-in-NonNewtypeTuple
returns-in-NonNewtypeTuple c = c.bytes-in-NonNewtypeTuple.ensures ∙ sym (ap (λ (x : StructType). put (c.args.o.now, c.args.at) (kind_name x)) c.in-NonNewtypeTuple.is)

pub returns-in-Named : goal.returns-in-Named
returns-in-Named c = c.bytes-in-Named.ensures ∙ sym (ap (λ (x : StructType). put (c.args.o.now, c.args.at) (kind_name x)) c.in-Named.is)

pub returns-in-Unit : goal.returns-in-Unit
returns-in-Unit c = c.bytes-in-Unit.ensures ∙ sym (ap (λ (x : StructType). put (c.args.o.now, c.args.at) (kind_name x)) c.in-Unit.is)
