use mathlib.Core.Path.{◌∙◌, ap, sym}
use Rattle.xid.proofs.TableLaws.{continue_class}
use Rattle.xid.specs.Xid.{continues}
use Rattle.xid.proofs.search.is_xid_continue.Goals as goal

pub returns : goal.returns
returns c = ap continues c.class_in-k.ensures ∙ sym (continue_class c.args.c)
