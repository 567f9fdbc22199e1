use mathlib.Core.Path.{◌∙◌, ap, sym}
use Rattle.xid.proofs.TableLaws.{start_class}
use Rattle.xid.specs.Xid.{starts}
use Rattle.xid.proofs.search.is_xid_start.Goals as goal

pub returns : goal.returns
returns c = ap starts c.class_in-k.ensures ∙ sym (start_class c.args.c)
