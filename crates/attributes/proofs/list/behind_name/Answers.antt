use Rattle.std.proofs.Common.{Ok, Err}
use mathlib.Core.Bool.{true}
use mathlib.Core.Path.{◌∙◌, ap, sym}
use Rattle.attributes.proofs.ListLaws.{comma_by}
use Rattle.attributes.specs.Steps.{all_at, consume_of}
use Rattle.attributes.proofs.list.behind_name.Goals as goal

pub returns-in-Ok : goal.returns-in-Ok
returns-in-Ok c = c.item_end.ensures ∙ comma_by c.args.t.now c.args.e c.args.n (Ok (_, _)) (sym c.in-Ok.is ∙ c.consume-comma.ensures ∙ ap (consume_of 0x2c c.args.t.now) (c.all_at-so_far.ensures ∙ ap (all_at true) c.skip_ws-gap.ensures))

pub returns-in-Err : goal.returns-in-Err
returns-in-Err c = comma_by c.args.t.now c.args.e c.args.n (Err _) (sym c.in-Err.is ∙ c.consume-comma.ensures ∙ ap (consume_of 0x2c c.args.t.now) (c.all_at-so_far.ensures ∙ ap (all_at true) c.skip_ws-gap.ensures))
