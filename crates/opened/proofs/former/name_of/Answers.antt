use Prim.Native.Nat.{ℕ, ◌-◌}
use mathlib.Core.Path.{ap, ◌∙◌}
use lib.ListN.{take, drop}
use Rattle.opened.proofs.former.name_of.Goals as goal

pub returns : goal.returns
returns c = c.part.ensures ∙ ap (λ (k : ℕ). take (c.args.e.end - k) (drop k c.args.text.now)) c.name_from.ensures
