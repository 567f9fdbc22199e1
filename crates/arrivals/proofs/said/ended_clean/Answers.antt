use Prim.Native.Nat.{ℕ, min, ◌*◌}
use mathlib.Core.Path.{ap, ◌∙◌}
use lib.ListN.{length, drop}
use Rattle.lent.specs.Marks.{mark_at, kept_from}
use Rattle.rows.specs.Rows.{room_of, width}
use Rattle.arrivals.specs.inner.Says.{is_clean}
use Rattle.arrivals.proofs.said.ended_clean.Goals as goal

pub returns : goal.returns
unfolding is_clean
returns c =
    c.kept.ensures
    ∙ ap (λ (k : ℕ). kept_from mark_at (drop k c.args.tape.now) k)
    (c.written.ensures ∙ ap (λ (n : ℕ). width * min n (room_of (length c.args.tape.now))) c.count.ensures)
