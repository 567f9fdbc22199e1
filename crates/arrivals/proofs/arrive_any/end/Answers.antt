use Prim.Native.Nat.{ℕ}
use mathlib.Core.List.{List}
use mathlib.Core.Path.{ap, ◌∙◌}
use lib.ListN.{length}
use Rattle.lines.specs.Out.{put}
use Rattle.pieces.specs.Ends.{Rest, finish_of}
use Rattle.rows.specs.Rows.{room_of}
use Rattle.text.specs.Refusals.{Told}
use Rattle.arrivals.specs.Arrives.{end_text}
use Rattle.arrivals.proofs.CallLaws.{end_said}
use Rattle.arrivals.proofs.CleanLaws.{end_stands}
use Rattle.arrivals.proofs.arrive_any.end.Goals as goal

pub returns : goal.returns
returns c =
    let before : List ℕ = c.mark.new.s in
    let out : List ℕ × ℕ = (c.args.o.now, c.args.at) in
    let told : Told Rest = finish_of c.args.s c.args.buffer.now (room_of (length before)) in
    end_stands c.args.tape.now before _ c.mark.ensures c.finish-r.auto.tape out _ _ (end_text told)
    (end_said told before _ out _ _ c.finish-r.ensures.0 c.finish-r.ensures.1 c.finish-r.auto.tape c.ended-a.ensures) _ c.clean.ensures told _ c.finish-r.ensures.0
    c.finish-r.ensures.1 c.ended_clean.ensures
    ∙ ap (λ (n : ℕ). put out (end_text (finish_of c.args.s c.args.buffer.now (room_of n)))) c.mark.auto.s
